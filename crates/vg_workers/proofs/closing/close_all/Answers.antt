use Rattle.std.proofs.Common.{◌≡◌, ◌+◌, ◌++◌, ◌∙◌, [], append-nil, append_assoc, ℕ, suc, List, Vec, Global, length, map, rules, arith, ap, sym, subst}
use Rattle.std.specs.Prelude.{flat_map}
use Rattle.std.proofs.lemmas.List.{nil_from_length}
use Rattle.vg_steps.specs.Seated.{TableId}
use Rattle.vg_ring.specs.Ends.{tx_ring}
use Rattle.vg_ring.specs.Rests.{rest_ring}
use Rattle.std.specs.Vec.Iter.{into_iter_items}
use Rattle.std.proofs.lemmas.List.{length-map}
use Rattle.vg_ring.specs.declared.ends.RingTx.{RingTx}
use Rattle.vg_ring.specs.declared.ends.RingRx.{RingRx}
use Rattle.vg_ring.specs.declared.rest.Rest.{Rest}
use Rattle.vg_journeys.specs.Accounts.{HandoffFrame}
use Rattle.vg_workers.specs.Places.{AllAt, AllWith}
use Rattle.vg_workers.specs.Closing.{AreOutputs, AreOpen, IsClosed, closed_pairs}
use Rattle.vg_workers.proofs.ClosingLemmas.{open_first}
use Rattle.vg_workers.proofs.closing.close_all.Goals as goal

abbrev ring_list : Vec (RingTx HandoffFrame) Global → List TableId
ring_list o = map tx_ring o.items

pub loop-ends-init : goal.loop-ends-init
loop-ends-init c =
    let outs : Vec (RingTx HandoffFrame) Global → List (RingTx HandoffFrame) = λ v. v.items in
    let ins : Vec (RingRx HandoffFrame) Global → List (RingRx HandoffFrame) = λ v. v.items in
    let items : into_iter_items c.into_iter-ends-iterator.result ≡ c.args.outputs.items = search rules in
    let known = c.requires.ends.1.count in
    let one = length-map c.args.outputs.items outs in
    let two = length-map c.args.inputs.items ins in
    let size : length (map outs c.args.outputs.items) ≡ length c.args.outputs.items = one in
    record {
      count = search rules;
      many = omega (arith, known, one, two);
      rings = ap (λ rs. map rest_ring rs ++ flat_map ring_list (into_iter_items c.into_iter-ends-iterator.result)) c.requires.room ∙ ap (flat_map ring_list) items;
      so_far = λ q ends. (
        subst (λ (l : List (Vec (RingTx HandoffFrame) Global)). AllAt (λ own e. AreOutputs q own 0 (length c.args.outputs.items) e) 0 (map outs l)) (sym items)
            (subst (λ (n : ℕ). AllAt (λ own e. AreOutputs q own 0 n e) 0 (map outs c.args.outputs.items)) size ends.outputs_are),
        subst (λ (n : ℕ). AreOpen q n 0 0 (map ins c.args.inputs.items)) size (open_first q (map outs c.args.outputs.items) (map ins c.args.inputs.items) ends),
        subst (λ (l : List (Rest HandoffFrame)). AllWith (IsClosed q) (closed_pairs (length c.args.outputs.items) 0 0) l) (sym c.requires.room) tt,
      );
    }

pub loop-ends-preserved : goal.loop-ends-preserved
loop-ends-preserved c =
    let inv = c.loop-ends.invariant in
    let steps = c.in-Some.ensures.steps in
    let workers = length c.args.outputs.items in
    let count = inv.count in
    let many = inv.many in
    let next : suc c.loop-ends.from ≡ c.loop-ends.from + 1 = omega arith in
    let outs : Vec (RingTx HandoffFrame) Global → List (RingTx HandoffFrame) = λ v. v.items in
    let ins : Vec (RingRx HandoffFrame) Global → List (RingRx HandoffFrame) = λ v. v.items in
    let old_ins = map ins c.loop-ends.inputs.items in
    let new_ins = map ins c.close_from.new.inputs.items in
    record {
      count = search rules;
      many = search rules;
      rings = ap (λ rs. rs ++ flat_map ring_list (into_iter_items c.next.new.self)) c.in_ok-close_from.ensures.rings
          ∙ append_assoc (map rest_ring c.loop-ends.rests.items) (ring_list c.in-Some.ends) (flat_map ring_list (into_iter_items c.next.new.self))
          ∙ ap (λ es. map rest_ring c.loop-ends.rests.items ++ flat_map ring_list es) (sym steps.0) ∙ inv.rings;
      so_far = λ q ends.
          let before = inv.so_far q ends in
          let list = subst (λ (l : List (Vec (RingTx HandoffFrame) Global)). AllAt (λ own e. AreOutputs q own 0 workers e) c.loop-ends.from (map outs l)) steps.0 before.0 in
          let same : length c.loop-ends.inputs.items ≡ workers = many in
          let closed = c.in_ok-close_from.ensures.closed q (subst (λ (n : ℕ). AreOutputs q c.loop-ends.from 0 n (outs c.in-Some.ends)) (sym same) list.0)
          (subst (λ (n : ℕ). AreOpen q n c.loop-ends.from 0 old_ins) (sym same) before.1)
          (subst (λ (n : ℕ). AllWith (IsClosed q) (closed_pairs n c.loop-ends.from 0) c.loop-ends.rests.items) (sym same) before.2) in (
            subst (λ (n : ℕ). AllAt (λ own e. AreOutputs q own 0 workers e) n (map outs (into_iter_items c.next.new.self))) next list.1,
            subst (λ (n : ℕ). AreOpen q workers n 0 new_ins) next (subst (λ (n : ℕ). AreOpen q n (suc c.loop-ends.from) 0 new_ins) same closed.0),
            subst (λ (n : ℕ). AllWith (IsClosed q) (closed_pairs workers n 0) c.close_from.new.rests.items) next
                (subst (λ (n : ℕ). AllWith (IsClosed q) (closed_pairs n (suc c.loop-ends.from) 0) c.close_from.new.rests.items) same closed.1),
          );
    }

pub returns-clause-rings : goal.returns-clause-rings
returns-clause-rings c =
    let empty = c.in-None.ensures.steps.0 in
    let none : into_iter_items c.loop-ends.ends-iterator ≡ [] = nil_from_length _ (search rules) in
    sym (append-nil (map rest_ring c.loop-ends.rests.items)) ∙ ap (λ es. map rest_ring c.loop-ends.rests.items ++ flat_map ring_list es) (sym none) ∙ c.loop-ends.invariant.rings
