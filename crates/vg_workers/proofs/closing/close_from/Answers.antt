use Rattle.std.proofs.Common.{◌≡◌, ◌+◌, ◌-◌, ◌<◌, ◌++◌, [], append-nil, ℕ, suc, List, Vec, Global, length, map, set, get_or, rules, arith, ap, sym, subst, ◌∙◌, length-set}
use Rattle.std.specs.List.{remove}
use Rattle.vg_ring.specs.Ends.{tx_ring}
use Rattle.vg_ring.specs.Rests.{rest_ring}
use Rattle.vg_ring.specs.declared.ends.RingTx.{RingTx}
use Rattle.vg_ring.specs.declared.ends.RingRx.{RingRx}
use Rattle.vg_journeys.specs.Accounts.{HandoffFrame}
use Rattle.vg_workers.specs.Places.{AllWith, others_from}
use Rattle.vg_workers.specs.Closing.{AreOutputs, AreOpen, IsClosed, closed_pairs}
use Rattle.vg_workers.proofs.ClosingLemmas.{own_output, open_past, open_next, closed_past, closed_next, closed_step, next_output, next_ends, rings_on, map_set, map_at}
use Rattle.vg_workers.proofs.closing.close_from.Goals as goal

pub loop-to-preserved-then-to-from : goal.loop-to-preserved-then-to-from
loop-to-preserved-then-to-from c =
    let inv = c.loop-to.invariant in
    let workers = length c.args.inputs.now.items in
    let same : c.loop-to.to ≡ c.args.from = c.if-to-from.true in
    let next : suc c.loop-to.to ≡ c.loop-to.to + 1 = omega arith in
    let low : c.loop-to.to < workers = search rules in
    record {
      end = inv.end;
      count = inv.count;
      rings = inv.rings;
      so_far = λ q outs ins.
          let before = inv.so_far q outs ins in
          let out = own_output q c.args.from c.loop-to.to workers c.loop-to.outputs.items same low before.0 in
          let items : Vec (RingRx HandoffFrame) Global → List (RingRx HandoffFrame) = λ v. v.items in
          let now = map items c.loop-to.inputs.items in
          let opened = open_past q workers c.args.from now (omega (arith, low, same)) (subst (λ (n : ℕ). AreOpen q workers c.args.from n now) same before.1) in
          let at : suc c.args.from ≡ c.loop-to.to + 1 = omega (arith, same) in (
            subst (λ (n : ℕ). AreOutputs q c.args.from n (workers - n) c.loop-to.outputs.items) next out,
            subst (λ (n : ℕ). AreOpen q workers c.args.from n now) at opened,
            λ done.
                subst (λ (n : ℕ). AllWith (IsClosed q) (closed_pairs workers c.args.from n) c.loop-to.rests.items) at
                (subst (λ ps. AllWith (IsClosed q) ps c.loop-to.rests.items) (closed_past workers c.args.from)
                (subst (λ (n : ℕ). AllWith (IsClosed q) (closed_pairs workers c.args.from n) c.loop-to.rests.items) same (before.2 done))),
          );
    }

pub remove-tx-requires : goal.remove-tx-requires
remove-tx-requires c =
    let inv = c.loop-to.invariant in
    let workers = length c.args.inputs.now.items in
    let low : c.loop-to.to < workers = search rules in
    let q = c.requires.ends.0 in
    let before = inv.so_far q c.requires.ends.1 c.requires.ends.2 in
    let out = next_output q c.args.from c.loop-to.to workers c.loop-to.outputs.items c.if-to-from.false low before.0 in
    let some = ap (λ (l : List (RingTx HandoffFrame)). length l) out.is in
    search rules

pub remove-rx-requires : goal.remove-rx-requires
remove-rx-requires c =
    let inv = c.loop-to.invariant in
    let workers = length c.args.inputs.now.items in
    let low : c.loop-to.to < workers = search rules in
    let low_in : c.loop-to.to < length c.loop-to.inputs.items = search rules in
    let q = c.requires.ends.0 in
    let before = inv.so_far q c.requires.ends.1 c.requires.ends.2 in
    let was = c.index_mut.result.now in
    let is : was ≡ get_or c.loop-to.inputs.items c.loop-to.to was = search rules in
    let items : Vec (RingRx HandoffFrame) Global → List (RingRx HandoffFrame) = λ v. v.items in
    let ends = next_ends q workers c.args.from c.loop-to.to c.loop-to.outputs.items (map items c.loop-to.inputs.items) was.items c.if-to-from.false c.requires.within low before.0 before.1
    (map_at items c.loop-to.inputs.items c.loop-to.to was low_in is) in
    let some = ends.some_in in
    search rules

pub close-requires : goal.close-requires
close-requires c =
    let inv = c.loop-to.invariant in
    let workers = length c.args.inputs.now.items in
    let low : c.loop-to.to < workers = search rules in
    let low_in : c.loop-to.to < length c.loop-to.inputs.items = search rules in
    let q = c.requires.ends.0 in
    let before = inv.so_far q c.requires.ends.1 c.requires.ends.2 in
    let was = c.index_mut.result.now in
    let is : was ≡ get_or c.loop-to.inputs.items c.loop-to.to was = search rules in
    let items : Vec (RingRx HandoffFrame) Global → List (RingRx HandoffFrame) = λ v. v.items in
    let ends = next_ends q workers c.args.from c.loop-to.to c.loop-to.outputs.items (map items c.loop-to.inputs.items) was.items c.if-to-from.false c.requires.within low before.0 before.1
    (map_at items c.loop-to.inputs.items c.loop-to.to was low_in is) in
    ends.one_ring c.remove-tx.result c.remove-rx.result c.remove-tx.ensures.value c.remove-rx.ensures.value

pub loop-to-preserved : goal.loop-to-preserved
loop-to-preserved c =
    let inv = c.loop-to.invariant in
    let workers = length c.args.inputs.now.items in
    let low : c.loop-to.to < workers = search rules in
    let low_in : c.loop-to.to < length c.loop-to.inputs.items = search rules in
    let was = c.index_mut.result.now in
    let is : was ≡ get_or c.loop-to.inputs.items c.loop-to.to was = search rules in
    let items : Vec (RingRx HandoffFrame) Global → List (RingRx HandoffFrame) = λ v. v.items in
    let next : suc c.loop-to.to ≡ c.loop-to.to + 1 = omega arith in
    let q0 = c.requires.ends.0 in
    let was_open = inv.so_far q0 c.requires.ends.1 c.requires.ends.2 in
    let ends = next_ends q0 workers c.args.from c.loop-to.to c.loop-to.outputs.items (map items c.loop-to.inputs.items) was.items c.if-to-from.false c.requires.within low was_open.0 was_open.1
    (map_at items c.loop-to.inputs.items c.loop-to.to was low_in is) in
    let one_ring = ends.one_ring c.remove-tx.result c.remove-rx.result c.remove-tx.ensures.value c.remove-rx.ensures.value in
    let out = next_output q0 c.args.from c.loop-to.to workers c.loop-to.outputs.items c.if-to-from.false low was_open.0 in
    let some = ap (λ (l : List (RingTx HandoffFrame)). length l) out.is in
    record {
      end = inv.end;
      count = length-set c.loop-to.inputs.items c.loop-to.to c.remove-rx.new.self ∙ inv.count;
      rings = rings_on c.loop-to.rests.items c.push.new.list.items c.loop-to.outputs.items c.remove-tx.new.self.items c.remove-tx.result c.close.result (omega (arith, some)) c.remove-tx.ensures.value c.remove-tx.ensures.items
          c.in_ok-push.ensures (c.close.ensures.ring ∙ sym one_ring) ∙ inv.rings;
      so_far = λ q outs ins.
          let before = inv.so_far q outs ins in
          let after = closed_step q workers c.args.from c.loop-to.to c.loop-to.outputs.items (map items c.loop-to.inputs.items) was.items c.remove-tx.result c.remove-rx.result c.close.result c.loop-to.rests.items
          c.if-to-from.false c.requires.within low before.0 before.1 (map_at items c.loop-to.inputs.items c.loop-to.to was low_in is) c.remove-tx.ensures.value c.remove-rx.ensures.value c.close.ensures.put c.close.ensures.left in
          let outputs = subst (AreOutputs q c.args.from (suc c.loop-to.to) (workers - suc c.loop-to.to)) (sym c.remove-tx.ensures.items) after.0 in
          let inputs_are : map items (set c.loop-to.inputs.items c.loop-to.to c.remove-rx.new.self) ≡ set (map items c.loop-to.inputs.items) c.loop-to.to (remove was.items 0) =
          map_set items c.loop-to.inputs.items c.loop-to.to c.remove-rx.new.self ∙ ap (set (map items c.loop-to.inputs.items) c.loop-to.to) c.remove-rx.ensures.items in
          let opened = subst (AreOpen q workers c.args.from (suc c.loop-to.to)) (sym inputs_are) after.1 in (
            subst (λ (n : ℕ). AreOutputs q c.args.from n (workers - n) c.remove-tx.new.self.items) next outputs,
            subst (λ (n : ℕ). AreOpen q workers c.args.from n (map items (set c.loop-to.inputs.items c.loop-to.to c.remove-rx.new.self))) next opened,
            λ done.
                subst (λ (n : ℕ). AllWith (IsClosed q) (closed_pairs workers c.args.from n) c.push.new.list.items) next
                (subst (AllWith (IsClosed q) (closed_pairs workers c.args.from (suc c.loop-to.to))) (sym c.in_ok-push.ensures) (after.2 (before.2 done))),
          );
    }

pub returns-clause-closed : goal.returns-clause-closed
returns-clause-closed c q outs ins done =
    let inv = c.loop-to.invariant in
    let workers = length c.args.inputs.now.items in
    let end : c.loop-to.to ≡ workers = search rules in
    let after = inv.so_far q outs ins in
    let items : Vec (RingRx HandoffFrame) Global → List (RingRx HandoffFrame) = λ v. v.items in
    let opened = subst (λ (n : ℕ). AreOpen q workers c.args.from n (map items c.loop-to.inputs.items)) end after.1 in
    let closed = subst (λ (n : ℕ). AllWith (IsClosed q) (closed_pairs workers c.args.from n) c.loop-to.rests.items) end (after.2 done) in
    (open_next q workers c.args.from (map items c.loop-to.inputs.items) opened, subst (λ ps. AllWith (IsClosed q) ps c.loop-to.rests.items) (closed_next workers c.args.from) closed)

pub returns-clause-rings : goal.returns-clause-rings
returns-clause-rings c =
    let inv = c.loop-to.invariant in
    let workers = length c.args.inputs.now.items in
    let end : c.loop-to.to ≡ workers = search rules in
    let q = c.requires.ends.0 in
    let after = inv.so_far q c.requires.ends.1 c.requires.ends.2 in
    let left : map tx_ring c.loop-to.outputs.items ≡ [] = after.0.rings ∙ ap (λ (n : ℕ). map (q.ring c.args.from) (others_from c.args.from c.loop-to.to n)) (let e : workers - c.loop-to.to ≡ 0 = omega (arith, end) in e) in
    sym (append-nil (map rest_ring c.loop-to.rests.items)) ∙ ap (λ rs. map rest_ring c.loop-to.rests.items ++ rs) (sym left) ∙ inv.rings
