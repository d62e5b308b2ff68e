use Rattle.std.proofs.Common.{◌≡◌, ◌+◌, ℕ, suc, List, [], ◌∷◌, length, length-append, rules, arith, ap, sym, subst, refl}
use Rattle.std.specs.List.{AllByRecursion}
use Rattle.std.specs.Vec.Iter.{into_iter_items}
use Rattle.vg_ring.specs.declared.ends.RingTx.{RingTx}
use Rattle.vg_ring.specs.Ends.{put, tx_ring, tx_slots}
use Rattle.vg_journeys.specs.Accounts.{HandoffFrame}
use Rattle.vg_backlog.specs.Books.{BacklogBook, accepted_by}
use Rattle.vg_dispatch.specs.declared.links.WorkerLinks.{WorkerLinks}
use Rattle.vg_engine.specs.Places.{AllAt}
use Rattle.vg_engine.specs.Linked.{IsLinked}
use Rattle.vg_engine.proofs.PlaceLemmas.{all_more, all_push}
use Rattle.vg_top.specs.Lossless.{ring_of, slots_of, room_for, HoldsBack}
use Rattle.vg_top.proofs.LosslessLemmas.{linked_behind, holds_back}
use Rattle.vg_top.proofs.lossless.lossless_links.Goals as goal

pub loop-links-init : goal.loop-links-init
loop-links-init c =
    let options = c.args.options.now in
    let none = c.in-Ok.ensures.items in
    let at : length c.in-Ok.workers.items ≡ 0 = ap (λ (ws : List (WorkerLinks BacklogBook)). length ws) none in
    let links_are : into_iter_items c.into_iter-links-iterator.result ≡ c.in_ok-rings.rings.workers.items = search rules in
    let ring = c.in_ok-rings.ensures.ring in
    let IsRing : ℕ → WorkerLinks (RingTx HandoffFrame) → Type 0 = λ own k. IsLinked put tx_ring tx_slots options.queue ring own options.workers options.workers k in
    let IsHeld : ℕ → WorkerLinks BacklogBook → Type 0 = λ own k. IsLinked accepted_by ring_of slots_of options.queue ring own options.workers options.workers k in
    record {
      count = search rules;
      room = search rules;
      linked = (
        ring,
        subst (λ (n : ℕ). AllAt IsRing n (into_iter_items c.into_iter-links-iterator.result)) (sym at) (subst (AllAt IsRing 0) (sym links_are) c.in_ok-rings.ensures.each),
        subst (AllAt IsHeld 0) (sym none) tt,
      );
      held = subst (AllByRecursion (HoldsBack options)) (sym none) tt;
    }

pub loop-links-preserved : goal.loop-links-preserved
loop-links-preserved c =
    let options = c.args.options.now in
    let inv = c.loop-links.invariant in
    let workers = c.loop-links.workers.items in
    let n = length workers in
    let one = c.in_ok-with_backlogs.field-0 in
    let made = c.in_ok-with_backlogs.ensures in
    let steps = c.in-Some.ensures.steps in
    let left = steps.1 in
    let pushed = c.push_reserved.ensures.items in
    let more : length c.push_reserved.new.self.items ≡ suc n = (let long = ap (λ (ws : List (WorkerLinks BacklogBook)). length ws) pushed in let both = length-append workers (one ∷ []) in omega (arith, long, both)) in
    let count = inv.count in
    let room = inv.room in
    let longer = c.push_reserved.ensures.len in
    let capacity = c.push_reserved.ensures.capacity in
    let ring = inv.linked.0 in
    let IsRing : ℕ → WorkerLinks (RingTx HandoffFrame) → Type 0 = λ own k. IsLinked put tx_ring tx_slots options.queue ring own options.workers options.workers k in
    let IsHeld : ℕ → WorkerLinks BacklogBook → Type 0 = λ own k. IsLinked accepted_by ring_of slots_of options.queue ring own options.workers options.workers k in
    let links = subst (AllAt IsRing n) steps.0 inv.linked.1 in
    let here : IsHeld n one = linked_behind options.queue options.queue (room_for options) ring n options.workers options.workers c.in-Some.links one made.inputs made.outputs links.0 in
    record {
      count = omega (arith, count, more, left);
      room = omega (arith, room, longer, capacity, left);
      linked = (
        ring,
        subst (λ (k : ℕ). AllAt IsRing k (into_iter_items c.next.new.self)) (sym more) links.1,
        subst (AllAt IsHeld 0) (sym pushed) (all_more IsHeld 0 workers one inv.linked.2 (subst (λ (k : ℕ). IsHeld k one) (let z : n ≡ 0 + n = omega arith in z) here)),
      );
      held =
          subst (AllByRecursion (HoldsBack options)) (sym pushed)
          (all_push (HoldsBack options) workers one inv.held (holds_back options (room_for options) c.in-Some.links.outputs.items one refl made.outputs));
    }

pub returns-clause-linked : goal.returns-clause-linked
returns-clause-linked c =
    let inv = c.loop-links.invariant in
    let count = inv.count in
    let none = c.in-None.ensures.steps.0 in
    record { count = omega (arith, count, none); ring = inv.linked.0; each = inv.linked.2 }
