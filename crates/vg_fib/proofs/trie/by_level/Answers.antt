-- For `by_level`: each place so far stands in one of three lists, which are joined at the end.
use Rattle.std.proofs.Common.{◌≡◌, ◌++◌, List, ℕ, length, sym, ap, subst, ◌∙◌, arith}
use Rattle.vg_fib.specs.Numbers.{AreFrom}
use Rattle.vg_fib.proofs.NumberLemmas.{none_from, placed_first, placed_second, placed_third}
use Rattle.vg_fib.proofs.trie.by_level.Goals as goal
use Rattle.vg_fib.proofs.trie.by_level.Goals.{then-bits-le16+in_ok-push, else-bits-le16+then-bits-le24+in_ok-push-2, else-bits-le16+else-bits-le24+in_ok-push-3}

pub loop-place-init : goal.loop-place-init
loop-place-init c = rw (c.new-order.ensures.items, c.new-middle.ensures.items, c.new-long.ensures.items) (none_from c.args.known)

pub loop-place-preserved : goal.loop-place-preserved
loop-place-preserved c =
    let known = c.args.known in
    let place = c.loop-place.place in
    let order = c.loop-place.order.items in
    let middle = c.loop-place.middle.items in
    let long = c.loop-place.long.items in
    let before = c.loop-place.invariant in
    elim c.if-bits-le16.branch [
      | then-bits-le16+in_ok-push w ↦ rw (w.order-is, w.middle-is, w.long-is, w.in_ok-push.ensures.items) (placed_first known place order middle long before)
      | else-bits-le16+then-bits-le24+in_ok-push-2 w ↦ rw (w.order-is, w.middle-is, w.long-is, w.in_ok-push-2.ensures.items) (placed_second known place order middle long before)
      | else-bits-le16+else-bits-le24+in_ok-push-3 w ↦ rw (w.order-is, w.middle-is, w.long-is, w.in_ok-push-3.ensures.items) (placed_third known place order middle long before)
    ]

pub returns : goal.returns
returns c =
    let all : c.loop-place.place ≡ length c.args.slots.now = omega (arith, c.loop-place.auto.place-end, c.loop-place-test.false, c.requires.known) in
    let joined : c.extend_from_slice-2.new.self.items ≡ (c.loop-place.order.items ++ c.loop-place.middle.items) ++ c.loop-place.long.items =
    c.in_ok-extend_from_slice-2.ensures.items
    ∙ (ap (λ xs. c.extend_from_slice.new.self.items ++ xs) c.as_slice-2.ensures.value
    ∙ ap (λ xs. xs ++ c.loop-place.long.items) (c.in_ok-extend_from_slice.ensures.items ∙ ap (λ xs. c.loop-place.order.items ++ xs) c.as_slice.ensures.value)) in
    let lists : List ℕ = (c.loop-place.order.items ++ c.loop-place.middle.items) ++ c.loop-place.long.items in
    subst (AreFrom c.args.known (length c.args.slots.now)) (sym joined) (subst (λ n. AreFrom c.args.known n lists) all c.loop-place.invariant)
