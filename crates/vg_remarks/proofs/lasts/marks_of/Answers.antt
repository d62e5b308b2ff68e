-- For `marks_of`: the loop sets the bit of one address more, and in the end those of all are set.
use Rattle.std.proofs.Common.{◌≡◌, ◌∙◌, ◌+◌, ◌++◌, ℕ, List, ap, arith, drop, get_or, length, subst, sym, take}
use Rattle.std.proofs.lemmas.List.{take-append-le, take_all, take_more}
use Rattle.vg_remarks.specs.Lasts.{has, AreMarked, IsMarkedBesides}
use Rattle.vg_remarks.proofs.LastLemmas.{has_push, marked_more, none_marked}
use Rattle.vg_remarks.proofs.lasts.marks_of.Goals as goal

-- what a slice of a whole list writes back
written : (n : ℕ) (now old : List ℕ) → length now ≡ n → take n (now ++ drop (length now) old) ≡ now
written n now old len = take-append-le n now (drop (length now) old) (omega (arith, len)) ∙ take_all n now (omega (arith, len))

pub loop-address-init : goal.loop-address-init
loop-address-init c = none_marked c.in_ok-marks.marks.items c.in_ok-marks.ensures

pub loop-address-preserved : goal.loop-address-preserved
loop-address-preserved c =
    let addresses = c.args.addresses.now in
    let i = c.loop-address.address-index in
    let address = get_or addresses i 0 in
    let marks = c.loop-address.marks in
    let now = c.mark.new.marks in
    let besides : IsMarkedBesides address marks.items now = subst (λ ms. IsMarkedBesides address ms now) c.as_mut_slice.ensures.value c.mark.ensures in
    subst (AreMarked (take (i + 1) addresses)) (sym (written marks.len now marks.items (c.mark.auto.marks ∙ c.as_mut_slice.ensures.len)))
    (marked_more (take i addresses) (take (i + 1) addresses) marks.items now address c.loop-address.invariant besides
    (λ other. ap (λ xs. has xs other) (take_more addresses i 0 c.loop-address-test.true) ∙ has_push (take i addresses) address other))

pub returns : goal.returns
returns c =
    subst (λ addresses. AreMarked addresses c.loop-address.marks.items) (take_all c.loop-address.address-index c.args.addresses.now c.loop-address-test.false) c.loop-address.invariant
