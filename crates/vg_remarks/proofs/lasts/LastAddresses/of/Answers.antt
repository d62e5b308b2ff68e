-- For `LastAddresses::of`: sorted addresses rise, and have bits.
use Rattle.std.proofs.Common.{subst}
use Rattle.std.proofs.lemmas.List.Sorted.{IsNonDecreasingBy-from_sort}
use Rattle.vg_remarks.specs.Lasts.{AreMarked}
use Rattle.vg_remarks.proofs.lasts.LastAddresses.of.Goals as goal

pub invariant_of-result : goal.invariant_of-result
invariant_of-result c = (
  IsNonDecreasingBy-from_sort (λ n. n) c.sort_unstable.new.self.items c.sort_unstable.ensures.sorted,
  subst (λ addresses. AreMarked addresses c.in_ok-marks.marks.items) c.as_slice.ensures.value c.in_ok-marks.ensures,
)
