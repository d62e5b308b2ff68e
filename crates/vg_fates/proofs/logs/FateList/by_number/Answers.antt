-- For `FateList::by_number`: fates that are sorted are those that were joined.
use Rattle.std.proofs.Common.{subst}
use Rattle.std.specs.List.Sorted.{IsPermutation}
use Rattle.vg_fates.proofs.logs.FateList.by_number.Goals as goal

pub returns-clause-same : goal.returns-clause-same
returns-clause-same c = subst (λ all. IsPermutation all c.sort.new.self) c.in_ok-fates.ensures c.sort.ensures.same
