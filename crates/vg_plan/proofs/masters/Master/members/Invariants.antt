use Rattle.std.proofs.Common.{◌≡◌, ◌<◌, length}
use Rattle.std.specs.List.{AllByRecursion}
use Rattle.vg_plan.proofs.EditLemmas.{AreSoFar}
use Rattle.vg_plan.proofs.masters.Master.members.Given as goal

-- the numbers of the first so many names are known
abbrev pub invariant-loop-i : goal.invariant-loop-i
invariant-loop-i l = record {
  so_far : AreSoFar l.self l.names l.i l.members;
  count : length l.members ≡ l.i;
  within : AllByRecursion (λ number. number < length l.self.adjacencies) l.members;
}
