use Rattle.std.proofs.Common.{◌≤◌, take}
use Rattle.std.specs.List.{AllByRecursion}
use Rattle.vg_dispatch.proofs.gating.may_go.Given as goal

abbrev pub invariant-outputs : goal.invariant-outputs
invariant-outputs g l = AllByRecursion (λ output. l.room ≤ g.H.Handoff.free_room output) (take l.output-index l.outputs)
