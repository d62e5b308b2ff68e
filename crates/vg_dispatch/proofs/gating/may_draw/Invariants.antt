use Rattle.std.proofs.Common.{◌≡◌, false, take}
use Rattle.std.specs.List.{AllByRecursion}
use Rattle.vg_dispatch.proofs.gating.may_draw.Given as goal

abbrev pub invariant-outputs : goal.invariant-outputs
invariant-outputs g l = AllByRecursion (λ output. g.H.Handoff.closes output l.room ≡ false) (take l.output-index l.outputs)
