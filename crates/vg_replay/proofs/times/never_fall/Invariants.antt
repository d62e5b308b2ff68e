use Rattle.std.proofs.Common.{◌↔◌, drop, map}
use Rattle.vg_model.specs.declared.fates.Leg.{Leg}
use Rattle.vg_model.specs.Lawful.{NeverFall}
use Rattle.vg_replay.proofs.times.never_fall.Given as goal

abbrev pub invariant-loop-leg : goal.invariant-loop-leg
invariant-loop-leg l =
    NeverFall l.fn.count l.fn.least (map (λ (leg : Leg). leg.generation) l.legs) ↔ NeverFall l.fn.count l.lowest (drop l.leg-index (map (λ (leg : Leg). leg.generation) l.legs))
