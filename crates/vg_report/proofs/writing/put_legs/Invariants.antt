use Rattle.std.proofs.Common.{◌≡◌, ◌++◌, ◌∷◌, take, flat_map}
use Rattle.vg_report.specs.Text.{leg_text}
use Rattle.vg_report.proofs.writing.put_legs.Given as goal

abbrev pub invariant-loop-leg : goal.invariant-loop-leg
invariant-loop-leg l = l.out.items ≡ l.initial.out.items ++ flat_map (λ leg. 44 ∷ leg_text leg) (take l.leg-index l.others)
