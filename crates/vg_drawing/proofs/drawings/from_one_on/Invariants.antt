use Rattle.std.proofs.Common.{◌≡◌, drop}
use Rattle.vg_drawing.proofs.drawings.from_one_on.Given as goal

abbrev pub invariant-loop-made : goal.invariant-loop-made
invariant-loop-made l = l.generations ≡ drop l.made l.plan.graphs
