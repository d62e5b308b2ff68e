use Rattle.std.proofs.Common.{ℕ, ◌<◌}
use Rattle.vg_plan.specs.Front.{stamp_in}
use Rattle.vg_plan.proofs.windows.front.Given as goal

abbrev pub invariant-loop-i : goal.invariant-loop-i
invariant-loop-i l = (i : ℕ) → i < l.i → stamp_in l.nanos l.packets i < l.due
