use Rattle.std.proofs.Common.{◌≡◌, ◌+◌, ◌%◌, ◌≤◌, length, drop}
use Rattle.vg_model.specs.Header.{header_sum}
use Rattle.vg_load.proofs.frames.ones_complement_sum.Given as goal

abbrev pub invariant-loop-at : goal.invariant-loop-at
invariant-loop-at l = (l.sum ≡ header_sum (drop l.at l.header)) × (l.at % 2 ≡ 0) × (l.at ≤ length l.header)

abbrev pub decreases-loop-at : goal.decreases-loop-at
decreases-loop-at l = l.at
