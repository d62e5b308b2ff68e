-- For `common_front`: its loop.
use Rattle.std.proofs.Common.{◌≡◌, ◌+◌, drop}
use Rattle.vg_diff.specs.Lines.{common_front}
use Rattle.vg_diff.proofs.lines.common_front.Given as goal

abbrev pub invariant-loop-at : goal.invariant-loop-at
invariant-loop-at l = l.at + common_front (drop l.at l.first) (drop l.at l.second) ≡ common_front l.first l.second
