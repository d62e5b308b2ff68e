use Rattle.std.proofs.Common.{◌≡◌, take}
use Rattle.vg_check.specs.Reports.{lines_by}
use Rattle.vg_check.proofs.agreement.are_lines.Given as goal

abbrev pub invariant-loop-k : goal.invariant-loop-k
invariant-loop-k l = take l.k l.lines ≡ lines_by l.graph (take l.k l.lines) (take l.k l.trips)
