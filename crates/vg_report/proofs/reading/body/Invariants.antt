use Rattle.std.proofs.Common.{length}
use Rattle.vg_report.proofs.BodyLemmas.{IsRead}
use Rattle.vg_report.proofs.reading.body.Given as goal

abbrev pub invariant-loop-report : goal.invariant-loop-report
invariant-loop-report l = IsRead l.head l.fn.lines l.report l.lines

abbrev pub decreases-loop-report : goal.decreases-loop-report
decreases-loop-report l = length l.lines.text.lines
