use Rattle.std.proofs.Common.{◌≡◌, length}
use Rattle.vg_report.specs.Forms.{trace_form, with_names}
use Rattle.vg_report.specs.Lawful.{names}
use Rattle.vg_report.proofs.lines.trace.Given as goal

abbrev pub invariant-loop-nodes : goal.invariant-loop-nodes
invariant-loop-nodes l = trace_form l.report l.fn.words ≡ with_names (names l.nodes) l.names l.words

abbrev pub decreases-loop-nodes : goal.decreases-loop-nodes
decreases-loop-nodes l = length l.words
