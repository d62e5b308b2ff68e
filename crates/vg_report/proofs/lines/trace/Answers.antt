use Rattle.std.proofs.Common.{length, sym, ap, ◌∙◌, true≢false, arith}
use Rattle.vg_report.specs.Lawful.{names}
use Rattle.vg_report.proofs.FormLemmas.{too_many_names}
use Rattle.vg_report.proofs.lines.trace.Goals as goal

pub returns-then-as_slice-ge-LONGEST_TRACE : goal.returns-then-as_slice-ge-LONGEST_TRACE
returns-then-as_slice-ge-LONGEST_TRACE c =
    c.loop-nodes.invariant ∙ too_many_names (names c.as_slice-nodes.result.now) c.loop-nodes.names c.loop-nodes.words (omega (arith, ap length c.as_slice-in-loop-nodes.ensures, c.if-as_slice-ge-LONGEST_TRACE.true)) (λ e. true≢false (sym (c.loop-nodes-test.ensures.1 e)))
