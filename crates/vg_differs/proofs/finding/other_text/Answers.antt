-- For `other_text`: the text of the packets' ways, and the line that is another.
use Rattle.std.proofs.Common.{◌∙◌}
use Rattle.vg_check.specs.Verdicts.{Case}
use Rattle.vg_differs.specs.Findings.{case_checked}
use Rattle.vg_differs.proofs.FindingLemmas.{text_found}
use Rattle.vg_differs.proofs.finding.other_text.Goals as goal

pub wanted_report_text-requires : goal.wanted_report_text-requires
wanted_report_text-requires g c = c.in_ok-report.ensures.can

pub returns : goal.returns
returns g c =
    let case : Case = case_checked g.K.KindSet.meaning c.args.checked.now in
    text_found case c.in_ok-report.report c.in_ok-report.replayed c.in_ok-report.ensures c.as_slice.result.now c.in_ok-line.line
    (c.as_slice.ensures ∙ c.in_ok-wanted.ensures) c.in_ok-line.ensures
