-- What is found of a check that says no: where what it was given differs from what it wants.
use Rattle.std.specs.Prelude.{◌≡◌, ℕ, List, slice_get, option_and_then, Option, Some, None, Ok}
use Rattle.vg_model.specs.Visit.{Visit}
use Rattle.vg_model.specs.Journey.{Journey, sent}
use Rattle.vg_capture.specs.Savefile.{savefile}
use Rattle.vg_capture.specs.Time.{time}
use Rattle.vg_report.specs.declared.reports.PacketLine.{PacketLine}
use Rattle.vg_report.specs.declared.reports.Report.{Report}
use Rattle.vg_report.specs.Reading as reading
use Rattle.vg_report.specs.Text.{text}
use Rattle.vg_check.specs.declared.verdicts.Verdict.{Verdict}
use Rattle.vg_check.specs.declared.verdicts.Verdict.TheVariants as verdicts
use Rattle.vg_check.specs.Reports.{with_counts}
use Rattle.vg_check.specs.Verdicts.{Case, case_of, first_of, report_by, ArePushed}
use Rattle.vg_differs.specs.declared.checked.Checked.{Checked}
use Rattle.vg_differs.specs.declared.finding.Finding.{Finding}
use Rattle.vg_differs.specs.declared.finding.Finding.TheVariants as findings
use Rattle.vg_differs.specs.declared.lines.OtherLine.{OtherLine}
use Rattle.vg_differs.specs.declared.saved.OtherFile.{OtherFile}
use Rattle.vg_differs.specs.Lines.{IsOtherLine}
use Rattle.vg_differs.specs.Records.{IsOtherFile}

-- the case of what is checked
abbrev pub case_checked : Visit → Checked → Case
case_checked visit checked = case_of visit checked.plan.now checked.capture.now checked.queue checked.tx.now checked.report.now

-- the text is that of this report, these are the journeys of its packets under the choices that it names, and the pushes that it names as refused may
-- have been
pub record HasWays (case : Case) : Type 0 where
  pub report : Report
  pub js : List Journey
  pub pushed : ArePushed case report js

-- the text that is wanted: that of the report of the packets' journeys, with a count at each drop by congestion
abbrev pub text_wanted : (case : Case) → HasWays case → List ℕ
text_wanted case ways = text (with_counts (report_by case ways.report ways.js))

-- the text of the report is the one that is wanted; or this is its first line that isn't
abbrev pub IsText : Case → Type 0
IsText case = (ways : HasWays case) × (case.report ≡ text_wanted case ways)

abbrev pub IsOtherText : Case → OtherLine → Type 0
IsOtherText case line = (ways : HasWays case) × IsOtherLine case.report (text_wanted case ways) line

-- the savefile is that of the packets' journeys; or this is where it first isn't
abbrev pub IsSaved : Case → Type 0
IsSaved case = (ways : HasWays case) × (case.tx ≡ savefile case.capture (sent ways.js))

abbrev pub IsOtherSaved : Case → OtherFile → Type 0
IsOtherSaved case other = (ways : HasWays case) × IsOtherFile case.capture (sent ways.js) case.tx other

-- the count of a full queue that a packet's line names
abbrev pub accepted_of : List PacketLine → ℕ → Option ℕ
accepted_of lines number = option_and_then (λ (line : PacketLine). line.congested) (slice_get lines number)

-- the verdict by which this is found
abbrev pub verdict_of : Finding → Verdict
verdict_of (findings.Choices number at due) = verdicts.Choices number
verdict_of (findings.Queue number accepted slots) = verdicts.Queue number
verdict_of (findings.Text line) = verdicts.Text
verdict_of (findings.Tx other) = verdicts.Tx

-- this is so: the time of the packet, and the generation that was due then; the count that its line names, and the slots of a queue; the first line of
-- the report that is another; the first place of the savefile at which another byte stands
abbrev pub IsFinding : Case → Finding → Type 0
IsFinding case (findings.Choices number at due) = (at ≡ time case.capture number) × (due ≡ first_of case number)
IsFinding case (findings.Queue number accepted slots) =
    (slots ≡ case.queue) × ((report : Report) × (reading.report_of case.report ≡ Ok report) × (accepted ≡ accepted_of report.packets number))
IsFinding case (findings.Text line) = IsOtherText case line
IsFinding case (findings.Tx other) = IsOtherSaved case other

-- nothing is found by a verdict: it is yes, the text is no report, or its head doesn't fit; or what is wanted stands there
abbrev pub IsSilent : Case → Verdict → Type 0
IsSilent case (verdicts.Choices number) = ⊥
IsSilent case (verdicts.Queue number) = ⊥
IsSilent case verdicts.Text = IsText case
IsSilent case verdicts.Tx = IsSaved case
IsSilent case verdicts.Yes = Unit {0}
IsSilent case verdicts.Head = Unit {0}
IsSilent case (verdicts.Report line cause) = Unit {0}

-- what is found by the verdict on a case
abbrev pub IsFound : Case → Verdict → Option Finding → Type 0
IsFound case verdict None = IsSilent case verdict
IsFound case verdict (Some finding) = (verdict ≡ verdict_of finding) × IsFinding case finding
