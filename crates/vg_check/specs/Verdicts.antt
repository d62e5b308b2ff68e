-- What the checker answers: the first of its points that fails, or yes.
use Rattle.std.specs.Prelude.{◌≡◌, ◌≢◌, ℕ, ◌+◌, ◌*◌, ◌≤◌, List, Result, Ok, Err}
use Rattle.vg_model.specs.Visit.{Visit}
use Rattle.vg_model.specs.Journey.{Journey, sent}
use Rattle.vg_capture.specs.declared.captures.Capture.{Capture}
use Rattle.vg_capture.specs.Savefile.{savefile}
use Rattle.vg_plan.specs.Plan.{Planned, first_generation}
use Rattle.vg_replay.specs.Tasks.{Task, AreTaken, IsFirstFault}
use Rattle.vg_report.specs.declared.errors.ReportCause.TheVariants as causes
use Rattle.vg_report.specs.declared.reports.Report.{Report}
use Rattle.vg_report.specs.Lawful.{IsLawful}
use Rattle.vg_report.specs.Reading as reading
use Rattle.vg_report.specs.Text.{text}
use Rattle.vg_check.specs.declared.verdicts.Verdict.{Verdict}
use Rattle.vg_check.specs.declared.verdicts.Verdict.TheVariants as verdicts
use Rattle.vg_check.specs.Output.{Setting, report_of, choices_of, frames_of, IsOutput}
use Rattle.vg_check.specs.Points.{IsHead, setting_of, ArePushesLawful, IsFirstRefusal}

-- what is checked: the visits of the kinds, a plan, a capture, how many frames a handoff queue has, a savefile and a text
pub record Case : Type 0 where
  pub visit : Visit
  pub plan : Planned
  pub capture : Capture
  pub queue : ℕ
  pub tx : List ℕ
  pub report : List ℕ

-- the generation at the time of a packet
abbrev pub first_of : Case → ℕ → ℕ
first_of case = first_generation case.plan.script case.capture

-- the packets, under the choices that a report names
abbrev pub task_by : Case → Report → Task
task_by case report = record {
  visit = case.visit;
  graphs = case.plan.graphs;
  workers = report.workers;
  first = first_of case;
  packets = frames_of case.capture;
  choices = choices_of report;
}

-- the report of journeys, with the workers, the buffers and as many traces as this report has
abbrev pub report_by : Case → Report → List Journey → Report
report_by case report js = report_of (setting_of report case.queue) case.plan.graphs js

-- the text is that of this report, and the head of it fits
pub record IsHeaded (case : Case) (report : Report) : Type 0 where
  pub is_report : reading.report_of case.report ≡ Ok report
  pub head : IsHead case.plan case.capture report

-- and these are the journeys under the choices that it names
pub record AreTravelled (case : Case) (report : Report) (js : List Journey) : Type 0 where
  pub headed : IsHeaded case report
  pub taken : AreTaken (task_by case report) js

-- and the pushes that they name as refused may have been
pub record ArePushed (case : Case) (report : Report) (js : List Journey) : Type 0 where
  pub travelled : AreTravelled case report js
  pub pushes : ArePushesLawful case.queue js

-- the first point that fails
abbrev pub IsVerdict : Case → Verdict → Type 0
IsVerdict case (verdicts.Report line cause) = (reading.report_of case.report ≡ Err (record { line = line; cause = cause })) × (cause ≢ causes.Memory)
IsVerdict case verdicts.Head = (report : Report) × (reading.report_of case.report ≡ Ok report) × (¬ IsHead case.plan case.capture report)
IsVerdict case (verdicts.Choices number) = (report : Report) × IsHeaded case report × IsFirstFault (task_by case report) number
IsVerdict case (verdicts.Queue number) = (report : Report) × (js : List Journey) × AreTravelled case report js × IsFirstRefusal case.queue js number
IsVerdict case verdicts.Text = (report : Report) × (js : List Journey) × ArePushed case report js × (case.report ≢ text (report_by case report js))
IsVerdict case verdicts.Tx =
    (report : Report) × (js : List Journey) × ArePushed case report js × (report ≡ report_by case report js) × (case.tx ≢ savefile case.capture (sent js))
IsVerdict case verdicts.Yes =
    (report : Report) × (js : List Journey) × ArePushed case report js × (report ≡ report_by case report js) × (case.tx ≡ savefile case.capture (sent js))

-- options of a run are in range, but for what no output shows
pub record IsSetting (setting : Setting) : Type 0 where
  pub workers : (1 ≤ setting.workers) × (setting.workers ≤ 8)
  pub buffers : (256 * setting.workers + 256 ≤ setting.buffers) × (setting.buffers ≤ 16384)
  pub trace : setting.trace ≤ 256

-- the text is that of a lawful report, and it and the savefile are what lawful choices make in a run that is set so, with so many frames
-- in a handoff queue
pub record IsAccepted (case : Case) : Type 0 where
  pub setting : Setting
  pub report : Report
  pub in_range : IsSetting setting
  pub queue : setting.queue ≡ case.queue
  pub lawful : IsLawful report
  pub is_text : case.report ≡ text report
  pub output : IsOutput case.visit case.plan.graphs (first_of case) setting case.capture report case.tx

-- what the reading of a text answers: the report and that it is lawful, or the verdict
abbrev pub IsReadAs : List ℕ → Result Report Verdict → Type 0
IsReadAs bytes (Ok report) = (reading.report_of bytes ≡ Ok report) × IsLawful report
IsReadAs bytes (Err (verdicts.Report line cause)) = (reading.report_of bytes ≡ Err (record { line = line; cause = cause })) × (cause ≢ causes.Memory)
IsReadAs bytes (Err verdict) = ⊥

-- the case of these
abbrev pub case_of : Visit → Planned → Capture → (queue : ℕ) → (tx report : List ℕ) → Case
case_of visit plan capture queue tx report = record { visit = visit; plan = plan; capture = capture; queue = queue; tx = tx; report = report }
