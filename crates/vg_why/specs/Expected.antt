-- Which status is to be expected of a call, from its words and the files that the folder names.
use Rattle.std.specs.Prelude.{◌≡◌, ◌⊎◌, ℕ, true, false, List, length, Option, Some, None, IsSome, Ok, Err}
use Rattle.vg_model.specs.Journey.{Journey}
use Rattle.vg_outside.specs.Files.{Files, Rose, IsAbsent}
use Rattle.vg_capture.specs.declared.captures.Capture.{Capture}
use Rattle.vg_capture.specs.declared.errors.CaptureError.{CaptureError}
use Rattle.vg_capture.specs.Savefile.{capture_of}
use Rattle.vg_script.specs.declared.errors.ScriptError.{ScriptError}
use Rattle.vg_plan.specs.Plan.{Planned}
use Rattle.vg_report.specs.declared.errors.ReportError.{ReportError}
use Rattle.vg_report.specs.declared.reports.Report.{Report}
use Rattle.vg_report.specs.Reading as reading
use Rattle.vg_replay.specs.Tasks.{AreTaken, IsFirstFault}
use Rattle.vg_check.specs.Points.{IsHead}
use Rattle.vg_check.specs.Verdicts.{Case, task_by, IsHeaded}
use Rattle.vg_files.specs.Checks.{CheckBytes, AreInputs}
use Rattle.vg_files.specs.Plan.{graphs_of}
use Rattle.vg_why.specs.Asked.{Ask, Asked, asked, are_below}
use Rattle.vg_why.specs.Files.{AreLoaded, case_in}
use Rattle.vg_why.specs.Run.{Call}

-- no fault of this name was counted in the call
abbrev pub HasNoFault : Call → List ℕ → Type 0
HasNoFault call name = ¬ Rose (call.faults name) (call.faults_after name)

-- the folder names its files, the three of the call are there with these bytes, and no fault of them was counted
pub record AreLoadable (call : Call) (ask : Ask) (bytes : CheckBytes) : Type 0 where
  pub told : IsSome call.files
  pub loaded : AreLoaded call.files ask bytes
  pub no_capture_fault : HasNoFault call ask.capture
  pub no_script_fault : HasNoFault call ask.script
  pub no_report_fault : HasNoFault call ask.report

-- the folder says that one of the three isn't there
abbrev pub IsOneAbsent : Option Files → Ask → Type 0
IsOneAbsent files ask = IsAbsent files ask.capture ⊎ (IsAbsent files ask.script ⊎ IsAbsent files ask.report)

-- the status that the choices of a report bring: 9 where one of them can't be, else 0
abbrev pub IsChoiceStatus : Case → Report → ℕ → Type 0
IsChoiceStatus case report status =
    ((status ≡ 9) × ((number : ℕ) × IsFirstFault (task_by case report) number)) ⊎ ((status ≡ 0) × ((js : List Journey) × AreTaken (task_by case report) js))

-- the status that the numbers bring which are asked for: 2 where the capture has no packet of one, else that of the choices
abbrev pub IsNumberStatus : Asked → Case → Report → ℕ → Type 0
IsNumberStatus asked case report status =
    ((status ≡ 2) × (are_below asked (length case.capture.packets) ≡ false))
    ⊎ ((are_below asked (length case.capture.packets) ≡ true) × IsChoiceStatus case report status)

-- the status that the bytes of a report bring: 9 where they are none or its head doesn't fit, else that of the numbers
abbrev pub IsReportStatus : Asked → Case → ℕ → Type 0
IsReportStatus asked case status =
    ((status ≡ 9) × ((error : ReportError) × (reading.report_of case.report ≡ Err error)))
    ⊎ (((status ≡ 9) × ((report : Report) × (reading.report_of case.report ≡ Ok report) × (¬ IsHead case.plan case.capture report)))
    ⊎ ((report : Report) × IsHeaded case report × IsNumberStatus asked case report status))

-- the status that the bytes of the files bring: 4 where the capture is faulty, else 5 where the script is or an edit of it is refused, else
-- that of the report
abbrev pub IsStatusBy : Asked → CheckBytes → ℕ → Type 0
IsStatusBy asked bytes status =
    ((status ≡ 4) × ((fault : CaptureError) × (capture_of bytes.capture ≡ Err fault)))
    ⊎ (((status ≡ 5) × ((capture : Capture) × (capture_of bytes.capture ≡ Ok capture)) × ((error : ScriptError) × (graphs_of bytes.script ≡ Err error)))
    ⊎ ((capture : Capture) × (plan : Planned) × AreInputs bytes capture plan × IsReportStatus asked (case_in bytes capture plan) status))

-- the status that the words bring, or the files: 2 where the words ask for nothing; 3 where the folder says that a file isn't there, else
-- that of their bytes
abbrev pub IsExpected : Call → ℕ → Type 0
IsExpected call status =
    ((status ≡ 2) × (asked call.words ≡ None))
    ⊎ ((ask : Ask) × (asked call.words ≡ Some ask)
    × (((status ≡ 3) × IsOneAbsent call.files ask) ⊎ ((bytes : CheckBytes) × AreLoadable call ask bytes × IsStatusBy ask.asked bytes status)))
