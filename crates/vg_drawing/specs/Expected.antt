-- Which status is to be expected of a call, from its words and the files that the folder tells.
use Rattle.std.specs.Prelude.{◌≡◌, ◌⊎◌, ℕ, ◌+◌, List, length, Option, Some, None, IsSome, Ok, Err}
use Rattle.vg_model.specs.Graph.{Graph}
use Rattle.vg_outside.specs.Files.{Rose, FirstBytes, IsAbsent}
use Rattle.vg_script.specs.declared.errors.ScriptError.{ScriptError}
use Rattle.vg_script.specs.Reading.{largest_script}
use Rattle.vg_report.specs.declared.errors.ReportError.{ReportError}
use Rattle.vg_report.specs.declared.reports.Report.{Report}
use Rattle.vg_report.specs.Reading.{report_of}
use Rattle.vg_drawing.specs.declared.words.Which.{Which}
use Rattle.vg_drawing.specs.Asked.{Ask, asked}
use Rattle.vg_drawing.specs.Drawn.{IsWithin}
use Rattle.vg_drawing.specs.Run.{Call, Makes, IsScriptRefusal, largest_report}

-- the folder tells its files, this one is there, these are the first n of its bytes, and no fault of it was counted in the call
pub record IsLoadable (call : Call) (name : List ℕ) (n : ℕ) (bytes : List ℕ) : Type 0 where
  pub told : IsSome call.files
  pub first : FirstBytes call.files name n bytes
  pub no_fault : ¬ Rose (call.faults name) (call.faults_after name)

-- the status that the generation asked for brings, of so many: 0 where there is one of its number, else 2
abbrev pub IsWithinStatus : (count : ℕ) → Which → ℕ → Type 0
IsWithinStatus count which status = ((status ≡ 0) × IsWithin count which) ⊎ ((status ≡ 2) × ¬ IsWithin count which)

-- the status that the bytes of a report bring: 9 where it is refused, else that of the generation
abbrev pub IsReportStatus : (count : ℕ) → Which → List ℕ → ℕ → Type 0
IsReportStatus count which bytes status =
    ((status ≡ 9) × ((error : ReportError) × (report_of bytes ≡ Err error)))
    ⊎ (((report : Report) × (report_of bytes ≡ Ok report)) × IsWithinStatus count which status)

-- the status that the report of this name brings, where one is named: 3 where the folder tells that there is no such file, else that of its bytes
abbrev pub IsNamedStatus : Call → (count : ℕ) → Which → Option (List ℕ) → ℕ → Type 0
IsNamedStatus call count which None status = IsWithinStatus count which status
IsNamedStatus call count which (Some name) status =
    ((status ≡ 3) × IsAbsent call.files name)
    ⊎ ((bytes : List ℕ) × IsLoadable call name (largest_report + 1) bytes × IsReportStatus count which bytes status)

-- the status that the bytes of a script bring: 5 where it is refused or an edit of it is, else that of the report
abbrev pub IsScriptStatus : Call → Ask → List ℕ → ℕ → Type 0
IsScriptStatus call ask bytes status =
    ((status ≡ 5) × ((error : ScriptError) × IsScriptRefusal bytes error))
    ⊎ ((graphs : List Graph) × Makes bytes graphs × IsNamedStatus call (length graphs) ask.which ask.report status)

-- the status that the words bring, or the files: 2 where the words ask for no drawing; 3 where the folder tells that the script isn't there,
-- else that of its bytes
abbrev pub IsExpected : Call → ℕ → Type 0
IsExpected call status =
    ((status ≡ 2) × (asked call.words ≡ None))
    ⊎ ((ask : Ask) × (asked call.words ≡ Some ask)
    × (((status ≡ 3) × IsAbsent call.files ask.script)
    ⊎ ((bytes : List ℕ) × IsLoadable call ask.script (largest_script + 1) bytes × IsScriptStatus call ask bytes status)))
