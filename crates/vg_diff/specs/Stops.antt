-- Why nothing is compared.
use Rattle.std.specs.Prelude.{◌≡◌, ◌≢◌, ◌⊎◌, ℕ, false, List, Option, Some, Ok, Err}
use Rattle.vg_capture.specs.declared.errors.CaptureError.{CaptureError}
use Rattle.vg_capture.specs.declared.errors.CaptureError.TheVariants as captures
use Rattle.vg_outside.specs.Files.{Files, FailedLoad}
use Rattle.vg_report.specs.declared.errors.ReportCause.{ReportCause}
use Rattle.vg_report.specs.declared.errors.ReportCause.TheVariants as faults_of_reports
use Rattle.vg_report.specs.declared.errors.ReportError.{ReportError}
use Rattle.vg_report.specs.declared.reports.Report.{Report}
use Rattle.vg_report.specs.Reading.{report_of}
use Rattle.vg_script.specs.declared.errors.ScriptCause.{ScriptCause}
use Rattle.vg_script.specs.declared.errors.ScriptCause.TheVariants as script_causes
use Rattle.vg_script.specs.declared.errors.ScriptError.{ScriptError}
use Rattle.vg_diff.specs.declared.input.Input.{Input}
use Rattle.vg_diff.specs.declared.refusals.Refusal.{Refusal}
use Rattle.vg_diff.specs.declared.refusals.Refusal.TheVariants as refusals
use Rattle.vg_diff.specs.declared.refusals.Stop.{Stop}
use Rattle.vg_diff.specs.declared.refusals.Stop.TheVariants as stops
use Rattle.vg_diff.specs.Asked.{Text, Ask}
use Rattle.vg_diff.specs.Files.{IsCaptureFault, IsReportFault, IsInput, IsNextOther, IsTxRead, IsSavefileNext, IsLoadedNext, has_packets_of}
use Rattle.vg_diff.specs.Numbers.{sent_numbers}
use Rattle.vg_diff.specs.Scripts.{IsScriptRefusal, IsScriptFault}

-- the fact holds of the refusal, where it isn't for want of memory
abbrev pub OnRefusal : (Refusal → Type 0) → Stop → Type 0
OnRefusal P stops.Memory = Unit {0}
OnRefusal P (stops.Refused refusal) = P refusal

-- which load may have failed, which savefile, report or script may be refused, and whether numbers of packets may differ
pub record Causes : Type 1 where
  pub load : Text → Type 0
  pub capture : CaptureError → Type 0
  pub report : ReportError → Type 0
  pub packets : Type 0

-- a refusal is for such a cause; none is for the words or for a script
abbrev pub IsCause : Causes → Refusal → Type 0
IsCause causes refusals.Usage = ⊥
IsCause causes (refusals.Load name) = causes.load name.now
IsCause causes (refusals.Capture error) = causes.capture error
IsCause causes (refusals.Report error) = causes.report error
IsCause causes (refusals.Script error) = ⊥
IsCause causes refusals.Packets = causes.packets

-- the counts of faults by name, before and after
pub record Faults : Type 0 where
  pub before : List ℕ → ℕ
  pub after : List ℕ → ℕ

abbrev pub faults_of : (before after : List ℕ → ℕ) → Faults
faults_of before after = record { before = before; after = after }

-- the load of this name failed
abbrev pub IsLoadFault : Option Files → Faults → Text → Type 0
IsLoadFault files faults name = FailedLoad files name (faults.before name) (faults.after name)

-- a file of this name is loaded
abbrev pub load_causes : Option Files → Faults → Text → Causes
load_causes files faults name = record {
  load = λ failed. (failed ≡ name) × IsLoadFault files faults failed;
  capture = λ error. ⊥;
  report = λ error. ⊥;
  packets = ⊥;
}

-- a savefile of this name is loaded and read
abbrev pub capture_causes : Option Files → Faults → Text → Causes
capture_causes files faults name = record {
  load = λ failed. (failed ≡ name) × IsLoadFault files faults failed;
  capture = λ error. IsCaptureFault files name error;
  report = λ error. ⊥;
  packets = ⊥;
}

-- the same where one is named
abbrev pub named_causes : Option Files → Faults → Option Text → Causes
named_causes files faults named = record {
  load = λ failed. (named ≡ Some failed) × IsLoadFault files faults failed;
  capture = λ error. (name : Text) × (named ≡ Some name) × IsCaptureFault files name error;
  report = λ error. ⊥;
  packets = ⊥;
}

-- savefiles of these names are loaded and read, in their order
abbrev pub others_causes : Option Files → Faults → List Text → Causes
others_causes files faults names = record {
  load = λ failed. IsNextOther files names failed × IsLoadFault files faults failed;
  capture = λ error. (name : Text) × IsNextOther files names name × IsCaptureFault files name error;
  report = λ error. ⊥;
  packets = ⊥;
}

-- a report of this text is read
abbrev pub report_causes : List ℕ → Causes
report_causes text = record { load = λ failed. ⊥; capture = λ error. ⊥; report = λ error. report_of text ≡ Err error; packets = ⊥ }

-- the report of what was loaded has another number of packets than this
abbrev pub DiffersInPackets : Input → Type 0
DiffersInPackets input = (report : Report) × (report_of input.text ≡ Ok report) × (has_packets_of report (sent_numbers report) input ≡ false)

-- the report of what was loaded is read, and held against it
abbrev pub account_causes : Input → Causes
account_causes input = record {
  load = λ failed. ⊥;
  capture = λ error. ⊥;
  report = λ error. report_of input.text ≡ Err error;
  packets = DiffersInPackets input;
}

-- all files that are asked for are loaded and read: the run's savefile, its report, its capture and the other router's savefiles. A file is
-- refused only where those before it are accepted, and numbers of packets differ only where all files are
abbrev pub input_causes : Option Files → Faults → Ask → Causes
input_causes files faults ask = record {
  load = λ failed. IsLoadedNext files ask failed × IsLoadFault files faults failed;
  capture = λ error. (name : Text) × IsSavefileNext files ask name × IsCaptureFault files name error;
  report = λ error. IsTxRead files ask × IsReportFault files ask.report error;
  packets = (input : Input) × IsInput files ask input × DiffersInPackets input;
}

-- a script of this text is refused
abbrev pub IsOfScript : (text : List ℕ) → Refusal → Type 0
IsOfScript text refusals.Usage = ⊥
IsOfScript text (refusals.Load name) = ⊥
IsOfScript text (refusals.Capture error) = ⊥
IsOfScript text (refusals.Report error) = ⊥
IsOfScript text (refusals.Script error) = IsScriptRefusal text error × (error.cause ≢ script_causes.Memory)
IsOfScript text refusals.Packets = ⊥

-- the router of a script is asked for: the script couldn't be loaded, or it is refused
abbrev pub IsRouterCause : Option Files → Faults → Text → Refusal → Type 0
IsRouterCause files faults script refusals.Usage = ⊥
IsRouterCause files faults script (refusals.Load failed) = (failed.now ≡ script) × IsLoadFault files faults failed.now
IsRouterCause files faults script (refusals.Capture error) = ⊥
IsRouterCause files faults script (refusals.Report error) = ⊥
IsRouterCause files faults script (refusals.Script error) = IsScriptFault files script error
IsRouterCause files faults script refusals.Packets = ⊥

-- ---- faults

-- what a savefile's fault stops a call with
abbrev pub capture_stop : CaptureError → Stop
capture_stop captures.Memory = stops.Memory
capture_stop error = stops.Refused (refusals.Capture error)

-- what a report's fault stops a call with
abbrev pub report_stop_by : ReportCause → Stop → Stop
report_stop_by faults_of_reports.Memory stop = stops.Memory
report_stop_by cause stop = stop

abbrev pub report_stop : ReportError → Stop
report_stop error = report_stop_by error.cause (stops.Refused (refusals.Report error))

-- what a script's fault stops a call with
abbrev pub script_stop_by : ScriptCause → Stop → Stop
script_stop_by script_causes.Memory stop = stops.Memory
script_stop_by cause stop = stop

abbrev pub script_stop : ScriptError → Stop
script_stop error = script_stop_by error.cause (stops.Refused (refusals.Script error))

-- a stop by a file behind the report, where that is one; else by the report
abbrev pub IsFirstStop : (text : List ℕ) → (behind : Stop) → Stop → Type 0
IsFirstStop text behind stop =
    (((report : Report) × (report_of text ≡ Ok report)) × (stop ≡ behind)) ⊎ OnRefusal (IsCause (report_causes text)) stop
