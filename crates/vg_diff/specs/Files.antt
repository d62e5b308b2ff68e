-- What the files hold that are asked for, or why they are refused.
use Rattle.std.specs.Prelude.{◌≡◌, ◌⊎◌, ℕ, ◌+◌, Bool, true, ◌&&◌, ◌==◌, List, length, take, slice_get, Option, Some, None, Ok, Err}
use Rattle.std.specs.List.{AllZip}
use Rattle.std.specs.Option.{option_map_or}
use Rattle.vg_capture.specs.declared.captures.Capture.{Capture}
use Rattle.vg_capture.specs.declared.errors.CaptureError.{CaptureError}
use Rattle.vg_capture.specs.Savefile.{capture_of, largest_file}
use Rattle.vg_outside.specs.Files.{Files, FirstBytes}
use Rattle.vg_report.specs.declared.errors.ReportError.{ReportError}
use Rattle.vg_report.specs.declared.reports.Report.{Report}
use Rattle.vg_report.specs.Reading.{report_of}
use Rattle.vg_diff.specs.declared.input.Input.{Input}
use Rattle.vg_diff.specs.Asked.{Text, Ask}

-- the savefile of this name holds this capture
pub record IsCaptureAt (files : Option Files) (name : List ℕ) (capture : Capture) : Type 0 where
  pub bytes : List ℕ
  pub loaded : FirstBytes files name (largest_file + 1) bytes
  pub is_capture : capture_of bytes ≡ Ok capture

-- the savefile of this name is refused
pub record IsCaptureFault (files : Option Files) (name : List ℕ) (error : CaptureError) : Type 0 where
  pub bytes : List ℕ
  pub loaded : FirstBytes files name (largest_file + 1) bytes
  pub refused : capture_of bytes ≡ Err error

-- the savefile of this name, where one is named, holds this capture
abbrev pub IsCaptureOf : Option Files → Option Text → Option Capture → Type 0
IsCaptureOf files None None = Unit {0}
IsCaptureOf files (Some name) (Some capture) = IsCaptureAt files name capture
IsCaptureOf files None (Some capture) = ⊥
IsCaptureOf files (Some name) None = ⊥

-- the most bytes of a report; a lawful one has fewer
abbrev pub largest_report : ℕ
largest_report = 16777216

-- the report of this name is one
pub record IsReportAt (files : Option Files) (name : List ℕ) : Type 0 where
  pub bytes : List ℕ
  pub loaded : FirstBytes files name (largest_report + 1) bytes
  pub report : Report
  pub is_report : report_of bytes ≡ Ok report

-- the report of this name is refused
pub record IsReportFault (files : Option Files) (name : List ℕ) (error : ReportError) : Type 0 where
  pub bytes : List ℕ
  pub loaded : FirstBytes files name (largest_report + 1) bytes
  pub refused : report_of bytes ≡ Err error

-- the files that are asked for hold this: a run's savefile, the text of its report, its capture, where it is named, and the savefiles of another
-- router
pub record IsInput (files : Option Files) (ask : Ask) (input : Input) : Type 0 where
  pub tx_is : IsCaptureAt files ask.tx input.tx
  pub text_is : FirstBytes files ask.report (largest_report + 1) input.text
  pub capture_is : IsCaptureOf files ask.capture input.capture
  pub others_are : AllZip (IsCaptureAt files) ask.others input.others.items

-- a report with these numbers of packets that were sent has as many packets as files that hold this: as many that were sent as the run's
-- savefile, and as many in all as its capture, where it is known
abbrev pub has_packets_of : Report → (sent : List ℕ) → Input → Bool
has_packets_of report sent input =
    option_map_or (λ (capture : Capture). length capture.packets == length report.packets) input.capture true && length sent == length input.tx.packets

-- ---- what is looked at next

-- this is one of the other router's savefiles, and those before it are accepted
pub record IsNextOther (files : Option Files) (names : List Text) (name : Text) : Type 0 where
  pub place : ℕ
  pub is : slice_get names place ≡ Some name
  pub captures : List Capture
  pub before : AllZip (IsCaptureAt files) (take place names) captures

-- the run's savefile is accepted
abbrev pub IsTxRead : Option Files → Ask → Type 0
IsTxRead files ask = (tx : Capture) × IsCaptureAt files ask.tx tx

-- the run's savefile, its report, and its capture, where it is named, are accepted
pub record IsRunRead (files : Option Files) (ask : Ask) : Type 0 where
  pub tx : IsTxRead files ask
  pub report : IsReportAt files ask.report
  pub capture : Option Capture
  pub is_capture : IsCaptureOf files ask.capture capture

-- this savefile is looked at next: the run's; or its capture, once the run's and the report are accepted; or one of the other router, once those are
abbrev pub IsSavefileNext : Option Files → Ask → Text → Type 0
IsSavefileNext files ask name =
    (name ≡ ask.tx)
    ⊎ (((ask.capture ≡ Some name) × IsTxRead files ask × IsReportAt files ask.report) ⊎ (IsRunRead files ask × IsNextOther files ask.others name))

-- this file is loaded next: a savefile; or the report, once the run's savefile is accepted
abbrev pub IsLoadedNext : Option Files → Ask → Text → Type 0
IsLoadedNext files ask name = IsSavefileNext files ask name ⊎ ((name ≡ ask.report) × IsTxRead files ask)
