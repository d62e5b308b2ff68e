-- What is printed of a refusal.
use Rattle.std.specs.Prelude.{ℕ, List, [], ◌∷◌, ◌++◌, codes, decimal}
use Rattle.vg_capture.specs.declared.errors.CaptureError.{CaptureError}
use Rattle.vg_capture.specs.declared.errors.CaptureError.TheVariants as captures
use Rattle.vg_report.specs.declared.errors.ReportCause.{ReportCause}
use Rattle.vg_report.specs.declared.errors.ReportCause.TheVariants as report_causes
use Rattle.vg_script.specs.Causes.{cause_word}
use Rattle.vg_diff.specs.declared.refusals.Refusal.{Refusal}
use Rattle.vg_diff.specs.declared.refusals.Refusal.TheVariants as refusals

-- the status of a refusal
abbrev pub status_of : Refusal → ℕ
status_of refusals.Usage = 2
status_of (refusals.Load name) = 3
status_of (refusals.Capture error) = 4
status_of (refusals.Report error) = 5
status_of (refusals.Script error) = 5
status_of refusals.Packets = 5

-- the word for a report's fault
abbrev pub report_word : ReportCause → List ℕ
report_word report_causes.Form = codes "form"
report_word report_causes.Number = codes "number"
report_word report_causes.Unknown = codes "unknown"
report_word report_causes.Order = codes "order"
report_word report_causes.Memory = codes "memory"

-- a cause, and its place
abbrev pub place_line : List ℕ → ℕ → List ℕ
place_line cause place = codes "capture " ++ (cause ++ 32 ∷ decimal place) ++ 10 ∷ []

-- the line of a savefile's fault: its cause, and its place in the file
abbrev pub capture_line : CaptureError → List ℕ
capture_line captures.TooLarge = codes "capture too-large 16777216" ++ 10 ∷ []
capture_line captures.NotPcap = codes "capture not-pcap 0" ++ 10 ∷ []
capture_line (captures.Version major minor) = codes "capture version 4" ++ 10 ∷ []
capture_line (captures.LinkType kind) = codes "capture link-type 20" ++ 10 ∷ []
capture_line (captures.Truncated offset) = place_line (codes "truncated") offset
capture_line (captures.RecordTooLong offset) = place_line (codes "record-too-long") offset
capture_line (captures.TooManyPackets offset) = place_line (codes "too-many-packets") offset
capture_line captures.Memory = codes "capture memory 0" ++ 10 ∷ []

-- the line of a report's fault: the line of the text, and the cause
abbrev pub report_line : ℕ → List ℕ → List ℕ
report_line line cause = codes "report " ++ (decimal line ++ 32 ∷ cause) ++ 10 ∷ []

-- the line of a script's fault: the line of the text, and the cause
abbrev pub script_line : ℕ → List ℕ → List ℕ
script_line line cause = codes "script " ++ (decimal line ++ 32 ∷ cause) ++ 10 ∷ []

-- the line of a refusal
abbrev pub line_of : Refusal → List ℕ
line_of refusals.Usage = codes "usage" ++ 10 ∷ []
line_of (refusals.Load name) = codes "load " ++ name.now ++ 10 ∷ []
line_of (refusals.Capture error) = capture_line error
line_of (refusals.Report error) = report_line error.line (report_word error.cause)
line_of (refusals.Script error) = script_line error.line (cause_word error.cause)
line_of refusals.Packets = codes "report packets" ++ 10 ∷ []
