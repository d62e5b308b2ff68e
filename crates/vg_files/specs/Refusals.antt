-- The exit status of a refusal and the line that is printed for it.
use Rattle.std.specs.Prelude.{ℕ, List, [], ◌∷◌, ◌++◌, codes, decimal}
use Rattle.vg_capture.specs.declared.errors.CaptureError.{CaptureError}
use Rattle.vg_capture.specs.declared.errors.CaptureError.TheVariants as faults
use Rattle.vg_script.specs.declared.errors.ScriptError.{ScriptError}
use Rattle.vg_script.specs.Causes.{cause_word}
use Rattle.vg_report.specs.declared.errors.ReportCause.{ReportCause}
use Rattle.vg_report.specs.declared.errors.ReportCause.TheVariants as causes
use Rattle.vg_check.specs.declared.verdicts.Verdict.{Verdict}
use Rattle.vg_check.specs.declared.verdicts.Verdict.TheVariants as verdicts
use Rattle.vg_files.specs.declared.refusals.Refusal.{Refusal}
use Rattle.vg_files.specs.declared.refusals.Refusal.TheVariants as refusals

-- the status of a refusal
abbrev pub status_of : Refusal → ℕ
status_of refusals.Usage = 2
status_of (refusals.Load name) = 3
status_of (refusals.Capture fault) = 4
status_of (refusals.Script error) = 5
status_of (refusals.Save name) = 6
status_of (refusals.Turns place) = 8
status_of (refusals.Verdict verdict) = 9

-- the words for a capture's fault: its cause and its place
abbrev pub capture_fault : CaptureError → List ℕ
capture_fault faults.TooLarge = codes "too-large 16777216"
capture_fault faults.NotPcap = codes "not-pcap 0"
capture_fault (faults.Version major minor) = codes "version 4"
capture_fault (faults.LinkType link) = codes "link-type 20"
capture_fault (faults.Truncated offset) = codes "truncated " ++ decimal offset
capture_fault (faults.RecordTooLong offset) = codes "record-too-long " ++ decimal offset
capture_fault (faults.TooManyPackets offset) = codes "too-many-packets " ++ decimal offset
capture_fault faults.Memory = codes "memory 0"

-- the words for a script's fault: its line and its cause
abbrev pub script_fault : ScriptError → List ℕ
script_fault error = decimal error.line ++ 32 ∷ cause_word error.cause

-- the word for the cause of a line that no report has
abbrev pub report_cause : ReportCause → List ℕ
report_cause causes.Form = codes "form"
report_cause causes.Number = codes "number"
report_cause causes.Unknown = codes "unknown"
report_cause causes.Order = codes "order"
report_cause causes.Memory = codes "memory"

-- the words for a verdict
abbrev pub verdict_words : Verdict → List ℕ
verdict_words verdicts.Yes = codes "yes"
verdict_words (verdicts.Report line cause) = codes "no report " ++ (decimal line ++ 32 ∷ report_cause cause)
verdict_words verdicts.Head = codes "no head"
verdict_words (verdicts.Choices number) = codes "no choices " ++ decimal number
verdict_words (verdicts.Queue number) = codes "no queue " ++ decimal number
verdict_words verdicts.Text = codes "no text"
verdict_words verdicts.Tx = codes "no tx"

-- the line that is printed for a refusal, without its line feed
abbrev pub words_of : Refusal → List ℕ
words_of refusals.Usage = codes "usage"
words_of (refusals.Load name) = codes "load " ++ name.now
words_of (refusals.Capture fault) = codes "capture " ++ capture_fault fault
words_of (refusals.Script error) = codes "script " ++ script_fault error
words_of (refusals.Turns place) = codes "turns " ++ decimal place
words_of (refusals.Save name) = codes "save " ++ name.now
words_of (refusals.Verdict verdict) = verdict_words verdict

-- the line with its line feed
abbrev pub line_of : Refusal → List ℕ
line_of refusal = words_of refusal ++ 10 ∷ []
