-- Why a report isn't read.
use Rattle.std.specs.Prelude.{◌≡◌, ◌≢◌, ℕ, List, Err}
use Rattle.vg_report.specs.declared.errors.ReportCause.TheVariants as causes
use Rattle.vg_report.specs.Reading as reading
use Rattle.vg_check.specs.declared.verdicts.Verdict.{Verdict}
use Rattle.vg_check.specs.declared.verdicts.Verdict.TheVariants as verdicts
use Rattle.vg_files.specs.declared.refusals.Refusal.{Refusal}
use Rattle.vg_files.specs.declared.refusals.Refusal.TheVariants as refusals

-- the verdict on a text that is no report
abbrev pub IsTextRefusal : List ℕ → Verdict → Type 0
IsTextRefusal text (verdicts.Report line cause) = (reading.report_of text ≡ Err (record { line = line; cause = cause })) × (cause ≢ causes.Memory)
IsTextRefusal text verdict = ⊥

-- the refusal of such a text
abbrev pub IsReportRefusal : List ℕ → Refusal → Type 0
IsReportRefusal text (refusals.Verdict verdict) = IsTextRefusal text verdict
IsReportRefusal text refusal = ⊥
