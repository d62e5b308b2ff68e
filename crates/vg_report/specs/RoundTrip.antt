-- Texts of reports, written and read.
use Rattle.std.specs.Prelude.{◌≡◌, ℕ, List, Ok}
use Rattle.vg_report.specs.declared.reports.Report.{Report}
use Rattle.vg_report.specs.Lawful.{IsLawful}
use Rattle.vg_report.specs.Reading.{report_of}
use Rattle.vg_report.specs.Text.{text}

-- the text of a lawful report is read as that report
abbrev pub ReadsBack : Type 0
ReadsBack = (report : Report) → IsLawful report → report_of (text report) ≡ Ok report

-- a report that is read is lawful, and its text is the text that was read
abbrev pub ReadsLawful : Type 0
ReadsLawful = (bytes : List ℕ) (report : Report) → report_of bytes ≡ Ok report → IsLawful report × (text report ≡ bytes)

-- no two lawful reports have one text
abbrev pub TextsDiffer : Type 0
TextsDiffer = (one other : Report) → IsLawful one → IsLawful other → text one ≡ text other → one ≡ other
