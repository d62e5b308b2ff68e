-- What the functions that read a line answer.
use Rattle.std.specs.Prelude.{◌≡◌, ℕ, suc, ◌+◌, ◌<◌, ◌≤◌, Bool, true, false, List, [], ◌∷◌, length, Result, Ok, Err}
use Rattle.vg_report.specs.declared.errors.ReportCause.{ReportCause}
use Rattle.vg_report.specs.declared.errors.ReportCause.TheVariants as causes
use Rattle.vg_report.specs.declared.errors.ReportError.{ReportError}
use Rattle.vg_report.specs.declared.reading.Head.{Head}
use Rattle.vg_report.specs.declared.reports.Report.{Report}
use Rattle.vg_report.specs.Forms.{Words}
use Rattle.vg_report.specs.Reading.{Said, Further, Whole, Rest, refused, body, ended, IsRefusal}
use Rattle.vg_report.specs.SoFar.{IsSoFar}

-- an answer, with the words behind it where it is a value
abbrev pub found : {X : Type 0} → Result X ReportCause → Words → Result (X × Words) ReportCause
found (Ok x) words = Ok (x, words)
found (Err cause) words = Err cause

-- this is the answer, but for want of memory
abbrev pub IsFound : {X : Type 0} → Result (X × Words) ReportCause → Result X ReportCause → Words → Type 0
IsFound this (Err causes.Memory) words = Unit {0}
IsFound this result words = this ≡ found result words

-- an answer, with the lines behind it where it is a value
abbrev pub line_found : {X : Type 0} → Result X ReportError → Rest → Result (X × Rest) ReportError
line_found (Ok x) rest = Ok (x, rest)
line_found (Err error) rest = Err error

-- what is answered of a line, by whether it has its line feed
abbrev pub line_answer : {X : Type 0} → (fed : Bool) → (number : ℕ) → Result X ReportCause → Result X ReportError
line_answer true number (Ok x) = Ok x
line_answer false number (Ok x) = refused number causes.Form
line_answer fed number (Err cause) = refused number cause

-- the refusal of a line; want of memory is no line's
abbrev pub refusal_at : (number : ℕ) → ReportCause → ReportError
refusal_at number causes.Memory = record { line = 0; cause = causes.Memory }
refusal_at number causes.Form = record { line = number; cause = causes.Form }
refusal_at number causes.Number = record { line = number; cause = causes.Number }
refusal_at number causes.Unknown = record { line = number; cause = causes.Unknown }
refusal_at number causes.Order = record { line = number; cause = causes.Order }

-- the next line, and the text behind it where it has its line feed
abbrev pub IsNext : (old : Rest) → List ℕ → (fed : Bool) → (new : Rest) → Type 0
IsNext old bytes true new = (old.text.lines ≡ bytes ∷ new.text.lines) × (old.text.tail ≡ new.text.tail) × (new.number ≡ suc old.number)
IsNext old bytes false new = (old.text.lines ≡ []) × (old.text.tail ≡ bytes)

-- this is what a line says of a report: whether that goes on, and with what
abbrev pub Says : Result (Said × Words) ReportCause → (old : Report) → Result Bool ReportCause → (new : Report) → Words → Type 0
Says this old (Ok true) new words = this ≡ Ok (Further new, words)
Says this old (Ok false) new words = (this ≡ Ok (Whole, words)) × (new ≡ old)
Says this old (Err causes.Memory) new words = Unit {0}
Says this old (Err cause) new words = this ≡ Err cause

-- how many lines a report so far has behind its first five
abbrev pub lines_read : Report → ℕ
lines_read r = length r.interfaces + length r.nodes + length r.errors + length r.packets + length r.traces

-- one line more is read
pub record GoesOn (packets : ℕ) (old new : Report) (rest behind : Rest) : Type 0 where
  pub same : body packets old rest ≡ body packets new behind
  pub so_far : IsSoFar packets new
  pub number : behind.number ≡ suc rest.number
  pub read : lines_read new ≡ suc (lines_read old)
  pub fewer : length behind.text.lines < length rest.text.lines

-- what is answered of a line of a report so far: it goes on, it is whole, or it is refused
abbrev pub Goes : (packets : ℕ) → (old : Report) → (rest : Rest) → Result Bool ReportError → (new : Report) → (behind : Rest) → Type 0
Goes packets old rest (Ok true) new behind = GoesOn packets old new rest behind
Goes packets old rest (Ok false) new behind = body packets old rest ≡ ended new behind.number behind.text.lines behind.text.tail
Goes packets old rest (Err error) new behind = IsRefusal (body packets old rest) error.line error.cause

-- the report is whole, where the text ends there
abbrev pub with_end : Report → Result (Unit {0}) ReportError → Result Report ReportError
with_end r (Ok x) = Ok r
with_end r (Err error) = Err error

-- the first five lines have numbers in their ranges
pub record IsHead (head : Head) : Type 0 where
  pub workers : (1 ≤ head.workers) × (head.workers ≤ 8)
  pub buffers : head.buffers ≤ 16384
  pub generations : (1 ≤ head.generations) × (head.generations ≤ 1000)
  pub packets : head.packets ≤ 65536
