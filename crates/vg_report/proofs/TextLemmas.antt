-- For the clauses of `Lines::{next, count, end}`:
-- The lines of texts.
use Rattle.std.proofs.Common.{◌≡◌, ◌==◌, ℕ, suc, ◌+◌, ◌<◌, ◌≤◌, Bool, true, false, cond, List, [], ◌∷◌, length, take, drop, refl, sym, subst, ap, ◌∙◌, arith}
use Rattle.std.specs.Prelude.{Some, None, Result, Ok, Err}
use Rattle.std.specs.List.{position_or_len, before_first, after_first}
use Rattle.vg_report.specs.declared.errors.ReportCause.{ReportCause}
use Rattle.vg_report.specs.declared.errors.ReportCause.TheVariants as causes
use Rattle.vg_report.specs.declared.errors.ReportError.{ReportError}
use Rattle.vg_report.specs.declared.reports.Report.{Report}
use Rattle.vg_report.specs.Answers.{found, line_found, line_answer, IsNext, with_end}
use Rattle.vg_report.specs.Forms.{Words, Form}
use Rattle.vg_report.specs.Parts.{IsCut}
use Rattle.vg_report.specs.Reading.{Text, onto, text_of, Rest, refused, with_read, cut_off, behind, line_at, a_line, ended}
use Rattle.vg_report.specs.Words.{words}

-- a line feed
abbrev pub is_end : ℕ → Bool
is_end byte = byte == 10

-- a line in front of a text
abbrev pub line_before : List ℕ → Text → Text
line_before line text = record { lines = line ∷ text.lines; tail = text.tail }

first_passes : (x : ℕ) (xs : List ℕ) → is_end x ≡ true → position_or_len is_end (x ∷ xs) ≡ 0
first_passes x xs h = rw h refl

later_passes : (x : ℕ) (xs : List ℕ) → is_end x ≡ false → position_or_len is_end (x ∷ xs) ≡ suc (position_or_len is_end xs)
later_passes x xs h = rw h (omega arith)

-- a text with a line feed
abbrev pub IsLine : List ℕ → Type 0
IsLine bytes = position_or_len is_end bytes < length bytes → text_of bytes ≡ line_before (before_first is_end bytes) (text_of (after_first is_end bytes))

line_by : (byte : ℕ) (bytes : List ℕ) → IsLine bytes → (b : Bool) → is_end byte ≡ b → IsLine (byte ∷ bytes)
line_by byte bytes others true e h =
    ap (λ b. cond b (line_before [] (text_of bytes)) (onto byte (text_of bytes).lines (text_of bytes).tail)) e
    ∙ ap (λ n. line_before (take n (byte ∷ bytes)) (text_of (drop (n + 1) (byte ∷ bytes)))) (sym (first_passes byte bytes e))
line_by byte bytes others false e h =
    let later = later_passes byte bytes e in
    let less : suc (position_or_len is_end bytes) < suc (length bytes) = subst (λ n. n < suc (length bytes)) later h in
    let rest = others (omega (arith, less)) in
    ap (λ b. cond b (line_before [] (text_of bytes)) (onto byte (text_of bytes).lines (text_of bytes).tail)) e
    ∙ ap (λ (t : Text). onto byte t.lines t.tail) rest
    ∙ ap (λ n. line_before (take (suc (position_or_len is_end bytes)) (byte ∷ bytes)) (text_of (drop n (byte ∷ bytes))))
    (let same : suc (position_or_len is_end bytes + 1) ≡ suc (position_or_len is_end bytes) + 1 = omega arith in same)
    ∙ ap (λ n. line_before (take n (byte ∷ bytes)) (text_of (drop (n + 1) (byte ∷ bytes)))) (sym later)

pub text-line : (bytes : List ℕ) → IsLine bytes
text-line [] h = absurd (omega (arith, h))
text-line (byte ∷ bytes) h = line_by byte bytes (text-line bytes) (is_end byte) refl h

-- a text without one
abbrev pub IsTail : List ℕ → Type 0
IsTail bytes = length bytes ≤ position_or_len is_end bytes → text_of bytes ≡ record { lines = []; tail = bytes }

tail_by : (byte : ℕ) (bytes : List ℕ) → IsTail bytes → (b : Bool) → is_end byte ≡ b → IsTail (byte ∷ bytes)
tail_by byte bytes others true e h =
    let long : suc (length bytes) ≤ 0 = subst (λ n. suc (length bytes) ≤ n) (first_passes byte bytes e) h in
    absurd (omega (arith, long))
tail_by byte bytes others false e h =
    let long : suc (length bytes) ≤ suc (position_or_len is_end bytes) = subst (λ n. suc (length bytes) ≤ n) (later_passes byte bytes e) h in
    ap (λ b. cond b (line_before [] (text_of bytes)) (onto byte (text_of bytes).lines (text_of bytes).tail)) e
    ∙ ap (λ (t : Text). onto byte t.lines t.tail) (others (omega (arith, long)))

pub text-tail : (bytes : List ℕ) → IsTail bytes
text-tail [] h = refl
text-tail (byte ∷ bytes) h = tail_by byte bytes (text-tail bytes) (is_end byte) refl h

-- the next line of a text that is cut at a line feed, and of one that isn't
pub next_line : (old new : Rest) (bytes before after : List ℕ) → old.text ≡ text_of bytes → IsCut 10 bytes (Some (before, after))
    → new.text ≡ text_of after → new.number ≡ suc old.number → IsNext old before true new
next_line old new bytes before after from cut to number =
    let whole = from ∙ text-line bytes cut.0 in (
      ap (λ (t : Text). t.lines) whole ∙ ap (λ line. line ∷ (text_of (after_first is_end bytes)).lines) (sym cut.1)
          ∙ ap (λ (bs : List ℕ). before ∷ (text_of bs).lines) (sym cut.2) ∙ ap (λ (t : Text). before ∷ t.lines) (sym to),
      ap (λ (t : Text). t.tail) whole ∙ ap (λ (bs : List ℕ). (text_of bs).tail) (sym cut.2) ∙ ap (λ (t : Text). t.tail) (sym to),
      number,
    )

pub no_next_line : (old new : Rest) (bytes : List ℕ) → old.text ≡ text_of bytes → IsCut 10 bytes None → IsNext old bytes false new
no_next_line old new bytes from cut =
    let whole = from ∙ text-tail bytes cut in
    (ap (λ (t : Text). t.lines) whole, ap (λ (t : Text). t.tail) whole)

-- what is answered of a line
pub line_read : {X : Type 0} (form : Form X) (old new : Rest) (bytes : List ℕ) (fed : Bool) (read : Result X ReportCause) (left : Words)
    (answer : Result X ReportError) → IsNext old bytes fed new → form (words bytes) ≡ found read left → answer ≡ line_answer fed old.number read
    → a_line form old ≡ line_found answer new
line_read {X} form old new bytes true read left answer next said given =
    ap (λ lines. line_at form old.number lines old.text.tail) next.0
    ∙ ap (λ r. with_read {Y = X × Rest} old.number (λ x. Ok (x, behind old.number new.text.lines old.text.tail)) r) said
    ∙ by_answer read answer given
  where
    same : behind old.number new.text.lines old.text.tail ≡ new
    same = ap (λ tail. behind old.number new.text.lines tail) next.1 ∙ ap (λ (n : ℕ). record new { number = n }) (sym next.2)

    by_answer : (read : Result X ReportCause) (answer : Result X ReportError) → answer ≡ line_answer true old.number read
        → with_read {Y = X × Rest} old.number (λ x. Ok (x, behind old.number new.text.lines old.text.tail)) (found read left) ≡ line_found answer new
    by_answer (Ok x) answer g = ap (λ (r : Rest). Ok (x, r)) same ∙ ap (λ a. line_found a new) (sym g)
    by_answer (Err cause) answer g = ap (λ a. line_found a new) (sym g)
line_read {X} form old new bytes false read left answer next said given =
    ap (λ lines. line_at form old.number lines old.text.tail) next.0
    ∙ ap (λ tail. cut_off {Y = X × Rest} old.number (form (words tail))) next.1
    ∙ ap (λ r. cut_off {Y = X × Rest} old.number r) said
    ∙ by_answer read answer given
  where
    by_answer : (read : Result X ReportCause) (answer : Result X ReportError) → answer ≡ line_answer false old.number read
        → cut_off {Y = X × Rest} old.number (found read left) ≡ line_found answer new
    by_answer (Ok x) answer g = ap (λ a. line_found a new) (sym g)
    by_answer (Err cause) answer g = ap (λ a. line_found a new) (sym g)

-- the text ends, or goes on
pub end_of_text : (r : Report) (number : ℕ) (bytes : List ℕ) (answer : Result (Unit {0}) ReportError) → answer ≡ Ok tt → length bytes ≡ 0
    → ended r number (text_of bytes).lines (text_of bytes).tail ≡ with_end r answer
end_of_text r number [] answer is none = ap (with_end r) (sym is)
end_of_text r number (byte ∷ bytes) answer is none = absurd (omega (arith, none))

pub text_goes_on : (r : Report) (number : ℕ) (bytes : List ℕ) → 0 < length bytes
    → ended r number (text_of bytes).lines (text_of bytes).tail ≡ refused number causes.Form
text_goes_on r number [] some = absurd (omega (arith, some))
text_goes_on r number (byte ∷ bytes) some = by_test (byte == 10) refl
  where
    by_lines : (lines : List (List ℕ)) (tail : List ℕ) → ended r number (onto byte lines tail).lines (onto byte lines tail).tail ≡ refused number causes.Form
    by_lines [] tail = refl
    by_lines (line ∷ lines) tail = refl

    by_test : (b : Bool) → (byte == 10) ≡ b
        → ended r number (text_of (byte ∷ bytes)).lines (text_of (byte ∷ bytes)).tail ≡ refused number causes.Form
    by_test true e = ap (λ b. let t = cond b (line_before [] (text_of bytes)) (onto byte (text_of bytes).lines (text_of bytes).tail) in ended r number t.lines t.tail) e
    by_test false e =
        ap (λ b. let t = cond b (line_before [] (text_of bytes)) (onto byte (text_of bytes).lines (text_of bytes).tail) in ended r number t.lines t.tail) e
        ∙ by_lines (text_of bytes).lines (text_of bytes).tail
