-- For the clause of `read_report`, and for `read_is_lawful`:
-- The first five lines.
use Rattle.std.proofs.Common.{◌≡◌, ◌≢◌, ℕ, ◌≤◌, List, [], ◌∷◌, ◌++◌, map, refl, sym, ap, subst, ◌∙◌, arith}
use Rattle.std.proofs.lemmas.List.Splits.{join_with_byte-slice_split}
use Rattle.std.specs.List.{join_with_byte}
use Rattle.std.specs.Prelude.{Result, Ok, Err, codes}
use Rattle.vg_report.specs.declared.errors.ReportCause.{ReportCause}
use Rattle.vg_report.specs.declared.errors.ReportCause.TheVariants as causes
use Rattle.vg_report.specs.declared.errors.ReportError.{ReportError}
use Rattle.vg_report.specs.declared.reading.Head.{Head}
use Rattle.vg_report.specs.declared.reports.Report.{Report}
use Rattle.vg_report.specs.Answers.{IsHead}
use Rattle.vg_report.specs.Forms.{Words, Form, title_form, count_form}
use Rattle.vg_report.specs.Reading.{Rest, with_read, cut_off, behind, line_at, a_line, then_lines, head_of, IsRefusal, Answers, report_behind}
use Rattle.vg_report.specs.Text.{Line, first_line, count_line}
use Rattle.vg_report.specs.Words.{words}
use Rattle.vg_report.proofs.LineShows.{shown_title, shown_count}
use Rattle.vg_report.proofs.ShowLemmas.{Shown}

-- a value and the rest behind it have this property, or the cause isn't want of memory
abbrev pub ShownAt : {X : Type 0} → (X → Rest → Type 0) → Result (X × Rest) ReportError → Type 0
ShownAt Q (Ok found) = Q found.0 found.1
ShownAt Q (Err error) = error.cause ≢ causes.Memory

shown_at_then : {X Y : Type 0} (P : X → Rest → Type 0) (Q : Y → Rest → Type 0) (next : X → Rest → Result (Y × Rest) ReportError) (r : Result (X × Rest) ReportError)
    → ShownAt P r → ((x : X) (rest : Rest) → P x rest → ShownAt Q (next x rest)) → ShownAt Q (then_lines r next)
shown_at_then P Q next (Ok found) p k = k found.0 found.1 p
shown_at_then P Q next (Err error) p k = p

-- the text of a line without its line feed
abbrev pub joined_text : Line → List ℕ
joined_text ws = join_with_byte 32 ws

-- a line of these words stands in front of the rest
pub record IsBehind (rest : Rest) (ws : Line) (next : Rest) : Type 0 where
  pub lines : rest.text.lines ≡ joined_text ws ∷ next.text.lines
  pub tail : rest.text.tail ≡ next.text.tail

-- a line of a form
shown_line : {X : Type 0} (form : Form X) (write : X → Line) (P : X → Type 0) → ((ws : Words) → Shown (λ x left. (ws ≡ write x) × P x) (form ws)) → (rest : Rest)
    → ShownAt (λ x next. IsBehind rest (write x) next × P x) (a_line form rest)
shown_line {X} form write P h rest = by_lines rest.text.lines refl
  where
    by_read : (line : List ℕ) (lines : List (List ℕ)) → rest.text.lines ≡ line ∷ lines → (r : Result (X × Words) ReportCause) → Shown (λ x left. (words line ≡ write x) × P x) r
        → ShownAt (λ x next. IsBehind rest (write x) next × P x) (with_read rest.number (λ x. Ok (x, behind rest.number lines rest.text.tail)) r)
    by_read line lines e (Ok found) p =
        (record { lines = e ∙ ap (λ l. l ∷ lines) (sym (join_with_byte-slice_split 32 line) ∙ ap (join_with_byte 32) p.0); tail = refl }, p.1)
    by_read line lines e (Err cause) p = p

    by_tail : (r : Result (X × Words) ReportCause) → Shown (λ x left. (words rest.text.tail ≡ write x) × P x) r
        → ShownAt (λ (x : X) next. IsBehind rest (write x) next × P x) (cut_off rest.number r)
    by_tail (Ok found) p = λ k. cc
    by_tail (Err cause) p = p

    by_lines : (lines : List (List ℕ)) → rest.text.lines ≡ lines → ShownAt (λ x next. IsBehind rest (write x) next × P x) (line_at form rest.number lines rest.text.tail)
    by_lines (line ∷ lines) e = by_read line lines e (form (words line)) (h (words line))
    by_lines [] e = by_tail (form (words rest.text.tail)) (h (words rest.text.tail))

title_line : (ws : Words) → Shown (λ x left. (ws ≡ first_line) × Unit {0}) (title_form ws)
title_line ws = weaker (title_form ws) (shown_title ws)
  where
    weaker : (r : Result (Unit {0} × Words) ReportCause) → Shown (λ x left. ws ≡ codes "vgd" ∷ codes "report" ∷ codes "1" ∷ []) r → Shown (λ x left. (ws ≡ first_line) × Unit {0}) r
    weaker (Ok found) p = (p, tt)
    weaker (Err cause) p = p

abbrev IsWithin : (least most : ℕ) → ℕ → Type 0
IsWithin least most n = (least ≤ n) × (n ≤ most)

-- what the first five lines are of a head
abbrev pub head_words : Head → List Line
head_words head =
    first_line
    ∷ count_line (codes "workers") head.workers
    ∷ count_line (codes "buffers") head.buffers
    ∷ count_line (codes "generations") head.generations
    ∷ count_line (codes "packets") head.packets
    ∷ []

pub record IsHeadOf (rest : Rest) (head : Head) (next : Rest) : Type 0 where
  pub within : IsHead head
  pub lines : rest.text.lines ≡ map joined_text (head_words head) ++ next.text.lines
  pub tail : rest.text.tail ≡ next.text.tail

five_lines : (r0 r1 r2 r3 r4 r5 : Rest) (a b c d e : Line) → IsBehind r0 a r1 → IsBehind r1 b r2 → IsBehind r2 c r3 → IsBehind r3 d r4 → IsBehind r4 e r5
    → (r0.text.lines ≡ joined_text a ∷ joined_text b ∷ joined_text c ∷ joined_text d ∷ joined_text e ∷ r5.text.lines) × (r0.text.tail ≡ r5.text.tail)
five_lines r0 r1 r2 r3 r4 r5 a b c d e h1 h2 h3 h4 h5 = (
  h1.lines ∙ ap (λ l. joined_text a ∷ l) (h2.lines ∙ ap (λ l. joined_text b ∷ l) (h3.lines ∙ ap (λ l. joined_text c ∷ l) (h4.lines ∙ ap (λ l. joined_text d ∷ l) h5.lines))),
  h1.tail ∙ h2.tail ∙ h3.tail ∙ h4.tail ∙ h5.tail,
)

pub shown_head : (rest : Rest) → ShownAt (IsHeadOf rest) (head_of rest)
shown_head r0 =
    shown_at_then (λ x next. IsBehind r0 first_line next × Unit {0}) (IsHeadOf r0) _ (a_line title_form r0) (shown_line title_form (λ x. first_line) (λ x. Unit {0}) title_line r0) (λ x r1 h1.
    shown_at_then (λ n next. IsBehind r1 (count_line (codes "workers") n) next × IsWithin 1 8 n) (IsHeadOf r0) _ (a_line (count_form (codes "workers") 1 8) r1)
    (shown_line (count_form (codes "workers") 1 8) (count_line (codes "workers")) (IsWithin 1 8) (shown_count (codes "workers") 1 8 (omega arith)) r1) (λ workers r2 h2.
    shown_at_then (λ n next. IsBehind r2 (count_line (codes "buffers") n) next × IsWithin 0 16384 n) (IsHeadOf r0) _ (a_line (count_form (codes "buffers") 0 16384) r2)
    (shown_line (count_form (codes "buffers") 0 16384) (count_line (codes "buffers")) (IsWithin 0 16384) (shown_count (codes "buffers") 0 16384 (omega arith)) r2) (λ buffers r3 h3.
    shown_at_then (λ n next. IsBehind r3 (count_line (codes "generations") n) next × IsWithin 1 1000 n) (IsHeadOf r0) _ (a_line (count_form (codes "generations") 1 1000) r3)
    (shown_line (count_form (codes "generations") 1 1000) (count_line (codes "generations")) (IsWithin 1 1000) (shown_count (codes "generations") 1 1000 (omega arith)) r3) (λ generations r4 h4.
    shown_at_then (λ n next. IsBehind r4 (count_line (codes "packets") n) next × IsWithin 0 65536 n) (IsHeadOf r0) _ (a_line (count_form (codes "packets") 0 65536) r4)
    (shown_line (count_form (codes "packets") 0 65536) (count_line (codes "packets")) (IsWithin 0 65536) (shown_count (codes "packets") 0 65536 (omega arith)) r4) (λ packets r5 h5.
    let all = five_lines r0 r1 r2 r3 r4 r5 first_line (count_line (codes "workers") workers) (count_line (codes "buffers") buffers) (count_line (codes "generations") generations)
    (count_line (codes "packets") packets) h1.0 h2.0 h3.0 h4.0 h5.0 in
    record {
      within = record { workers = (h2.1.0, h2.1.1); buffers = h3.1.1; generations = (h4.1.0, h4.1.1); packets = h5.1.1 };
      lines = all.0;
      tail = all.1;
    })))))

-- a refusal of the first five lines
refusal_is : (this : Result Report ReportError) (error : ReportError) → error.cause ≢ causes.Memory → this ≡ Err error → IsRefusal this error.line error.cause
refusal_is this error other e = by_cause error.line error.cause other e
  where
    by_cause : (line : ℕ) (cause : ReportCause) → cause ≢ causes.Memory → this ≡ Err (record { line = line; cause = cause }) → IsRefusal this line cause
    by_cause line causes.Memory other e = absurd (other refl)
    by_cause line causes.Form other e = e
    by_cause line causes.Number other e = e
    by_cause line causes.Unknown other e = e
    by_cause line causes.Order other e = e

pub head_refused : (start : Rest) (error : ReportError) → head_of start ≡ Err error → Answers (then_lines (head_of start) report_behind) (Err error)
head_refused start error e =
    refusal_is (then_lines (head_of start) report_behind) error (subst (ShownAt (IsHeadOf start)) e (shown_head start)) (ap (λ r. then_lines r report_behind) e)
