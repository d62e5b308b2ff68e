-- For the clauses of `Parts::{name, declared_name, running_number}`, and of `trace` of `lines`:
-- Forms, by what they read.
use Rattle.std.proofs.Common.{◌≡◌, ℕ, ◌≤◌, Bool, true, false, cond, eqb, List, [], ◌∷◌, ◌++◌, length, refl, sym, ap, ◌∙◌, le-leb}
use Rattle.std.specs.Prelude.{Option, Some, None, is_some, ok_or, Ok, Err}
use Rattle.std.specs.Str.Parse.{digits_value}
use Rattle.vg_model.specs.Name.{IsName, is_name}
use Rattle.vg_report.specs.declared.errors.ReportCause.{ReportCause}
use Rattle.vg_report.specs.declared.errors.ReportCause.TheVariants as causes
use Rattle.vg_report.specs.Answers.{found}
use Rattle.vg_report.specs.Forms.{Words, read_on, ◌>>=◌, gives, only_where, a_word, a_word_of, or_else, a_running_number, a_declared_name, longest_trace, with_names}
use Rattle.vg_report.specs.Lawful.{number_of}
use Rattle.vg_report.specs.Words.{is_decimal, number_within, name_of}
use Rattle.vg_report.proofs.WordLemmas.{only_number, no_only_number, named}

-- a word of a class
class_value : {X : Type 0} (o : Option X) (cause : ReportCause) (behind : Words) → or_else o cause behind ≡ found (ok_or o cause) behind
class_value (Some x) cause behind = refl
class_value None cause behind = refl

pub class_read : {X : Type 0} (class : List ℕ → Option X) (cause : ReportCause) (words behind : Words) (word : List ℕ) (o : Option X)
    → a_word words ≡ Ok (word, behind) → class word ≡ o → a_word_of class cause words ≡ found (ok_or o cause) behind
class_read class cause words behind word o read value =
    ap (λ r. read_on r (λ word. or_else (class word) cause)) read ∙ ap (λ o. or_else o cause behind) value ∙ class_value o cause behind

-- a word is the next one, and these stand behind it
pub record IsNextWord (words behind : Words) (word : List ℕ) : Type 0 where
  pub read : a_word words ≡ Ok (word, behind)

-- the running number that is next, and another word
running : {words behind : Words} {word : List ℕ} (next : ℕ) → IsNextWord words behind word
    → a_running_number next words ≡ read_on (only_where (is_decimal word) causes.Number behind) (λ _. only_where (eqb (digits_value 10 word) next) causes.Order)
running next at = ap (λ r. read_on r (λ word. only_where (is_decimal word) causes.Number >>= (λ _. only_where (eqb (digits_value 10 word) next) causes.Order))) at.read

pub running_read : {words behind : Words} {word : List ℕ} (next n : ℕ) → IsNextWord words behind word → Some n ≡ number_within next next word
    → a_running_number next words ≡ Ok (tt, behind)
running_read {words} {behind} {word} next n at found =
    let is = only_number next n word found in
    running next at
    ∙ ap (λ b. read_on (only_where b causes.Number behind) (λ _. only_where (eqb (digits_value 10 word) next) causes.Order)) is.0
    ∙ ap (λ b. only_where b causes.Order behind) is.1

pub running_missed : {words behind : Words} {word : List ℕ} (next : ℕ) → IsNextWord words behind word → None ≡ number_within next next word
    → a_running_number next words ≡ Err (cond (is_decimal word) causes.Order causes.Number)
running_missed {words} {behind} {word} next at missed = running next at ∙ by_test (is_decimal word) refl
  where
    by_test : (b : Bool) → is_decimal word ≡ b
        → read_on (only_where b causes.Number behind) (λ _. only_where (eqb (digits_value 10 word) next) causes.Order) ≡ Err (cond b causes.Order causes.Number)
    by_test true e = ap (λ b. only_where b causes.Order behind) (no_only_number next word missed e)
    by_test false e = refl

-- a word that is a name among these, and another
declared : {words behind : Words} {word : List ℕ} (names : List (List ℕ)) (o : Option (List ℕ)) → IsNextWord words behind word → name_of word ≡ o
    → a_declared_name names words ≡ read_on (found (ok_or o causes.Unknown) behind) (λ name. only_where (is_some (number_of names name)) causes.Unknown >>= (λ _. gives name))
declared {words} {behind} {word} names o at is =
    ap (λ r. read_on r (λ name. only_where (is_some (number_of names name)) causes.Unknown >>= (λ _. gives name)))
    (class_read name_of causes.Unknown words behind word o at.read is)

pub declared_read : {words behind : Words} {word : List ℕ} (names : List (List ℕ)) (place : ℕ) → IsNextWord words behind word → IsName word
    → Some place ≡ number_of names word → a_declared_name names words ≡ Ok (word, behind)
declared_read {words} {behind} {word} names place at is found =
    declared names (Some word) at (ap (λ b. cond b (Some word) None) (named word is))
    ∙ ap (λ o. read_on (only_where (is_some o) causes.Unknown behind) (λ _. gives word)) (sym found)

pub declared_missed : {words behind : Words} {word : List ℕ} (names : List (List ℕ)) → IsNextWord words behind word
    → None ≡ number_of names word → a_declared_name names words ≡ Err causes.Unknown
declared_missed {words} {behind} {word} names at none = by_test (is_name word) refl
  where
    by_test : (b : Bool) → is_name word ≡ b → a_declared_name names words ≡ Err causes.Unknown
    by_test true e =
        declared names (Some word) at (ap (λ b. cond b (Some word) None) e)
        ∙ ap (λ o. read_on (only_where (is_some o) causes.Unknown behind) (λ _. gives word)) (sym none)
    by_test false e = declared names None at (ap (λ b. cond b (Some word) None) e)

-- a trace with a node too many
pub too_many_names : (declared names : List (List ℕ)) (words : Words) → longest_trace ≤ length names → (words ≡ [] → ⊥)
    → with_names declared names words ≡ Err causes.Form
too_many_names declared names [] many some = absurd (some refl)
too_many_names declared names (word ∷ words) many some =
    ap (λ b. cond b (Err causes.Form) (read_on (a_declared_name declared (word ∷ [])) (λ name _. with_names declared (names ++ name ∷ []) words)))
    (le-leb longest_trace (length names) many)
