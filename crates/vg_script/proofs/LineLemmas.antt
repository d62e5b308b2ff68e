-- For `read_is_lawful` and `parse_script`: what a line does to what was read.
use Rattle.std.proofs.Common.{◌≡◌, ◌≢◌, ◌⊎◌, ℕ, Bool, true, false, not, List, [], ◌∷◌, refl, inl, inr}
use Rattle.std.specs.Prelude.{Option, Some, None, IfSome, Result, Ok, Err, ok_or}
use Rattle.std.specs.List.{list_all}
use Rattle.vg_script.specs.declared.errors.ScriptCause.{ScriptCause}
use Rattle.vg_script.specs.declared.errors.ScriptCause.TheVariants as causes
use Rattle.vg_script.specs.Keywords.{with_row}
use Rattle.vg_script.specs.Lines.{without_comment, is_allowed, words}
use Rattle.vg_script.specs.Reading.{Reading, ◌>>=◌, refused_if, may_stand, value_of, with_statement, with_words, with_line}
use Rattle.vg_script.specs.declared.statements.Statement.{Statement}
use Rattle.vg_script.specs.Statements.{Words, Row, row_of}
use Rattle.vg_script.proofs.AnswerLemmas.{IsAnswer, IsGoodStatement, IsGoodRow, row_answers, row_good}

-- a line says nothing, is at fault, or has a statement that a script can say
abbrev pub IsLine : ℕ → Reading → Result Reading ScriptCause → Type 0
IsLine number r next =
    (next ≡ Ok r) ⊎ (((cause : ScriptCause) × (cause ≢ causes.Memory) × (next ≡ Err cause))
    ⊎ ((statement : Statement) × IsGoodStatement statement × (next ≡ with_statement number r statement)))

fault : (number : ℕ) (r : Reading) (cause : ScriptCause) → cause ≢ causes.Memory → IsLine number r (Err cause)
fault number r cause other = inr (inl (cause, other, refl))

value_line : (number : ℕ) (r : Reading) (found : Result (Statement × Words) ScriptCause) → IsAnswer IsGoodStatement found
    → IsLine number r ((found >>= λ f. Ok f.0) >>= λ statement. with_statement number r statement)
value_line number r (Ok found) good = inr (inr (found.0, good, refl))
value_line number r (Err cause) other = fault number r cause other

stands_line : (number : ℕ) (r : Reading) (row : Row) (ws : Words) → IsGoodRow row → (b : Bool)
    → IsLine number r (refused_if (not b) causes.Block >>= λ _. value_of row.form ws >>= λ statement. with_statement number r statement)
stands_line number r row ws good true = value_line number r (row.form ws) (row_answers row good ws)
stands_line number r row ws good false = fault number r causes.Block (λ e. cc)

row_line : (number : ℕ) (r : Reading) (ws : Words) (o : Option Row) → IfSome o IsGoodRow
    → IsLine number r (ok_or o causes.Word >>= λ row. with_row number r row ws)
row_line number r ws (Some row) good = stands_line number r row ws good (may_stand row.place r.begun)
row_line number r ws None good = fault number r causes.Word (λ e. cc)

words_line : (number : ℕ) (r : Reading) (ws : Words) → IsLine number r (with_words number r ws)
words_line number r [] = inl refl
words_line number r (first ∷ others) = row_line number r others (row_of first) (row_good first)

pub is_line : (number : ℕ) (r : Reading) (bytes : List ℕ) → IsLine number r (with_line number r bytes)
is_line number r bytes = by_test (list_all is_allowed (without_comment bytes))
  where
    by_test : (b : Bool) → IsLine number r (refused_if (not b) causes.Bytes >>= λ _. with_words number r (words (without_comment bytes)))
    by_test true = words_line number r (words (without_comment bytes))
    by_test false = fault number r causes.Bytes (λ e. cc)
