-- What comes of rows that are run.
use Rattle.std.specs.Prelude.{◌≡◌, ℕ, List, Option, None, is_none, is_some, IfSome, MatchOption, length, string_bytes}
use Rattle.std.specs.Borrow.{Bor}
use Rattle.std.specs.List.{AllZip}
use Rattle.vg_row.specs.Holds.{all_hold, can_check, IsCheckOf}
use Rattle.vg_row.specs.Names.{names_of, names_said}
use Rattle.vg_row.specs.declared.judging.Judged.{Judged}
use Rattle.vg_row.specs.declared.judging.Miss.{Miss}
use Rattle.vg_row.specs.declared.outcomes.Outcome.{Outcome}
use Rattle.vg_row.specs.declared.rows.Row.{Row}

-- the calls of a row were made, each with an outcome, and none is said to have missed exactly where all outcomes are as the row says
abbrev pub IsMissOf : Row → Option Miss → Type 0
IsMissOf row miss = (outcomes : List Outcome) × (length outcomes ≡ length row.calls.items) × (is_none miss ≡ all_hold row outcomes)

-- the same of the row of a check; where a row can't be checked, nothing missed
abbrev pub IsCheckMissOf : Row → Option Miss → Type 0
IsCheckMissOf row miss = (check : Option Row) × (is_some check ≡ can_check row) × IfSome check (IsCheckOf row)
    × MatchOption check (miss ≡ None) (λ check. IsMissOf check miss)

-- a row was run, and its check
abbrev pub IsJudged : Row → Judged → Type 0
IsJudged row judged = (string_bytes judged.name ≡ string_bytes row.name) × IsMissOf row judged.miss × IsCheckMissOf row judged.check_miss

-- each row was, in their order
abbrev pub AreJudged : List Row → List Judged → Type 0
AreJudged rows judged = AllZip IsJudged rows judged

-- the rows that lines say were run: one for each line that begins a row, in their order
abbrev pub RunsLines : List (Bor (List ℕ)) → List Judged → Type 0
RunsLines lines judged = (rows : List Row) × (names_of rows ≡ names_said lines) × AreJudged rows judged
