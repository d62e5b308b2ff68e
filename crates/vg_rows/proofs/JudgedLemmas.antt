-- For the clause of `run_rows`: one row more.
use Rattle.std.proofs.Common.{◌≡◌, ℕ, ◌+◌, ◌<◌, List, [], ◌∷◌, ◌++◌, length, get_or, take, sym, subst}
use Rattle.std.specs.List.{AllZip}
use Rattle.std.proofs.lemmas.List.{take_more}
use Rattle.vg_row.specs.declared.judging.Judged.{Judged}
use Rattle.vg_row.specs.declared.rows.Row.{Row}
use Rattle.vg_rows.specs.Run.{AreJudged, IsJudged}

-- one more on both sides
one_more : (rows : List Row) (judged : List Judged) (row : Row) (more : Judged) → AreJudged rows judged → IsJudged row more → AreJudged (rows ++ row ∷ []) (judged ++ more ∷ [])
one_more [] [] row more all one = (one, tt)
one_more [] (j ∷ js) row more all one = absurd all
one_more (r ∷ rs) [] row more all one = absurd all
one_more (r ∷ rs) (j ∷ js) row more all one = (all.0, one_more rs js row more all.1 one)

-- the row of the next number
pub judged_more : (rows : List Row) (i : ℕ) (row : Row) (before after : List Judged) (more : Judged)
    → i < length rows → row ≡ get_or rows i row → AreJudged (take i rows) before → IsJudged row more → after ≡ before ++ more ∷ [] → AreJudged (take (i + 1) rows) after
judged_more rows i row before after more below read so_far is are =
    subst (λ js. AreJudged (take (i + 1) rows) js) (sym are)
    (subst (λ rs. AreJudged rs (before ++ more ∷ [])) (sym (take_more rows i row below))
    (one_more (take i rows) before (get_or rows i row) more so_far (subst (λ r. IsJudged r more) read is)))
