-- For the clauses of `add_counts` and `add_rows`: counts that are added place by place.
use Rattle.std.proofs.Common.{◌≡◌, ℕ, ◌+◌, ◌<◌, ◌≤◌, List, [], length, get_or, refl, sym, ap, ◌∙◌, arith, inl, inr}
use Rattle.std.specs.Prelude.{All}
use Rattle.std.proofs.Math.ListN.{set}
use Rattle.std.proofs.lemmas.List.{get_or-set_same, get_or-set_other, get_or_past}
use Rattle.std.proofs.lemmas.List.Elements.{All-set}
use Rattle.std.proofs.lemmas.Bool.{cases_lt, cases_eq}
use Rattle.vg_counters.specs.Tally.{count_of_errors, drops_at}

-- counts to which more was added below a place
pub record AreAddedBelow (place : ℕ) (more before counts : List ℕ) : Type 0 where
  pub below : (k : ℕ) → k < place → get_or counts k 0 ≡ get_or before k 0 + get_or more k 0
  pub rest : (k : ℕ) → place ≤ k → get_or counts k 0 ≡ get_or before k 0

-- to none
pub added_none : (more before : List ℕ) → AreAddedBelow 0 more before before
added_none more before = record { below = λ k h. absurd (omega (arith, h)); rest = λ k h. refl }

-- and to one more
pub added_more : (place sum : ℕ) (more before counts : List ℕ) → place < length counts → sum ≡ get_or counts place 0 + get_or more place 0
    → AreAddedBelow place more before counts → AreAddedBelow (place + 1) more before (set counts place sum)
added_more place sum more before counts inside is added = record {
  below = λ k h. elim (cases_eq k place) [
    | inl same ↦ at k same
    | inr other ↦ get_or-set_other counts place k sum 0 other ∙ added.below k (omega (arith, h, other))
  ];
  rest = λ k h. get_or-set_other counts place k sum 0 (λ same. omega (arith, same, h)) ∙ added.rest k (omega (arith, h));
}
  where
    at : (k : ℕ) → k ≡ place → get_or (set counts place sum) k 0 ≡ get_or before k 0 + get_or more k 0
    at k same =
        ap (λ n. get_or (set counts place sum) n 0) same ∙ get_or-set_same counts place sum 0 inside ∙ is
        ∙ ap (λ n. n + get_or more place 0) (added.rest place (omega arith)) ∙ ap (λ n. get_or before n 0 + get_or more n 0) (sym same)

-- and to all
pub added_all : (place : ℕ) (more before counts : List ℕ) → length more ≤ place → AreAddedBelow place more before counts
    → (k : ℕ) → get_or counts k 0 ≡ get_or before k 0 + get_or more k 0
added_all place more before counts all added k = elim (cases_lt k place) [
  | inl below ↦ added.below k below
  | inr above ↦ omega (arith, added.rest k above, get_or_past more k 0 (omega (arith, all, above)))
]

-- rows to which more was added below one
pub record AreRowsAddedBelow (node : ℕ) (more before rows : List (List ℕ)) : Type 0 where
  pub below : (n error : ℕ) → n < node → drops_at n error rows ≡ drops_at n error before + drops_at n error more
  pub rest : (n : ℕ) → node ≤ n → get_or rows n [] ≡ get_or before n []
  pub errors : All (λ row. length row ≡ count_of_errors) before → All (λ row. length row ≡ count_of_errors) rows

-- to none
pub rows_added_none : (more before : List (List ℕ)) → AreRowsAddedBelow 0 more before before
rows_added_none more before = record { below = λ n e h. absurd (omega (arith, h)); rest = λ n h. refl; errors = λ all. all }

-- and to one more
pub rows_added_more : (node : ℕ) (row : List ℕ) (more before rows : List (List ℕ)) → node < length rows
    → ((error : ℕ) → get_or row error 0 ≡ drops_at node error rows + drops_at node error more) → length row ≡ count_of_errors
    → AreRowsAddedBelow node more before rows → AreRowsAddedBelow (node + 1) more before (set rows node row)
rows_added_more node row more before rows inside is size added = record {
  below = λ n e h. elim (cases_eq n node) [
    | inl same ↦ at n e same
    | inr other ↦ ap (λ r. get_or r e 0) (get_or-set_other rows node n row [] other) ∙ added.below n e (omega (arith, h, other))
  ];
  rest = λ n h. get_or-set_other rows node n row [] (λ same. omega (arith, same, h)) ∙ added.rest n (omega (arith, h));
  errors = λ all. All-set (λ r. length r ≡ count_of_errors) rows node row size (added.errors all);
}
  where
    at : (n e : ℕ) → n ≡ node → drops_at n e (set rows node row) ≡ drops_at n e before + drops_at n e more
    at n e same =
        ap (λ k. drops_at k e (set rows node row)) same ∙ ap (λ r. get_or r e 0) (get_or-set_same rows node row [] inside) ∙ is e
        ∙ ap (λ r. get_or r e 0 + drops_at node e more) (added.rest node (omega arith)) ∙ ap (λ k. drops_at k e before + drops_at k e more) (sym same)

-- and to all
pub rows_added_all : (node : ℕ) (more before rows : List (List ℕ)) → length more ≤ node → AreRowsAddedBelow node more before rows
    → (n e : ℕ) → drops_at n e rows ≡ drops_at n e before + drops_at n e more
rows_added_all node more before rows all added n e = elim (cases_lt n node) [
  | inl below ↦ added.below n e below
  | inr above ↦
      omega (arith, ap (λ r. get_or r e 0) (added.rest n above), ap (λ r. get_or r e 0) (get_or_past more n [] (omega (arith, all, above))))
]
