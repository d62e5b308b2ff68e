-- For the clauses of `Queue::{put, first, take_first, gather}`: how often places stand in the list of those that are due.
use Rattle.std.proofs.Common.{◌≡◌, ℕ, zero, suc, ◌+◌, ◌<◌, ◌≤◌, ◌⊎◌, List, [], ◌∷◌, length, false, cond, eqb, not, inl, inr, refl, ap, arith}
use Rattle.std.proofs.lemmas.Bool.{cases_eq, eq-eqb, ne_eqb}
use Rattle.std.proofs.lemmas.Bool.Decides.{nat_tests}
use Rattle.std.proofs.lemmas.List.Sums.{sum_by-cons}
use Rattle.std.specs.List.{filter, AllByRecursion as Rec}
use Rattle.std.specs.Ordering.{is_lt}
use Rattle.std.specs.declared.cmp.Reverse.{Reverse}
use Rattle.vg_process.specs.declared.queue.Turn.{Turn}
use Rattle.vg_process.specs.Queued.{listed, later_first}

-- one place or the other
abbrev pub at : ℕ → Reverse Turn → ℕ
at place t = cond (eqb t.0.place place) 1 0

pub listed-cons : (place : ℕ) (t : Reverse Turn) (ts : List (Reverse Turn)) → listed place (t ∷ ts) ≡ at place t + listed place ts
listed-cons place = sum_by-cons (at place)

pub at_same : (place : ℕ) (t : Reverse Turn) → t.0.place ≡ place → at place t ≡ 1
at_same place t same = rw (eq-eqb t.0.place place same) refl

pub at_other : (place : ℕ) (t : Reverse Turn) → (t.0.place ≡ place → ⊥) → at place t ≡ 0
at_other place t other = rw (ne_eqb t.0.place place other) refl

-- the top of the list comes before what is not above it
pub comes_first : (x y : Reverse Turn) → is_lt (later_first x y) ≡ false
    → (x.0.time < y.0.time) ⊎ ((x.0.time ≡ y.0.time) × (x.0.place ≤ y.0.place))
comes_first x y h = grind (arith, nat_tests)

-- a place that is listed stands there in a turn
pub found : (P Q : Reverse Turn → Type 0) (place : ℕ) (turns : List (Reverse Turn)) → Rec P turns → Rec Q turns → 0 < listed place turns
    → (t : Reverse Turn) × P t × Q t × (t.0.place ≡ place)
found P Q place [] ps qs some = absurd (omega arith)
found P Q place (t ∷ ts) ps qs some =
    elim (cases_eq t.0.place place) [
      | inl same ↦ (t, ps.0, qs.0, same)
      | inr other ↦ found P Q place ts ps.1 qs.1 (omega (arith, listed-cons place t ts, at_other place t other))
    ]

-- where a place is not listed, each turn is of another
pub not_listed : (place : ℕ) (turns : List (Reverse Turn)) → listed place turns ≡ 0 → Rec (λ t. t.0.place ≡ place → ⊥) turns
not_listed place [] none = tt
not_listed place (t ∷ ts) none =
    let count = listed-cons place t ts in
    (λ same. omega (arith, at_same place t same), not_listed place ts (omega (arith, count)))

-- the turns of other places
abbrev others : ℕ → List (Reverse Turn) → List (Reverse Turn)
others place = filter (λ t. not (eqb t.0.place place))

others-same : (place : ℕ) (t : Reverse Turn) (ts : List (Reverse Turn)) → t.0.place ≡ place → others place (t ∷ ts) ≡ others place ts
others-same place t ts same = rw (eq-eqb t.0.place place same) refl

others-other : (place : ℕ) (t : Reverse Turn) (ts : List (Reverse Turn)) → (t.0.place ≡ place → ⊥)
    → others place (t ∷ ts) ≡ t ∷ others place ts
others-other place t ts other = rw (ne_eqb t.0.place place other) refl

length-others : (place : ℕ) (turns : List (Reverse Turn)) → length turns ≡ listed place turns + length (others place turns)
length-others place [] = refl
length-others place (t ∷ ts) =
    let rest = length-others place ts in
    let count = listed-cons place t ts in
    elim (cases_eq t.0.place place) [
      | inl same ↦ omega (arith, ap length (others-same place t ts same), at_same place t same)
      | inr other ↦ omega (arith, ap length (others-other place t ts other), at_other place t other)
    ]

listed-others : (place other : ℕ) (turns : List (Reverse Turn)) → listed other (others place turns) ≤ listed other turns
listed-others place other [] = omega arith
listed-others place other (t ∷ ts) =
    let rest = listed-others place other ts in
    let count = listed-cons other t ts in
    elim (cases_eq t.0.place place) [
      | inl same ↦ omega (arith, ap (listed other) (others-same place t ts same))
      | inr apart ↦ omega (arith, ap (listed other) (others-other place t ts apart), listed-cons other t (others place ts))
    ]

listed-others_same : (place : ℕ) (turns : List (Reverse Turn)) → listed place (others place turns) ≡ 0
listed-others_same place [] = refl
listed-others_same place (t ∷ ts) =
    let rest = listed-others_same place ts in
    elim (cases_eq t.0.place place) [
      | inl same ↦ omega (arith, ap (listed place) (others-same place t ts same))
      | inr apart ↦
          omega (arith, ap (listed place) (others-other place t ts apart), listed-cons place t (others place ts), at_other place t apart)
    ]

-- places below a limit, none of them listed twice, are at most so many
pub few : (limit : ℕ) (turns : List (Reverse Turn)) → ((place : ℕ) → limit ≤ place → listed place turns ≡ 0)
    → ((place : ℕ) → listed place turns ≤ 1) → length turns ≤ limit
few zero [] none once = omega arith
few zero (t ∷ ts) none once = absurd (omega (arith, none t.0.place (omega arith), listed-cons t.0.place t ts, at_same t.0.place t refl))
few (suc m) turns none once =
    let rest = others m turns in
    let len = length-others m turns in
    let fewer : length rest ≤ m =
    few m rest
    (λ place le. elim (cases_eq place m) [
      | inl same ↦ rw same (listed-others_same m turns)
      | inr other ↦ omega (arith, listed-others m place turns, none place (omega arith))
    ])
    (λ place. omega (arith, listed-others m place turns, once place)) in
    omega (arith, once m)
