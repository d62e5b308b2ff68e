-- For the laws of routes, and for `set` and `remove` of `Fib` and `Fib6`:
-- Lists: places, filters and edits.
use Rattle.std.proofs.Common.{◌≡◌, ℕ, zero, suc, ◌+◌, ◌<◌, Bool, true, false, cond, List, [], ◌∷◌, length, get_or, refl, ap, arith}
use Rattle.std.proofs.Math.ListN.{set}
use Rattle.std.specs.Prelude.{Some, None, remove}
use Rattle.std.specs.List.{position_from, filter, All, AllByRecursion}
use Rattle.std.proofs.lemmas.List.Elements.{All-from_recursion, recursion_from_All}

-- a place that was found: it is in the list, and what stands there passes
pub record IsFound {X : Type 0} (test : X → Bool) (start : ℕ) (xs : List X) (place : ℕ) (d : X) : Type 0 where
  pub index : ℕ
  pub is : place ≡ start + index
  pub within : index < length xs
  pub passes : test (get_or xs index d) ≡ true

-- what `position_from` finds, found in a longer list
pub found_later : {X : Type 0} (test : X → Bool) (start : ℕ) (x : X) (xs : List X) (place : ℕ) (d : X)
    → IsFound test (start + 1) xs place d → IsFound test start (x ∷ xs) place d
found_later test start x xs place d found =
    record { index = suc found.index; is = omega arith; within = omega arith; passes = found.passes }

-- what `position_from` finds
pub position_found : {X : Type 0} (test : X → Bool) (start : ℕ) (xs : List X) (place : ℕ) (d : X)
    → position_from test start xs ≡ Some place → IsFound test start xs place d
position_found test start [] place d e = absurd (let bad : ⊥ = cc in bad)
position_found test start (x ∷ xs) place d e =
    elim (test x) as (λ b. test x ≡ b → cond b (Some start) (position_from test (start + 1) xs) ≡ Some place
    → IsFound test start (x ∷ xs) place d) [
      | true ↦ λ is same. let here : start ≡ place = cc in
          record { index = 0; is = omega arith; within = omega arith; passes = is }
      | false ↦ λ is later. found_later test start x xs place d (position_found test (start + 1) xs place d later)
    ] refl e

-- where `position_from` finds nothing, nothing passes
pub position_none : {X : Type 0} (test : X → Bool) (start : ℕ) (xs : List X)
    → position_from test start xs ≡ None → AllByRecursion (λ x. test x ≡ false) xs
position_none test start [] e = tt
position_none test start (x ∷ xs) e =
    elim (test x) as (λ b. cond b (Some start) (position_from test (start + 1) xs) ≡ None
    → (b ≡ false) × AllByRecursion (λ x. test x ≡ false) xs) [
      | true ↦ λ same. absurd (let bad : ⊥ = cc in bad)
      | false ↦ λ later. (refl, position_none test (start + 1) xs later)
    ] e

-- a filter doesn't see that one element which it drops takes the place of another
pub filter-set : {X : Type 0} (test : X → Bool) (xs : List X) (i : ℕ) (y d : X)
    → test y ≡ false → test (get_or xs i d) ≡ false → filter test (set xs i y) ≡ filter test xs
filter-set test [] i y d new old = refl
filter-set test (x ∷ xs) zero y d new old = rw (new, old) refl
filter-set test (x ∷ xs) (suc i) y d new old =
    ap (λ rest. cond (test x) (x ∷ rest) rest) (filter-set test xs i y d new old)

-- a filter doesn't see that an element which it drops is taken out
pub filter-remove : {X : Type 0} (test : X → Bool) (xs : List X) (i : ℕ) (d : X)
    → i < length xs → test (get_or xs i d) ≡ false → filter test (remove xs i) ≡ filter test xs
filter-remove test [] i d within old = absurd (omega arith)
filter-remove test (x ∷ xs) zero d within old = rw old refl
filter-remove test (x ∷ xs) (suc i) d within old =
    ap (λ rest. cond (test x) (x ∷ rest) rest) (filter-remove test xs i d (omega arith) old)

-- what holds of all that a filter keeps
pub kept_by_recursion : {X : Type 0} (test : X → Bool) (P : X → Type 0) (xs : List X)
    → AllByRecursion P (filter test xs) → AllByRecursion (λ x. test x ≡ true → P x) xs
kept_by_recursion test P [] all = tt
kept_by_recursion test P (x ∷ xs) all =
    elim (test x) as (λ b. AllByRecursion P (cond b (x ∷ filter test xs) (filter test xs))
    → (b ≡ true → P x) × AllByRecursion (λ x. test x ≡ true → P x) xs) [
      | true ↦ λ each. ((λ is. each.0), kept_by_recursion test P xs each.1)
      | false ↦ λ each. ((λ is. absurd (let bad : ⊥ = cc in bad)), kept_by_recursion test P xs each)
    ] all

-- what holds of all that a filter keeps, holds of all that pass
pub All-from_filter : {X : Type 0} (test : X → Bool) (P : X → Type 0) (xs : List X)
    → All P (filter test xs) → All (λ x. test x ≡ true → P x) xs
All-from_filter test P xs all =
    All-from_recursion (λ x. test x ≡ true → P x) xs (kept_by_recursion test P xs (recursion_from_All P (filter test xs) all))

-- where nothing passes, a filter keeps nothing
pub filter_nothing : {X : Type 0} (test : X → Bool) (xs : List X)
    → AllByRecursion (λ x. test x ≡ true → ⊥) xs → filter test xs ≡ []
filter_nothing test [] none = refl
filter_nothing test (x ∷ xs) none =
    elim (test x) as (λ b. (b ≡ true → ⊥) → cond b (x ∷ filter test xs) (filter test xs) ≡ []) [
      | true ↦ λ not. absurd (not refl)
      | false ↦ λ not. filter_nothing test xs none.1
    ] none.0
