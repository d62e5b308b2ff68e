-- For the clauses of `Plan::{generation_of, limit, limits}`, and for `limits_are_fronts`: counting the elements of a list that pass a test.
use Rattle.std.proofs.Common.{◌≡◌, ℕ, zero, suc, ◌+◌, ◌<◌, ◌≤◌, ◌⊎◌, inl, inr, Bool, true, false, cond, List, [], ◌∷◌, length, map, get_or, refl, sym, ap, ◌∙◌, arith, true≢false}
use Rattle.std.specs.Prelude.{count_by}
use Rattle.std.specs.List.Sorted.{IsPartitionedBy, IsPartitionPoint}
use Rattle.std.proofs.lemmas.List.Sums.{sum_by-cons}

-- the count of a list with one more element
count_cons : {X : Type 0} (p : X → Bool) (x : X) (xs : List X) (b : Bool) → p x ≡ b → count_by p (x ∷ xs) ≡ cond b 1 0 + count_by p xs
count_cons p x xs b e = sum_by-cons (λ x. cond (p x) 1 0) x xs ∙ ap (λ b. cond b 1 0 + count_by p xs) e

-- what a list's elements are counted for, made of those of another list
pub count_by-map : {X Y : Type 0} (f : X → Y) (p : Y → Bool) (xs : List X) → count_by p (map f xs) ≡ count_by (λ x. p (f x)) xs
count_by-map f p [] = refl
count_by-map f p (x ∷ xs) =
    count_cons p (f x) (map f xs) (p (f x)) refl ∙ (ap (λ n. cond (p (f x)) 1 0 + n) (count_by-map f p xs) ∙ sym (count_cons (λ x. p (f x)) x xs (p (f x)) refl))

-- a test that passes the first elements alone, so many as this, passes so many
pub count_of_front : {X : Type 0} (p : X → Bool) (xs : List X) (n : ℕ) → n ≤ length xs
    → ((i : ℕ) (d : X) → i < n → p (get_or xs i d) ≡ true) → ((i : ℕ) (d : X) → n ≤ i → i < length xs → p (get_or xs i d) ≡ false) → count_by p xs ≡ n
count_of_front p [] n few passes fails = omega arith
count_of_front p (x ∷ xs) zero few passes fails =
    let rest = count_of_front p xs zero (omega arith) (λ i d h. absurd (omega arith)) (λ i d from below. fails (suc i) d (omega arith) (omega arith)) in
    count_cons p x xs false (fails 0 x (omega arith) (omega arith)) ∙ omega (arith, rest)
count_of_front p (x ∷ xs) (suc n) few passes fails =
    let rest = count_of_front p xs n (omega arith) (λ i d h. passes (suc i) d (omega arith)) (λ i d from below. fails (suc i) d (omega arith) (omega arith)) in
    count_cons p x xs true (passes 0 x (omega arith)) ∙ omega (arith, rest)

-- where a test passes the first elements alone, it passes just those below the count
pub passes_below : {X : Type 0} (p : X → Bool) (xs : List X) → IsPartitionedBy p xs
    → (i : ℕ) (d : X) → i < length xs → ((p (get_or xs i d) ≡ true) × (i < count_by p xs)) ⊎ ((p (get_or xs i d) ≡ false) × (count_by p xs ≤ i))
passes_below {X} p [] parted i d below = absurd (omega arith)
passes_below {X} p (x ∷ xs) parted i d below =
    by_first (λ j h. passes_below p xs (λ i j d le below passes. parted (suc i) (suc j) d (omega arith) (omega arith) passes) j d h) (p x) refl i below
  where
    none : p x ≡ false → (j : ℕ) (e : X) → j < length xs → p (get_or xs j e) ≡ false
    none first j e h = by_test (p (get_or xs j e)) refl
      where
        by_test : (b : Bool) → p (get_or xs j e) ≡ b → p (get_or xs j e) ≡ false
        by_test true passes = absurd (true≢false (sym (parted 0 (suc j) e (omega arith) (omega arith) passes) ∙ first))
        by_test false fails = fails

    by_first : ((j : ℕ) → j < length xs → ((p (get_or xs j d) ≡ true) × (j < count_by p xs)) ⊎ ((p (get_or xs j d) ≡ false) × (count_by p xs ≤ j)))
        → (b : Bool) → p x ≡ b → (i : ℕ) → i < suc (length xs)
        → ((p (get_or (x ∷ xs) i d) ≡ true) × (i < count_by p (x ∷ xs))) ⊎ ((p (get_or (x ∷ xs) i d) ≡ false) × (count_by p (x ∷ xs) ≤ i))
    by_first rest true e zero h = inl (e, omega (arith, count_cons p x xs true e))
    by_first rest true e (suc i) h = elim (rest i (omega arith)) [
      | inl passes ↦ inl (passes.0, omega (arith, count_cons p x xs true e, passes.1))
      | inr fails ↦ inr (fails.0, omega (arith, count_cons p x xs true e, fails.1))
    ]
    by_first rest false e i h = inr (none_below i h, omega (arith, count_cons p x xs false e, nothing))
      where
        none_below : (i : ℕ) → i < suc (length xs) → p (get_or (x ∷ xs) i d) ≡ false
        none_below zero h = e
        none_below (suc i) h = none e i d (omega arith)

        nothing : count_by p xs ≡ 0
        nothing = count_of_front p xs 0 (omega arith) (λ i d h. absurd (omega arith)) (λ i d from below. none e i d below)

-- the place where a test fails longer passes is the count of what passes
pub count_at_point : {X : Type 0} (p : X → Bool) (xs : List X) (n : ℕ) → n ≤ length xs → IsPartitionPoint (λ y. p y ≡ true) (λ y. p y ≡ false) xs n → n ≡ count_by p xs
count_at_point p xs n few point = sym (count_of_front p xs n few (λ i d below. point.0 i d (omega arith) below) (λ i d from below. point.1 i d from below))

-- a test that passes more counts more
pub count_by-le : {X : Type 0} (p q : X → Bool) (xs : List X) → ((x : X) → p x ≡ true → q x ≡ true) → count_by p xs ≤ count_by q xs
count_by-le p q [] more = omega arith
count_by-le p q (x ∷ xs) more = by_test (p x) refl (count_by-le p q xs more)
  where
    by_test : (b : Bool) → p x ≡ b → count_by p xs ≤ count_by q xs → count_by p (x ∷ xs) ≤ count_by q (x ∷ xs)
    by_test true e rest = omega (arith, count_cons p x xs true e, count_cons q x xs true (more x e))
    by_test false e rest = by_other (q x) refl
      where
        by_other : (c : Bool) → q x ≡ c → count_by p (x ∷ xs) ≤ count_by q (x ∷ xs)
        by_other true h = omega (arith, count_cons p x xs false e, count_cons q x xs true h)
        by_other false h = omega (arith, count_cons p x xs false e, count_cons q x xs false h)
