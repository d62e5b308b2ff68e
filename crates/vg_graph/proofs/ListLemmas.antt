-- For the edits of `Graph`, for `Search`, and for lists in vg_plan, vg_threads, vg_check and vg_reporting: lists that grow at their end or change in one place,
-- and names in them.
use Rattle.std.proofs.Common.{◌≡◌, ℕ, zero, suc, ◌+◌, ◌<◌, ◌≤◌, ◌⊎◌, inl, inr, Bool, true, false, cond, List, [], ◌∷◌, ◌++◌, length, refl, sym, ap, subst, ◌∙◌, arith, zero-add, length-append, length-set}
use Rattle.std.specs.Prelude.{Option, Some, None, Result, Ok, Err, slice_get, slice_set, map, nat_le, bytes_eq, if◌then◌else◌, replicate}
use Rattle.std.specs.List.{position_from, AllByRecursion, IsDistinct}
use Rattle.std.proofs.lemmas.Option.{none-some, same_Some}
use Rattle.std.proofs.lemmas.Slice.Eq.{bytes_eq-Decides}
use Rattle.std.proofs.lemmas.Bool.Decides.{nat_tests}
use Rattle.vg_model.specs.Edit.{Cause, TooMany, placed, place_of}

-- what is read in a list is read in a longer one
pub append_read : {X : Type 0} (xs ys : List X) (i : ℕ) (x : X) → slice_get xs i ≡ Some x → slice_get (xs ++ ys) i ≡ Some x
append_read [] ys i x e = absurd (none-some x e)
append_read (y ∷ xs) ys zero x e = e
append_read (y ∷ xs) ys (suc i) x e = append_read xs ys i x e

-- what is read in a list with one more element is in the list, or is that element
pub append_split : {X : Type 0} (xs : List X) (y : X) (i : ℕ) (x : X) → slice_get (xs ++ y ∷ []) i ≡ Some x
    → (slice_get xs i ≡ Some x) ⊎ ((i ≡ length xs) × (x ≡ y))
append_split [] y zero x e = inr (refl, sym (same_Some y x e))
append_split [] y (suc i) x e = absurd (none-some x e)
append_split (z ∷ xs) y zero x e = inl e
append_split (z ∷ xs) y (suc i) x e = elim (append_split xs y i x e) [ inl h ↦ inl h | inr h ↦ inr (ap suc h.0, h.1) ]

-- the element at the end
pub last_read : {X : Type 0} (xs : List X) (y : X) → slice_get (xs ++ y ∷ []) (length xs) ≡ Some y
last_read [] y = refl
last_read (x ∷ xs) y = last_read xs y

-- what follows from what holds of each element holds of each
pub all_weaken : {X : Type 0} (P Q : X → Type 0) → ((x : X) → P x → Q x) → (xs : List X) → AllByRecursion P xs → AllByRecursion Q xs
all_weaken P Q f [] all = tt
all_weaken P Q f (x ∷ xs) all = (f x all.0, all_weaken P Q f xs all.1)

-- what holds of each element and of one more
pub all_append : {X : Type 0} (P : X → Type 0) (xs : List X) (x : X) → AllByRecursion P xs → P x → AllByRecursion P (xs ++ x ∷ [])
all_append P [] x all h = (h, tt)
all_append P (y ∷ xs) x all h = (all.0, all_append P xs x all.1 h)

-- what holds of each element and of one written over one of them
pub all_set : {X : Type 0} (P : X → Type 0) (xs : List X) (i : ℕ) (x : X) → AllByRecursion P xs → P x → AllByRecursion P (slice_set xs i x)
all_set P [] i x all h = tt
all_set P (y ∷ xs) zero x all h = (h, all.1)
all_set P (y ∷ xs) (suc i) x all h = (all.0, all_set P xs i x all.1 h)

-- what holds of an element holds of each of so many
pub all_replicate : {X : Type 0} (P : X → Type 0) (n : ℕ) (x : X) → P x → AllByRecursion P (replicate n x)
all_replicate P zero x h = tt
all_replicate P (suc n) x h = (h, all_replicate P n x h)

-- a function of the elements does not see an element written over one that it cannot tell from it
pub map_set : {X Y : Type 0} (f : X → Y) (xs : List X) (i : ℕ) (x y : X) → slice_get xs i ≡ Some x → f y ≡ f x → map f (slice_set xs i y) ≡ map f xs
map_set f [] i x y e h = refl
map_set f (z ∷ xs) zero x y e h = ap (λ w. w ∷ map f xs) (h ∙ sym (ap f (same_Some z x e)))
map_set f (z ∷ xs) (suc i) x y e h = ap (λ ws. f z ∷ ws) (map_set f xs i x y e h)

-- a function of each element of a list with one more
pub map_append : {X Y : Type 0} (f : X → Y) (xs : List X) (x : X) → map f (xs ++ x ∷ []) ≡ map f xs ++ f x ∷ []
map_append f [] x = refl
map_append f (y ∷ xs) x = ap (λ ws. f y ∷ ws) (map_append f xs x)

-- equal texts
bytes_eq_true : (a b : List ℕ) → bytes_eq a b ≡ true → a ≡ b
bytes_eq_true a b e = grind (arith, nat_tests, bytes_eq-Decides a b)

module _ {X : Type 0} (name_of : X → List ℕ) (name : List ℕ) where
  -- the same for a list of one or more, by the test of its first element
  found_at : (k j : ℕ) (x : X) (xs : List X) (b : Bool) → bytes_eq (name_of x) name ≡ b
      → cond b (Some k) (position_from (λ x. bytes_eq (name_of x) name) (k + 1) xs) ≡ Some j
      → (position_from (λ x. bytes_eq (name_of x) name) (k + 1) xs ≡ Some j → (i : ℕ) × (y : X) × (j ≡ k + 1 + i) × (slice_get xs i ≡ Some y) × (name_of y ≡ name))
      → (i : ℕ) × (y : X) × (j ≡ k + i) × (slice_get (x ∷ xs) i ≡ Some y) × (name_of y ≡ name)
  found_at k j x xs true h e later = let at : k ≡ j = same_Some k j e in (0, x, omega (arith, at), refl, bytes_eq_true (name_of x) name h)
  found_at k j x xs false h e later = let there = later e in (suc there.0, there.1, omega (arith, there.2), there.3, there.4)

  -- the first of this name has it
  pub found_name : (k : ℕ) (xs : List X) (j : ℕ) → position_from (λ x. bytes_eq (name_of x) name) k xs ≡ Some j
      → (i : ℕ) × (x : X) × (j ≡ k + i) × (slice_get xs i ≡ Some x) × (name_of x ≡ name)
  found_name k [] j e = absurd (none-some j e)
  found_name k (x ∷ xs) j e = found_at k j x xs (bytes_eq (name_of x) name) refl e (λ later. found_name (k + 1) xs j later)

  -- the same for a list of one or more, by the test of its first element
  none_at : (k : ℕ) (x : X) (xs : List X) (b : Bool) → bytes_eq (name_of x) name ≡ b
      → cond b (Some k) (position_from (λ x. bytes_eq (name_of x) name) (k + 1) xs) ≡ None
      → (position_from (λ x. bytes_eq (name_of x) name) (k + 1) xs ≡ None → AllByRecursion (λ x. bytes_eq (name_of x) name ≡ false) xs)
      → AllByRecursion (λ x. bytes_eq (name_of x) name ≡ false) (x ∷ xs)
  none_at k x xs true h e later = absurd (none-some k (sym e))
  none_at k x xs false h e later = (h, later e)

  -- where a name is not found, no element has it
  none_named : (k : ℕ) (xs : List X) → position_from (λ x. bytes_eq (name_of x) name) k xs ≡ None → AllByRecursion (λ x. bytes_eq (name_of x) name ≡ false) xs
  none_named k [] e = tt
  none_named k (x ∷ xs) e = none_at k x xs (bytes_eq (name_of x) name) refl e (λ later. none_named (k + 1) xs later)

  -- a name that differs from those of a list and of one more differs from all of them
  others_named : (y : List ℕ) (xs : List X) (x : X) → name_of x ≡ name → bytes_eq y name ≡ false
      → AllByRecursion (λ n. bytes_eq y n ≡ false) (map name_of xs) → AllByRecursion (λ n. bytes_eq y n ≡ false) (map name_of (xs ++ x ∷ []))
  others_named y [] x e h all = (subst (λ n. bytes_eq y n ≡ false) (sym e) h, tt)
  others_named y (z ∷ xs) x e h all = (all.0, others_named y xs x e h all.1)

  -- names differ with one more that none of the others has
  all_distinct : (xs : List X) (x : X) → name_of x ≡ name → AllByRecursion (λ x. bytes_eq (name_of x) name ≡ false) xs
      → IsDistinct bytes_eq (map name_of xs) → IsDistinct bytes_eq (map name_of (xs ++ x ∷ []))
  unfolding IsDistinct
  all_distinct [] x e none d = (tt, tt)
  all_distinct (y ∷ xs) x e none d = (others_named (name_of y) xs x e none.0 d.0, all_distinct xs x e none.1 d.1)

  -- names differ with one more that is not there
  pub distinct_append : (xs : List X) (x : X) → name_of x ≡ name → place_of name_of name xs ≡ None
      → IsDistinct bytes_eq (map name_of xs) → IsDistinct bytes_eq (map name_of (xs ++ x ∷ []))
  distinct_append xs x e none d = all_distinct xs x e (none_named 0 xs none) d

-- the list after an entry is put into a place, or behind the others
abbrev pub IsPlaced : {X : Type 0} → ℕ → Option ℕ → X → List X → List X → Type 0
IsPlaced most place x xs after =
    ((i : ℕ) × (place ≡ Some i) × (after ≡ slice_set xs i x)) ⊎ ((place ≡ None) × (length xs < most) × (after ≡ xs ++ x ∷ []))

-- a new entry stands behind the others, where there is room
added : {X : Type 0} (most : ℕ) (x : X) (xs after : List X) (full : Bool) → nat_le most (length xs) ≡ full
    → ◌≡◌ {A = Result (List X) Cause} (if full then Err TooMany else Ok (xs ++ x ∷ [])) (Ok after) → IsPlaced most None x xs after
added most x xs after true h e = cc
added most x xs after false h e = inr (refl, grind (arith, nat_tests), cc)

-- an entry that was put is in its place, or behind the others
pub placed_is : {X : Type 0} (most : ℕ) (place : Option ℕ) (x : X) (xs after : List X) → placed most place x xs ≡ Ok after → IsPlaced most place x xs after
placed_is most (Some i) x xs after e = inl (i, refl, cc)
placed_is most None x xs after e = added most x xs after (nat_le most (length xs)) refl e

-- what holds of each entry and of the one that is put
pub placed_all : {X : Type 0} (P : X → Type 0) (most : ℕ) (place : Option ℕ) (x : X) (xs after : List X) → IsPlaced most place x xs after
    → AllByRecursion P xs → P x → AllByRecursion P after
placed_all P most place x xs after (inl t) all h = subst (AllByRecursion P) (sym t.2) (all_set P xs t.0 x all h)
placed_all P most place x xs after (inr t) all h = subst (AllByRecursion P) (sym t.2) (all_append P xs x all h)

-- no entry is lost
pub placed_more : {X : Type 0} (most : ℕ) (place : Option ℕ) (x : X) (xs after : List X) → IsPlaced most place x xs after → length xs ≤ length after
placed_more most place x xs after (inl t) = let e : length after ≡ length xs = ap length t.2 ∙ length-set xs t.0 x in omega (arith, e)
placed_more most place x xs after (inr t) = let e : length after ≡ length xs + 1 = ap length t.2 ∙ length-append xs (x ∷ []) in omega (arith, e)

-- the limit is kept
pub placed_few : {X : Type 0} (most : ℕ) (place : Option ℕ) (x : X) (xs after : List X) → IsPlaced most place x xs after → length xs ≤ most → length after ≤ most
placed_few most place x xs after (inl t) few = let e : length after ≡ length xs = ap length t.2 ∙ length-set xs t.0 x in omega (arith, e, few)
placed_few most place x xs after (inr t) few = let e : length after ≡ length xs + 1 = ap length t.2 ∙ length-append xs (x ∷ []) in omega (arith, e, t.1)

-- names differ after an entry is put under its name
pub placed_distinct : {X : Type 0} (name_of : X → List ℕ) (most : ℕ) (x : X) (xs after : List X) → IsPlaced most (place_of name_of (name_of x) xs) x xs after
    → IsDistinct bytes_eq (map name_of xs) → IsDistinct bytes_eq (map name_of after)
placed_distinct name_of most x xs after (inl t) d =
    let there = found_name name_of (name_of x) 0 xs t.0 t.1 in
    let at : t.0 ≡ there.0 = there.2 ∙ zero-add there.0 in
    let same : map name_of (slice_set xs t.0 x) ≡ map name_of xs =
    map_set name_of xs t.0 there.1 x (ap (slice_get xs) at ∙ there.3) (sym there.4) in
    subst (IsDistinct bytes_eq) (sym (ap (map name_of) t.2 ∙ same)) d
placed_distinct name_of most x xs after (inr t) d =
    subst (λ ys. IsDistinct bytes_eq (map name_of ys)) (sym t.2) (distinct_append name_of (name_of x) xs x refl t.0 d)
