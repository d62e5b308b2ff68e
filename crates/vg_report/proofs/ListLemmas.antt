-- For the clauses of `Lines::further`, `LineKind::of` and `Parts::declared_name`, and for `read_is_lawful` and `written_is_read_back`:
-- Lists that grow at their end, and names in them.
use Rattle.std.proofs.Common.{◌≡◌, ℕ, ◌+◌, ◌<◌, Bool, true, false, cond, ltb, ltb-true, List, [], ◌∷◌, ◌++◌, length, get_or, sym, ap, refl, ◌∙◌}
use Rattle.std.specs.Prelude.{Some, None, map, bytes_eq}
use Rattle.std.specs.List.{position_from, position_or_len, AllByRecursion, IsDistinct}
use Rattle.std.proofs.Math.ListN.{get_or-map}
use Rattle.std.proofs.lemmas.Iterator.Adapters.{position_from-zero}
use Rattle.std.proofs.lemmas.List.Sums.{passes_at_first}
use Rattle.std.proofs.lemmas.Option.{none-some, same_Some}
use Rattle.std.proofs.lemmas.Slice.Eq.{bytes_eq-Decides}
use Rattle.vg_report.specs.Lawful.{names, number_of}

-- what holds of each element and of one more
pub all_append : {X : Type 0} (P : X → Type 0) (xs : List X) (x : X) → AllByRecursion P xs → P x → AllByRecursion P (xs ++ x ∷ [])
all_append P [] x all h = (h, tt)
all_append P (y ∷ xs) x all h = (all.0, all_append P xs x all.1 h)

-- what follows from what holds of each element holds of each
pub all_weaken : {X : Type 0} (P Q : X → Type 0) → ((x : X) → P x → Q x) → (xs : List X) → AllByRecursion P xs → AllByRecursion Q xs
all_weaken P Q f [] all = tt
all_weaken P Q f (x ∷ xs) all = (f x all.0, all_weaken P Q f xs all.1)

-- the two parts of a list
pub all_split : {X : Type 0} (P : X → Type 0) (xs ys : List X) → AllByRecursion P (xs ++ ys) → AllByRecursion P xs × AllByRecursion P ys
all_split P [] ys all = (tt, all)
all_split P (x ∷ xs) ys all = let both = all_split P xs ys all.1 in ((all.0, both.0), both.1)

-- a function of each element of a list with one more
pub map_append : {X Y : Type 0} (f : X → Y) (xs : List X) (x : X) → map f (xs ++ x ∷ []) ≡ map f xs ++ f x ∷ []
map_append f [] x = refl
map_append f (y ∷ xs) x = ap (λ ws. f y ∷ ws) (map_append f xs x)

-- equal texts
pub bytes_eq_true : (a b : List ℕ) → bytes_eq a b ≡ true → a ≡ b
bytes_eq_true a b e = (bytes_eq-Decides a b).0 e

pub bytes_eq_same : (a : List ℕ) → bytes_eq a a ≡ true
bytes_eq_same a = (bytes_eq-Decides a a).1 refl

-- where a name isn't found, no other is it
none_at : (name : List ℕ) (k : ℕ) (x : List ℕ) (xs : List (List ℕ)) (b : Bool) → bytes_eq x name ≡ b
    → cond b (Some k) (position_from (λ x. bytes_eq x name) (k + 1) xs) ≡ None
    → (position_from (λ x. bytes_eq x name) (k + 1) xs ≡ None → AllByRecursion (λ x. bytes_eq x name ≡ false) xs)
    → AllByRecursion (λ x. bytes_eq x name ≡ false) (x ∷ xs)
none_at name k x xs true h e later = absurd (none-some k (sym e))
none_at name k x xs false h e later = (h, later e)

pub none_named : (name : List ℕ) (k : ℕ) (xs : List (List ℕ)) → position_from (λ x. bytes_eq x name) k xs ≡ None
    → AllByRecursion (λ x. bytes_eq x name ≡ false) xs
none_named name k [] e = tt
none_named name k (x ∷ xs) e = none_at name k x xs (bytes_eq x name) refl e (λ later. none_named name (k + 1) xs later)

-- and the other way round
pub none_found : (name : List ℕ) (k : ℕ) (xs : List (List ℕ)) → AllByRecursion (λ x. bytes_eq x name ≡ false) xs
    → position_from (λ x. bytes_eq x name) k xs ≡ None
none_found name k [] all = refl
none_found name k (x ∷ xs) all =
    ap (λ b. cond b (Some k) (position_from (λ x. bytes_eq x name) (k + 1) xs)) all.0 ∙ none_found name (k + 1) xs all.1

-- names differ with one more that none of the others is
pub distinct_append : (xs : List (List ℕ)) (name : List ℕ) → AllByRecursion (λ x. bytes_eq x name ≡ false) xs
    → IsDistinct bytes_eq xs → IsDistinct bytes_eq (xs ++ name ∷ [])
unfolding IsDistinct
distinct_append [] name none d = (tt, tt)
distinct_append (y ∷ xs) name none d = (all_append (λ n. bytes_eq y n ≡ false) xs name d.0 none.0, distinct_append xs name none.1 d.1)

-- the front of names that differ, and that the next is none of them
pub distinct_front : (xs : List (List ℕ)) (name : List ℕ) (ys : List (List ℕ)) → IsDistinct bytes_eq (xs ++ name ∷ ys)
    → AllByRecursion (λ x. bytes_eq x name ≡ false) xs
unfolding IsDistinct
distinct_front [] name ys d = tt
distinct_front (x ∷ xs) name ys d = ((all_split (λ y. bytes_eq x y ≡ false) xs (name ∷ ys) d.0).1.0, distinct_front xs name ys d.1)

-- the entry in the place of a name has the name
pub name_at_place : (entries : List (List ℕ × ℕ)) (name : List ℕ) (place : ℕ) (entry : List ℕ × ℕ) → Some place ≡ number_of (names entries) name
    → entry ≡ get_or entries place entry → entry.0 ≡ name
name_at_place entries name place entry at is =
    by_test (ltb (position_or_len (λ x. bytes_eq x name) (names entries)) (length (names entries))) refl (at ∙ sym (position_from-zero (λ x. bytes_eq x name) (names entries)))
  where
    by_test : (b : Bool) → ltb (position_or_len (λ x. bytes_eq x name) (names entries)) (length (names entries)) ≡ b
        → Some place ≡ cond b (Some (position_or_len (λ x. bytes_eq x name) (names entries))) None → entry.0 ≡ name
    by_test true e h =
        let here : place ≡ position_or_len (λ x. bytes_eq x name) (names entries) = same_Some place (position_or_len (λ x. bytes_eq x name) (names entries)) h in
        let within : position_or_len (λ x. bytes_eq x name) (names entries) < length (names entries) =
        ltb-true (position_or_len (λ x. bytes_eq x name) (names entries)) (length (names entries)) e in
        let passes : bytes_eq (get_or (names entries) (position_or_len (λ x. bytes_eq x name) (names entries)) entry.0) name ≡ true =
        passes_at_first (λ x. bytes_eq x name) (names entries) entry.0 within in
        let same : get_or (names entries) place entry.0 ≡ entry.0 = get_or-map (λ (x : List ℕ × ℕ). x.0) entries place entry ∙ ap (λ (x : List ℕ × ℕ). x.0) (sym is) in
        sym same ∙ ap (λ n. get_or (names entries) n entry.0) here
        ∙ bytes_eq_true (get_or (names entries) (position_or_len (λ x. bytes_eq x name) (names entries)) entry.0) name passes
    by_test false e h = absurd (none-some place (sym h))
