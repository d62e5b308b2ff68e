-- For the clauses of `Work` on what is owed, and of `Worker::round` in vg_dispatch: sums over lists by their places, and over counts by theirs.
use Rattle.std.proofs.Common.{◌≡◌, ℕ, zero, suc, ◌+◌, ◌*◌, ◌<◌, ◌≤◌, List, [], ◌∷◌, ◌++◌, length, get_or, set, refl, sym, ap, ◌∙◌, arith, true, false}
use Rattle.std.specs.Prelude.{◌==◌, if◌then◌else◌}
use Rattle.std.specs.List.{sum_by, AllByRecursion}
use Rattle.std.proofs.lemmas.List.Sums.{sum_by-cons, sum_by-append, sum_by_push}
use Rattle.std.proofs.lemmas.Bool.Decides.{nat_tests}
use Rattle.vg_underway.specs.Underway.{sum_from, counts_from}
use Rattle.vg_underway.specs.Places.{same_one}

-- one more behind those of a place
pub sum_from_put : {X : Type 0} (f : ℕ → X → ℕ) (first : ℕ) (lists : List (List X)) (i : ℕ) (x : X) → i < length lists
    → sum_from f first (set lists i (get_or lists i [] ++ x ∷ [])) ≡ sum_from f first lists + f (first + i) x
sum_from_put f first [] i x h = absurd (omega (arith, h))
sum_from_put {X} f first (q ∷ qs) zero x h =
    let more : sum_by (f first) (get_or (q ∷ qs) 0 [] ++ x ∷ []) ≡ sum_by (f first) q + f first x = sum_by_push (f first) q x in
    let same : f (first + 0) x ≡ f first x = ap (λ n. f n x) (omega arith) in
    omega (arith, more, same)
sum_from_put {X} f first (q ∷ qs) (suc i) x h =
    let e = sum_from_put f (suc first) qs i x (omega arith) in
    let same : f (suc first + i) x ≡ f (first + suc i) x = ap (λ n. f n x) (omega arith) in
    omega (arith, e, same)

-- the first of a place taken, and the rest left
pub sum_from_take : {X : Type 0} (f : ℕ → X → ℕ) (first : ℕ) (lists : List (List X)) (i : ℕ) (front rest : List X) → i < length lists
    → get_or lists i [] ≡ front ++ rest → sum_from f first (set lists i rest) + sum_by (f (first + i)) front ≡ sum_from f first lists
sum_from_take f first [] i front rest h e = absurd (omega (arith, h))
sum_from_take {X} f first (q ∷ qs) zero front rest h e =
    let all : sum_by (f first) q ≡ sum_by (f first) front + sum_by (f first) rest = ap (sum_by (f first)) e ∙ sum_by-append (f first) front rest in
    let same : sum_by (f (first + 0)) front ≡ sum_by (f first) front = ap (λ n. sum_by (f n) front) (omega arith) in
    omega (arith, all, same)
sum_from_take {X} f first (q ∷ qs) (suc i) front rest h e =
    let e2 = sum_from_take f (suc first) qs i front rest (omega arith) e in
    let same : sum_by (f (suc first + i)) front ≡ sum_by (f (first + suc i)) front = ap (λ n. sum_by (f n) front) (omega arith) in
    omega (arith, e2, same)

-- empty lists
pub sum_from_none : {X : Type 0} (f : ℕ → X → ℕ) (first : ℕ) (lists : List (List X)) → ((i : ℕ) → get_or lists i [] ≡ []) → sum_from f first lists ≡ 0
sum_from_none f first [] h = refl
sum_from_none f first (q ∷ qs) h =
    let none : sum_by (f first) q ≡ 0 = ap (sum_by (f first)) (h 0) in
    let e = sum_from_none f (suc first) qs (λ i. h (suc i)) in
    omega (arith, none, e)

-- sums of the same
pub sum_by_same : {X : Type 0} (f h : X → ℕ) (xs : List X) → ((x : X) → f x ≡ h x) → sum_by f xs ≡ sum_by h xs
sum_by_same f h [] e = refl
sum_by_same f h (x ∷ xs) e = let rest = sum_by_same f h xs e in let one = e x in omega (arith, rest, one, sum_by-cons f x xs, sum_by-cons h x xs)

pub sum_from_same : {X : Type 0} (f h : ℕ → X → ℕ) (first : ℕ) (lists : List (List X)) → ((n : ℕ) (x : X) → f n x ≡ h n x) → sum_from f first lists ≡ sum_from h first lists
sum_from_same f h first [] e = refl
sum_from_same f h first (q ∷ qs) e =
    let rest = sum_from_same f h (suc first) qs e in
    let one = sum_by_same (f first) (h first) q (e first) in
    omega (arith, rest, one)

pub sum_by_none : {X : Type 0} (xs : List X) → sum_by (λ x. 0) xs ≡ 0
sum_by_none [] = refl
sum_by_none (x ∷ xs) = sum_by_none xs

pub sum_by_at : {X : Type 0} (f h : X → ℕ) (P : X → Type 0) (xs : List X) → AllByRecursion P xs → ((x : X) → P x → f x ≡ h x) → sum_by f xs ≡ sum_by h xs
sum_by_at f h P [] all e = refl
sum_by_at f h P (x ∷ xs) all e = let rest = sum_by_at f h P xs all.1 e in let one = e x all.0 in omega (arith, rest, one, sum_by-cons f x xs, sum_by-cons h x xs)

pub sum_by_at_most : {X : Type 0} (f h : X → ℕ) (xs : List X) → ((x : X) → f x ≤ h x) → sum_by f xs ≤ sum_by h xs
sum_by_at_most f h [] e = omega arith
sum_by_at_most f h (x ∷ xs) e = let rest = sum_by_at_most f h xs e in let one = e x in omega (arith, rest, one, sum_by-cons f x xs, sum_by-cons h x xs)

-- an index is itself
pub same_one_self : (i : ℕ) → same_one i i ≡ 1
same_one_self i = let yes : (i == i) ≡ true = grind (arith, nat_tests) in rw yes refl

pub same_one_other : (i j : ℕ) → (j ≡ i → ⊥) → same_one i j ≡ 0
same_one_other i j other = let not_same : (j == i) ≡ false = grind (arith, nat_tests) in rw not_same refl

-- sums of what is the same at each element that there is, by a key
pub sum_by_kept : {X : Type 0} (key : X → ℕ) (f h : X → ℕ) (xs : List X) → ((x : X) → 0 < sum_by (λ y. same_one (key x) (key y)) xs → f x ≡ h x) → sum_by f xs ≡ sum_by h xs
sum_by_kept key f h [] e = refl
sum_by_kept {X} key f h (x ∷ xs) e =
    let here : f x ≡ h x = e x (omega (arith, sum_by-cons (λ y. same_one (key x) (key y)) x xs, same_one_self (key x))) in
    let rest = sum_by_kept key f h xs (λ y some. e y (omega (arith, some, sum_by-cons (λ z. same_one (key y) (key z)) x xs))) in
    omega (arith, here, rest, sum_by-cons f x xs, sum_by-cons h x xs)

pub sum_from_kept : (f h : ℕ → ℕ → ℕ) (first : ℕ) (lists : List (List ℕ)) → ((n i : ℕ) → 0 < sum_from (λ node. same_one i) first lists → f n i ≡ h n i)
    → sum_from f first lists ≡ sum_from h first lists
sum_from_kept f h first [] e = refl
sum_from_kept f h first (q ∷ qs) e =
    let here : sum_by (f first) q ≡ sum_by (h first) q = sum_by_kept (λ i. i) (f first) (h first) q (λ i some. e first i (omega (arith, some))) in
    let rest = sum_from_kept f h (suc first) qs (λ n i some. e n i (omega (arith, some))) in
    omega (arith, here, rest)

-- so many more at a place
times_sum : (a b k : ℕ) → a * (b + k) ≡ a * b + a * k
times_sum a b k = grind arith

pub counts_from_more : (f : ℕ → ℕ) (first : ℕ) (counts : List ℕ) (i k : ℕ) → i < length counts
    → counts_from f first (set counts i (get_or counts i 0 + k)) ≡ counts_from f first counts + f (first + i) * k
counts_from_more f first [] i k h = absurd (omega (arith, h))
counts_from_more f first (c ∷ cs) zero k h =
    let more : f first * (get_or (c ∷ cs) 0 0 + k) ≡ f first * c + f first * k = times_sum (f first) c k in
    let same : f (first + 0) * k ≡ f first * k = ap (λ n. f n * k) (omega arith) in
    omega (arith, more, same)
counts_from_more f first (c ∷ cs) (suc i) k h =
    let e = counts_from_more f (suc first) cs i k (omega arith) in
    let same : f (suc first + i) * k ≡ f (first + suc i) * k = ap (λ n. f n * k) (omega arith) in
    omega (arith, e, same)

pub counts_from_none : (first : ℕ) (counts : List ℕ) → counts_from (λ n. 0) first counts ≡ 0
counts_from_none first [] = refl
counts_from_none first (c ∷ cs) = let e = counts_from_none (suc first) cs in omega (arith, e)

-- the count of a place, among the counts from another on
counts_from_past : (m first : ℕ) (counts : List ℕ) → m < first → counts_from (λ n. if n == m then 1 else 0) first counts ≡ 0
counts_from_past m first [] h = refl
counts_from_past m first (c ∷ cs) h =
    let e = counts_from_past m (suc first) cs (omega arith) in
    let no : (first == m) ≡ false = grind (arith, nat_tests) in
    rw no (omega (arith, e))

counts_from_place : (m first : ℕ) (counts : List ℕ) → counts_from (λ n. if n == first + m then 1 else 0) first counts ≡ get_or counts m 0
counts_from_place m first [] = refl
counts_from_place zero first (c ∷ cs) =
    let e = counts_from_past (first + 0) (suc first) cs (omega arith) in
    let yes : (first == first + 0) ≡ true = grind (arith, nat_tests) in
    rw yes (omega (arith, e))
counts_from_place (suc m) first (c ∷ cs) =
    let e = counts_from_place m (suc first) cs in
    let no : (first == first + suc m) ≡ false = grind (arith, nat_tests) in
    let same : suc first + m ≡ first + suc m = omega arith in
    rw no (let e2 : counts_from (λ n. if n == first + suc m then 1 else 0) (suc first) cs ≡ get_or cs m 0 = ap (λ k. counts_from (λ n. if n == k then 1 else 0) (suc first) cs) (sym same) ∙ e in omega (arith, e2))

pub counts_from_at : (m : ℕ) (counts : List ℕ) → counts_from (λ n. if n == m then 1 else 0) 0 counts ≡ get_or counts m 0
counts_from_at m counts = ap (λ k. counts_from (λ n. if n == k then 1 else 0) 0 counts) (let e : m ≡ 0 + m = omega arith in e) ∙ counts_from_place m 0 counts
