-- For the functions of `links`, `crews`, `ends` and `closing`, and for `seats_of`, `workers_of` and `conclude` of vg_engine: lists that have an entry for each
-- worker, for each other worker, or for each pair of workers.
use Rattle.std.proofs.Common.{◌≡◌, ◌≢◌, ℕ, zero, suc, ◌+◌, ◌<◌, ◌≤◌, ◌⊎◌, inl, inr, List, [], ◌∷◌, ◌++◌, length, map, set, get_or, refl, sym, ap, subst, ◌∙◌, arith, append-nil}
use Rattle.std.specs.Prelude.{Bool, true, false, ◌==◌, slice_get, Some, if◌then◌else◌}
use Rattle.std.specs.List.{AllByRecursion, flat_map}
use Rattle.std.proofs.lemmas.Option.{none-some, same_Some}
use Rattle.std.proofs.lemmas.Grind.{flat_map-append}
use Rattle.std.proofs.lemmas.Bool.{eq-eqb, eqb-true}
use Rattle.vg_journeys.specs.Accounts.{below}
use Rattle.vg_underway.specs.Peers.{by_worker}
use Rattle.vg_workers.specs.Places.{AllAt, AllWith, others_from, pairs_of}

-- one of them
pub all_at : {X : Type 0} (P : ℕ → X → Type 0) (n : ℕ) (xs : List X) (k : ℕ) (d : X) → AllAt P n xs → k < length xs → P (n + k) (get_or xs k d)
all_at P n [] k d all h = absurd (omega (arith, h))
all_at P n (x ∷ xs) zero d all h = subst (λ m. P m x) (let e : n ≡ n + 0 = omega arith in e) all.0
all_at P n (x ∷ xs) (suc k) d all h = subst (λ m. P m (get_or xs k d)) (let e : suc n + k ≡ n + suc k = omega arith in e) (all_at P (suc n) xs k d all.1 (omega (arith, h)))

-- what stands at a place
pub get_is : {X : Type 0} (xs : List X) (k : ℕ) (x : X) → k < length xs → x ≡ get_or xs k x → slice_get xs k ≡ Some x
get_is [] k x h e = absurd (omega (arith, h))
get_is (y ∷ ys) zero x h e = ap Some (sym e)
get_is (y ∷ ys) (suc k) x h e = get_is ys k x (omega (arith, h)) e

pub all_get : {X : Type 0} (P : ℕ → X → Type 0) (n : ℕ) (xs : List X) (k : ℕ) (x : X) → AllAt P n xs → slice_get xs k ≡ Some x → P (n + k) x
all_get P n [] k x all e = absurd (none-some x e)
all_get P n (y ∷ ys) zero x all e = let m : n ≡ n + 0 = omega arith in subst (λ z. P (n + 0) z) (same_Some y x e) (subst (λ m. P m y) m all.0)
all_get P n (y ∷ ys) (suc k) x all e = subst (λ m. P m x) (let e : suc n + k ≡ n + suc k = omega arith in e) (all_get P (suc n) ys k x all.1 e)

-- a fact of each of the one list, by those of the other
pub zip_at : {X Y : Type 0} (R : X → Y → Type 0) (Q : ℕ → Y → Type 0) (n : ℕ) (xs : List X) (ys : List Y) → AllWith R xs ys
    → ((k : ℕ) (x : X) (y : Y) → slice_get xs k ≡ Some x → R x y → Q (n + k) y) → AllAt Q n ys
zip_at R Q n [] [] all each = tt
zip_at R Q n (x ∷ xs) (y ∷ ys) all each = (
  subst (λ m. Q m y) (let e : n + 0 ≡ n = omega arith in e) (each 0 x y refl all.0),
  zip_at R Q (suc n) xs ys all.1 (λ k a b e r. subst (λ m. Q m b) (let i : n + suc k ≡ suc n + k = omega arith in i) (each (suc k) a b e r)),
)
zip_at R Q n [] (y ∷ ys) all each = absurd all
zip_at R Q n (x ∷ xs) [] all each = absurd all

pub with_length : {X Y : Type 0} (R : X → Y → Type 0) (xs : List X) (ys : List Y) → AllWith R xs ys → length xs ≡ length ys
with_length R [] [] all = refl
with_length R (x ∷ xs) (y ∷ ys) all = ap suc (with_length R xs ys all.1)
with_length R [] (y ∷ ys) all = absurd all
with_length R (x ∷ xs) [] all = absurd all

-- each of them, by place
pub all_from : {X : Type 0} (P : ℕ → X → Type 0) (n : ℕ) (xs : List X) → ((k : ℕ) (x : X) → slice_get xs k ≡ Some x → P (n + k) x) → AllAt P n xs
all_from P n [] each = tt
all_from P n (x ∷ xs) each = (
  subst (λ m. P m x) (let e : n + 0 ≡ n = omega arith in e) (each 0 x refl),
  all_from P (suc n) xs (λ k y e. subst (λ m. P m y) (let i : n + suc k ≡ suc n + k = omega arith in i) (each (suc k) y e)),
)

-- a change at one place, where what holds at the others does too
pub all_set_with : {X : Type 0} (P Q : ℕ → X → Type 0) (n : ℕ) (xs : List X) (k : ℕ) (y : X) → AllAt P n xs → ((i : ℕ) (x : X) → i ≢ n + k → P i x → Q i x) → Q (n + k) y
    → AllAt Q n (set xs k y)
all_set_with P Q n [] k y all other here = tt
all_set_with P Q n (x ∷ xs) zero y all other here =
    (subst (λ m. Q m y) (let e : n + 0 ≡ n = omega arith in e) here, others_hold P Q (suc n) xs all.1 (λ i x h. other i x (λ e. omega (arith, h, e))))
  where
    others_hold : {X : Type 0} (P Q : ℕ → X → Type 0) (m : ℕ) (xs : List X) → AllAt P m xs → ((i : ℕ) (x : X) → m ≤ i → P i x → Q i x) → AllAt Q m xs
    others_hold P Q m [] all other = tt
    others_hold P Q m (x ∷ xs) all other = (other m x (omega arith) all.0, others_hold P Q (suc m) xs all.1 (λ i x h. other i x (omega (arith, h))))
all_set_with P Q n (x ∷ xs) (suc k) y all other here = (
  other n x (λ e. omega (arith, e)) all.0,
  all_set_with P Q (suc n) xs k y all.1 (λ i x h. other i x (λ e. h (omega (arith, e)))) (subst (λ m. Q m y) (let e : n + suc k ≡ suc n + k = omega arith in e) here),
)

pub all_set : {X : Type 0} (P : ℕ → X → Type 0) (n : ℕ) (xs : List X) (k : ℕ) (y : X) → AllAt P n xs → P (n + k) y → AllAt P n (set xs k y)
all_set P n xs k y all here = all_set_with P P n xs k y all (λ i x h p. p) here

-- the same from the first place on
pub first_get : {X : Type 0} (P : ℕ → X → Type 0) (xs : List X) (k : ℕ) (x : X) → AllAt P 0 xs → slice_get xs k ≡ Some x → P k x
first_get P xs k x all e = subst (λ m. P m x) (let z : 0 + k ≡ k = omega arith in z) (all_get P 0 xs k x all e)

pub first_set_with : {X : Type 0} (P Q : ℕ → X → Type 0) (xs : List X) (k : ℕ) (y : X) → AllAt P 0 xs → ((i : ℕ) (x : X) → i ≢ k → P i x → Q i x) → Q k y → AllAt Q 0 (set xs k y)
first_set_with P Q xs k y all other here =
    all_set_with P Q 0 xs k y all (λ i x d. other i x (λ e. d (e ∙ (let z : k ≡ 0 + k = omega arith in z)))) (subst (λ m. Q m y) (let z : k ≡ 0 + k = omega arith in z) here)

pub first_set : {X : Type 0} (P : ℕ → X → Type 0) (xs : List X) (k : ℕ) (y : X) → AllAt P 0 xs → P k y → AllAt P 0 (set xs k y)
first_set P xs k y all here = first_set_with P P xs k y all (λ i x d p. p) here

pub first_from : {X : Type 0} (P : ℕ → X → Type 0) (xs : List X) → ((k : ℕ) (x : X) → slice_get xs k ≡ Some x → P k x) → AllAt P 0 xs
first_from P xs each = all_from P 0 xs (λ k x e. subst (λ m. P m x) (let z : k ≡ 0 + k = omega arith in z) (each k x e))

-- where something stands
pub get_within : {X : Type 0} (xs : List X) (k : ℕ) (x : X) → slice_get xs k ≡ Some x → k < length xs
get_within [] k x e = absurd (none-some x e)
get_within (y ∷ ys) zero x e = omega arith
get_within (y ∷ ys) (suc k) x e = let h = get_within ys k x e in omega (arith, h)

-- what follows from it at each place
pub all_then : {X : Type 0} (P Q : ℕ → X → Type 0) (n : ℕ) (xs : List X) → AllAt P n xs → ((i : ℕ) (x : X) → n ≤ i → P i x → Q i x) → AllAt Q n xs
all_then P Q n [] all each = tt
all_then P Q n (x ∷ xs) all each = (each n x (omega arith) all.0, all_then P Q (suc n) xs all.1 (λ i x h. each i x (omega (arith, h))))

-- one more
pub all_more : {X : Type 0} (P : ℕ → X → Type 0) (n : ℕ) (xs : List X) (x : X) → AllAt P n xs → P (n + length xs) x → AllAt P n (xs ++ x ∷ [])
all_more P n [] x all here = (subst (λ m. P m x) (let e : n + 0 ≡ n = omega arith in e) here, tt)
all_more P n (y ∷ ys) x all here = (all.0, all_more P (suc n) ys x all.1 (subst (λ m. P m x) (let e : n + suc (length ys) ≡ suc n + length ys = omega arith in e) here))

pub all_push : {X : Type 0} (P : X → Type 0) (xs : List X) (x : X) → AllByRecursion P xs → P x → AllByRecursion P (xs ++ x ∷ [])
all_push P [] x all last = (last, tt)
all_push P (y ∷ ys) x all last = (all.0, all_push P ys x all.1 last)

pub with_more : {X Y : Type 0} (P : X → Y → Type 0) (xs : List X) (ys : List Y) (x : X) (y : Y) → AllWith P xs ys → P x y → AllWith P (xs ++ x ∷ []) (ys ++ y ∷ [])
with_more P [] [] x y all here = (here, tt)
with_more P (a ∷ xs) (b ∷ ys) x y all here = (all.0, with_more P xs ys x y all.1 here)
with_more P [] (b ∷ ys) x y all here = absurd all
with_more P (a ∷ xs) [] x y all here = absurd all

pub with_then : {X Y : Type 0} (P Q : X → Y → Type 0) (xs : List X) (ys : List Y) → AllWith P xs ys → AllByRecursion (λ x. (y : Y) → P x y → Q x y) xs → AllWith Q xs ys
with_then P Q [] [] all each = tt
with_then P Q (x ∷ xs) (y ∷ ys) all each = (each.0 y all.0, with_then P Q xs ys all.1 each.1)
with_then P Q [] (y ∷ ys) all each = absurd all
with_then P Q (x ∷ xs) [] all each = absurd all

-- a number or another
pub same_or_other : (n own : ℕ) → (n ≡ own) ⊎ (n ≢ own)
same_or_other n own = here (n == own) refl
  where
    here : (b : Bool) → (n == own) ≡ b → (n ≡ own) ⊎ (n ≢ own)
    here true e = inl (eqb-true n own e)
    here false e = inr (λ same. let k : true ≡ false = sym (eq-eqb n own same) ∙ e in cc)

-- the others from a number on: it comes first where it is another, and is left out otherwise
pub other_first : (own n count : ℕ) → n ≢ own → others_from own n (suc count) ≡ n ∷ others_from own (suc n) count
other_first own n count other = here (n == own) refl
  where
    here : (b : Bool) → (n == own) ≡ b → (if b then others_from own (suc n) count else n ∷ others_from own (suc n) count) ≡ n ∷ others_from own (suc n) count
    here true e = absurd (other (eqb-true n own e))
    here false e = refl

pub own_first : (own n count : ℕ) → n ≡ own → others_from own n (suc count) ≡ others_from own (suc n) count
own_first own n count same = ap (λ b. if b then others_from own (suc n) count else n ∷ others_from own (suc n) count) (eq-eqb n own same)

-- and, the other way round, one number more at the end
pub other_last : (own n count : ℕ) → n + count ≢ own → others_from own n (suc count) ≡ others_from own n count ++ (n + count) ∷ []
other_last own n zero other = other_first own n 0 (λ e. other (omega (arith, e))) ∙ ap (λ m. m ∷ []) (let e : n ≡ n + 0 = omega arith in e)
other_last own n (suc count) other =
    let rest = other_last own (suc n) count (λ e. other (omega (arith, e))) in
    let at : suc n + count ≡ n + suc count = omega arith in
    elim (same_or_other n own) [
      | inl same ↦ own_first own n (suc count) same ∙ rest ∙ ap (λ m. others_from own (suc n) count ++ m ∷ []) at ∙ ap (λ xs. xs ++ (n + suc count) ∷ []) (sym (own_first own n count same))
      | inr differs ↦ other_first own n (suc count) differs ∙ ap (λ xs. n ∷ xs) (rest ∙ ap (λ m. others_from own (suc n) count ++ m ∷ []) at) ∙ ap (λ xs. xs ++ (n + suc count) ∷ []) (sym (other_first own n count differs))
    ]

pub own_last : (own n count : ℕ) → n + count ≡ own → others_from own n (suc count) ≡ others_from own n count
own_last own n zero same = own_first own n 0 (omega (arith, same))
own_last own n (suc count) same =
    let rest = own_last own (suc n) count (omega (arith, same)) in
    let differs : n ≢ own = λ e. omega (arith, e, same) in
    other_first own n (suc count) differs ∙ ap (λ xs. n ∷ xs) rest ∙ sym (other_first own n count differs)

-- how many there are
pub others_before : (own n count : ℕ) → own < n → length (others_from own n count) ≡ count
others_before own n zero h = refl
others_before own n (suc count) h = ap length (other_first own n count (λ e. omega (arith, e, h))) ∙ ap (λ m. suc m) (others_before own (suc n) count (omega (arith, h)))

pub others_length : (own n count : ℕ) → n ≤ own → own < n + count → length (others_from own n count) + 1 ≡ count
others_length own n zero h k = absurd (omega (arith, h, k))
others_length own n (suc count) h k = elim (same_or_other n own) [
  | inl same ↦ (let e = ap length (own_first own n count same) in let rest = others_before own (suc n) count (omega (arith, same)) in omega (arith, e, rest))
  | inr differs ↦ (let e = ap length (other_first own n count differs) in let rest = others_length own (suc n) count (omega (arith, h, not_same n own h differs)) (omega (arith, k)) in omega (arith, e, rest))
]
  where
    not_same : (n own : ℕ) → n ≤ own → n ≢ own → n < own
    not_same n own h differs = grind (arith, differs)

-- what is the same of each other worker
pub same_at : {Y : Type 0} (f g : ℕ → Y) (own n count : ℕ) → map f (others_from own n count) ≡ map g (others_from own n count) → (m : ℕ) → n ≤ m → m < n + count → m ≢ own → f m ≡ g m
same_at f g own n zero e m h k other = absurd (omega (arith, h, k))
same_at {Y} f g own n (suc count) e m h k other = elim (same_or_other n own) [
  | inl same ↦ same_at f g own (suc n) count (sym (ap (map f) (own_first own n count same)) ∙ e ∙ ap (map g) (own_first own n count same)) m (let d : n ≢ m = λ x. other (sym x ∙ same) in later n m h d) (omega (arith, k)) other
  | inr differs ↦
      (let both : f n ∷ map f (others_from own (suc n) count) ≡ g n ∷ map g (others_from own (suc n) count) = sym (ap (map f) (other_first own n count differs)) ∙ e ∙ ap (map g) (other_first own n count differs) in
      elim (same_or_other n m) [
        | inl here ↦ ap f (sym here) ∙ first_same (f n) (g n) _ _ both ∙ ap g here
        | inr beyond ↦ same_at f g own (suc n) count (rest_same (f n) (g n) _ _ both) m (later n m h beyond) (omega (arith, k)) other
      ])
]
  where
    later : (n m : ℕ) → n ≤ m → n ≢ m → suc n ≤ m
    later n m h d = grind (arith, d)

    first_same : (x y : Y) (xs ys : List Y) → x ∷ xs ≡ y ∷ ys → x ≡ y
    first_same x y xs ys e = cc

    rest_same : (x y : Y) (xs ys : List Y) → x ∷ xs ≡ y ∷ ys → xs ≡ ys
    rest_same x y xs ys e = cc

pub map_same : {Y : Type 0} (f g : ℕ → Y) (own n count : ℕ) → ((m : ℕ) → n ≤ m → m < n + count → m ≢ own → f m ≡ g m) → map f (others_from own n count) ≡ map g (others_from own n count)
map_same f g own n zero each = refl
map_same f g own n (suc count) each =
    let rest = map_same f g own (suc n) count (λ m h k d. each m (omega (arith, h)) (omega (arith, k)) d) in
    elim (same_or_other n own) [
      | inl same ↦ ap (map f) (own_first own n count same) ∙ rest ∙ sym (ap (map g) (own_first own n count same))
      | inr differs ↦ ap (map f) (other_first own n count differs) ∙ (λ i. each n (omega arith) (omega arith) differs i ∷ rest i) ∙ sym (ap (map g) (other_first own n count differs))
    ]

-- the entries for the other workers are those of the list with an entry for each worker
after_own : {X : Type 0} (f : ℕ → X) (e : X) (own n : ℕ) (xs : List X) → own < n → ((i : ℕ) → f (n + i) ≡ get_or xs i e) → map f (others_from own n (length xs)) ≡ xs
after_own f e own n [] h each = refl
after_own f e own n (x ∷ xs) h each =
    ap (map f) (other_first own n (length xs) (λ same. omega (arith, same, h)))
    ∙ (λ i. (ap f (let z : n ≡ n + 0 = omega arith in z) ∙ each 0) i ∷ after_own f e own (suc n) xs (omega (arith, h)) (λ j. ap f (let z : suc n + j ≡ n + suc j = omega arith in z) ∙ each (suc j)) i)

pub entries_are : {X : Type 0} (f : ℕ → X) (d e : X) (n k : ℕ) (xs : List X) → k ≤ length xs → ((i : ℕ) → f (n + i) ≡ get_or (by_worker k d xs) i e)
    → map f (others_from (n + k) n (suc (length xs))) ≡ xs
entries_are f d e n zero xs h each =
    ap (map f) (own_first (n + 0) n (length xs) (let z : n ≡ n + 0 = omega arith in z))
    ∙ after_own f e (n + 0) (suc n) xs (omega arith) (λ i. ap f (let z : suc n + i ≡ n + suc i = omega arith in z) ∙ each (suc i))
entries_are f d e n (suc k) [] h each = absurd (omega (arith, h))
entries_are f d e n (suc k) (x ∷ xs) h each =
    let at : suc n + k ≡ n + suc k = omega arith in
    let rest : map f (others_from (n + suc k) (suc n) (suc (length xs))) ≡ xs =
    subst (λ own. map f (others_from own (suc n) (suc (length xs))) ≡ xs) at
    (entries_are f d e (suc n) k xs (omega (arith, h)) (λ i. ap f (let z : suc n + i ≡ n + suc i = omega arith in z) ∙ each (suc i))) in
    ap (map f) (other_first (n + suc k) n (suc (length xs)) (λ same. omega (arith, same)))
    ∙ (λ i. (ap f (let z : n ≡ n + 0 = omega arith in z) ∙ each 0) i ∷ rest i)

-- what stands somewhere
pub get_some : {X : Type 0} (xs : List X) (k : ℕ) → k < length xs → (x : X) × (slice_get xs k ≡ Some x)
get_some [] k h = absurd (omega (arith, h))
get_some (x ∷ xs) zero h = (x, refl)
get_some (x ∷ xs) (suc k) h = get_some xs k (omega (arith, h))

-- what holds of each other worker, and of each pair
pub each_other : (P : ℕ → Type 0) (own n count : ℕ) → ((m : ℕ) → n ≤ m → m < n + count → m ≢ own → P m) → AllByRecursion P (others_from own n count)
each_other P own n zero each = tt
each_other P own n (suc count) each =
    let rest = each_other P own (suc n) count (λ m h k d. each m (omega (arith, h)) (omega (arith, k)) d) in
    elim (same_or_other n own) [
      | inl same ↦ subst (AllByRecursion P) (sym (own_first own n count same)) rest
      | inr differs ↦ subst (AllByRecursion P) (sym (other_first own n count differs)) (each n (omega arith) (omega arith) differs, rest)
    ]

pub other_in : (P : ℕ → Type 0) (own n count : ℕ) → AllByRecursion P (others_from own n count) → (m : ℕ) → n ≤ m → m < n + count → m ≢ own → P m
other_in P own n zero all m h k d = absurd (omega (arith, h, k))
other_in P own n (suc count) all m h k d = elim (same_or_other n own) [
  | inl same ↦ other_in P own (suc n) count (subst (AllByRecursion P) (own_first own n count same) all) m (later n m h (λ e. d (sym e ∙ same))) (omega (arith, k)) d
  | inr differs ↦
      (let list = subst (AllByRecursion P) (other_first own n count differs) all in
      elim (same_or_other n m) [
        | inl here ↦ subst P here list.0
        | inr beyond ↦ other_in P own (suc n) count list.1 m (later n m h beyond) (omega (arith, k)) d
      ])
]
  where
    later : (n m : ℕ) → n ≤ m → n ≢ m → suc n ≤ m
    later n m h d = grind (arith, d)

all_mapped : {X Y : Type 0} (P : Y → Type 0) (f : X → Y) (xs : List X) → AllByRecursion (λ x. P (f x)) xs → AllByRecursion P (map f xs)
all_mapped P f [] all = tt
all_mapped P f (x ∷ xs) all = (all.0, all_mapped P f xs all.1)

all_of_mapped : {X Y : Type 0} (P : Y → Type 0) (f : X → Y) (xs : List X) → AllByRecursion P (map f xs) → AllByRecursion (λ x. P (f x)) xs
all_of_mapped P f [] all = tt
all_of_mapped P f (x ∷ xs) all = (all.0, all_of_mapped P f xs all.1)

pub all_both : {X : Type 0} (P : X → Type 0) (xs ys : List X) → AllByRecursion P xs → AllByRecursion P ys → AllByRecursion P (xs ++ ys)
all_both P [] ys all more = more
all_both P (x ∷ xs) ys all more = (all.0, all_both P xs ys all.1 more)

all_parts : {X : Type 0} (P : X → Type 0) (xs ys : List X) → AllByRecursion P (xs ++ ys) → AllByRecursion P xs × AllByRecursion P ys
all_parts P [] ys all = (tt, all)
all_parts P (x ∷ xs) ys all = let rest = all_parts P xs ys all.1 in ((all.0, rest.0), rest.1)

abbrev pairs_below : (workers n : ℕ) → List (ℕ × ℕ)
pairs_below workers n = flat_map (pairs_of workers) (below n)

pairs_more : (workers n : ℕ) → pairs_below workers (suc n) ≡ pairs_below workers n ++ pairs_of workers n
pairs_more workers n = flat_map-append (pairs_of workers) (below n) (n ∷ []) ∙ ap (λ ps. pairs_below workers n ++ ps) (append-nil (pairs_of workers n))

pub each_pair : (P : ℕ × ℕ → Type 0) (workers n : ℕ) → n ≤ workers → ((a b : ℕ) → a < workers → b < workers → b ≢ a → P (a, b)) → AllByRecursion P (pairs_below workers n)
each_pair P workers zero h each = tt
each_pair P workers (suc n) h each =
    subst (AllByRecursion P) (sym (pairs_more workers n))
    (all_both P (pairs_below workers n) (pairs_of workers n) (each_pair P workers n (omega (arith, h)) each)
    (all_mapped P (λ other. (n, other)) (others_from n 0 workers) (each_other (λ m. P (n, m)) n 0 workers (λ m low k d. each n m (omega (arith, h)) (omega (arith, k)) d))))

pub pair_in : (P : ℕ × ℕ → Type 0) (workers n : ℕ) → AllByRecursion P (pairs_below workers n) → (a b : ℕ) → a < n → b < workers → b ≢ a → P (a, b)
pair_in P workers zero all a b h k d = absurd (omega (arith, h))
pair_in P workers (suc n) all a b h k d =
    let parts = all_parts P (pairs_below workers n) (pairs_of workers n) (subst (AllByRecursion P) (pairs_more workers n) all) in
    elim (same_or_other a n) [
      | inl same ↦
          (let here = other_in (λ m. P (n, m)) n 0 workers (all_of_mapped P (λ other. (n, other)) (others_from n 0 workers) parts.1) b (omega arith) (omega (arith, k)) (λ e. d (e ∙ sym same)) in
          subst (λ m. P (m, b)) (sym same) here)
      | inr other ↦ pair_in P workers n parts.0 a b (lower a n h other) k d
    ]
  where
    lower : (a n : ℕ) → a < suc n → a ≢ n → a < n
    lower a n h d = grind (arith, h, d)

-- what holds of one list where it does of each with that of another
pub with_first : {X Y : Type 0} (P : X → Y → Type 0) (Q : X → Type 0) (xs : List X) (ys : List Y) → AllWith P xs ys → ((x : X) (y : Y) → P x y → Q x) → AllByRecursion Q xs
with_first P Q [] [] all each = tt
with_first P Q (x ∷ xs) (y ∷ ys) all each = (each x y all.0, with_first P Q xs ys all.1 each)
with_first P Q [] (y ∷ ys) all each = absurd all
with_first P Q (x ∷ xs) [] all each = absurd all
