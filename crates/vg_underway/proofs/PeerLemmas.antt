-- For the clauses of `place_of` and `Work::hand_groups`, and of `Worker::{accepted, dispatched, idle, round}` in vg_dispatch: one for each worker of a run,
-- where there is one for each other worker.
use Rattle.std.proofs.Common.{◌≡◌, ◌≢◌, ℕ, zero, suc, ◌+◌, ◌-◌, ◌<◌, ◌≤◌, List, [], ◌∷◌, length, map, get_or, set, refl, sym, ap, subst, arith}
use Rattle.std.specs.List.{AllByRecursion}
use Rattle.vg_underway.specs.Peers.{place_among, by_worker}

pub place_below : (worker other : ℕ) → other < worker → place_among worker other ≡ other
place_below zero other h = absurd (omega (arith, h))
place_below (suc n) zero h = refl
place_below (suc n) (suc k) h = ap suc (place_below n k (omega (arith, h)))

pub place_above : (worker other : ℕ) → worker < other → place_among worker other ≡ other - 1
place_above zero other h = refl
place_above (suc n) zero h = absurd (omega (arith, h))
place_above (suc n) (suc k) h = let e = place_above n k (omega (arith, h)) in omega (arith, e, h)

pub place_within : (worker other n : ℕ) → other ≢ worker → other < n + 1 → worker < n + 1 → place_among worker other < n
place_within zero other n differ h w = omega (arith, differ, h)
place_within (suc m) zero n differ h w = omega (arith, w)
place_within (suc m) (suc k) zero differ h w = absurd (omega (arith, h))
place_within (suc m) (suc k) (suc n) differ h w =
    let e = place_within m k n (λ same. differ (ap suc same)) (omega (arith, h)) (omega (arith, w)) in omega (arith, e)

pub peers_length : {X : Type 0} (worker : ℕ) (own : X) (xs : List X) → worker ≤ length xs → length (by_worker worker own xs) ≡ length xs + 1
peers_length zero own xs h = omega arith
peers_length (suc n) own [] h = absurd (omega (arith, h))
peers_length (suc n) own (x ∷ xs) h = let e = peers_length n own xs (omega (arith, h)) in omega (arith, e)

pub peers_own : {X : Type 0} (worker : ℕ) (own : X) (xs : List X) (d : X) → worker ≤ length xs → get_or (by_worker worker own xs) worker d ≡ own
peers_own zero own xs d h = refl
peers_own (suc n) own [] d h = absurd (omega (arith, h))
peers_own (suc n) own (x ∷ xs) d h = peers_own n own xs d (omega (arith, h))

pub peers_at : {X : Type 0} (worker other : ℕ) (own : X) (xs : List X) (d : X) → other ≢ worker → worker ≤ length xs → get_or (by_worker worker own xs) other d ≡ get_or xs (place_among worker other) d
peers_at zero zero own xs d differ h = absurd (differ refl)
peers_at zero (suc k) own xs d differ h = ap (λ j. get_or xs j d) (let e : k ≡ suc k - 1 = omega arith in e)
peers_at (suc n) other own [] d differ h = absurd (omega (arith, h))
peers_at (suc n) zero own (x ∷ xs) d differ h = refl
peers_at (suc n) (suc k) own (x ∷ xs) d differ h = peers_at n k own xs d (λ same. differ (ap suc same)) (omega (arith, h))

pub peers_set : {X : Type 0} (worker other : ℕ) (own : X) (xs : List X) (x : X) → other ≢ worker → worker ≤ length xs → by_worker worker own (set xs (place_among worker other) x) ≡ set (by_worker worker own xs) other x
peers_set zero zero own xs x differ h = absurd (differ refl)
peers_set zero (suc k) own xs x differ h = ap (λ j. own ∷ set xs j x) (let e : suc k - 1 ≡ k = omega arith in e)
peers_set (suc n) other own [] x differ h = absurd (omega (arith, h))
peers_set (suc n) zero own (y ∷ ys) x differ h = refl
peers_set (suc n) (suc k) own (y ∷ ys) x differ h = ap (λ zs. y ∷ zs) (peers_set n k own ys x (λ same. differ (ap suc same)) (omega (arith, h)))

-- elements of a list under a function
pub map_at : {X Y : Type 0} (f : X → Y) (xs : List X) (k : ℕ) (x : X) (d : Y) → k < length xs → x ≡ get_or xs k x → get_or (map f xs) k d ≡ f x
map_at f [] k x d inside at = absurd (omega (arith, inside))
map_at f (y ∷ ys) zero x d inside at = ap f (sym at)
map_at f (y ∷ ys) (suc k) x d inside at = map_at f ys k x d (omega (arith, inside)) at

pub all_map : {X Y : Type 0} (P : Y → Type 0) (f : X → Y) (xs : List X) → AllByRecursion P (map f xs) → AllByRecursion (λ x. P (f x)) xs
all_map P f [] all = tt
all_map P f (x ∷ xs) all = (all.0, all_map P f xs all.1)

pub map_all : {X Y : Type 0} (P : Y → Type 0) (f : X → Y) (xs : List X) → AllByRecursion (λ x. P (f x)) xs → AllByRecursion P (map f xs)
map_all P f [] all = tt
map_all P f (x ∷ xs) all = (all.0, map_all P f xs all.1)

pub all_map_at : {X Y : Type 0} (P : Y → Type 0) (f : X → Y) (xs : List X) (k : ℕ) (x : X) → k < length xs → x ≡ get_or xs k x → AllByRecursion P (map f xs) → P (f x)
all_map_at P f [] k x inside at all = absurd (omega (arith, inside))
all_map_at P f (y ∷ ys) zero x inside at all = subst (λ z. P (f z)) (sym at) all.0
all_map_at P f (y ∷ ys) (suc k) x inside at all = all_map_at P f ys k x (omega (arith, inside)) at all.1

suc_same : {n k : ℕ} → suc n ≡ suc k → n ≡ k
suc_same {n} {k} same = omega (arith, same)

-- what holds of all others, and of each of them
pub all_peers : {X : Type 0} (P : X → Type 0) (worker to : ℕ) (own d : X) (xs : List X) → to ≢ worker → to < length xs + 1 → worker ≤ length xs → AllByRecursion P xs → P (get_or (by_worker worker own xs) to d)
all_peers {X} P zero zero own d xs other inside here all = absurd (other refl)
all_peers {X} P zero (suc k) own d xs other inside here all = at xs k (omega (arith, inside)) all
  where
    at : (ys : List X) (k : ℕ) → k < length ys → AllByRecursion P ys → P (get_or ys k d)
    at [] k inside all = absurd (omega (arith, inside))
    at (y ∷ ys) zero inside all = all.0
    at (y ∷ ys) (suc k) inside all = at ys k (omega (arith, inside)) all.1
all_peers P (suc n) to own d [] other inside here all = absurd (omega (arith, here))
all_peers P (suc n) zero own d (x ∷ xs) other inside here all = all.0
all_peers P (suc n) (suc k) own d (x ∷ xs) other inside here all = all_peers P n k own d xs (λ same. other (ap suc same)) (omega (arith, inside)) (omega (arith, here)) all.1

pub peers_all : {X : Type 0} (P : X → Type 0) (worker : ℕ) (own d : X) (xs : List X) → worker ≤ length xs → ((to : ℕ) → to < length xs + 1 → to ≢ worker → P (get_or (by_worker worker own xs) to d)) → AllByRecursion P xs
peers_all {X} P zero own d xs here each = of xs (λ k inside. each (suc k) (omega (arith, inside)) (λ same. absurd (omega (arith, same))))
  where
    of : (ys : List X) → ((k : ℕ) → k < length ys → P (get_or ys k d)) → AllByRecursion P ys
    of [] each = tt
    of (y ∷ ys) each = (each 0 (omega arith), of ys (λ k inside. each (suc k) (omega (arith, inside))))
peers_all P (suc n) own d [] here each = tt
peers_all P (suc n) own d (x ∷ xs) here each =
    (each 0 (omega arith) (λ same. absurd (omega (arith, same))), peers_all P n own d xs (omega (arith, here)) (λ to inside other. each (suc to) (omega (arith, inside)) (λ same. other (suc_same same))))

-- an element is itself, whatever stands for none
pub get_again : {X : Type 0} (xs : List X) (k : ℕ) (d : X) → k < length xs → get_or xs k d ≡ get_or xs k (get_or xs k d)
get_again [] k d h = absurd (omega (arith, h))
get_again (x ∷ xs) zero d h = refl
get_again (x ∷ xs) (suc k) d h = get_again xs k d (omega (arith, h))
