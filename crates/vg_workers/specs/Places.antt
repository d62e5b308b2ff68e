-- Lists that have an entry for each worker, for each other worker, or for each pair of workers.
use Rattle.std.specs.Prelude.{ℕ, zero, suc, ◌==◌, List, [], ◌∷◌, map, flat_map, if◌then◌else◌}
use Rattle.vg_journeys.specs.Accounts.{below}

-- each of them, with its place, from this place on
abbrev pub AllAt : {X : Type 0} → (P : ℕ → X → Type 0) → ℕ → List X → Type 0
AllAt P n [] = Unit {0}
AllAt P n (x ∷ xs) = P n x × AllAt P (suc n) xs

-- each of the one list with that of the other at its place, and the two are of one length
abbrev pub AllWith : {X Y : Type 0} → (P : X → Y → Type 0) → List X → List Y → Type 0
AllWith P [] [] = Unit {0}
AllWith P [] (y ∷ ys) = ⊥
AllWith P (x ∷ xs) [] = ⊥
AllWith P (x ∷ xs) (y ∷ ys) = P x y × AllWith P xs ys

-- so many numbers from one on, but for this one
abbrev pub others_from : (own n count : ℕ) → List ℕ
others_from own n zero = []
others_from own n (suc count) = if n == own then others_from own (suc n) count else n ∷ others_from own (suc n) count

-- the numbers of the other workers
abbrev pub others : (workers own : ℕ) → List ℕ
others workers own = others_from own 0 workers

-- the ordered pairs of different workers: by the one, and then by the other
abbrev pub pairs_of : (workers own : ℕ) → List (ℕ × ℕ)
pairs_of workers own = map {B = ℕ × ℕ} (λ other. (own, other)) (others workers own)

abbrev pub pairs : ℕ → List (ℕ × ℕ)
pairs workers = flat_map (pairs_of workers) (below workers)
