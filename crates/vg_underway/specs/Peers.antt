-- One for each worker of a run, where there is one for each other worker, by rising number.
use Rattle.std.specs.Prelude.{ℕ, zero, suc, ◌-◌, List, [], ◌∷◌}

-- the place of another worker among all others
abbrev pub place_among : (worker other : ℕ) → ℕ
place_among zero other = other - 1
place_among (suc n) zero = 0
place_among (suc n) (suc k) = suc (place_among n k)

-- one for each, with this one for the worker itself
abbrev pub by_worker : {X : Type 0} → (worker : ℕ) → X → List X → List X
by_worker zero own xs = own ∷ xs
by_worker (suc n) own [] = own ∷ []
by_worker (suc n) own (x ∷ xs) = x ∷ by_worker n own xs
