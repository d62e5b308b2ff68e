-- When packets' next legs are due.
use Rattle.std.specs.Prelude.{◌≡◌, ℕ, List, slice_get, Some}

-- a number stands in a list
abbrev pub IsIn : ℕ → List ℕ → Type 0
IsIn number numbers = (place : ℕ) × (slice_get numbers place ≡ Some number)
