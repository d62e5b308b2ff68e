-- Where two lists of bytes differ first.
use Rattle.std.specs.Prelude.{◌≡◌, ◌≢◌, ℕ, List, take, slice_get}

-- in front of this place the lists are the same, and at it they differ: by another byte, or since one of them ends there
pub record IsFirst (ones others : List ℕ) (place : ℕ) : Type 0 where
  pub same : take place ones ≡ take place others
  pub differ : slice_get ones place ≢ slice_get others place
