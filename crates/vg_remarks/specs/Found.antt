-- How many of something there are, and the first of them.
use Rattle.std.specs.Prelude.{◌≡◌, List, length, slice_get}
use Rattle.vg_remarks.specs.declared.found.Found.{Found}

-- how many of these there are, and the first of them
pub record IsFound {X : Type 0} (all : List X) (found : Found X) : Type 0 where
  pub count : found.count ≡ length all
  pub first : found.first ≡ slice_get all 0
