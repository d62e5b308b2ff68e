-- Words that are taken apart at a mark, part by part.
use Rattle.std.specs.Prelude.{ℕ, suc, Bool, ◌&&◌, ◌==◌, List, [], slice_index, Option, Some, None}
use Rattle.std.specs.List.{slice_split}

-- the parts of what is left of a word; where nothing is left behind a mark there is none
abbrev pub parts_left : (ℕ → Bool) → Option (List ℕ) → List (List ℕ)
parts_left is_mark None = []
parts_left is_mark (Some rest) = slice_split is_mark rest

-- a `::` begins at a place
abbrev pub is_gap_at : List ℕ → ℕ → Bool
is_gap_at text place = slice_index text place == 58 && slice_index text (suc place) == 58
