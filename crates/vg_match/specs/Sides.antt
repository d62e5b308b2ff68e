-- The packets of one side, by number.
use Rattle.std.specs.Prelude.{◌≡◌, ℕ, suc, ◌+◌, ◌<◌, ◌≤◌, ◌^◌, Bool, not, ◌&&◌, List, [], ◌∷◌, ◌++◌, length, map, slice_index_or, All, if◌then◌else◌}
use Rattle.std.specs.Borrow.{Bor}
use Rattle.std.specs.List.Sorted.{IsPermutation}
use Rattle.vg_match.specs.declared.fields.Field.{Field}
use Rattle.vg_match.specs.declared.keys.Likeness.{Likeness}
use Rattle.vg_match.specs.declared.matching.Entry.{Entry}
use Rattle.vg_match.specs.declared.matching.Hashed.{Hashed}
use Rattle.vg_match.specs.declared.sides.Side.{Side}
use Rattle.vg_match.specs.Frames.{layout_of}
use Rattle.vg_match.specs.Keys.{compared, joined, parts_of}
use Rattle.vg_match.specs.Matching.{entry_of, AreHashed}
use Rattle.vg_match.specs.declared.ranges.Range.{Range}
use Rattle.vg_match.specs.Noise.{is_noise}
use Rattle.vg_match.specs.Ranges.{is_in_reach}

-- the bytes of frames
abbrev pub seen : List (Bor (List ℕ)) → List (List ℕ)
seen frames = map (λ (frame : Bor (List ℕ)). frame.now) frames

-- the frame of a number
abbrev pub frame_at : List (List ℕ) → ℕ → List ℕ
frame_at frames number = slice_index_or frames number []

-- each of these frames stands beside what it is compared by
pub record AreKeys (ignored : List Field) (frames keys : List (Bor (List ℕ))) : Type 0 where
  pub keys_are : seen keys ≡ map (compared ignored) (seen frames)
  pub count : length keys ≡ length frames
  pub few : length frames ≤ 2 ^ 32

-- so do those of a side
abbrev pub IsSide : List Field → Side → Type 0
IsSide ignored side = AreKeys ignored side.frames.now side.keys.now

abbrev pub number_of : Entry → ℕ
number_of entry = entry.number

abbrev pub key_of : Entry → List ℕ
key_of entry = entry.key.now

-- a frame is meant: it is no noise, and in the reach of the ranges
abbrev pub is_meant : List Range → List ℕ → Bool
is_meant only frame = not (is_noise frame) && is_in_reach only frame

-- the number of a frame that is meant
abbrev pub meant_number : List Range → ℕ → List ℕ → List ℕ
meant_number only number frame = if is_meant only frame then number ∷ [] else []

-- the numbers of the frames that are meant, from a number on
abbrev pub meant_numbers : List Range → ℕ → List (List ℕ) → List ℕ
meant_numbers only number [] = []
meant_numbers only number (frame ∷ frames) = meant_number only number frame ++ meant_numbers only (suc number) frames

-- how many frames are left out
abbrev pub left_out : List Range → List (List ℕ) → ℕ
left_out only [] = 0
left_out only (frame ∷ frames) = (if is_meant only frame then 0 else 1) + left_out only frames

-- an entry is one of these frames, by this key of it
pub record IsOf (key : List ℕ → List ℕ) (frames : List (List ℕ)) (entry : Entry) : Type 0 where
  pub below : entry.number < length frames
  pub is : entry.key.now ≡ key (frame_at frames entry.number)

-- what the frame of a number is alike by, of what it is compared by
abbrev pub alike_at : Likeness → (frames keys : List (List ℕ)) → ℕ → List ℕ
alike_at likeness frames keys number = joined (parts_of likeness (layout_of (frame_at frames number))) (frame_at keys number)

-- the entries of the frames that are meant, in the order of what these are compared by
pub record IsInOrder (ignored : List Field) (only : List Range) (frames : List (List ℕ)) (all : List Hashed) : Type 0 where
  pub hashed : AreHashed all
  pub numbers : IsPermutation (meant_numbers only 0 frames) (map number_of (map entry_of all))
  pub keys : All (IsOf (compared ignored) frames) (map entry_of all)
