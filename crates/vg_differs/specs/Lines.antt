-- The line of a text that a place is in, and how it is wanted.
use Rattle.std.specs.Prelude.{◌≡◌, ◌≢◌, ◌==◌, ◌+◌, ◌-◌, ◌<◌, ◌≤◌, ◌⊎◌, ℕ, Bool, List, length, take, drop, count_by, position, slice_get, unwrap_or, Some}
use Rattle.vg_differs.specs.declared.lines.OtherLine.{OtherLine}
use Rattle.vg_differs.specs.First.{IsFirst}

-- whether a byte is a line feed
abbrev pub is_feed : ℕ → Bool
is_feed byte = byte == 10

-- the bytes in front of the first line feed; all of them where there is none
abbrev pub to_feed : List ℕ → List ℕ
to_feed bytes = take (unwrap_or (position is_feed bytes) (length bytes)) bytes

-- the line that a place is in begins here: at the start of the text or behind a line feed, and none stands between
pub record IsLineStart (text : List ℕ) (place start : ℕ) : Type 0 where
  pub within : start ≤ place
  pub behind : (start ≡ 0) ⊎ (slice_get text (start - 1) ≡ Some 10)
  pub clear : (k : ℕ) → start ≤ k → k < place → slice_get text k ≢ Some 10

-- the line in which a text first differs from the one that is wanted: its number from 1, what stands in it, and what is wanted
pub record IsOtherLine (text wanted : List ℕ) (line : OtherLine) : Type 0 where
  pub place : ℕ
  pub first : IsFirst text wanted place
  pub number : line.number ≡ count_by is_feed (take place text) + 1
  pub start : ℕ
  pub begins : IsLineStart text place start
  pub stands : line.stands.items ≡ to_feed (drop start text)
  pub is_wanted : line.wanted.items ≡ to_feed (drop start wanted)
