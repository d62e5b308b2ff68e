-- What a worker's memory has under each index: a packet in its chain of buffers, or nothing.
use Rattle.std.specs.Prelude.{◌≡◌, ◌≢◌, ℕ, List, Option, None, IsSome, is_some, slice_index_or}
use Rattle.std.specs.List.{count_by}
use Rattle.vg_pool.specs.Contents.{Contents}

-- the most packets
abbrev pub most_placed : ℕ
most_placed = 2304

-- what an index has
abbrev pub buffer_at : List (Option Contents) → ℕ → Option Contents
buffer_at placed index = slice_index_or placed index None

-- the index has a packet
abbrev pub IsLive : List (Option Contents) → ℕ → Type 0
IsLive placed index = IsSome (buffer_at placed index)

-- how many indexes have a packet
abbrev pub count : List (Option Contents) → ℕ
count placed = count_by is_some placed

-- the index has this afterwards, and every other index has what it had
pub record Changes (old new : List (Option Contents)) (index : ℕ) (slot : Option Contents) : Type 0 where
  pub changed : buffer_at new index ≡ slot
  pub others : (other : ℕ) → other ≢ index → buffer_at new other ≡ buffer_at old other
