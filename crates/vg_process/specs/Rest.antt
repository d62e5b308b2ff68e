-- What the blocks of a script still have to do (this project's profile).
use Rattle.std.specs.Prelude.{ℕ, ◌*◌, ◌^◌, ◌<◌, ◌≤◌, List, [], length, drop, slice_index_or, vec_len}
use Rattle.std.specs.List.{flat_map}
use Rattle.vg_script.specs.Events.{Event, runs, in_order}
use Rattle.vg_process.specs.declared.states.State.TheInside.{Inside}

-- the runs of a block that are not over
abbrev pub rest : Inside → List Event
rest s = drop s.done (runs s.line s.every s.count s.groups.items)

pub record IsState (s : Inside) : Type 0 where
  pub within : s.done ≤ s.count
  pub fits : s.count * s.every < 2 ^ 64
  pub some : 0 < vec_len s.groups

-- the runs of the block at a place
abbrev pub rest_at : List (List Event) → ℕ → List Event
rest_at rests place = slice_index_or rests place []

-- the runs of all blocks that are not over, in the order of events
abbrev pub left : List (List Event) → List Event
left rests = in_order (flat_map (λ events. events) rests)

-- the runs of a block are one after the other
abbrev pub IsRising : List Event → Type 0
IsRising events = (k m : ℕ) (d : Event) → k < m → m < length events → (slice_index_or events k d).time < (slice_index_or events m d).time

-- the line of each run is above that of the other
abbrev pub AreLinesAbove : List Event → List Event → Type 0
AreLinesAbove events others =
    (k m : ℕ) (d : Event) → k < length events → m < length others → (slice_index_or events k d).line < (slice_index_or others m d).line

-- blocks in the order of their lines
pub record IsOrderly (rests : List (List Event)) : Type 0 where
  pub rising : (place : ℕ) → IsRising (rest_at rests place)
  pub apart : (place other : ℕ) → place < other → AreLinesAbove (rest_at rests place) (rest_at rests other)
