-- Places that wait under times (this project's profile).
use Rattle.std.specs.Prelude.{◌≡◌, ◌⊎◌, ℕ, ◌<◌, ◌≤◌, List, Option, Some, None, ◌==◌, slice_index_or, if◌then◌else◌}
use Rattle.vg_process.specs.declared.queue.Turn.{Turn}

-- the time under which a place waits, if it does
abbrev pub time_at : List (Option ℕ) → ℕ → Option ℕ
time_at times place = slice_index_or times place None

-- the same times but for one place
abbrev pub with_time : (ℕ → Option ℕ) → ℕ → Option ℕ → ℕ → Option ℕ
with_time time place new other = if other == place then new else time other

abbrev pub IsNoneWaiting : (ℕ → Option ℕ) → Type 0
IsNoneWaiting time = (place : ℕ) → time place ≡ None

-- of the places that wait it is the one with the earliest time, and at one time the lowest
pub record IsFirst (time : ℕ → Option ℕ) (first : Turn) : Type 0 where
  pub waits : time first.place ≡ Some first.time
  pub least : (place when : ℕ) → time place ≡ Some when → (first.time < when) ⊎ ((first.time ≡ when) × (first.place ≤ place))
