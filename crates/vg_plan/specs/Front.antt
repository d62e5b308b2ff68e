-- The packets up to a time.
use Rattle.std.specs.Prelude.{ℕ, ◌<◌, ◌≤◌, Bool, List, length, slice_get, option_map, unwrap_or}
use Rattle.vg_capture.specs.declared.captures.Captured.{Captured}
use Rattle.vg_capture.specs.Time.{stamp}

-- the time stamp of a packet of a list, in whole microseconds
abbrev pub stamp_in : Bool → List Captured → ℕ → ℕ
stamp_in nanos packets i = unwrap_or (option_map (stamp nanos) (slice_get packets i)) 0

-- so many packets stand before the first whose time stamp is at least this
pub record IsFront (nanos : Bool) (packets : List Captured) (due front : ℕ) : Type 0 where
  pub within : front ≤ length packets
  pub early : (i : ℕ) → i < front → stamp_in nanos packets i < due
  pub late : front < length packets → due ≤ stamp_in nanos packets front
