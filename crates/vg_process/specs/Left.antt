-- What a request takes of the events that are left (this project's profile).
use Rattle.std.specs.Prelude.{◌≡◌, ℕ, ◌<◌, ◌≤◌, List, [], ◌∷◌, Option, Some, None, All}
use Rattle.vg_script.specs.Events.{Event}
use Rattle.vg_process.specs.declared.schedule.Due.{Due}

-- the time of the first event
abbrev pub first_time : List Event → Option ℕ
first_time [] = None
first_time (event ∷ events) = Some event.time

-- the event whose edits are due
abbrev pub event_of : Due → ℕ → Event
event_of due occurrence = record { time = due.time; line = due.line; occurrence = occurrence; edits = due.edits }

-- no event is due: each is later than this
abbrev pub IsNothingDue : ℕ → List Event → Type 0
IsNothingDue now events = All (λ event. now < event.time) events

-- the first event is due and is given, and those behind it are left
pub record GivesFirst (old : List Event) (now : ℕ) (due : Due) (new : List Event) : Type 0 where
  pub occurrence : ℕ
  pub first : old ≡ event_of due occurrence ∷ new
  pub reached : due.time ≤ now
