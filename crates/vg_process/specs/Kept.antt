-- How the blocks of a script are kept (this project's profile).
use Rattle.std.specs.Prelude.{◌≡◌, List, map}
use Rattle.vg_script.specs.Events.{Event}
use Rattle.vg_process.specs.declared.schedule.Processes.TheInside.{Inside}
use Rattle.vg_process.specs.Left.{first_time}
use Rattle.vg_process.specs.Rest.{left, IsOrderly}

-- the events that are left
abbrev pub events_left : Inside → List Event
events_left p = left p.states.items

-- each block waits under the time of its next run
pub record IsKept (p : Inside) : Type 0 where
  pub times : p.timers ≡ map first_time p.states.items
  pub orderly : IsOrderly p.states.items
