-- The event that begins a generation.
use Rattle.std.specs.Prelude.{ℕ, ◌-◌, ◌==◌, slice_get, Option, None, option_map, unwrap_or, if◌then◌else◌}
use Rattle.vg_script.specs.declared.scripts.Script.{Script}
use Rattle.vg_script.specs.Events as script

-- the event that begins a generation; the first begins with none
abbrev pub event_of : Script → (generation : ℕ) → Option script.Event
event_of s generation = if generation == 0 then None else slice_get (script.events s) (generation - 1)

-- the time of the event that begins a generation, in microseconds from the first packet; 0 for the first
abbrev pub time_of : Script → (generation : ℕ) → ℕ
time_of s generation = unwrap_or (option_map (λ event. event.time) (event_of s generation)) 0
