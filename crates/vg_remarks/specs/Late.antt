-- The events behind the last packet (this project's profile).
use Rattle.std.specs.Prelude.{ℕ, zero, suc, Bool, true, nat_lt, List, length, flat_map, Option, Some, None, option_to_list, if◌then◌else◌}
use Rattle.vg_capture.specs.declared.captures.Capture.{Capture}
use Rattle.vg_capture.specs.Time.{time}
use Rattle.vg_script.specs.declared.scripts.Script.{Script}
use Rattle.vg_script.specs.Events.{Event, events}
use Rattle.vg_remarks.specs.declared.late.LateEvent.{LateEvent}

-- the time of the last of so many packets
abbrev pub time_of_last : Capture → ℕ → Option ℕ
time_of_last capture zero = None
time_of_last capture (suc before) = Some (time capture before)

-- the time of the last packet
abbrev pub last_time : Capture → Option ℕ
last_time capture = time_of_last capture (length capture.packets)

-- a time is later than the last packet's; each is where there is no packet
abbrev pub is_behind : Option ℕ → ℕ → Bool
is_behind None time = true
is_behind (Some last) time = nat_lt last time

-- an event that is later than the last packet, by the line of its block, its time and the packet's
abbrev pub late_of : Option ℕ → Event → Option LateEvent
late_of last e = if is_behind last e.time then Some (record { line = e.line; time = e.time; last = last }) else None

-- the events behind the last packet, in their order
abbrev pub late_events : Capture → Script → List LateEvent
late_events capture script = flat_map (λ e. option_to_list (late_of (last_time capture) e)) (events script)
