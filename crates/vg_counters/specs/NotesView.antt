-- What contracts see of a trace.
use Rattle.std.specs.Prelude.{map}
use Rattle.vg_counters.specs.Notes.{Notes}
use Rattle.vg_counters.specs.declared.tracing.Trace.TheInside.{Inside}

-- the nodes by packet and leg
abbrev pub notes_of : Inside → Notes
notes_of trace = map (map (λ nodes. nodes.items)) trace.packets.items
