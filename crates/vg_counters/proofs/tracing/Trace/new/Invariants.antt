use Rattle.std.proofs.Common.{◌≡◌, map}
use Rattle.vg_counters.specs.Notes.{nothing_noted}
use Rattle.vg_counters.proofs.tracing.Trace.new.Given as goal

-- there is room for the packets so far, and nothing is noted
abbrev pub invariant-loop : goal.invariant-loop
invariant-loop l = map (map (λ nodes. nodes.items)) l.rooms.items ≡ nothing_noted l.counter
