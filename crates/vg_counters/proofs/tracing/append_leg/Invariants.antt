use Rattle.std.proofs.Common.{◌≡◌, ◌++◌, take}
use Rattle.std.specs.Prelude.{flat_map}
use Rattle.vg_counters.specs.Notes.{nodes_of}
use Rattle.vg_counters.proofs.tracing.append_leg.Given as goal

-- the parts so far are appended
abbrev pub invariant-loop-part : goal.invariant-loop-part
invariant-loop-part l = l.nodes.items ≡ l.initial.nodes.items ++ flat_map (nodes_of l.number l.leg) (take l.part-index l.parts)
