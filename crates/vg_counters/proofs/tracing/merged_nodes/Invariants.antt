use Rattle.std.proofs.Common.{◌≡◌, take}
use Rattle.std.specs.Prelude.{flat_map}
use Rattle.vg_counters.specs.Notes.{nodes_of, all_legs}
use Rattle.vg_counters.proofs.tracing.merged_nodes.Given as goal

-- the legs so far are appended
abbrev pub invariant-loop-leg : goal.invariant-loop-leg
invariant-loop-leg l = l.nodes.items ≡ flat_map (λ leg. flat_map (nodes_of l.number leg) l.parts) (take l.leg all_legs)
