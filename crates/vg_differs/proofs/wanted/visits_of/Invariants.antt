-- For `visits_of`: the nodes of the packets so far.
use Rattle.std.proofs.Common.{◌≡◌, map, take}
use Rattle.vg_check.specs.Reports.{trace_of}
use Rattle.vg_differs.proofs.wanted.visits_of.Given as goal

abbrev pub invariant-loop-number : goal.invariant-loop-number
invariant-loop-number l = map (λ nodes. nodes.items) l.lists.items ≡ map trace_of (take l.number l.trips)
