use Rattle.std.proofs.Common.{take}
use Rattle.vg_replay.specs.Counts.{AddsVisits}
use Rattle.vg_replay.proofs.counting.count_visits.Given as goal

abbrev pub invariant-loop-node : goal.invariant-loop-node
invariant-loop-node l = AddsVisits (take l.node-index l.visits) l.initial.counts l.counts
