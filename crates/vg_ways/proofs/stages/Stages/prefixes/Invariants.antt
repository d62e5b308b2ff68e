-- For `Stages::prefixes`: its loop.
use Rattle.vg_ways.proofs.PrefixLemmas.{AreSoFar}
use Rattle.vg_ways.proofs.stages.Stages.prefixes.Given as goal

-- the prefixes of the edits so far
abbrev pub invariant-loop-event : goal.invariant-loop-event
invariant-loop-event l = AreSoFar l.self.plan.script l.event-items l.event-index l.known
