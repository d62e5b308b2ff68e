use Rattle.vg_plan.proofs.BookLemmas.{AreFound}
use Rattle.vg_plan.proofs.plans.Plan.limits.Given as goal

abbrev pub invariant-loop-event : goal.invariant-loop-event
invariant-loop-event l = AreFound l.self.script l.event-items l.capture l.limits.items l.event-index l.early
