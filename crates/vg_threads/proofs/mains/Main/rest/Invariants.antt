use Rattle.vg_threads.specs.Leads.{IsMain}
use Rattle.vg_threads.proofs.mains.Main.rest.Given as goal

abbrev pub invariant-loop : goal.invariant-loop
invariant-loop g l =
    (goal.iterator-loop g).can_next l.iterator' × (goal.iterator-loop g).is_finite l.iterator' × IsMain l.input.plan.now l.input.capture.now l.barrier l.main
