use Rattle.std.proofs.Common.{◌≡◌, map}
use Rattle.vg_dispatch.specs.Standing.{barrier_id}
use Rattle.vg_workers.specs.Crews.{IsCrew}
use Rattle.vg_workers.proofs.crews.finish.Given as goal

abbrev pub invariant-loop : goal.invariant-loop
invariant-loop g l =
    (goal.iterator-loop g).can_next l.iterator' × (goal.iterator-loop g).is_finite l.iterator'
    × IsCrew g.K.KindSet.meaning g.H.Handoff.LOSSLESS l.input.plan.now l.input.capture.now l.input.options.now (barrier_id l.barrier) l.workers.items
    × (map (λ w. w.stop) l.workers.items ≡ map (λ w. w.stop) l.fn.workers.items)
    × (map (λ w. w.outputs) l.workers.items ≡ map (λ w. w.outputs) l.fn.workers.items)
