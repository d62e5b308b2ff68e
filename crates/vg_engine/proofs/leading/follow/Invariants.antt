use Rattle.std.proofs.Common.{◌≡◌, map}
use Rattle.vg_dispatch.specs.Standing.{barrier_id}
use Rattle.vg_workers.specs.Crews.{IsCrew}
use Rattle.vg_threads.specs.Leads.{IsMain}
use Rattle.vg_engine.proofs.leading.follow.Given as goal

abbrev pub invariant-loop-turn : goal.invariant-loop-turn
invariant-loop-turn g l =
    IsMain l.input.plan.now l.input.capture.now l.barrier l.main
    × IsCrew g.K.KindSet.meaning g.H.Handoff.LOSSLESS l.input.plan.now l.input.capture.now l.input.options.now (barrier_id l.barrier) l.workers.items
    × (map (λ w. w.outputs) l.workers.items ≡ map (λ w. w.outputs) l.fn.workers.items)
