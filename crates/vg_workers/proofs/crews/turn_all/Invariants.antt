use Rattle.std.proofs.Common.{◌≡◌, length, map}
use Rattle.vg_dispatch.specs.Standing.{barrier_id}
use Rattle.vg_workers.specs.Crews.{IsCrew}
use Rattle.vg_workers.proofs.crews.turn_all.Given as goal

abbrev pub invariant-loop-k : goal.invariant-loop-k
invariant-loop-k g l =
    (l.k-end ≡ length l.workers.items) × IsCrew g.K.KindSet.meaning g.H.Handoff.LOSSLESS l.input.plan.now l.input.capture.now l.input.options.now (barrier_id l.barrier) l.workers.items
    × (map (λ w. w.outputs) l.workers.items ≡ map (λ w. w.outputs) l.fn.workers.items)
