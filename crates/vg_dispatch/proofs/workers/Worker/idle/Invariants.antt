use Rattle.std.proofs.Common.{◌≡◌, None, take}
use Rattle.std.specs.List.{AllByRecursion}
use Rattle.vg_underway.specs.Queues.{Queue}
use Rattle.vg_dispatch.proofs.workers.Worker.idle.Given as goal

abbrev pub invariant-loop-incoming : goal.invariant-loop-incoming
invariant-loop-incoming g l = AllByRecursion (λ (q : Queue). q.waits ≡ None) (take l.incoming-index l.incoming-items)

abbrev pub invariant-loop-output : goal.invariant-loop-output
invariant-loop-output g l = AllByRecursion (λ o. g.H.Handoff.waiting o.handoff ≡ 0) (take l.output-index l.output-items)
