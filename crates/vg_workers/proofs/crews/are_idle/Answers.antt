use Rattle.std.proofs.Common.{◌≡◌, ℕ, ◌<◌, List, length, get_or, rules, arith, refl, ap, subst, ◌∙◌, below_more}
use Rattle.std.proofs.lemmas.List.{get_or_read_under}
use Rattle.vg_dispatch.specs.Workers.{WorkerBook, IsIdle}
use Rattle.vg_workers.proofs.crews.are_idle.Goals as goal

pub loop-worker-preserved : goal.loop-worker-preserved
loop-worker-preserved g c k d h =
    let workers = c.args.workers.now.items in
    let at = c.loop-worker.worker-index in
    let read = c.deref-worker-items.result.now in
    let same : read ≡ workers = c.deref-worker-items.ensures.value in
    let inside : at < length read = search rules in
    let idle : IsIdle c.worker-item.result = c.idle.ensures.0 (search rules) in
    below_more (λ (j : ℕ). (d : WorkerBook) → IsIdle (get_or workers j d)) at (λ j h d. c.loop-worker.invariant j d h)
    (λ d. subst IsIdle (get_or_read_under read at (length read) c.worker-item.result d c.worker-item.is inside refl ∙ ap (λ (ws : List WorkerBook). get_or ws at d) same) idle) k h d

pub returns : goal.returns
returns g c same k d h = c.loop-worker.invariant k d (let all = c.loop-worker-test.false in omega (arith, h, all))
