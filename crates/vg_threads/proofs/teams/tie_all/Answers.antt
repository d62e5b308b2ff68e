use Rattle.std.proofs.Common.{◌≡◌, ◌++◌, [], List, map, rules, sym, ap, ◌∙◌, append-nil}
use Rattle.std.specs.Vec.Iter.{into_iter_items}
use Rattle.std.proofs.lemmas.List.{nil_from_length}
use Rattle.vg_dispatch.specs.Standing.{barrier_id}
use Rattle.vg_dispatch.specs.Workers.{WorkerBook}
use Rattle.vg_threads.specs.Ties.{Tie, tie_of}
use Rattle.vg_threads.proofs.teams.tie_all.Goals as goal

pub returns : goal.returns
returns g c =
    let input = c.args.input.now in
    let tie : WorkerBook → Tie = tie_of input.plan.now input.capture.now input.options.now (barrier_id c.args.barrier.now) in
    let empty = c.in-None.ensures.steps.0 in
    let none : into_iter_items c.loop-worker.worker-iterator ≡ [] = nil_from_length _ (search rules) in
    sym (append-nil _) ∙ (ap (λ (r : List WorkerBook). c.loop-worker.tied.items ++ map tie r) (sym none) ∙ c.loop-worker.invariant.1)
