use Rattle.std.proofs.Common.{◌≡◌, ◌+◌, ◌≤◌, ◌++◌, map, vec_len, vec_capacity}
use Rattle.std.specs.Vec.Iter.{into_iter_items, into_iter_len}
use Rattle.std.specs.List.{AllByRecursion}
use Rattle.vg_dispatch.specs.Standing.{barrier_id}
use Rattle.vg_threads.specs.Ties.{IsWorkerAt, tie_of}
use Rattle.vg_threads.proofs.teams.tie_all.Given as goal

abbrev pub invariant-loop-worker : goal.invariant-loop-worker
invariant-loop-worker g l =
    let all = l.fn.workers in
    let input = l.fn.input in
    let barrier = barrier_id l.fn.barrier in
    AllByRecursion (IsWorkerAt g.K.KindSet.meaning g.H.Handoff.LOSSLESS input.plan.now input.capture.now input.options.now barrier) (into_iter_items l.worker-iterator)
    × (l.tied.items ++ map (tie_of input.plan.now input.capture.now input.options.now barrier) (into_iter_items l.worker-iterator)
    ≡ map (tie_of input.plan.now input.capture.now input.options.now barrier) all.items)
    × (vec_len l.tied + into_iter_len l.worker-iterator ≡ vec_len all)
    × (vec_len all ≤ vec_capacity l.tied)
