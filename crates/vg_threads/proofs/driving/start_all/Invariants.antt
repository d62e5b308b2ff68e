use Rattle.std.proofs.Common.{◌≡◌, ◌+◌, ◌≤◌, ◌++◌, map, vec_len, vec_capacity}
use Rattle.std.specs.Vec.Iter.{into_iter_items, into_iter_len}
use Rattle.vg_threads.specs.Starts.{started_tie}
use Rattle.vg_threads.proofs.driving.start_all.Given as goal

abbrev pub invariant-loop-worker : goal.invariant-loop-worker
invariant-loop-worker g l = let all = l.fn.workers in
    (map started_tie l.started.items ++ into_iter_items l.worker-iterator ≡ all.items)
    × (vec_len l.started + into_iter_len l.worker-iterator ≡ vec_len all)
    × (vec_len all ≤ vec_capacity l.started)
