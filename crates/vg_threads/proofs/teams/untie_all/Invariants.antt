use Rattle.std.proofs.Common.{◌≡◌, ◌+◌, ◌≤◌, ◌++◌, List, vec_len, vec_capacity}
use Rattle.std.specs.Vec.Iter.{into_iter_items, into_iter_len}
use Rattle.vg_threads.specs.Ties.{Tie, AreTied}
use Rattle.vg_threads.proofs.teams.untie_all.Given as goal

abbrev pub invariant-loop-worker : goal.invariant-loop-worker
invariant-loop-worker g l = let all = l.fn.tied in
    ((done : List Tie) × (done ++ into_iter_items l.worker-iterator ≡ all.items) × AreTied g.K.KindSet.meaning g.H.Handoff.LOSSLESS done l.workers.items)
    × (vec_len l.workers + into_iter_len l.worker-iterator ≡ vec_len all)
    × (vec_len all ≤ vec_capacity l.workers)
