use Rattle.std.proofs.Common.{ℕ, ◌<◌, slice_index_or}
use Rattle.vg_dispatch.specs.Workers.{WorkerBook, IsIdle}
use Rattle.vg_workers.proofs.crews.are_idle.Given as goal

abbrev pub invariant-loop-worker : goal.invariant-loop-worker
invariant-loop-worker g l = (k : ℕ) (d : WorkerBook) → k < l.worker-index → IsIdle (slice_index_or l.workers.items k d)
