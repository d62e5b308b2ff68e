use Rattle.std.proofs.Common.{◌≡◌, ◌++◌, List}
use Rattle.std.specs.Prelude.{All}
use Rattle.std.specs.Vec.Iter.{into_iter_items}
use Rattle.vg_dispatch.specs.Workers.{WorkerBook, IsIdle}
use Rattle.vg_workers.specs.Ended.{HaveKept}
use Rattle.vg_workers.proofs.ends.end_all.Given as goal

abbrev pub invariant-loop-worker : goal.invariant-loop-worker
invariant-loop-worker g l = record {
  ended : (done : List WorkerBook) × (done ++ into_iter_items l.worker-iterator ≡ l.fn.workers.items) × HaveKept done l.ends;
  idle : All IsIdle (into_iter_items l.worker-iterator);
}
