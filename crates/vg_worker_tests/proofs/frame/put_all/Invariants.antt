use Rattle.std.proofs.Common.{◌≡◌, ◌+◌, length}
use Rattle.vg_frame.specs.Pending.{pending_count}
use Rattle.vg_worker_tests.proofs.frame.put_all.Given as goal

abbrev pub invariant-loop-index : goal.invariant-loop-index
invariant-loop-index l =
    (length l.store ≡ length l.fn.store) × (pending_count l.store + l.fn.first ≡ pending_count l.fn.store + l.index)
