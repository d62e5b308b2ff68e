use Rattle.std.proofs.Common.{◌<◌, length, arith}
use Rattle.std.proofs.lemmas.List.{length-set}
use Rattle.vg_frame.proofs.PendingLemmas.{pending_count-put}
use Rattle.vg_worker_tests.proofs.frame.put_all.Goals as goal

pub loop-index-preserved : goal.loop-index-preserved
loop-index-preserved c =
    let within : c.args.node < length c.loop-index.store = omega arith in
    rw c.put.ensures
    (rw length-set c.loop-index.invariant.0, let one = pending_count-put c.loop-index.store c.args.node c.loop-index.index within in omega arith)
