-- For `all_fault`: its loop ends, since the words get fewer.
use Rattle.std.proofs.Common.{length}
use Rattle.vg_why.proofs.faults.all_fault.Given as goal

abbrev pub decreases-loop-rest : goal.decreases-loop-rest
decreases-loop-rest l = length l.rest
