use Rattle.std.proofs.Common.{refl}
use Rattle.vg_model.specs.Header.{ones_sum}
use Rattle.vg_worker_tests.proofs.pool.frame.Goals as goal

pub returns-clause-passes : goal.returns-clause-passes
unfolding ones_sum
returns-clause-passes c = refl

pub returns-clause-still_passes : goal.returns-clause-still_passes
unfolding ones_sum
returns-clause-still_passes c = refl
