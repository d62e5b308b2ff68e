use Rattle.vg_model.proofs.Checksums.{sum_folds}
use Rattle.vg_model.proofs.laws.sum_may_be_folded_at_the_end.Goals as goal

pub returns : goal.returns
returns c = sum_folds
