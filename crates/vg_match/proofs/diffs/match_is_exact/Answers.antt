use Rattle.vg_match.proofs.ExactLemmas.{exact}
use Rattle.vg_match.proofs.diffs.match_is_exact.Goals as goal

pub returns : goal.returns
returns c = λ ignored packets diff is. exact ignored packets diff is
