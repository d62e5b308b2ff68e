-- For the law of `lines_end_at_nodes`.
use Rattle.vg_draw.proofs.EndLemmas.{has_its_ends}
use Rattle.vg_draw.proofs.laws.lines_end_at_nodes.Goals as goal

pub returns : goal.returns
returns c = has_its_ends
