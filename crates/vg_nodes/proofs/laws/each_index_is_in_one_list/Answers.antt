use Rattle.vg_nodes.proofs.SortedLemmas.{in_one_list}
use Rattle.vg_nodes.proofs.laws.each_index_is_in_one_list.Goals as goal

pub returns : goal.returns
returns c = in_one_list
