use Rattle.std.proofs.Common.{refl}
use Rattle.vg_graph.proofs.SearchLemmas.{reach_first}
use Rattle.vg_graph.proofs.search.Search.from.Goals as goal

pub returns : goal.returns
returns c = record { first = reach_first _ c.reach.new.self c.args.node refl c.new.ensures c.reach.ensures }
