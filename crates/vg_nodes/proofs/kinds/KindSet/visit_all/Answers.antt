use Rattle.std.proofs.Common.{rules}
use Rattle.vg_nodes.proofs.kinds.KindSet.visit_all.Goals as goal

pub returns-clause-visited : goal.returns-clause-visited
returns-clause-visited g c = c.visit_each.ensures.visited _ (λ before step after gives. search rules)
