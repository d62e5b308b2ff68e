use Rattle.std.proofs.Common.{◌≡◌, sym, subst, rules}
use Rattle.std.proofs.Math.Path.{fun_ext}
use Rattle.vg_nodes.specs.Dispatch.{NodeVisit, IsSortedBy, IsVisitedBy}
use Rattle.vg_dot1q.specs.Visit.{dot1q_visit}
use Rattle.vg_dot1q.proofs.dot1q.Dot1qKindsKindSet.visit_all.Goals as goal

pub returns-in-Dot1qMatch-clause-visited : goal.returns-in-Dot1qMatch-clause-visited
returns-in-Dot1qMatch-clause-visited g c = c.visit_each.ensures.visited _ (search rules)

pub returns-in-Dot1qPush-clause-visited : goal.returns-in-Dot1qPush-clause-visited
returns-in-Dot1qPush-clause-visited g c = c.visit_each-in-Dot1qPush.ensures.visited _ (search rules)

pub returns-in-Dot1qRewrite-clause-visited : goal.returns-in-Dot1qRewrite-clause-visited
returns-in-Dot1qRewrite-clause-visited g c = c.visit_each-in-Dot1qRewrite.ensures.visited _ (search rules)

pub returns-in-CrossConnect-clause-visited : goal.returns-in-CrossConnect-clause-visited
returns-in-CrossConnect-clause-visited g c = c.visit_each-in-CrossConnect.ensures.visited _ (search rules)

pub returns-in_default-clause-sorted : goal.returns-in_default-clause-sorted
returns-in_default-clause-sorted g c =
    let inner : NodeVisit = g.K.KindSet.meaning c.args.fork.now.graph c.args.node in
    let same : dot1q_visit g.K.KindSet.meaning c.args.fork.now.graph c.args.node ≡ inner = fun_ext (λ p. search rules) in
    subst (λ (visit : NodeVisit). IsSortedBy visit c.args.memory.now c.args.indexes.now c.visit_all.new.out) (sym same) c.visit_all.ensures.sorted

pub returns-in_default-clause-visited : goal.returns-in_default-clause-visited
returns-in_default-clause-visited g c =
    let inner : NodeVisit = g.K.KindSet.meaning c.args.fork.now.graph c.args.node in
    let same : dot1q_visit g.K.KindSet.meaning c.args.fork.now.graph c.args.node ≡ inner = fun_ext (λ p. search rules) in
    subst (λ (visit : NodeVisit). IsVisitedBy visit c.args.indexes.now c.args.memory.now c.visit_all.new.memory) (sym same) c.visit_all.ensures.visited
