use Rattle.std.proofs.Common.{◌≡◌, sym, subst, rules}
use Rattle.std.proofs.Math.Path.{fun_ext}
use Rattle.vg_nodes.specs.Dispatch.{NodeVisit, IsSortedBy, IsVisitedBy}
use Rattle.vg_ip6.specs.Visit.{ip6_visit}
use Rattle.vg_ip6.proofs.ip6.Ip6KindsKindSet.visit_all.Goals as goal

pub returns-in-EthernetDual-clause-visited : goal.returns-in-EthernetDual-clause-visited
returns-in-EthernetDual-clause-visited g c = c.visit_each.ensures.visited _ (search rules)

pub returns-in-Ip6Input-clause-visited : goal.returns-in-Ip6Input-clause-visited
returns-in-Ip6Input-clause-visited g c = c.visit_each-in-Ip6Input.ensures.visited _ (search rules)

pub returns-in-Ip6Lookup-clause-visited : goal.returns-in-Ip6Lookup-clause-visited
returns-in-Ip6Lookup-clause-visited g c = c.visit_each-in-Ip6Lookup.ensures.visited _ (search rules)

pub returns-in-Ip6Rewrite-clause-visited : goal.returns-in-Ip6Rewrite-clause-visited
returns-in-Ip6Rewrite-clause-visited g c = c.visit_each-in-Ip6Rewrite.ensures.visited _ (search rules)

pub returns-in_default-clause-sorted : goal.returns-in_default-clause-sorted
returns-in_default-clause-sorted g c =
    let inner : NodeVisit = g.K.KindSet.meaning c.args.fork.now.graph c.args.node in
    let same : ip6_visit g.K.KindSet.meaning c.args.fork.now.graph c.args.node ≡ inner = fun_ext (λ p. search rules) in
    subst (λ (visit : NodeVisit). IsSortedBy visit c.args.memory.now c.args.indexes.now c.visit_all.new.out) (sym same) c.visit_all.ensures.sorted

pub returns-in_default-clause-visited : goal.returns-in_default-clause-visited
returns-in_default-clause-visited g c =
    let inner : NodeVisit = g.K.KindSet.meaning c.args.fork.now.graph c.args.node in
    let same : ip6_visit g.K.KindSet.meaning c.args.fork.now.graph c.args.node ≡ inner = fun_ext (λ p. search rules) in
    subst (λ (visit : NodeVisit). IsVisitedBy visit c.args.indexes.now c.args.memory.now c.visit_all.new.memory) (sym same) c.visit_all.ensures.visited
