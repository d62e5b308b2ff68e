use Rattle.std.proofs.Common.{rules}
use Rattle.vg_nodes.proofs.ip4.Ip4KindsKindSet.visit_all.Goals as goal

pub returns-in-EthernetInput-clause-visited : goal.returns-in-EthernetInput-clause-visited
returns-in-EthernetInput-clause-visited c = c.visit_each.ensures.visited _ (search rules)

pub returns-in-Ip4Input-clause-visited : goal.returns-in-Ip4Input-clause-visited
returns-in-Ip4Input-clause-visited c = c.visit_each-in-Ip4Input.ensures.visited _ (search rules)

pub returns-in-Ip4Lookup-clause-visited : goal.returns-in-Ip4Lookup-clause-visited
returns-in-Ip4Lookup-clause-visited c = c.visit_each-in-Ip4Lookup.ensures.visited _ (search rules)

pub returns-in-Ip4Rewrite-clause-visited : goal.returns-in-Ip4Rewrite-clause-visited
returns-in-Ip4Rewrite-clause-visited c = c.visit_each-in-Ip4Rewrite.ensures.visited _ (search rules)

pub returns-in-InterfaceOutput-clause-visited : goal.returns-in-InterfaceOutput-clause-visited
returns-in-InterfaceOutput-clause-visited c = c.visit_each-in-InterfaceOutput.ensures.visited _ (search rules)

pub returns-in-InterfaceTx-clause-visited : goal.returns-in-InterfaceTx-clause-visited
returns-in-InterfaceTx-clause-visited c = c.visit_each-in-InterfaceTx.ensures.visited _ (search rules)

pub returns-in-WorkerHandoff-clause-visited : goal.returns-in-WorkerHandoff-clause-visited
returns-in-WorkerHandoff-clause-visited c = c.visit_each-in-WorkerHandoff.ensures.visited _ (search rules)

pub returns-in_default-clause-sorted : goal.returns-in_default-clause-sorted
returns-in_default-clause-sorted c = c.visit_each-in_default.ensures.sorted _ (λ before step after gives. search rules)

pub returns-in_default-clause-visited : goal.returns-in_default-clause-visited
returns-in_default-clause-visited c = c.visit_each-in_default.ensures.visited _ (λ before step after gives. search rules)
