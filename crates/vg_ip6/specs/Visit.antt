-- What the IPv6 kinds make of a packet (RFC 8200, section 3), around another set of kinds. What a visit of a kind is stands in that
-- kind's file.
use Rattle.std.specs.Prelude.{Option, Some, None}
use Rattle.vg_model.specs.declared.kinds.Kind.{Kind}
use Rattle.vg_model.specs.declared.kinds.Kind.TheVariants as kinds
use Rattle.vg_model.specs.declared.kinds.Step.{Step}
use Rattle.vg_model.specs.Packet.{Packet}
use Rattle.vg_model.specs.Graph.{Graph}
use Rattle.vg_model.specs.Visit.{Visit}
use Rattle.vg_kinds.specs.Around.{around}
pub use Rattle.vg_ip6.specs.nodes.EthernetDual.{type_at, type_ip4, type_ip6, ethernet_dual}
pub use Rattle.vg_ip6.specs.nodes.Ip6Input.{ip6_input}
pub use Rattle.vg_ip6.specs.nodes.Ip6Lookup.{ip6_lookup}
pub use Rattle.vg_ip6.specs.nodes.Ip6Rewrite.{rewritten6, sent_over6, over_interface6, over_adjacency6, ip6_rewrite}

-- a visit of a node of one of the four kinds
abbrev pub ip6_visit_of : Kind → Graph → Packet → Option (Step × Packet)
ip6_visit_of kinds.EthernetDual g p = Some (ethernet_dual g p)
ip6_visit_of kinds.Ip6Input g p = Some (ip6_input p)
ip6_visit_of kinds.Ip6Lookup g p = Some (ip6_lookup g p)
ip6_visit_of kinds.Ip6Rewrite g p = Some (ip6_rewrite g p)
ip6_visit_of kind g p = None

-- a visit of any node
abbrev pub ip6_visit : Visit → Visit
ip6_visit inner = around ip6_visit_of inner
