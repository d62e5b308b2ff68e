-- What a visit of a node makes of a packet: an Ethernet and IPv4 router's nodes (RFC 791, section 3.1; RFC 1812,
-- sections 5.2.2, 5.2.4.3 and 5.3.1). What a visit of a kind is stands in that kind's file.
use Rattle.std.specs.Prelude.{ℕ, option_map, unwrap_or}
use Rattle.vg_model.specs.declared.kinds.Kind.{Kind}
use Rattle.vg_model.specs.declared.kinds.Kind.TheVariants as kinds
use Rattle.vg_model.specs.declared.kinds.DropError.TheVariants as errors
use Rattle.vg_model.specs.declared.kinds.Step.{Step}
use Rattle.vg_model.specs.declared.kinds.Step.TheVariants.{Hand}
use Rattle.vg_model.specs.Hash.{flow_hash}
use Rattle.vg_model.specs.Packet.{Packet}
use Rattle.vg_model.specs.Graph.{Graph, kind_at}
pub use Rattle.vg_model.specs.nodes.Steps.{next, dropped}
pub use Rattle.vg_model.specs.nodes.Datagram.{ethernet_len, datagram, version, header_len, total_len, time_to_live, destination}
pub use Rattle.vg_model.specs.nodes.EthernetInput.{is_foreign, ethernet_input}
pub use Rattle.vg_model.specs.nodes.Ip4Input.{fault_within, header_fault, ip4_input}
pub use Rattle.vg_model.specs.nodes.Ip4Lookup.{forwarded, ip4_lookup}
pub use Rattle.vg_model.specs.nodes.Ip4Rewrite.{adjacency_of, rewritten, sent_over, over_interface, over_adjacency, ip4_rewrite}
pub use Rattle.vg_model.specs.nodes.Interfaces.{transmit_interface, interface_output, interface_tx}

-- what a set of kinds makes of a visit: the step, and the packet after it
abbrev pub Visit : Type 0
Visit = Graph → ℕ → Packet → Step × Packet

-- a visit of a node of this kind
abbrev pub visit_of : Kind → Graph → Packet → Step × Packet
visit_of kinds.EthernetInput g p = ethernet_input g p
visit_of kinds.Ip4Input g p = ip4_input p
visit_of kinds.Ip4Lookup g p = ip4_lookup g p
visit_of kinds.Ip4Rewrite g p = ip4_rewrite g p
visit_of kinds.InterfaceOutput g p = interface_output g p
visit_of kinds.InterfaceTx g p = interface_tx g p
visit_of kinds.Pass g p = next p
visit_of (kinds.WorkerHandoff hash) g p = (Hand (flow_hash hash p.bytes), p)
visit_of kinds.ErrorDrop g p = dropped errors.Blackhole p
-- no arc leads to these two: a leg begins with them, and nothing else visits them
visit_of kinds.PgInput g p = dropped errors.Blackhole p
visit_of kinds.HandoffDequeue g p = dropped errors.Blackhole p
-- what is visited by other sets of kinds
visit_of kinds.EthernetDual g p = dropped errors.Blackhole p
visit_of kinds.Ip6Input g p = dropped errors.Blackhole p
visit_of kinds.Ip6Lookup g p = dropped errors.Blackhole p
visit_of kinds.Ip6Rewrite g p = dropped errors.Blackhole p
visit_of (kinds.Dot1qMatch id) g p = dropped errors.Blackhole p
visit_of (kinds.Dot1qPush id) g p = dropped errors.Blackhole p
visit_of (kinds.Dot1qRewrite id) g p = dropped errors.Blackhole p
visit_of (kinds.CrossConnect interface) g p = dropped errors.Blackhole p

-- the visits of the IPv4 kinds
abbrev pub ip4_visit : Visit
ip4_visit g n p = unwrap_or (option_map (λ kind. visit_of kind g p) (kind_at g n)) (dropped errors.Blackhole p)
