-- What the VLAN kinds and cross-connects make of a packet (IEEE 802.1Q), around another set of kinds. What a visit of a kind is stands in
-- that kind's file.
use Rattle.std.specs.Prelude.{Option, Some, None}
use Rattle.vg_model.specs.declared.kinds.Kind.{Kind}
use Rattle.vg_model.specs.declared.kinds.Kind.TheVariants as kinds
use Rattle.vg_model.specs.declared.kinds.Step.{Step}
use Rattle.vg_model.specs.Packet.{Packet}
use Rattle.vg_model.specs.Graph.{Graph}
use Rattle.vg_model.specs.Visit.{Visit}
use Rattle.vg_kinds.specs.Around.{around}
pub use Rattle.vg_dot1q.specs.nodes.Dot1qMatch.{dot1q_match}
pub use Rattle.vg_dot1q.specs.nodes.Dot1qPush.{dot1q_push}
pub use Rattle.vg_dot1q.specs.nodes.Dot1qRewrite.{dot1q_rewrite}
pub use Rattle.vg_dot1q.specs.nodes.CrossConnect.{cross_connect}

-- a visit of a node of one of the four families of kinds
abbrev pub dot1q_visit_of : Kind → Graph → Packet → Option (Step × Packet)
dot1q_visit_of (kinds.Dot1qMatch id) g p = Some (dot1q_match id.number p)
dot1q_visit_of (kinds.Dot1qPush id) g p = Some (dot1q_push id.number p)
dot1q_visit_of (kinds.Dot1qRewrite id) g p = Some (dot1q_rewrite id.number p)
dot1q_visit_of (kinds.CrossConnect interface) g p = Some (cross_connect interface g p)
dot1q_visit_of kind g p = None

-- a visit of any node
abbrev pub dot1q_visit : Visit → Visit
dot1q_visit inner = around dot1q_visit_of inner
