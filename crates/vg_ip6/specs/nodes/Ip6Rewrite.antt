-- The visit of `ip6-rewrite`: the frame is made ready for the next hop (RFC 8200, section 3, for the hop limit and the payload length; RFC
-- 2464, section 3, for the frame).
use Rattle.std.specs.Prelude.{ℕ, ◌+◌, ◌-◌, nat_le, nat_lt, List, [], ◌∷◌, drop, slice_get, Option, Some, None, if◌then◌else◌}
use Rattle.vg_model.specs.declared.kinds.DropError.TheVariants as errors
use Rattle.vg_model.specs.declared.kinds.Step.{Step}
use Rattle.vg_model.specs.declared.kinds.Interface.{Interface}
use Rattle.vg_model.specs.declared.kinds.Adjacency.{Adjacency}
use Rattle.vg_model.specs.Bytes.{overwritten}
use Rattle.vg_model.specs.Packet.{Packet}
use Rattle.vg_model.specs.Graph.{Graph}
use Rattle.vg_model.specs.Visit.{next, dropped, datagram, ethernet_len, adjacency_of}
use Rattle.vg_ip6.specs.Header.{ip6_header_len, lacks_header, payload_len, hop_limit_at, hop_limit}

-- the frame to this adjacency over this interface, with the hop limit less by one
abbrev pub rewritten6 : Adjacency → Interface → List ℕ → List ℕ
rewritten6 adjacency interface frame =
    let to = overwritten frame 0 adjacency.mac.0 in
    let from = overwritten to 6 interface.mac.0 in
    overwritten from (ethernet_len + hop_limit_at) ((hop_limit (drop ethernet_len frame) - 1) ∷ [])

-- the frame leaves over this interface, where its hop limit allows it (RFC 8200, section 3) and the packet, header and payload, is no
-- longer than the interface takes (RFC 8200, section 4.5: routers make no fragments)
abbrev pub sent_over6 : Adjacency → Interface → Packet → Step × Packet
sent_over6 adjacency interface p =
    let d = datagram p in
    if nat_le (hop_limit d) 1 then dropped errors.TtlExpired p
    else if nat_lt interface.mtu (ip6_header_len + payload_len d) then dropped errors.MtuExceeded p
    else next (record p { bytes = rewritten6 adjacency interface p.bytes; interface = Some adjacency.interface })

-- over this interface, where the graph has it
abbrev pub over_interface6 : Adjacency → Option Interface → Packet → Step × Packet
over_interface6 adjacency None p = dropped errors.NoRoute p
over_interface6 adjacency (Some interface) p = sent_over6 adjacency interface p

-- over this adjacency, where there is one
abbrev pub over_adjacency6 : Graph → Option Adjacency → Packet → Step × Packet
over_adjacency6 g None p = dropped errors.NoRoute p
over_adjacency6 g (Some adjacency) p = over_interface6 adjacency (slice_get g.interfaces adjacency.interface) p

-- over the packet's adjacency
abbrev pub ip6_rewrite : Graph → Packet → Step × Packet
ip6_rewrite g p = if lacks_header (datagram p) then dropped errors.Unchecked p else over_adjacency6 g (adjacency_of g p) p
