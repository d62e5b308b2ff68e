-- The visit of `ip4-rewrite`: the frame is made ready for the next hop (RFC 1812, section 5.3.1).
use Rattle.std.specs.Prelude.{ℕ, not, ◌==◌, nat_lt, List, take, drop, slice_get, Option, Some, None, option_and_then, if◌then◌else◌}
use Rattle.vg_model.specs.declared.kinds.DropError.TheVariants as errors
use Rattle.vg_model.specs.declared.kinds.Step.{Step}
use Rattle.vg_model.specs.declared.kinds.Interface.{Interface}
use Rattle.vg_model.specs.declared.kinds.Adjacency.{Adjacency}
use Rattle.vg_model.specs.Bytes.{overwritten}
use Rattle.vg_model.specs.Header.{lowered}
use Rattle.vg_model.specs.Packet.{Packet}
use Rattle.vg_model.specs.Graph.{Graph}
use Rattle.vg_model.specs.nodes.Datagram.{ethernet_len, datagram, header_len, total_len, time_to_live}
use Rattle.vg_model.specs.nodes.Steps.{next, dropped}

-- the adjacency of a packet, where the graph has it
abbrev pub adjacency_of : Graph → Packet → Option Adjacency
adjacency_of g p = option_and_then (slice_get g.adjacencies) p.adjacency

-- the frame to this adjacency over this interface, with the time to live lowered (RFC 1812, section 5.3.1)
abbrev pub rewritten : Adjacency → Interface → List ℕ → List ℕ
rewritten adjacency interface frame =
    let d = drop ethernet_len frame in
    let to = overwritten frame 0 adjacency.mac.0 in
    let from = overwritten to 6 interface.mac.0 in
    overwritten from ethernet_len (lowered (take (header_len d) d))

-- the frame leaves over this interface, where its time to live allows it (RFC 1812, section 5.3.1) and its datagram is no
-- longer than the interface takes (no fragments are made: this project's profile)
abbrev pub sent_over : Adjacency → Interface → Packet → Step × Packet
sent_over adjacency interface p =
    let d = datagram p in
    if time_to_live d == 1 then dropped errors.TtlExpired p
    else if nat_lt interface.mtu (total_len d) then dropped errors.MtuExceeded p
    else next (record p { bytes = rewritten adjacency interface p.bytes; interface = Some adjacency.interface })

-- over this interface, where the graph has it
abbrev pub over_interface : Adjacency → Option Interface → Packet → Step × Packet
over_interface adjacency None p = dropped errors.NoRoute p
over_interface adjacency (Some interface) p = sent_over adjacency interface p

-- over this adjacency, where there is one
abbrev pub over_adjacency : Graph → Option Adjacency → Packet → Step × Packet
over_adjacency g None p = dropped errors.NoRoute p
over_adjacency g (Some adjacency) p = over_interface adjacency (slice_get g.interfaces adjacency.interface) p

-- the frame is made ready for the next hop
abbrev pub ip4_rewrite : Graph → Packet → Step × Packet
ip4_rewrite g p = if not p.checked then dropped errors.Unchecked p else over_adjacency g (adjacency_of g p) p
