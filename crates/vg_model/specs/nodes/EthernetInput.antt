-- The visit of `ethernet-input`: the Ethernet header is checked (the order of the checks is this project's profile).
use Rattle.std.specs.Prelude.{ℕ, ◌%◌, Bool, true, not, ◌&&◌, ◌==◌, nat_lt, List, length, take, slice_get, slice_index, bytes_eq, option_map, unwrap_or, if◌then◌else◌}
use Rattle.vg_model.specs.declared.kinds.DropError.TheVariants as errors
use Rattle.vg_model.specs.declared.kinds.Step.{Step}
use Rattle.vg_model.specs.declared.kinds.Interface.{Interface}
use Rattle.vg_model.specs.Bytes.{number16_at}
use Rattle.vg_model.specs.Packet.{Packet}
use Rattle.vg_model.specs.Graph.{Graph}
use Rattle.vg_model.specs.nodes.Datagram.{ethernet_len}
use Rattle.vg_model.specs.nodes.Steps.{next, dropped}

-- the interface filters, and the frame is neither to its address nor to a group (the group bit is the lowest of byte 0)
abbrev pub is_foreign : Interface → List ℕ → Bool
is_foreign interface frame =
    interface.filter && not (bytes_eq (take 6 frame) (interface.mac.0)) && slice_index frame 0 % 2 == 0

-- the Ethernet header is checked, and IPv4 goes on
abbrev pub ethernet_input : Graph → Packet → Step × Packet
ethernet_input g p =
    if nat_lt (length p.bytes) ethernet_len then dropped errors.Short p
    else if unwrap_or (option_map (λ i. is_foreign i p.bytes) (slice_get g.interfaces 0)) true then dropped errors.WrongMac p
    else if not (number16_at p.bytes 12 == 0x0800) then dropped errors.UnknownType p
    else next p
