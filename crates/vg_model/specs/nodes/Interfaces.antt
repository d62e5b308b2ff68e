-- The visits of `interface-output`, which drops where the interface is down, and of `interface-tx`, which transmits.
use Rattle.std.specs.Prelude.{ℕ, true, nat_lt, length, slice_get, Some, None, option_map, option_and_then, unwrap_or, if◌then◌else◌}
use Rattle.vg_model.specs.declared.kinds.DropError.TheVariants as errors
use Rattle.vg_model.specs.declared.kinds.Step.{Step}
use Rattle.vg_model.specs.declared.kinds.Step.TheVariants.{Tx}
use Rattle.vg_model.specs.Packet.{Packet}
use Rattle.vg_model.specs.Graph.{Graph}
use Rattle.vg_model.specs.nodes.Steps.{next, dropped}

-- the number of the interface that a packet is transmitted on: its own, where the graph has it, or else 0
abbrev pub transmit_interface : Graph → Packet → ℕ
transmit_interface g p = unwrap_or (option_and_then (λ i. if nat_lt i (length g.interfaces) then Some i else None) p.interface) 0

-- an interface that is down drops
abbrev pub interface_output : Graph → Packet → Step × Packet
interface_output g p =
    if unwrap_or (option_map (λ i. i.up) (slice_get g.interfaces (transmit_interface g p))) true then next p
    else dropped errors.InterfaceDown p

-- the packet is transmitted
abbrev pub interface_tx : Graph → Packet → Step × Packet
interface_tx g p = (Tx (transmit_interface g p), p)
