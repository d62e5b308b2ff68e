-- The visit of `ip4-input`: the IPv4 header is checked (RFC 1812, section 5.2.2).
use Rattle.std.specs.Prelude.{ℕ, true, not, ◌||◌, ◌==◌, nat_lt, List, length, take, Option, Some, None, option_map, unwrap_or, if◌then◌else◌}
use Rattle.vg_model.specs.declared.kinds.DropError.{DropError}
use Rattle.vg_model.specs.declared.kinds.DropError.TheVariants as errors
use Rattle.vg_model.specs.declared.kinds.Step.{Step}
use Rattle.vg_model.specs.Header.{verifies}
use Rattle.vg_model.specs.Packet.{Packet}
use Rattle.vg_model.specs.nodes.Datagram.{datagram, version, header_len, total_len, time_to_live}
use Rattle.vg_model.specs.nodes.Steps.{next, dropped}

-- the first of these checks that fails of the IPv4 header of a payload of so many bytes that begins with these (RFC 1812,
-- section 5.2.2; that a time to live of 0 is dropped here, before the lookup, is this project's profile)
abbrev pub fault_within : List ℕ → ℕ → Option DropError
fault_within d len =
    if nat_lt len 20 then Some errors.Short
    else if not (version d == 4) then Some errors.BadVersion
    else if nat_lt (header_len d) 20 || nat_lt len (header_len d) then Some errors.BadHeaderLength
    else if nat_lt (total_len d) (header_len d) || nat_lt len (total_len d) then Some errors.BadLength
    else if not (verifies (take (header_len d) d)) then Some errors.BadChecksum
    else if time_to_live d == 0 then Some errors.TtlZero
    else None

-- the first that fails of a payload's IPv4 header
abbrev pub header_fault : List ℕ → Option DropError
header_fault d = fault_within d (length d)

-- the IPv4 header is checked, and the packet gets the mark
abbrev pub ip4_input : Packet → Step × Packet
ip4_input p = unwrap_or (option_map (λ error. dropped error p) (header_fault (datagram p))) (next (record p { checked = true }))
