-- The visit of `ethernet-dual`: the Ethernet header is checked, and IPv4 (RFC 894) and IPv6 (RFC 2464, section 3) part (the order of the
-- checks is this project's profile).
use Rattle.std.specs.Prelude.{ℕ, true, ◌==◌, nat_lt, length, slice_get, option_map, unwrap_or, if◌then◌else◌}
use Rattle.vg_model.specs.declared.kinds.DropError.TheVariants as errors
use Rattle.vg_model.specs.declared.kinds.Step.{Step}
use Rattle.vg_model.specs.declared.kinds.Step.TheVariants.{Next}
use Rattle.vg_model.specs.Bytes.{number16_at}
use Rattle.vg_model.specs.Packet.{Packet}
use Rattle.vg_model.specs.Graph.{Graph}
use Rattle.vg_model.specs.Visit.{dropped, ethernet_len, is_foreign}

-- where the type stands
abbrev pub type_at : ℕ
type_at = 12

-- the type of IPv4
abbrev pub type_ip4 : ℕ
type_ip4 = 0x0800

-- the type of IPv6
abbrev pub type_ip6 : ℕ
type_ip6 = 0x86DD

-- IPv4 goes on over the first slot, and IPv6 over the second
abbrev pub ethernet_dual : Graph → Packet → Step × Packet
ethernet_dual g p =
    if nat_lt (length p.bytes) ethernet_len then dropped errors.Short p
    else if unwrap_or (option_map (λ i. is_foreign i p.bytes) (slice_get g.interfaces 0)) true then dropped errors.WrongMac p
    else if number16_at p.bytes type_at == type_ip4 then (Next 0, p)
    else if number16_at p.bytes type_at == type_ip6 then (Next 1, p)
    else dropped errors.UnknownType p
