-- The visit of `ip6-input`: the IPv6 header is checked (RFC 8200, section 3; that a hop limit of 0 is dropped here, before the look-up, and
-- the order of the checks are this project's profile).
use Rattle.std.specs.Prelude.{◌+◌, not, ◌==◌, nat_lt, length, if◌then◌else◌}
use Rattle.vg_model.specs.declared.kinds.DropError.TheVariants as errors
use Rattle.vg_model.specs.declared.kinds.Step.{Step}
use Rattle.vg_model.specs.Packet.{Packet}
use Rattle.vg_model.specs.Visit.{next, dropped, datagram, version}
use Rattle.vg_ip6.specs.Header.{ip6_header_len, ip6_version, payload_len, hop_limit}

-- the first check that fails decides; bytes behind the payload are padding
abbrev pub ip6_input : Packet → Step × Packet
ip6_input p =
    let d = datagram p in
    if nat_lt (length d) ip6_header_len then dropped errors.Short p
    else if not (version d == ip6_version) then dropped errors.BadVersion p
    else if nat_lt (length d) (ip6_header_len + payload_len d) then dropped errors.BadLength p
    else if hop_limit d == 0 then dropped errors.TtlZero p
    else next p
