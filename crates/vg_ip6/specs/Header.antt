-- The fixed header of an IPv6 packet (RFC 8200, section 3), as it stands behind the Ethernet header.
use Rattle.std.specs.Prelude.{ℕ, Bool, not, ◌||◌, ◌==◌, nat_lt, List, length, slice_index, slice_range, bit_xor}
use Rattle.std.specs.Int.{w128, from_be_bytes}
use Rattle.vg_model.specs.Bytes.{number16_at, number32_at}
use Rattle.vg_model.specs.Hash.{mixed}
use Rattle.vg_model.specs.Visit.{version}

-- how many bytes it has
abbrev pub ip6_header_len : ℕ
ip6_header_len = 40

-- its version
abbrev pub ip6_version : ℕ
ip6_version = 6

-- the bytes hold no whole header, or one of another version
abbrev pub lacks_header : List ℕ → Bool
lacks_header d = nat_lt (length d) ip6_header_len || not (version d == ip6_version)

-- the length of what follows the header, in bytes
abbrev pub payload_len : List ℕ → ℕ
payload_len d = number16_at d 4

-- where the hop limit stands
abbrev pub hop_limit_at : ℕ
hop_limit_at = 7

-- the hop limit
abbrev pub hop_limit : List ℕ → ℕ
hop_limit d = slice_index d hop_limit_at

-- the destination address
abbrev pub destination6 : List ℕ → ℕ
destination6 d = from_be_bytes w128 (slice_range d 24 40)

-- the exclusive or of the four words of the source address and the four of the destination address
abbrev pub address_key : List ℕ → ℕ
address_key d =
    let word : ℕ → ℕ = number32_at d in
    bit_xor (bit_xor (bit_xor (bit_xor (bit_xor (bit_xor (bit_xor (word 8) (word 12)) (word 16)) (word 20)) (word 24)) (word 28)) (word 32)) (word 36)

-- the hash by which one of a route's adjacencies is picked: a flow and its answers have one (this project's profile)
abbrev pub flow_hash6 : List ℕ → ℕ
flow_hash6 d = mixed (address_key d)
