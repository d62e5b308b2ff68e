-- Where the fields of an IPv4 datagram stand in a frame (RFC 791, section 3.1).
use Rattle.std.specs.Prelude.{ℕ, ◌*◌, ◌/◌, ◌%◌, List, drop, slice_index}
use Rattle.vg_model.specs.Bytes.{number16_at, number32_at}
use Rattle.vg_model.specs.Packet.{Packet}

-- where the IPv4 header begins in a frame: behind the Ethernet header
abbrev pub ethernet_len : ℕ
ethernet_len = 14

-- what stands behind the Ethernet header: the IPv4 datagram, and any padding
abbrev pub datagram : Packet → List ℕ
datagram p = drop ethernet_len p.bytes

-- the version of a datagram (RFC 791, section 3.1, for this and the next four)
abbrev pub version : List ℕ → ℕ
version d = slice_index d 0 / 16

-- the header length of a datagram, in bytes
abbrev pub header_len : List ℕ → ℕ
header_len d = slice_index d 0 % 16 * 4

-- the total length of a datagram, in bytes
abbrev pub total_len : List ℕ → ℕ
total_len d = number16_at d 2

-- the time to live of a datagram
abbrev pub time_to_live : List ℕ → ℕ
time_to_live d = slice_index d 8

-- the destination address of a datagram
abbrev pub destination : List ℕ → ℕ
destination d = number32_at d 16
