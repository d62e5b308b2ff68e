-- The front of a frame, where its headers stand, and numbers in it.
use Rattle.std.specs.Prelude.{ℕ, ◌+◌, ◌*◌, nat_le, List, length, take, if◌then◌else◌}
use Rattle.vg_model.specs.Bytes.{number16_at, number32_at}
use Rattle.vg_model.specs.Packet.{Packet}

-- how many bytes of a frame are looked at: an Ethernet header, and the longest IPv4 header
abbrev pub front_len : ℕ
front_len = 74

-- the first bytes of a frame, and how many it has in all
pub record Front : Type 0 where
  pub bytes : List ℕ
  pub len : ℕ

-- that of a packet
abbrev pub front_of : Packet → Front
front_of p = record { bytes = take front_len p.bytes; len = length p.bytes }

-- the 16-bit number at a place, 0 where the bytes end before
abbrev pub number16 : List ℕ → ℕ → ℕ
number16 bytes at = if nat_le (at + 2) (length bytes) then number16_at bytes at else 0

-- the 32-bit number
abbrev pub number32 : List ℕ → ℕ → ℕ
number32 bytes at = if nat_le (at + 4) (length bytes) then number32_at bytes at else 0

-- the 48-bit number
abbrev pub number48 : List ℕ → ℕ → ℕ
number48 bytes at = number16 bytes at * 4294967296 + number32 bytes (at + 2)
