-- For worked examples alone: their frames.
use Rattle.std.proofs.Common.{ℕ, ◌-◌, List, [], ◌∷◌, ◌++◌, replicate}
use Rattle.std.specs.Prelude.{set}
use Rattle.std.specs.Int.{w16, w32, to_be_bytes, from_be_bytes}
use Rattle.vg_model.specs.Header.{with_checksum}

-- the IPv4 address of these four numbers
abbrev pub ip : (a b c d : ℕ) → ℕ
ip a b c d = from_be_bytes w32 (a ∷ b ∷ c ∷ d ∷ [])

-- the Ethernet header of the frames: to 02:fe:00:00:00:00, from 02:00:00:00:00:01, IPv4
abbrev pub ethernet : List ℕ
ethernet = 2 ∷ 0xfe ∷ 0 ∷ 0 ∷ 0 ∷ 0 ∷ 2 ∷ 0 ∷ 0 ∷ 0 ∷ 0 ∷ 1 ∷ 8 ∷ 0 ∷ []

-- a frame of so many bytes with a header of 20 bytes (protocol 17, the right checksum), and zero bytes behind it
abbrev pub frame : (source destination ttl total len : ℕ) → List ℕ
frame source destination ttl total len =
    ethernet
    ++ with_checksum (0x45 ∷ 0 ∷ [] ++ to_be_bytes w16 total ++ 0 ∷ 0 ∷ 0 ∷ 0 ∷ ttl ∷ 0x11 ∷ 0 ∷ 0 ∷ [] ++ to_be_bytes w32 source ++ to_be_bytes w32 destination)
    ++ replicate (len - 34) 0

-- 34 bytes to 10.1.2.3
abbrev pub plain_frame : List ℕ
plain_frame = frame (ip 192 0 2 1) (ip 10 1 2 3) 64 20 34

-- the same with the type of ARP
abbrev pub arp_frame : List ℕ
arp_frame = set plain_frame 13 6

-- 34 bytes to 10.0.0.1, whose hash by its destination is odd
abbrev pub odd_frame : List ℕ
odd_frame = frame (ip 192 0 2 1) (ip 10 0 0 1) 64 20 34

-- the header of `plain_frame`
abbrev pub plain_header : List ℕ
plain_header = 0x45 ∷ 0 ∷ 0 ∷ 0x14 ∷ 0 ∷ 0 ∷ 0 ∷ 0 ∷ 0x40 ∷ 0x11 ∷ 0xac ∷ 0xd4 ∷ 0xc0 ∷ 0 ∷ 2 ∷ 1 ∷ 10 ∷ 1 ∷ 2 ∷ 3 ∷ []

-- the same lowered
abbrev pub plain_header_lowered : List ℕ
plain_header_lowered = 0x45 ∷ 0 ∷ 0 ∷ 0x14 ∷ 0 ∷ 0 ∷ 0 ∷ 0 ∷ 0x3f ∷ 0x11 ∷ 0xad ∷ 0xd4 ∷ 0xc0 ∷ 0 ∷ 2 ∷ 1 ∷ 10 ∷ 1 ∷ 2 ∷ 3 ∷ []

-- a header whose checksum field has all bits set
abbrev pub full_header : List ℕ
full_header = 0x45 ∷ 0 ∷ 0 ∷ 0x14 ∷ 0xac ∷ 0xd4 ∷ 0 ∷ 0 ∷ 0x40 ∷ 0x11 ∷ 0xff ∷ 0xff ∷ 0xc0 ∷ 0 ∷ 2 ∷ 1 ∷ 10 ∷ 1 ∷ 2 ∷ 3 ∷ []

-- the same lowered
abbrev pub full_header_lowered : List ℕ
full_header_lowered = 0x45 ∷ 0 ∷ 0 ∷ 0x14 ∷ 0xac ∷ 0xd4 ∷ 0 ∷ 0 ∷ 0x3f ∷ 0x11 ∷ 0x01 ∷ 0x00 ∷ 0xc0 ∷ 0 ∷ 2 ∷ 1 ∷ 10 ∷ 1 ∷ 2 ∷ 3 ∷ []

-- a header of 24 bytes, the last four of them options
abbrev pub header_with_options : List ℕ
header_with_options = 0x46 ∷ 0 ∷ 0 ∷ 0x18 ∷ 0 ∷ 0 ∷ 0 ∷ 0 ∷ 0x40 ∷ 0x11 ∷ 0xa9 ∷ 0xcf ∷ 0xc0 ∷ 0 ∷ 2 ∷ 1 ∷ 10 ∷ 1 ∷ 2 ∷ 3 ∷ 1 ∷ 1 ∷ 1 ∷ 0 ∷ []
