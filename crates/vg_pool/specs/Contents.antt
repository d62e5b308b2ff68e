-- What a buffer carries: a packet, the legs that it has done so far, and over how many buffers of 2,048 bytes it goes.
use Rattle.std.specs.Prelude.{◌≡◌, ℕ, zero, suc, ◌+◌, ◌-◌, ◌*◌, ◌≤◌, nat_lt, List, [], length, take, slice_range, None, if◌then◌else◌}
use Rattle.vg_model.specs.Packet.{Packet, fresh, first_room, longest_packet}
use Rattle.vg_model.specs.Bytes.{overwritten}
use Rattle.vg_model.specs.PoolBook.{buffer_size, most_pieces}
use Rattle.vg_model.specs.Valid.{IsPacket, most_room, extent, most_extent}
use Rattle.vg_model.specs.Visit.{datagram, header_fault}
use Rattle.vg_model.specs.declared.fates.Leg.{Leg}

-- a packet, its legs, and how many buffers its chain has
pub record Contents : Type 0 where
  pub packet : Packet
  pub legs : List Leg
  pub pieces : ℕ

-- the bytes that are kept of a packet as it is received: none of one that is too long
abbrev pub kept_of : List ℕ → List ℕ
kept_of bytes = if nat_lt longest_packet (length bytes) then [] else bytes

-- a packet as it is received into a chain of so many buffers, with no legs yet
abbrev pub received : (pieces number : ℕ) → List ℕ → Contents
received pieces number bytes = record { packet = fresh number (kept_of bytes); legs = []; pieces = pieces }

-- a packet in a chain of so many buffers, with so much room in front, and with nothing chosen yet
abbrev pub laid : (pieces number room : ℕ) → List ℕ → Contents
laid pieces number room bytes = record { packet = record (fresh number bytes) { room = room }; legs = []; pieces = pieces }

-- a chain of so many buffers that no packet was put into
abbrev pub nothing : ℕ → Contents
nothing pieces = record { packet = fresh 0 []; legs = []; pieces = pieces }

-- where in a packet with this room the part in buffer k of its chain begins: what is left of the first buffer takes the
-- first part, and each further part fills a buffer
abbrev pub begins : (room k : ℕ) → ℕ
begins room zero = 0
begins room (suc k) = first_room + buffer_size * suc k - room

-- the part of a packet in buffer k of its chain
abbrev pub part : Packet → ℕ → List ℕ
part p k = slice_range p.bytes (begins p.room k) (begins p.room (suc k))

-- the part of a packet in the first buffer
abbrev pub head_of : Packet → List ℕ
head_of p = take (first_room + buffer_size - p.room) p.bytes

-- the least bytes of the part in the first buffer, where the packet has more
abbrev pub least_head : ℕ
least_head = 1984

-- the checks of the IPv4 header pass on the packet
abbrev pub Passes : Packet → Type 0
Passes p = header_fault (datagram p) ≡ None

-- the packet with these bytes at a place, in place of as many that stand there
abbrev pub written : Packet → ℕ → List ℕ → Packet
written p at bytes = record p { bytes = overwritten p.bytes at bytes }

-- what holds of every buffer: the packet may be, and fits into the chain, its room is in bounds, and it has at most four legs
pub record AreContents (c : Contents) : Type 0 where
  pub packet : IsPacket c.packet
  pub some : 1 ≤ c.pieces
  pub few : c.pieces ≤ most_pieces
  pub room : c.packet.room ≤ most_room
  pub len : extent c.packet ≤ most_extent
  pub fits : extent c.packet ≤ first_room + buffer_size * c.pieces
  pub few_legs : length c.legs ≤ 4
