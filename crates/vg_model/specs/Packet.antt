-- A packet and its metadata (VLIB: a buffer, its current data and its opaque fields).
use Rattle.std.specs.Prelude.{ℕ, Bool, false, List, Option, None}

-- a packet on its way
pub record Packet : Type 0 where
  pub number : ℕ
  pub bytes : List ℕ
  -- how many bytes may still be put in front of it where it lies (VLIB: the headroom of its buffer)
  pub room : ℕ
  -- the mark: the checks of the IPv4 header would pass on the packet as it is
  pub checked : Bool
  -- the number of the adjacency that the lookup chose
  pub adjacency : Option ℕ
  -- the number of the interface to transmit on
  pub interface : Option ℕ

-- the room of a packet as it is received
abbrev pub first_room : ℕ
first_room = 64

-- the most bytes of a packet that is received into buffers; a longer one keeps none, and is dropped as it is drawn
abbrev pub longest_packet : ℕ
longest_packet = 9216

-- the most packets of a frame
abbrev pub frame_size : ℕ
frame_size = 256

-- a packet as it is received
abbrev pub fresh : ℕ → List ℕ → Packet
fresh number bytes = record { number = number; bytes = bytes; room = first_room; checked = false; adjacency = None; interface = None }
