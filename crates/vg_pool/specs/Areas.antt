-- What the bytes of one buffer hold.
use Rattle.std.specs.Prelude.{◌≡◌, ℕ, ◌+◌, ◌-◌, ◌≤◌, List, length, take, drop}
use Rattle.vg_model.specs.Packet.{first_room}
use Rattle.vg_model.specs.PoolBook.{buffer_size}
use Rattle.vg_pool.specs.declared.areas.Area.TheInside.{Inside}

-- bytes, and how much room is in front of them
pub record Held : Type 0 where
  pub room : ℕ
  pub bytes : List ℕ

-- all the bytes of a buffer: as many of a packet as it has room for, and as many in front as the room of a fresh packet
abbrev pub area_size : ℕ
area_size = first_room + buffer_size

-- the bytes from the start to the end
abbrev pub held : Inside → Held
held a = record { room = a.start; bytes = take (a.end - a.start) (drop a.start a.plot.items) }

pub record IsArea (a : Inside) : Type 0 where
  pub ordered : a.start ≤ a.end
  pub within : a.end ≤ length a.plot.items
  pub size : a.end ≤ area_size
  pub cap : a.plot.cap ≡ area_size
