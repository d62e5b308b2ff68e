-- Packets that are handed over.
use Rattle.std.specs.Prelude.{◌≡◌, ℕ, ◌*◌, ◌≤◌, List, ◌++◌, length, reverse, sum_by}
use Rattle.std.specs.List.{AllByRecursion}
use Rattle.vg_model.specs.Journey.{longest_extent}
use Rattle.vg_model.specs.Packet.{frame_size}
use Rattle.vg_model.specs.PoolBook.{most_pieces}
use Rattle.vg_model.specs.Valid.{extent}
use Rattle.vg_pool.specs.Contents.{Contents}
use Rattle.vg_journeys.specs.Trips.{last_generation}
use Rattle.vg_journeys.specs.Accounts.{HandoffFrame}

-- the most packets of a frame
abbrev pub most_handed : ℕ
most_handed = frame_size

-- the packets of two stacks: first those of the front, from the top down, then those of the back, from the bottom up
abbrev pub in_line : (front back : List Contents) → List Contents
in_line front back = front ++ reverse back

-- a packet lies in no more buffers than the longest
abbrev pub IsChained : Contents → Type 0
IsChained c = c.pieces ≤ most_pieces

-- a list of packets with its counts: of the packets, and of their bytes and rooms together
pub record IsCounted (packets : List Contents) (count bytes : ℕ) : Type 0 where
  pub few : length packets ≤ most_handed
  pub count_is : count ≡ length packets
  pub bytes_are : bytes ≡ sum_by (λ (c : Contents). extent c.packet) packets
  pub fits : bytes ≤ longest_extent * count
  pub chains : AllByRecursion IsChained packets

-- a packet that is handed over has one to three legs, of which the last is of this generation
pub record IsHanded (generation : ℕ) (c : Contents) : Type 0 where
  pub some : 1 ≤ length c.legs
  pub few : length c.legs ≤ 3
  pub last : last_generation c.legs ≡ generation

-- 1 to 256 packets, each of which may be handed over under this generation
pub record MayBeHanded (frame : HandoffFrame) : Type 0 where
  pub some : 1 ≤ length frame.packets
  pub few : length frame.packets ≤ most_handed
  pub each : AllByRecursion (IsHanded frame.generation) frame.packets

-- what holds of every frame: its packets were handed over, and each lies in a chain
pub record IsHandFrame (frame : HandoffFrame) : Type 0 where
  pub some : 1 ≤ length frame.packets
  pub few : length frame.packets ≤ most_handed
  pub each : AllByRecursion (IsHanded frame.generation) frame.packets
  pub chains : AllByRecursion IsChained frame.packets
