-- Frames that wait, in two queues.
use Rattle.std.specs.Prelude.{◌≡◌, ℕ, ◌+◌, ◌≤◌, ◌^◌, List, [], ◌∷◌, ◌++◌, length, take, drop, Option, None, option_to_list}
use Rattle.vg_pool.specs.Contents.{Contents}
use Rattle.vg_ring.specs.declared.ends.RingTx.{RingTx}
use Rattle.vg_ring.specs.Ends.{put}
use Rattle.vg_journeys.specs.Accounts.{HandoffFrame}
use Rattle.vg_hands.specs.Handed.{IsHandFrame}
use Rattle.vg_backlog.specs.declared.waiting.Head.{Head}
use Rattle.vg_backlog.specs.Books.{packets_in}

-- frames, oldest first, and for how many packets there is room
pub record Store : Type 0 where
  pub frames : List HandoffFrame
  pub room : ℕ

-- the frame of a head, whose packets are the first of these
abbrev pub frame_at : Head → List Contents → HandoffFrame
frame_at head packets = record { node = head.node; generation = head.generation; packets = take head.count packets }

-- the frames of heads, whose packets stand one behind the other
abbrev pub frames_of : List Head → List Contents → List HandoffFrame
frames_of [] packets = []
frames_of (head ∷ heads) packets = frame_at head packets ∷ frames_of heads (drop head.count packets)

-- these are just their packets
abbrev pub AreOf : List Head → List Contents → Type 0
AreOf [] packets = packets ≡ []
AreOf (head ∷ heads) packets = (head.count ≤ length packets) × IsHandFrame (frame_at head packets) × AreOf heads (drop head.count packets)

-- what a backlog keeps: frames are behind the first alone, they fit the room, and as many as are held may still be put
pub record IsHolding (end : RingTx HandoffFrame) (next : Option HandoffFrame) (behind : Store) (room : ℕ) : Type 0 where
  pub first : next ≡ None → behind.frames ≡ []
  pub place : room ≤ behind.room
  pub fits : packets_in (option_to_list next ++ behind.frames) ≤ room
  pub few : 1 ≤ length (option_to_list next ++ behind.frames) → length (put end) + length (option_to_list next ++ behind.frames) ≤ 2 ^ 62
