-- The packets of a round that full queues refused, and the frames that came back from these queues.
use Rattle.std.specs.Prelude.{◌≡◌, ℕ, ◌+◌, List, [], ◌∷◌, ◌++◌, length, Some, Contains}
use Rattle.vg_model.specs.Leg.{Handed}
use Rattle.vg_pool.specs.Contents.{Contents}
use Rattle.vg_journeys.specs.Trips.{Trip, contents_after}
use Rattle.vg_journeys.specs.Accounts.{HandoffFrame, frames_with}
use Rattle.vg_underway.specs.Outlets.{outlet_with, Push, Accepted, CameBack}
use Rattle.vg_dispatch.specs.Workers.{WorkerBook}

-- the frames that came back from these pushes, oldest first
abbrev pub came_back : List Push → List HandoffFrame
came_back [] = []
came_back (Accepted frame ∷ pushes) = came_back pushes
came_back (CameBack frame count ∷ pushes) = frame ∷ came_back pushes

-- the frames that were accepted, oldest first
abbrev pub accepted_by : List Push → List HandoffFrame
accepted_by [] = []
accepted_by (Accepted frame ∷ pushes) = frame ∷ accepted_by pushes
accepted_by (CameBack frame count ∷ pushes) = accepted_by pushes

-- they have the same number, and went the same legs
pub record IsSamePacket (c d : Contents) : Type 0 where
  pub number : c.packet.number ≡ d.packet.number
  pub legs : c.legs ≡ d.legs

-- One of these pushes to a queue that had accepted so many frames before them offered a frame of this node, in which this packet stood.
-- The frame came back, with this count: how many frames the queue had accepted just then.
pub record WasOffered (before : ℕ) (pushes : List Push) (node count : ℕ) (c : Contents) : Type 0 where
  pub earlier : List Push
  pub frame : HandoffFrame
  pub later : List Push
  pub offered : pushes ≡ earlier ++ CameBack frame count ∷ later
  pub counted : count ≡ before + length (accepted_by earlier)
  pub its_node : frame.node ≡ node
  pub packet : Contents
  pub inside : Contains frame.packets packet
  pub same : IsSamePacket packet c

-- the trip of this packet ended at a node with the queue to this worker, which refused it with this count
pub record WasRefused (trips : List Trip) (node to count : ℕ) (c : Contents) : Type 0 where
  pub trip : Trip
  pub made : Contains trips trip
  pub outcome : trip.way.outcome ≡ Handed node to
  pub refused : trip.refused ≡ Some count
  pub same : IsSamePacket (contents_after trip) c

-- Of the queue to one worker: the packets of a round that it refused, and those of the frames that the round offered to it and that came
-- back, are the same; and these frames are what it has refused since the round began.
pub record AreRefusals (to : ℕ) (old new : WorkerBook) (trips : List Trip) (pushes : List Push) : Type 0 where
  pub offered : (trip : Trip) (node count : ℕ) → Contains trips trip → trip.way.outcome ≡ Handed node to → trip.refused ≡ Some count
      → WasOffered (length (frames_with to old.put)) pushes node count (contents_after trip)
  pub refused : (frame : HandoffFrame) (count : ℕ) (c : Contents) → Contains pushes (CameBack frame count) → Contains frame.packets c
      → WasRefused trips frame.node to count c
  pub listed : (outlet_with to new.outlets).refused ≡ (outlet_with to old.outlets).refused ++ came_back pushes
