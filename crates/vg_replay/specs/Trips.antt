-- How far packets have come.
use Rattle.std.specs.Prelude.{◌≡◌, ◌⊎◌, ℕ, Bool, true, ◌<◌, List, [], length, take, slice_get, Option, Some}
use Rattle.vg_model.specs.Packet.{fresh}
use Rattle.vg_model.specs.Leg.{Sent}
use Rattle.vg_model.specs.Journey.{Choice, Course, started, goes_together}
use Rattle.vg_replay.specs.Legs.{IsUnlessDropped}
use Rattle.vg_replay.specs.Courses.{IsLike}
use Rattle.vg_replay.specs.Tasks.{Task}

-- a packet that has done no leg
abbrev pub begun : ℕ → Course
begun number = record { legs = []; outcome = Sent 0; packet = fresh number []; visits = [] }

-- what is kept of a packet with this number that has come so far
pub record IsKeptOf (with_visits : Bool) (number : ℕ) (now trip : Course) : Type 0 where
  pub legs : trip.legs ≡ now.legs
  pub outcome : trip.outcome ≡ now.outcome
  pub packet : IsUnlessDropped now.outcome trip.packet (record now.packet { number = number })
  pub number_is : trip.packet.number ≡ number
  pub visits : with_visits ≡ true → trip.visits ≡ now.visits

-- a packet has come so far under these generations
pub record IsSoFar (task : Task) (number : ℕ) (bytes generations : List ℕ) (now : Course) : Type 0 where
  pub course : Course
  pub is : started task.visit task.graphs task.workers number bytes generations ≡ Some course
  pub like : IsLike course now

-- so much is kept of a packet that has come so far, of which the nodes visited are kept to the end or not
pub record IsKept (task : Task) (traced number : ℕ) (bytes : List ℕ) (choice : Choice) (trip : Course) : Type 0 where
  pub course : Course
  pub is : started task.visit task.graphs task.workers number bytes (take (length trip.legs) choice.generations) ≡ Some course
  pub legs : trip.legs ≡ course.legs
  pub outcome : trip.outcome ≡ course.outcome
  pub packet : IsUnlessDropped course.outcome trip.packet course.packet
  pub visits : (length trip.legs < length choice.generations) ⊎ (number < traced) → trip.visits ≡ course.visits
  -- where it is whole, its end fits its choice
  pub ends : length trip.legs ≡ length choice.generations → goes_together choice.accepted course.outcome ≡ true

-- it has done no leg, or so much is kept of it
pub record StandsAt (task : Task) (traced number : ℕ) (bytes : List ℕ) (choice : Choice) (trip : Course) : Type 0 where
  pub number_is : trip.packet.number ≡ number
  pub so_far : (trip.legs ≡ []) ⊎ IsKept task traced number bytes choice trip

-- the generation of its next leg
abbrev pub next_generation : Choice → Course → Option ℕ
next_generation choice trip = slice_get choice.generations (length trip.legs)
