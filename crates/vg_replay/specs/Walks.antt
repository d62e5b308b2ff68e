-- A packet that goes on under one generation.
use Rattle.std.specs.Prelude.{◌≡◌, ℕ, ◌+◌, ◌<◌, Bool, true, false, List, length, take, Option, Some, None}
use Rattle.vg_model.specs.Journey.{Journey, Choice, Course}
use Rattle.vg_replay.specs.Tasks.{Task, IsPacketOf, journey_under}
use Rattle.vg_replay.specs.Trips.{IsKeptOf, IsSoFar, StandsAt, next_generation}

-- a packet has come so far, and its next leg is of this generation
pub record IsHere (task : Task) (traced generation number : ℕ) (trip : Course) : Type 0 where
  pub bytes : List ℕ
  pub choice : Choice
  pub packet : IsPacketOf task number bytes choice
  pub stands : StandsAt task traced number bytes choice trip
  pub due : next_generation choice trip ≡ Some generation

-- its choice fits no journey
pub record IsLost (task : Task) (number : ℕ) : Type 0 where
  pub bytes : List ℕ
  pub choice : Choice
  pub packet : IsPacketOf task number bytes choice
  pub none : journey_under task number bytes choice ≡ None

-- the packet that is walked has done so many legs
pub record IsWalked (task : Task) (number legs : ℕ) (walked : Course) : Type 0 where
  pub bytes : List ℕ
  pub choice : Choice
  pub packet : IsPacketOf task number bytes choice
  pub so_far : IsSoFar task number bytes (take legs choice.generations) walked

-- it has done one leg more than before, or it has none
abbrev pub MayWalk : Task → (number : ℕ) → (before walked : Course) → Bool → Type 0
MayWalk task number before walked true = IsWalked task number (length before.legs + 1) walked
MayWalk task number before walked false = IsLost task number

-- a packet has gone on, as far as it goes under a generation; where it is through, the one that is walked has all that is counted of it
pub record IsGoneOn (task : Task) (traced generation number : ℕ) (before walked trip : Course) : Type 0 where
  pub bytes : List ℕ
  pub choice : Choice
  pub packet : IsPacketOf task number bytes choice
  pub stands : StandsAt task traced number bytes choice trip
  pub more : length before.legs < length trip.legs
  pub past : next_generation choice trip ≡ Some generation → ⊥
  pub through : length trip.legs ≡ length choice.generations
      → (j : Journey) × (journey_under task number bytes choice ≡ Some j) × (walked.visits ≡ j.course.visits) × (walked.outcome ≡ j.course.outcome)

-- it has, whatever is kept of it with the nodes that it visited or without; or its choice fits no journey
abbrev pub MayGo : Task → (traced generation number : ℕ) → (before walked : Course) → Option Bool → Type 0
MayGo task traced generation number before walked (Some with_visits) =
    (trip : Course) → IsKeptOf with_visits number walked trip → IsGoneOn task traced generation number before walked trip
MayGo task traced generation number before walked None = IsLost task number
