-- Packets that are being taken through, generation by generation.
use Rattle.std.specs.Prelude.{◌≡◌, ◌⊎◌, ℕ, ◌<◌, ◌≤◌, List, [], ◌∷◌, ◌++◌, length, replicate, slice_get, slice_index_or, slice_set, Option, Some, None}
use Rattle.vg_model.specs.Count.{drop_visit}
use Rattle.vg_model.specs.Edit.{most_nodes, most_interfaces}
use Rattle.vg_model.specs.Valid.{AreBytes}
use Rattle.vg_model.specs.Journey.{Choice, Course, end_of}
use Rattle.vg_counters.specs.Tally.{nothing_counted}
use Rattle.vg_replay.specs.Counts.{Adds, AreCountsOf}
use Rattle.vg_replay.specs.Courses.{in_hand}
use Rattle.vg_replay.specs.Tasks.{Task, IsPacketOf, IsInTime, IsFault}
use Rattle.vg_replay.specs.Times.{IsIn}
use Rattle.vg_replay.specs.Trips.{StandsAt, next_generation}
use Rattle.vg_replay.specs.declared.underway.Underway.{Underway}

-- a packet that is to be taken through, and how far it has come: where a next leg is of a generation, it is due so
pub record IsUnderway (task : Task) (traced : ℕ) (due : ℕ → ℕ → Type 0) (trips : List Course) (number : ℕ) : Type 0 where
  pub bytes : List ℕ
  pub choice : Choice
  pub packet : IsPacketOf task number bytes choice
  pub trip : Course
  pub is_trip : slice_get trips number ≡ Some trip
  pub in_time : IsInTime task number choice
  pub stands : StandsAt task traced number bytes choice trip
  pub is_due : (generation : ℕ) → next_generation choice trip ≡ Some generation → due generation number

-- packets stand in the schedule under the generations of their next legs, none of them before this one
abbrev pub IsScheduled : (least : ℕ) → List (List ℕ) → (generation number : ℕ) → Type 0
IsScheduled least schedule generation number = (least ≤ generation) × IsIn number (slice_index_or schedule generation [])

-- those of this generation are these, and the others stand in the schedule
abbrev pub IsDue : (now : ℕ) → List ℕ → List (List ℕ) → (generation number : ℕ) → Type 0
IsDue now numbers schedule generation number = ((generation ≡ now) × IsIn number numbers) ⊎ ((now < generation) × IsIn number (slice_index_or schedule generation []))

-- none is due any more
abbrev pub IsNeverDue : (generation number : ℕ) → Type 0
IsNeverDue generation number = ⊥

-- nothing is begun
pub record IsNew (generations : ℕ) (u : Underway) : Type 0 where
  pub schedule : u.schedule ≡ replicate generations []
  pub trips : u.trips ≡ []
  pub counts : u.counts ≡ nothing_counted most_nodes most_interfaces
  pub stuck : u.stuck ≡ 0

-- the packets below a number are on their way; what is counted is that of the packets that are through
pub record AreOnTheWay (task : Task) (traced : ℕ) (due : ℕ → ℕ → Type 0) (u : Underway) : Type 0 where
  pub size : length u.schedule ≡ length task.graphs
  pub few : length u.trips ≤ length task.packets
  pub stuck : u.stuck ≤ length u.trips
  pub each : (number : ℕ) → number < u.stuck → IsUnderway task traced due u.trips number
  pub numbers : (number : ℕ) (trip : Course) → slice_get u.trips number ≡ Some trip → trip.packet.number ≡ number
  pub bytes : (number : ℕ) (bytes : List ℕ) → number < length u.trips → slice_get task.packets number ≡ Some bytes → AreBytes bytes
  pub legs : (number : ℕ) (choice : Choice) → number < length u.trips → slice_get task.choices number ≡ Some choice → length choice.generations ≤ 4
  pub counts : AreCountsOf task u.trips u.counts

-- and the packet with this number has no journey, if it is there
pub record AreUnderway (task : Task) (traced : ℕ) (due : ℕ → ℕ → Type 0) (u : Underway) : Type 0 where
  pub way : AreOnTheWay task traced due u
  pub fault : u.stuck < length task.packets → IsFault task u.stuck

-- it is kept how far a packet has come, whose next leg is of a generation, or which is through: it stands in the schedule, or is counted
abbrev pub IsPutBack : Option ℕ → (number : ℕ) → (visits : List ℕ) → (walked : Course) → (old new : Underway) → Type 0
IsPutBack (Some generation) number visits walked old new =
    (new.counts ≡ old.counts) × (new.schedule ≡ slice_set old.schedule generation (slice_index_or old.schedule generation [] ++ number ∷ []))
IsPutBack None number visits walked old new =
    (new.schedule ≡ old.schedule) × Adds (visits ++ drop_visit (end_of walked.outcome)) (end_of walked.outcome) old.counts new.counts

pub record Keeps (generation : Option ℕ) (number : ℕ) (trip : Course) (old new : Underway) : Type 0 where
  pub trips : new.trips ≡ slice_set old.trips number trip
  pub stuck : new.stuck ≡ old.stuck
  pub put : IsPutBack generation number (in_hand old.walker).visits (in_hand old.walker) old new
