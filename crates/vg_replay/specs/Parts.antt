-- What is kept of packets, by places in the lists of all.
use Rattle.std.specs.Prelude.{◌≡◌, ◌+◌, ◌≤◌, ◌++◌, Bool, true, false, List, length, take, drop}
use Rattle.vg_model.specs.Leg as model
use Rattle.vg_model.specs.Journey.{Course}
use Rattle.vg_model.specs.Valid.{IsPacket, most_room, most_extent}
use Rattle.vg_replay.specs.Legs.{outcome_of}
use Rattle.vg_replay.specs.declared.trips.Part.{Part}
use Rattle.vg_replay.specs.declared.trips.Kept.{Kept}
use Rattle.vg_replay.specs.declared.trips.Lists.{Lists}

-- a part of a list
abbrev pub part_of : {X : Type 0} → Part → List X → List X
part_of place xs = take place.len (drop place.at xs)

-- the part of a journey that is done
abbrev pub course_in : Lists → Kept → Course
course_in lists kept = record {
  legs = part_of kept.legs lists.legs.items;
  outcome = outcome_of kept.outcome;
  packet = record {
    number = kept.number;
    bytes = part_of kept.bytes lists.bytes.items;
    room = kept.room;
    checked = kept.checked;
    adjacency = kept.adjacency;
    interface = kept.interface;
  };
  visits = part_of kept.visits lists.visits.items;
}

-- the parts are there, and the packet may be and fits a chain of the most buffers
pub record IsTripIn (lists : Lists) (kept : Kept) : Type 0 where
  pub legs : kept.legs.at + kept.legs.len ≤ length lists.legs.items
  pub bytes : kept.bytes.at + kept.bytes.len ≤ length lists.bytes.items
  pub visits : kept.visits.at + kept.visits.len ≤ length lists.visits.items
  pub few : kept.legs.len ≤ 4
  pub room : kept.room ≤ most_room
  pub short : kept.bytes.len + kept.room ≤ most_extent
  pub possible : IsPacket (course_in lists kept).packet

-- more is kept of a packet that ended its leg so than that it was dropped
abbrev pub whole : model.Outcome → Bool
whole (model.Sent interface) = true
whole (model.Dropped node error) = false
whole (model.Handed node worker) = true

-- there is more behind a list, or nothing
abbrev pub IsLonger : {X : Type 0} → (old new : List X) → Type 0
IsLonger {X} old new = (more : List X) × (new ≡ old ++ more)

-- behind each of them
pub record HasGrown (old new : Lists) : Type 0 where
  pub legs : IsLonger old.legs.items new.legs.items
  pub bytes : IsLonger old.bytes.items new.bytes.items
  pub visits : IsLonger old.visits.items new.visits.items
