-- How a trip keeps what it is seen as.
use Rattle.std.specs.Prelude.{◌+◌, ◌≤◌, length}
use Rattle.vg_model.specs.Journey.{Course}
use Rattle.vg_model.specs.Valid.{IsPacket, most_room, most_extent}
use Rattle.vg_replay.specs.Legs.{outcome_of}
use Rattle.vg_replay.specs.declared.trips.Trip.TheInside.{Inside}

-- the part of a journey that is done
abbrev pub course_of : Inside → Course
course_of t = record {
  legs = t.legs.now;
  outcome = outcome_of t.outcome;
  packet = record {
    number = t.number;
    bytes = t.bytes.now;
    room = t.room;
    checked = t.checked;
    adjacency = t.adjacency;
    interface = t.interface;
  };
  visits = t.visits.now;
}

-- what holds of the parts: there are few legs, the packet may be, and it fits a chain of the most buffers
pub record IsTrip (t : Inside) : Type 0 where
  pub few : length t.legs.now ≤ 4
  pub possible : IsPacket (course_of t).packet
  pub room : t.room ≤ most_room
  pub short : length t.bytes.now + t.room ≤ most_extent
