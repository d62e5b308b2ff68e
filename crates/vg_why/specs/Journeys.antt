-- The journeys of packets, and what is shown of them.
use Rattle.std.specs.Prelude.{◌≡◌, ◌≤◌, ℕ, zero, suc, List, [], ◌++◌, length, take, slice_get, Some, option_map}
use Rattle.vg_model.specs.Journey.{Journey, end_of, sent, longest_packet}
use Rattle.vg_model.specs.Packet.{fresh}
use Rattle.vg_model.specs.Visit.{Visit}
use Rattle.vg_capture.specs.declared.captures.Capture.{Capture}
use Rattle.vg_capture.specs.declared.captures.Captured.{Captured}
use Rattle.vg_capture.specs.Time.{time}
use Rattle.vg_plan.specs.Plan.{Planned}
use Rattle.vg_story.specs.declared.pieces.Piece.{Piece}
use Rattle.vg_ways.specs.declared.entries.Entry.{Entry}
use Rattle.vg_ways.specs.declared.stories.Went.{Went}
use Rattle.vg_ways.specs.declared.telling.Place.{Place}
use Rattle.vg_ways.specs.Entries.{entries_of}
use Rattle.vg_ways.specs.Legs.{after_legs}
use Rattle.vg_ways.specs.Stories.{IsStory}

-- packets, and the journeys that they went on
pub record Gone : Type 0 where
  pub visit : Visit
  pub plan : Planned
  pub capture : Capture
  pub workers : ℕ
  pub js : List Journey

-- a packet went as its journey says: taken through these visits, leg after leg, it comes out as that of the journey
pub record IsGone (gone : Gone) (number : ℕ) (went : Went) : Type 0 where
  pub number_is : went.number ≡ number
  pub bytes : option_map (λ (packet : Captured). packet.bytes) (slice_get gone.capture.packets number) ≡ Some went.bytes.now
  pub j : Journey
  pub is_journey : slice_get gone.js number ≡ Some j
  pub legs : went.legs.now ≡ j.course.legs
  pub visits : went.visits.now ≡ j.course.visits
  pub end : went.end ≡ end_of j.course.outcome
  pub accepted : went.accepted ≡ j.accepted
  pub out : length went.bytes.now ≤ longest_packet
      → after_legs gone.visit gone.plan.graphs went.legs.now went.visits.now (fresh number went.bytes.now) ≡ j.course.packet

-- these pieces show the journey of a packet: of its visits, leg after leg, each leg's under its generation
pub record IsTold (gone : Gone) (number : ℕ) (went : Went) (told : List Piece) : Type 0 where
  pub is_gone : IsGone gone number went
  pub story : IsStory gone.visit gone.plan gone.workers went told

-- how many packets before one were transmitted: so its record in the savefile of what was transmitted is that of this number, from 0
abbrev pub record_of : Gone → ℕ → ℕ
record_of gone number = length (sent (take number gone.js))

-- its time, and its record
abbrev pub place_of : Gone → ℕ → Place
place_of gone number = record { time = time gone.capture number; index = record_of gone number }

-- what is counted of the first so many packets
abbrev pub AreEntries : Gone → ℕ → List (ℕ × Entry) → Type 0
AreEntries gone zero entries = entries ≡ []
AreEntries gone (suc number) entries =
    (before : List (ℕ × Entry)) × AreEntries gone number before
    × ((went : Went) × (told : List Piece) × IsTold gone number went told × (entries ≡ before ++ entries_of went told))
