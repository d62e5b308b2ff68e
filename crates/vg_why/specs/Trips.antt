-- What a replay of packets has of their journeys.
use Rattle.std.specs.Prelude.{◌≡◌, ℕ, ◌<◌, ◌≤◌, List, length, map, slice_get, Some, option_map}
use Rattle.std.specs.List.{AllByRecursion}
use Rattle.vg_model.specs.declared.fates.Leg.{Leg}
use Rattle.vg_model.specs.Journey.{Course, Journey, longest_packet}
use Rattle.vg_model.specs.Packet.{fresh}
use Rattle.vg_model.specs.Visit.{Visit}
use Rattle.vg_capture.specs.declared.captures.Captured.{Captured}
use Rattle.vg_report.specs.declared.reports.PacketLine.{PacketLine}
use Rattle.vg_replay.specs.declared.inputs.Input.{Input}
use Rattle.vg_replay.specs.Replays.{told}
use Rattle.vg_ways.specs.Legs.{after_legs}
use Rattle.vg_why.specs.Journeys.{Gone}

-- what was taken through, with these journeys
abbrev pub gone_of : Visit → Input → List Journey → Gone
gone_of visit input js = record { visit = visit; plan = input.plan.now; capture = input.capture.now; workers = input.workers; js = js }

-- each leg is under one of so many generations
abbrev pub AreLegsUnder : (generations : ℕ) → List Leg → Type 0
AreLegsUnder generations legs = AllByRecursion (λ (leg : Leg). leg.generation < generations) legs

abbrev pub AreUnder : (generations : ℕ) → List Course → Type 0
AreUnder generations trips = AllByRecursion (λ (trip : Course). AreLegsUnder generations trip.legs) trips

-- a packet of these bytes, taken through the visits of a journey, comes out as that of the journey
abbrev pub ComesOut : Gone → (number : ℕ) → List ℕ → Journey → Type 0
ComesOut gone number bytes j =
    length bytes ≤ longest_packet → after_legs gone.visit gone.plan.graphs j.course.legs j.course.visits (fresh number bytes) ≡ j.course.packet

-- this is what is shown of the journeys, by these lines of a report: legs, ends, nodes visited, and counts of full queues
pub record AreTrips (gone : Gone) (lines : List PacketLine) (trips : List Course) : Type 0 where
  pub told_is : map told trips ≡ map (λ (j : Journey). told j.course) gone.js
  pub visits : map (λ (trip : Course). trip.visits) trips ≡ map (λ (j : Journey). j.course.visits) gone.js
  pub accepted : map (λ (line : PacketLine). line.congested) lines ≡ map (λ (j : Journey). j.accepted) gone.js
  pub many : length gone.js ≡ length gone.capture.packets
  pub under : AllByRecursion (λ (j : Journey). AreLegsUnder (length gone.plan.graphs) j.course.legs) gone.js
  pub out : (number : ℕ) (bytes : List ℕ) (j : Journey) → option_map (λ (packet : Captured). packet.bytes) (slice_get gone.capture.packets number) ≡ Some bytes
      → slice_get gone.js number ≡ Some j → ComesOut gone number bytes j
