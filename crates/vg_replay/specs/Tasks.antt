-- Which packets have a journey under what their lines choose.
use Rattle.std.specs.Prelude.{◌≡◌, ℕ, ◌<◌, List, length, map, slice_get, Option, Some}
use Rattle.std.specs.List.{AllByRecursion}
use Rattle.vg_model.specs.declared.fates.Leg.{Leg}
use Rattle.vg_model.specs.Graph.{Graph}
use Rattle.vg_model.specs.Visit.{Visit}
use Rattle.vg_model.specs.Journey.{Journey, Choice, journey, journeys}
use Rattle.vg_model.specs.Lawful.{StartsAt}
use Rattle.vg_report.specs.declared.reports.PacketLine.{PacketLine}

-- the choice that a packet's line names
abbrev pub choice_of : PacketLine → Choice
choice_of p = record { generations = map (λ (leg : Leg). leg.generation) p.legs; accepted = p.congested }

-- packets that are to be taken through generations, on so many workers: `first i` is the generation at the time of packet i
pub record Task : Type 0 where
  pub visit : Visit
  pub graphs : List Graph
  pub workers : ℕ
  pub first : ℕ → ℕ
  pub packets : List (List ℕ)
  pub choices : List Choice

-- the packet of a number, with its choice
pub record IsPacketOf (task : Task) (number : ℕ) (bytes : List ℕ) (choice : Choice) : Type 0 where
  pub is_bytes : slice_get task.packets number ≡ Some bytes
  pub is_choice : slice_get task.choices number ≡ Some choice

-- its journey; None where the choice fits none
abbrev pub journey_under : Task → (number : ℕ) → List ℕ → Choice → Option Journey
journey_under task number bytes choice = journey task.visit task.graphs task.workers number bytes choice

-- the generations of its choice begin with that of its time, never fall and are there
abbrev pub IsInTime : Task → (number : ℕ) → Choice → Type 0
IsInTime task number choice = StartsAt (length task.graphs) (task.first number) choice.generations

-- a packet has a journey under its choice, whose generations begin with that of its time, never fall and are there
pub record IsTaken (task : Task) (number : ℕ) : Type 0 where
  pub bytes : List ℕ
  pub choice : Choice
  pub packet : IsPacketOf task number bytes choice
  pub j : Journey
  pub is_journey : journey_under task number bytes choice ≡ Some j
  pub in_time : IsInTime task number choice

-- a packet has no such journey
pub record IsFault (task : Task) (number : ℕ) : Type 0 where
  pub bytes : List ℕ
  pub choice : Choice
  pub packet : IsPacketOf task number bytes choice
  pub fault : (j : Journey) → journey_under task number bytes choice ≡ Some j → IsInTime task number choice → ⊥

-- it is the first packet that has none
pub record IsFirstFault (task : Task) (number : ℕ) : Type 0 where
  pub fault : IsFault task number
  pub before : (k : ℕ) → k < number → IsTaken task k

-- these are the journeys of all packets under their choices, and the generations of each are as they should be
pub record AreTaken (task : Task) (js : List Journey) : Type 0 where
  pub are_journeys : journeys task.visit task.graphs task.workers task.packets task.choices ≡ Some js
  pub generations : AllByRecursion (λ (j : Journey). StartsAt (length task.graphs) (task.first j.number) (map (λ (leg : Leg). leg.generation) j.course.legs)) js
