-- What is shown of legs, and the journey by the definitions.
use Rattle.std.specs.Prelude.{◌≡◌, ℕ, ◌≤◌, List, [], ◌∷◌, length, take, drop, slice_get, Option, Some, None}
use Rattle.std.specs.List.{AllByRecursion}
use Rattle.vg_model.specs.declared.fates.Leg.{Leg}
use Rattle.vg_model.specs.Graph.{Graph}
use Rattle.vg_model.specs.Journey.{Choice, Journey, journey, longest_packet}
use Rattle.vg_model.specs.Packet.{Packet, fresh}
use Rattle.vg_model.specs.Valid.{IsValid}
use Rattle.vg_model.specs.Visit.{Visit}
use Rattle.vg_story.specs.Visits.{after_visits}
use Rattle.vg_ways.specs.Stories.{leg_len}

-- the packet after visits of these nodes of a generation, where there is one
abbrev pub after_under : Visit → Option Graph → List ℕ → Packet → Packet
after_under visit None nodes p = p
after_under visit (Some g) nodes p = after_visits visit g nodes p

-- the packet after legs with these visits, as they are shown: each leg's under its generation
abbrev pub after_legs : Visit → List Graph → List Leg → (visits : List ℕ) → Packet → Packet
after_legs visit graphs [] visits p = p
after_legs visit graphs (leg ∷ legs) visits p =
    after_legs visit graphs legs (drop (leg_len visits) visits) (after_under visit (slice_get graphs leg.generation) (take (leg_len visits) visits) p)

-- where the legs and the visits of a journey are shown, the packet comes out as the journey's
abbrev pub JourneysAreShown : Type 0
JourneysAreShown =
    (visit : Visit) (graphs : List Graph) (workers number : ℕ) (bytes : List ℕ) (choice : Choice) (j : Journey) → AllByRecursion IsValid graphs
    → length bytes ≤ longest_packet → journey visit graphs workers number bytes choice ≡ Some j
    → after_legs visit graphs j.course.legs j.course.visits (fresh number bytes) ≡ j.course.packet
