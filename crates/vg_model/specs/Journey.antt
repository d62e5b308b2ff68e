-- A packet's journey over the workers, leg by leg, each leg by a whole generation of the graph (VLIB: multi-threading,
-- handoff queues; the choices and the congestion drop are this project's profile).
use Rattle.std.specs.Prelude.{ℕ, suc, ◌%◌, Bool, nat_lt, List, [], ◌∷◌, ◌++◌, length, map, slice_get, Option, Some, None, option_map, option_and_then, is_some, is_none, filter_map, if◌then◌else◌}
use Rattle.vg_model.specs.declared.kinds.DropError.TheVariants.{TooLong, Congestion}
use Rattle.vg_model.specs.declared.fates.End.{End}
use Rattle.vg_model.specs.declared.fates.End.TheVariants as ends
use Rattle.vg_model.specs.declared.fates.Leg.{Leg}
use Rattle.vg_model.specs.declared.fates.Fate.{Fate}
use Rattle.vg_model.specs.Packet.{Packet, fresh}
pub use Rattle.vg_model.specs.Packet.{longest_packet}
use Rattle.vg_model.specs.Graph.{Graph, arc, pg_input, handoff_dequeue}
use Rattle.vg_model.specs.Valid.{most_extent}
use Rattle.vg_model.specs.Visit.{Visit}
use Rattle.vg_model.specs.Leg.{Outcome, Sent, Dropped, Handed, Way, leg, after_visit, ends_at, first_slot}

-- what the run chose for a packet: the generation of each of its legs, and, where its last push was refused,
-- how many frames the refusing queue had accepted
pub record Choice : Type 0 where
  pub generations : List ℕ
  pub accepted : Option ℕ

-- the most that a packet of a journey and its room are together, wherever it goes on from the packet source
abbrev pub longest_extent : ℕ
longest_extent = most_extent

-- a journey, or the end of one from a leg on: its legs, how the last of them ends, the packet then, and the nodes visited, in
-- order
pub record Course : Type 0 where
  pub legs : List Leg
  pub outcome : Outcome
  pub packet : Packet
  pub visits : List ℕ

-- a leg that begins with a visit of a node and goes on at the next node of another (of itself, where it is the packet source)
abbrev pub leg_from : Visit → Graph → (workers worker leg_number : ℕ) → (first via : ℕ) → Packet → Option Way
leg_from visit g workers worker leg_number first via p =
    option_map (after_visit first) (option_and_then (λ n. leg visit g workers worker leg_number n p) (arc g via first_slot))

-- the first leg
abbrev pub first_leg : Visit → Graph → (workers worker : ℕ) → Packet → Option Way
first_leg visit g workers worker p =
    if nat_lt longest_packet (length p.bytes) then Some (ends_at pg_input p (Dropped pg_input TooLong))
    else leg_from visit g workers worker 1 pg_input pg_input p

-- the journey that is this leg alone
abbrev pub last_leg : Leg → Way → Course
last_leg here way = record { legs = here ∷ []; outcome = way.outcome; packet = way.packet; visits = way.visits }

-- the journey that is this leg and then the rest
abbrev pub then_course : Leg → Way → Course → Course
then_course here way rest = record {
  legs = here ∷ rest.legs;
  outcome = rest.outcome;
  packet = rest.packet;
  visits = way.visits ++ rest.visits;
}

-- where a leg handed the packet over: the node and the next worker
abbrev pub handed_over : Outcome → Option (ℕ × ℕ)
handed_over (Handed node worker) = Some (node, worker)
handed_over (Sent interface) = None
handed_over (Dropped node error) = None

-- the journey from a leg on, and the legs after it under these generations
abbrev pub legs_from : Visit → List Graph → (workers worker leg_number generation : ℕ) → List ℕ → Option Way → Option Course
legs_from visit graphs workers worker leg_number generation later None = None
legs_from visit graphs workers worker leg_number generation [] (Some way) =
    Some (last_leg (record { worker = worker; generation = generation }) way)
legs_from visit graphs workers worker leg_number generation (g ∷ later) (Some way) =
    option_map (then_course (record { worker = worker; generation = generation }) way)
    (option_and_then (λ (from : ℕ × ℕ). option_and_then (λ graph.
    legs_from visit graphs workers from.1 (suc leg_number) g later
    (leg_from visit graph workers from.1 (suc leg_number) handoff_dequeue from.0 way.packet))
    (slice_get graphs g))
    (handed_over way.outcome))

-- a packet's whole journey, with its choice
pub record Journey : Type 0 where
  pub number : ℕ
  pub accepted : Option ℕ
  pub course : Course

-- a count of a refusing queue and a last leg that hands the packet over go together
abbrev pub goes_together : Option ℕ → Outcome → Bool
goes_together accepted (Handed node worker) = is_some accepted
goes_together accepted (Sent interface) = is_none accepted
goes_together accepted (Dropped node error) = is_none accepted

-- the whole journey, where its last leg fits the choice
abbrev pub finished : ℕ → Option ℕ → Course → Option Journey
finished number accepted course =
    if goes_together accepted course.outcome then Some (record { number = number; accepted = accepted; course = course }) else None

-- the journey under these generations; None where there is none
abbrev pub started : Visit → List Graph → (workers number : ℕ) → List ℕ → List ℕ → Option Course
started visit graphs workers number bytes [] = None
started visit graphs workers number bytes (g ∷ later) =
    option_and_then (λ graph. legs_from visit graphs workers (number % workers) 1 g later
    (first_leg visit graph workers (number % workers) (fresh number bytes)))
    (slice_get graphs g)

-- the journey of packet `number` under a choice; None where the choice fits no journey
abbrev pub journey : Visit → List Graph → (workers number : ℕ) → List ℕ → Choice → Option Journey
journey visit graphs workers number bytes choice =
    option_and_then (finished number choice.accepted) (started visit graphs workers number bytes choice.generations)

-- how a journey ends: a packet whose push was refused is dropped by the node that handed it over
abbrev pub end_of : Outcome → End
end_of (Sent interface) = ends.Tx interface
end_of (Dropped node error) = ends.Dropped node error
end_of (Handed node worker) = ends.Dropped node Congestion

-- what became of the packet of a journey
abbrev pub fate_of : Journey → Fate
fate_of j = record { number = j.number; legs = j.course.legs; congested = j.accepted; end = end_of j.course.outcome }

-- the number and the bytes of a journey that ends on an interface
abbrev pub sent_as : ℕ → List ℕ → Outcome → Option (ℕ × List ℕ)
sent_as number bytes (Sent interface) = Some (number, bytes)
sent_as number bytes (Dropped node error) = None
sent_as number bytes (Handed node worker) = None

-- what was transmitted of it: number and bytes
abbrev pub sent_of : Journey → Option (ℕ × List ℕ)
sent_of j = sent_as j.number j.course.packet.bytes j.course.outcome

-- the journeys of packets by number, from this number on; None where one has none
abbrev pub journeys_from : Visit → List Graph → (workers number : ℕ) → List (List ℕ) → List Choice → Option (List Journey)
journeys_from visit graphs workers number [] [] = Some []
journeys_from visit graphs workers number (bytes ∷ packets) (choice ∷ choices) =
    option_and_then (λ j. option_map (λ js. j ∷ js) (journeys_from visit graphs workers (suc number) packets choices))
    (journey visit graphs workers number bytes choice)
journeys_from visit graphs workers number [] (choice ∷ choices) = None
journeys_from visit graphs workers number (bytes ∷ packets) [] = None

-- the journeys of packets by number; None where one has none
abbrev pub journeys : Visit → List Graph → (workers : ℕ) → List (List ℕ) → List Choice → Option (List Journey)
journeys visit graphs workers packets choices = journeys_from visit graphs workers 0 packets choices

-- what became of the packets
abbrev pub fates : List Journey → List Fate
fates js = map fate_of js

-- what was transmitted: numbers and bytes
abbrev pub sent : List Journey → List (ℕ × List ℕ)
sent js = filter_map sent_of js
