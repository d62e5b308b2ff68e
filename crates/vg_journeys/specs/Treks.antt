-- Treks: a packet's trips one behind the other, and the journey that they make.
use Rattle.std.specs.Prelude.{ℕ, ◌+◌, ◌≤◌, ◌==◌, ◌&&◌, List, [], ◌∷◌, map, Option, None, Some, if◌then◌else◌}
use Rattle.vg_model.specs.Packet.{fresh}
use Rattle.vg_model.specs.Leg.{Outcome, Sent, Dropped, Handed}
use Rattle.vg_model.specs.Journey.{Course, Journey, Choice, last_leg, then_course}
use Rattle.vg_journeys.specs.Chains.{IsChain}
use Rattle.vg_journeys.specs.Trips.{Arrival, Drawn, Taken, Trip, here, onward}

-- trips of which each begins where the one before it went on, from an arrival on to an end
abbrev pub IsTrek : Option Arrival → List Trip → Type 0
IsTrek arrival trips = IsChain (λ (t : Trip). t.arrival) onward arrival trips

-- the course of no packet
abbrev pub no_course : Course
no_course = record { legs = []; outcome = Sent 0; packet = fresh 0 []; visits = [] }

-- the course that these trips make
abbrev pub course_of : List Trip → Course
course_of [] = no_course
course_of (t ∷ []) = last_leg (here t) t.way
course_of (t ∷ u ∷ us) = then_course (here t) t.way (course_of (u ∷ us))

-- the refusal of the last of them
abbrev pub refused_of : List Trip → Option ℕ
refused_of [] = None
refused_of (t ∷ []) = t.refused
refused_of (t ∷ u ∷ us) = refused_of (u ∷ us)

-- the journey, and its choice
abbrev pub journey_of : ℕ → List Trip → Journey
journey_of number trips = record { number = number; accepted = refused_of trips; course = course_of trips }

abbrev pub choice_of : List Trip → Choice
choice_of trips = record { generations = map (λ (t : Trip). t.generation) trips; accepted = refused_of trips }

-- a packet that goes on from the one worker to the other counts by its number
abbrev pub goes_over_by : (count : ℕ → ℕ) (from to worker : ℕ) → Option Arrival → ℕ
goes_over_by count from to worker None = 0
goes_over_by count from to worker (Some (Drawn number bytes)) = 0
goes_over_by count from to worker (Some (Taken next node c)) = if worker == from && next == to then count c.packet.number else 0

abbrev pub hand_by : (count : ℕ → ℕ) (from to : ℕ) → Trip → ℕ
hand_by count from to t = goes_over_by count from to t.worker (onward t)

-- 1 for one that does
abbrev pub goes_over : (from to worker : ℕ) → Option Arrival → ℕ
goes_over from to worker o = goes_over_by (λ number. 1) from to worker o

abbrev pub hand_of : (from to : ℕ) → Trip → ℕ
hand_of from to t = hand_by (λ number. 1) from to t

-- a refused packet: the queue had accepted at least as many frames as it has slots, and no more than it had in the end
abbrev pub IsRefusal : (slots : ℕ) (accepted : ℕ → ℕ → ℕ) (worker : ℕ) → Outcome → Option ℕ → Type 0
IsRefusal slots accepted worker (Handed node to) (Some count) = (slots ≤ count) × (count ≤ accepted worker to)
IsRefusal slots accepted worker (Handed node to) None = Unit {0}
IsRefusal slots accepted worker (Sent interface) refused = Unit {0}
IsRefusal slots accepted worker (Dropped node error) refused = Unit {0}

-- the treks of packets, from this number on, and their journeys
abbrev pub drawn_from : ℕ → List (List ℕ) → List Arrival
drawn_from number [] = []
drawn_from number (bytes ∷ packets) = Drawn number bytes ∷ drawn_from (number + 1) packets

abbrev pub journeys_of : ℕ → List (List Trip) → List Journey
journeys_of number [] = []
journeys_of number (trek ∷ treks) = journey_of number trek ∷ journeys_of (number + 1) treks
