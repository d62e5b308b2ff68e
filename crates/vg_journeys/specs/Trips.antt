-- Trips: the legs that packets go through, each with how the packet came to its worker and where it went.
use Rattle.std.specs.Prelude.{◌≡◌, ℕ, suc, ◌+◌, ◌%◌, ◌<◌, ◌≤◌, ◌==◌, ◌&&◌, List, [], ◌∷◌, ◌++◌, length, Option, None, Some, slice_get, if◌then◌else◌}
use Rattle.vg_model.specs.declared.kinds.Kind.TheVariants as kinds
use Rattle.vg_model.specs.declared.kinds.HashKind.{HashKind}
use Rattle.vg_model.specs.declared.fates.Leg.{Leg}
use Rattle.vg_model.specs.declared.fates.Fate.{Fate}
use Rattle.vg_model.specs.Packet.{fresh}
use Rattle.vg_model.specs.Graph.{Graph, kind_at, handoff_dequeue}
use Rattle.vg_model.specs.Visit.{Visit}
use Rattle.vg_model.specs.Leg.{Outcome, Sent, Dropped, Handed, Way}
use Rattle.vg_model.specs.Journey.{first_leg, leg_from, end_of, sent_as}
use Rattle.vg_model.specs.Count.{drop_visit}
use Rattle.vg_model.specs.Edit.{most_nodes}
use Rattle.vg_model.specs.PoolBook.{pieces_of}
use Rattle.vg_pool.specs.Contents.{Contents}
use Rattle.vg_journeys.specs.Ends.{IsOutcomeIn, AreNodesOf, IsShort}

-- what is run: the visits of the kinds, the generations, how many workers there are and slots in a queue between two of them, which
-- generation each packet meets first, by its number, and the packets of the capture
pub record Run : Type 0 where
  pub visit : Visit
  pub graphs : List Graph
  pub workers : ℕ
  pub slots : ℕ
  pub first : ℕ → ℕ
  pub packets : List (List ℕ)

-- how a packet comes to a worker: it is drawn from the capture, or taken as it was handed over by a node of another worker
pub data Arrival : Type 0 where
  Drawn : (number : ℕ) (bytes : List ℕ) → Arrival
  Taken : (worker node : ℕ) (contents : Contents) → Arrival

-- the packet's number; the legs that it has done; the worker that it comes to
abbrev pub number_of : Arrival → ℕ
number_of (Drawn number bytes) = number
number_of (Taken worker node c) = c.packet.number

abbrev pub legs_before : Arrival → List Leg
legs_before (Drawn number bytes) = []
legs_before (Taken worker node c) = c.legs

-- how many buffers its chain has: as many as it takes when it is drawn; one that was handed over keeps its chain
abbrev pub pieces_before : Arrival → ℕ
pieces_before (Drawn number bytes) = pieces_of (length bytes)
pieces_before (Taken worker node c) = c.pieces

abbrev pub worker_of : (workers : ℕ) → Arrival → ℕ
worker_of workers (Drawn number bytes) = number % workers
worker_of workers (Taken worker node c) = worker

-- the leg that the packet then goes through on a worker
abbrev pub arrival_leg : Visit → Graph → (workers worker : ℕ) → Arrival → Option Way
arrival_leg visit g workers worker (Drawn number bytes) = first_leg visit g workers worker (fresh number bytes)
arrival_leg visit g workers worker (Taken here node c) = leg_from visit g workers worker (suc (length c.legs)) handoff_dequeue node c.packet

-- a leg that a packet went through: how it came to its worker, under which generation, which way it went, and, where a full queue
-- refused it, how many frames that queue had accepted
pub record Trip : Type 0 where
  pub arrival : Arrival
  pub worker : ℕ
  pub generation : ℕ
  pub way : Way
  pub refused : Option ℕ

abbrev pub here : Trip → Leg
here t = record { worker = t.worker; generation = t.generation }

-- the packet's legs, of which the last is this one
abbrev pub legs_of : Trip → List Leg
legs_of t = legs_before t.arrival ++ here t ∷ []

-- the packet as it is behind the leg, over the same chain
abbrev pub contents_after : Trip → Contents
contents_after t = record { packet = t.way.packet; legs = legs_of t; pieces = pieces_before t.arrival }

-- where the packet goes on: with a worker, whose queue has accepted it
abbrev pub onward_by : Contents → Outcome → Option ℕ → Option Arrival
onward_by c (Handed node worker) None = Some (Taken worker node c)
onward_by c (Handed node worker) (Some accepted) = None
onward_by c (Sent interface) refused = None
onward_by c (Dropped node error) refused = None

abbrev pub onward : Trip → Option Arrival
onward t = onward_by (contents_after t) t.way.outcome t.refused

-- what is logged, where it goes on nowhere
abbrev pub fate_by : Contents → Outcome → Option ℕ → Fate
fate_by c outcome refused = record { number = c.packet.number; legs = c.legs; congested = refused; end = end_of outcome }

abbrev pub logged_by : Contents → Outcome → Option ℕ → Option Fate
logged_by c (Handed node worker) None = None
logged_by c (Handed node worker) (Some accepted) = Some (fate_by c (Handed node worker) (Some accepted))
logged_by c (Sent interface) refused = Some (fate_by c (Sent interface) refused)
logged_by c (Dropped node error) refused = Some (fate_by c (Dropped node error) refused)

abbrev pub logged : Trip → Option Fate
logged t = logged_by (contents_after t) t.way.outcome t.refused

-- what is sent
abbrev pub sent_by_trip : Trip → Option (ℕ × List ℕ)
sent_by_trip t = sent_as t.way.packet.number t.way.packet.bytes t.way.outcome

-- the visit of `error-drop` behind a drop at another node, also where a full queue refused the packet
abbrev pub last_visits : Outcome → Option ℕ → List ℕ
last_visits (Handed node worker) None = []
last_visits (Handed node worker) (Some accepted) = drop_visit (end_of (Handed node worker))
last_visits (Sent interface) refused = drop_visit (end_of (Sent interface))
last_visits (Dropped node error) refused = drop_visit (end_of (Dropped node error))

-- the nodes that count a visit
abbrev pub trip_visits : Trip → List ℕ
trip_visits t = t.way.visits ++ last_visits t.way.outcome t.refused

-- the nodes noted for this number and this leg, where legs are counted from 0
abbrev pub noted_of : (number leg : ℕ) → Trip → List ℕ
noted_of number leg t = if number_of t.arrival == number && length (legs_before t.arrival) == leg then trip_visits t else []

-- 1 for a trip of this number and leg
abbrev pub is_of : (number leg : ℕ) → Trip → ℕ
is_of number leg t = if number_of t.arrival == number && length (legs_before t.arrival) == leg then 1 else 0

-- the generation of the last of these legs
abbrev pub last_generation : List Leg → ℕ
last_generation [] = 0
last_generation (leg ∷ []) = leg.generation
last_generation (leg ∷ next ∷ legs) = last_generation (next ∷ legs)

-- a drawn packet goes under the generation of its time, and one that was handed over under none earlier than its last
abbrev pub IsInTime : (first : ℕ → ℕ) (generation : ℕ) → Arrival → Type 0
IsInTime first generation (Drawn number bytes) = generation ≡ first number
IsInTime first generation (Taken worker node c) = last_generation c.legs ≤ generation

-- a leg that hands a packet over does so at a handoff node, to another worker of the run, and isn't the packet's fourth; no other
-- is refused
abbrev pub IsHandover : Graph → (workers worker legs : ℕ) → Outcome → Option ℕ → Type 0
IsHandover g workers worker legs (Handed node to) refused =
    ((hash : HashKind) × (kind_at g node ≡ Some (kinds.WorkerHandoff hash))) × (to < workers) × (legs < 3)
IsHandover g workers worker legs (Sent interface) refused = refused ≡ None
IsHandover g workers worker legs (Dropped node error) refused = refused ≡ None

-- a trip of a run: its leg is that of its arrival, under a whole generation
pub record IsTrip (run : Run) (t : Trip) : Type 0 where
  pub graph : Graph
  pub is_graph : slice_get run.graphs t.generation ≡ Some graph
  pub is_way : arrival_leg run.visit graph run.workers t.worker t.arrival ≡ Some t.way
  pub is_worker : t.worker ≡ worker_of run.workers t.arrival
  pub in_time : IsInTime run.first t.generation t.arrival
  pub number : t.way.packet.number ≡ number_of t.arrival
  -- it ends in the graph, visits nodes of it, and no more than these; where it sends the packet, it and its room are no more together than
  -- those of the longest packet that is drawn
  pub inside : IsOutcomeIn graph t.way.outcome
  pub passes : AreNodesOf graph (trip_visits t)
  pub few : length (trip_visits t) ≤ most_nodes + 2
  pub short : IsShort t.way.outcome t.way.packet
  pub handover : IsHandover graph run.workers t.worker (length (legs_before t.arrival)) t.way.outcome t.refused
