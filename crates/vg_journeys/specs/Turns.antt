-- A worker's turn, by the ends of the packets that came to it.
use Rattle.std.specs.Prelude.{◌≡◌, ℕ, suc, ◌+◌, ◌<◌, ◌≤◌, ◌==◌, ◌&&◌, List, [], ◌∷◌, ◌++◌, length, slice_index, flat_map, Option, None, Some, option_map, unwrap_or, if◌then◌else◌}
use Rattle.std.specs.List.{sum_by, count_by, filter_map, AllByRecursion}
use Rattle.vg_model.specs.declared.kinds.DropError.{DropError}
use Rattle.vg_model.specs.declared.fates.Leg.{Leg}
use Rattle.vg_model.specs.declared.fates.Fate.{Fate}
use Rattle.vg_model.specs.Errors.{error_number}
use Rattle.vg_model.specs.declared.kinds.Kind.TheVariants as kinds
use Rattle.vg_model.specs.declared.kinds.HashKind.{HashKind}
use Rattle.vg_model.specs.Graph.{Graph, kind_at}
use Rattle.vg_model.specs.Valid.{IsPacket, AreBytes, extent}
use Rattle.vg_model.specs.Leg.{Outcome, Sent, Dropped, Handed, Way}
use Rattle.vg_model.specs.Journey.{end_of, sent_as, longest_extent}
use Rattle.vg_model.specs.Count.{is_drop, is_sent_on, drop_visit}
use Rattle.vg_counters.specs.Tally.{IsSameSize, drops_at}
use Rattle.vg_counters.specs.Notes.{nodes_of}
use Rattle.vg_journeys.specs.Ended.{Ended, ended_by, counted_visits}
use Rattle.vg_journeys.specs.Chains.{count_some}
use Rattle.vg_journeys.specs.Trips.{Run, Arrival, Drawn, Taken, number_of, legs_before, pieces_before, worker_of, arrival_leg, onward_by, logged_by, IsInTime}
use Rattle.vg_journeys.specs.Treks.{IsRefusal}
use Rattle.vg_journeys.specs.Accounts.{Account, came, gone, frames_with, drawn_pieces}

-- a packet whose leg is over, and, where a full queue refused it, how many frames that queue had accepted
pub record Settled : Type 0 where
  pub ended : Ended
  pub refused : Option ℕ

abbrev pub settled_onward : Settled → Option Arrival
settled_onward s = onward_by s.ended.contents s.ended.outcome s.refused

abbrev pub settled_log : Settled → Option Fate
settled_log s = logged_by s.ended.contents s.ended.outcome s.refused

abbrev pub settled_sent : Settled → Option (ℕ × List ℕ)
settled_sent s = sent_as s.ended.contents.packet.number s.ended.contents.packet.bytes s.ended.outcome

-- the buffers that come back of it
abbrev pub settled_pieces : Settled → ℕ
settled_pieces s = count_some (λ (f : Fate). s.ended.contents.pieces) (settled_log s)

-- the visit of `error-drop` that a refusal brings
abbrev pub refusal_visits : Outcome → Option ℕ → List ℕ
refusal_visits (Handed node worker) (Some accepted) = drop_visit (end_of (Handed node worker))
refusal_visits (Handed node worker) None = []
refusal_visits (Sent interface) refused = []
refusal_visits (Dropped node error) refused = []

abbrev pub settled_visits : Settled → List ℕ
settled_visits s = refusal_visits s.ended.outcome s.refused

-- only a packet that is handed over is refused
abbrev pub MayBeRefused : Outcome → Option ℕ → Type 0
MayBeRefused (Handed node worker) refused = Unit {0}
MayBeRefused (Sent interface) refused = refused ≡ None
MayBeRefused (Dropped node error) refused = refused ≡ None

-- where a worker has a turn: with a whole graph, under its generation
pub record Place : Type 0 where
  pub graph : Graph
  pub generation : ℕ
  pub worker : ℕ

-- the legs of a packet that came there, of which the last is the one there; the way that this takes; how it ends there; and what it
-- visits there
abbrev pub legs_with : Place → Arrival → List Leg
legs_with place e = legs_before e ++ record { worker = place.worker; generation = place.generation } ∷ []

abbrev pub way_at : Run → Place → Arrival → Option Way
way_at run place e = arrival_leg run.visit place.graph run.workers place.worker e

abbrev pub end_at : Run → Place → Arrival → Option Ended
end_at run place e = option_map (ended_by (legs_with place e) (pieces_before e)) (way_at run place e)

abbrev pub visits_at : Run → Place → Arrival → List ℕ
visits_at run place e = unwrap_or (option_map counted_visits (way_at run place e)) []

-- a packet that may be; one that was handed over has at most three legs, and it and its room are no more together than those of the longest
-- packet that is drawn
abbrev pub IsSoundArrival : Arrival → Type 0
IsSoundArrival (Drawn number bytes) = AreBytes bytes
IsSoundArrival (Taken worker node c) = IsPacket c.packet × (length c.legs ≤ 3) × (extent c.packet ≤ longest_extent)

-- a packet may come there
pub record MayArrive (run : Run) (place : Place) (e : Arrival) : Type 0 where
  pub own : place.worker ≡ worker_of run.workers e
  pub in_time : IsInTime run.first place.generation e
  pub sound : IsSoundArrival e
  pub way : Way
  pub is_way : way_at run place e ≡ Some way

-- a packet that was handed over comes from a handoff node of the graph (an arc of such a node leads on from it)
abbrev pub ComesFrom : Graph → Arrival → Type 0
ComesFrom g (Drawn number bytes) = Unit {0}
ComesFrom g (Taken worker node c) = (hash : HashKind) × (kind_at g node ≡ Some (kinds.WorkerHandoff hash))

-- what is of this number and of this leg, which is counted from 0
abbrev pub arrival_is_of : (number leg : ℕ) → Arrival → ℕ
arrival_is_of number leg e = if number_of e == number && length (legs_before e) == leg then 1 else 0

abbrev pub arrival_noted : Run → Place → (number leg : ℕ) → Arrival → List ℕ
arrival_noted run place number leg e = if number_of e == number && length (legs_before e) == leg then visits_at run place e else []

abbrev pub settled_noted : (number leg : ℕ) → Settled → List ℕ
settled_noted number leg s = if s.ended.contents.packet.number == number && length s.ended.contents.legs == suc leg then settled_visits s else []

-- a turn to which these packets came: each has gone through its own leg, and is logged, or went on in a frame that a queue accepted;
-- nothing else is logged, sent, put, counted or noted
pub record IsTurn (run : Run) (place : Place) (arrivals : List Arrival) (old new : Account) : Type 0 where
  pub worker : place.worker ≡ new.worker
  pub same_worker : new.worker ≡ old.worker
  pub may : AllByRecursion (MayArrive run place) arrivals
  pub entered : (count : Arrival → ℕ) → came run count old + sum_by count arrivals ≡ came run count new
  -- how packets ended, in order: as their legs do, each as often
  pub settled : List Settled
  pub same : (count : Ended → ℕ) → sum_by (λ s. count s.ended) settled ≡ sum_by (λ e. count_some count (end_at run place e)) arrivals
  pub may_be : AllByRecursion (λ s. MayBeRefused s.ended.outcome s.refused) settled
  pub refusals : AllByRecursion (λ s. IsRefusal run.slots (λ from to. length (frames_with to new.put)) place.worker s.ended.outcome s.refused) settled
  pub went : (count : Arrival → ℕ) → gone run count old + sum_by (λ s. count_some count (settled_onward s)) settled ≡ gone run count new
  pub queues : (to : ℕ) → length (frames_with to old.put) ≤ length (frames_with to new.put)
  pub log : new.log ≡ old.log ++ filter_map settled_log settled
  pub sent : new.sent ≡ old.sent ++ filter_map settled_sent settled
  pub size : IsSameSize old.counts new.counts
  pub visits : (node : ℕ) → slice_index new.counts.visits node
      ≡ slice_index old.counts.visits node + sum_by (λ e. count_by (λ n. n == node) (visits_at run place e)) arrivals + sum_by (λ s. count_by (λ n. n == node) (settled_visits s)) settled
  pub drops : (node : ℕ) (error : DropError) → drops_at node (error_number error) new.counts.drops
      ≡ drops_at node (error_number error) old.counts.drops + count_by (λ (f : Fate). is_drop node error f.end) (filter_map settled_log settled)
  pub sends : (interface : ℕ) → slice_index new.counts.sends interface
      ≡ slice_index old.counts.sends interface + count_by (λ (f : Fate). is_sent_on interface f.end) (filter_map settled_log settled)
  pub traced : length new.trace ≡ length old.trace
  pub notes : (number leg : ℕ) → number < length old.trace → sum_by (arrival_is_of number leg) arrivals ≤ 1
      → (0 < sum_by (arrival_is_of number leg) arrivals → nodes_of number leg old.trace ≡ [])
      → nodes_of number leg new.trace ≡ nodes_of number leg old.trace ++ (flat_map (arrival_noted run place number leg) arrivals ++ flat_map (settled_noted number leg) settled)
  pub allocated : new.allocated ≡ old.allocated + sum_by drawn_pieces arrivals
  pub freed : new.freed ≡ old.freed + sum_by settled_pieces settled
