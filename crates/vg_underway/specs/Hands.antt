-- How a worker hands packets over to another, in frames.
use Rattle.std.specs.Prelude.{Bool, ◌≡◌, ℕ, suc, slice_index_or, ◌+◌, ◌<◌, ◌≤◌, ◌^◌, List, [], ◌∷◌, ◌++◌, length, map, drop, Option, Some}
use Rattle.std.specs.List.{sum_by, AllByRecursion}
use Rattle.vg_model.specs.declared.kinds.DropError.TheVariants.{Congestion}
use Rattle.vg_model.specs.declared.kinds.Step.{Step}
use Rattle.vg_model.specs.declared.kinds.Step.TheVariants.{Hand}
use Rattle.vg_model.specs.declared.fates.End.TheVariants.{Dropped}
use Rattle.vg_model.specs.declared.fates.Fate.{Fate}
use Rattle.vg_model.specs.Leg as legs
use Rattle.vg_model.specs.PoolBook.{CacheBook}
use Rattle.vg_pool.specs.Contents.{Contents}
use Rattle.vg_pool.specs.Moves.{most_cached}
use Rattle.vg_frame.specs.Placed.{IsLive}
use Rattle.vg_journeys.specs.Chains.{count_some}
use Rattle.vg_journeys.specs.Trips.{Arrival}
use Rattle.vg_journeys.specs.Accounts.{HandoffFrame, arrivals_in, frames_with, below}
use Rattle.vg_journeys.specs.Counts.{IsCountAt, IsCountIn}
use Rattle.vg_journeys.specs.Turns.{Settled, settled_onward}
use Rattle.vg_underway.specs.declared.stations.Station.{Station}
use Rattle.vg_underway.specs.declared.underway.Work.{Work}
use Rattle.vg_underway.specs.Underway.{Setting, contents_at}
use Rattle.vg_underway.specs.Traced.{StayTraced, leg_place, noted_end}
use Rattle.vg_underway.specs.Works.{IsSteady, Advances, Exchanges, TakesAll, IsPutAway, CanCount, counted_end, hand_step}

-- the indexes of packets that go to this worker, each with a step that hands it there
abbrev pub handed_to : ℕ → List ℕ → List (ℕ × Step)
handed_to to indexes = map (λ index. (index, Hand to)) indexes

-- the packet of an index, where it has one, has fewer than four legs
abbrev pub HasFewLegs : List (Option Contents) → ℕ → Type 0
HasFewLegs memory index = IsLive memory index → length (contents_at memory index).legs ≤ 3

-- the buffers of these packets' chains
abbrev pub all_chains : List Contents → ℕ
all_chains cs = sum_by (λ (c : Contents). c.pieces) cs

-- all that it takes to drop a packet that a queue refused
pub record CanRefuse (node : ℕ) (c : Contents) (w : Work) (cache : CacheBook) : Type 0 where
  pub legs : (1 ≤ length c.legs) × (length c.legs ≤ 4)
  pub fates : length w.fates.items < w.fates.room
  pub counts : CanCount (Dropped node Congestion) w.counts
  pub len : cache.len + c.pieces ≤ most_cached
  pub freed : cache.freed < 2 ^ 62

-- what is logged of it
abbrev pub refusal : (node accepted : ℕ) → Contents → Fate
refusal node accepted c = record { number = c.packet.number; legs = c.legs; congested = Some accepted; end = Dropped node Congestion }

-- it is dropped
pub record Refuses (node accepted : ℕ) (c : Contents) (old new : Work) : Type 0 where
  pub fates : new.fates.items ≡ old.fates.items ++ refusal node accepted c ∷ []
  pub room : new.fates.room ≡ old.fates.room
  pub rest : new ≡ record old {
    fates = new.fates;
    counts = counted_end (Dropped node Congestion) old.counts;
    trace = noted_end c.packet.number (leg_place c) (Dropped node Congestion) old.trace;
  }

-- packets in hand were handed to one worker: each is settled, in a frame that the queue to it accepted, or by a drop that names how many
-- frames that queue had accepted
pub record HandsOver (s : Setting) (node to slots : ℕ) (lossless : Bool) (old : Work) (old_cache : CacheBook) (old_put : List HandoffFrame) (old_hand : List (ℕ × Step)) (new : Work) (new_cache : CacheBook) (new_put : List HandoffFrame) (new_hand : List (ℕ × Step)) : Type 0 where
  pub steady : IsSteady s node new new_hand
  pub takes : TakesAll s node new new_hand new_cache
  pub settled : List Settled
  pub advances : Advances s node [] settled old old_hand new new_hand
  pub exchanges : Exchanges [] settled old_cache new_cache
  pub to_it : AllByRecursion (λ x. x.ended.outcome ≡ legs.Handed node to) settled
  pub refusals : AllByRecursion (λ x. (count : ℕ) → x.refused ≡ Some count → IsCountAt slots lossless count (length old_put) (length new_put)) settled
  pub went : (count : Arrival → ℕ) → sum_by count (arrivals_in to old_put) + sum_by (λ x. count_some count (settled_onward x)) settled ≡ sum_by count (arrivals_in to new_put)
  -- the queue accepted one frame at most, with a packet at least
  pub pushed : List HandoffFrame
  pub put_is : new_put ≡ old_put ++ pushed
  pub one : length pushed ≤ 1
  pub full : AllByRecursion (λ (frame : HandoffFrame). 1 ≤ length frame.packets) pushed
  -- each packet that is in hand no more is settled, and no other gets a leg
  pub fewer : length new_hand + length settled ≡ length old_hand
  pub legs : (index : ℕ) → HasFewLegs old.memory index → HasFewLegs new.memory index
  pub traced : StayTraced s node settled old old_hand new new_hand

-- the packets of groups, one for each worker from this number on, each with a step that hands it there
abbrev pub grouped : ℕ → List (List ℕ) → List (ℕ × Step)
grouped to [] = []
grouped to (group ∷ groups) = handed_to to group ++ grouped (suc to) groups

-- so many of them are sorted
pub record IsGrouping (s : Setting) (node : ℕ) (old : Work) (old_cache : CacheBook) (hands : List (ℕ × ℕ)) (k : ℕ) (w : Work) (cache : CacheBook) (groups : List (List ℕ)) : Type 0 where
  pub away : IsPutAway s node old old_cache (map hand_step hands) w cache (map hand_step (drop k hands) ++ grouped 0 groups)
  pub size : length groups ≡ s.workers
  pub few : sum_by length groups ≤ k
  pub legs : AllByRecursion (AllByRecursion (HasFewLegs w.memory)) groups
  pub own : slice_index_or groups s.worker [] ≡ []

-- the packets of a dispatch that are handed over are sorted: those for this worker went on, those in their fourth leg were dropped, and
-- the others stand in the groups of their workers
pub record IsGrouped (s : Setting) (node : ℕ) (old : Work) (old_cache : CacheBook) (hands : List (ℕ × ℕ)) (new : Work) (new_cache : CacheBook) (groups : List (List ℕ)) : Type 0 where
  pub away : IsPutAway s node old old_cache (map hand_step hands) new new_cache (grouped 0 groups)
  pub size : length groups ≡ s.workers
  pub few : AllByRecursion (λ group. length group ≤ 256) groups
  pub legs : AllByRecursion (AllByRecursion (HasFewLegs new.memory)) groups
  pub own : slice_index_or groups s.worker [] ≡ []

-- what settled packets put into queues
pub record Delivers (s : Setting) (slots : ℕ) (lossless : Bool) (settled : List Settled) (old new : List (List HandoffFrame)) : Type 0 where
  pub counts : AllByRecursion (λ x. IsCountIn slots lossless old new x.ended.outcome x.refused) settled
  pub went : (count : Arrival → ℕ) → sum_by (λ to. sum_by count (arrivals_in to (frames_with to old))) (below s.workers) + sum_by (λ x. count_some count (settled_onward x)) settled
      ≡ sum_by (λ to. sum_by count (arrivals_in to (frames_with to new))) (below s.workers)
  -- each queue grows by frames with a packet at least
  pub pushed : ℕ → List HandoffFrame
  pub puts : (to : ℕ) → frames_with to new ≡ frames_with to old ++ pushed to
  pub full : (to : ℕ) → AllByRecursion (λ (frame : HandoffFrame). 1 ≤ length frame.packets) (pushed to)

-- of the packets in hand some were put away, also by handing them over, of which this is told; others still are in hand
pub record PutsAway (s : Setting) (node slots : ℕ) (lossless : Bool) (told : List Settled → Type 0) (old : Work) (old_cache : CacheBook) (old_put : List (List HandoffFrame)) (old_hand : List (ℕ × Step)) (new : Work)
    (new_cache : CacheBook) (new_put : List (List HandoffFrame)) (new_hand : List (ℕ × Step)) : Type 0 where
  pub steady : IsSteady s node new new_hand
  pub takes : TakesAll s node new new_hand new_cache
  pub settled : List Settled
  pub advances : Advances s node [] settled old old_hand new new_hand
  pub exchanges : Exchanges [] settled old_cache new_cache
  pub delivers : Delivers s slots lossless settled old_put new_put
  pub traced : StayTraced s node settled old old_hand new new_hand
  pub tells : told settled

-- groups, one for each worker, none for this one, of packets in hand
pub record AreGroups (s : Setting) (w : Work) (groups : List (List ℕ)) : Type 0 where
  pub size : length groups ≡ s.workers
  pub few : AllByRecursion (λ group. length group ≤ 256) groups
  pub legs : AllByRecursion (AllByRecursion (HasFewLegs w.memory)) groups
  pub own : slice_index_or groups s.worker [] ≡ []

-- there is a queue to each other worker, with room for so many packets: what the queues have accepted, their slots, and their rooms
pub record CanHand (station : Station) (packets : ℕ) (accepted : List (List HandoffFrame)) (slots rooms : List ℕ) : Type 0 where
  pub worker : station.worker < station.workers
  pub workers : station.workers ≤ 8
  pub each : length accepted + 1 ≡ station.workers
  pub slots_are : AllByRecursion (λ n. n ≡ station.slots) slots
  pub room : AllByRecursion (λ room. packets ≤ room) rooms
  pub count : AllByRecursion (λ (frames : List HandoffFrame). length frames + packets < 2 ^ 62) accepted

-- frames were dispatched, and this is told of the packets that were settled
pub record IsDispatched (s : Setting) (slots : ℕ) (lossless : Bool) (told : List Settled → Type 0) (old : Work) (old_cache : CacheBook) (old_put : List (List HandoffFrame)) (new : Work) (new_cache : CacheBook) (new_put : List (List HandoffFrame)) : Type 0 where
  pub steady : IsSteady s 0 new []
  pub takes : TakesAll s 0 new [] new_cache
  pub settled : List Settled
  pub advances : Advances s 0 [] settled old [] new []
  pub exchanges : Exchanges [] settled old_cache new_cache
  pub delivers : Delivers s slots lossless settled old_put new_put
  pub traced : StayTraced s 0 settled old [] new []
  pub tells : told settled
