-- What a run comes to.
use Rattle.std.specs.Prelude.{Bool, true, ◌≡◌, ℕ, ◌*◌, ◌-◌, ◌<◌, ◌≤◌, ◌^◌, List, [], length, map, flat_map, take, slice_index, slice_get, Some}
use Rattle.std.specs.List.{AllByRecursion, sum_by}
use Rattle.vg_model.specs.declared.kinds.DropError.{DropError}
use Rattle.vg_model.specs.Errors.{error_number}
use Rattle.vg_model.specs.Edit.{most_nodes, most_interfaces}
use Rattle.vg_model.specs.Graph.{Graph, with_routes}
use Rattle.vg_model.specs.Visit.{Visit}
use Rattle.vg_model.specs.Journey.{Journey, Choice, fates, sent, end_of, longest_extent}
use Rattle.vg_model.specs.Lawful.{AreLawfulChoices, hands_in}
use Rattle.vg_model.specs.Count.{trace}
use Rattle.vg_capture.specs.declared.captures.Capture.{Capture}
use Rattle.vg_counters.specs.Tally.{Tally, drops_at}
use Rattle.vg_pool.specs.declared.caches.CacheCounts.{CacheCounts}
use Rattle.vg_pool.specs.Settlement.{Settlement}
use Rattle.vg_ring.specs.declared.rest.Rest.{Rest}
use Rattle.vg_ring.specs.Rests.{all_put, left}
use Rattle.vg_barrier.specs.Seats.{main_view}
use Rattle.vg_journeys.specs.Accounts.{HandoffFrame, below}
use Rattle.vg_journeys.specs.Ends.{IsEndIn}
use Rattle.vg_journeys.specs.Kept.{all_pieces, own_pieces, ended_pieces}
use Rattle.vg_journeys.specs.Outcomes.{AreCounts}
use Rattle.vg_dispatch.specs.declared.options.Options.{Options}
use Rattle.vg_dispatch.specs.Progress.{frames_of}
use Rattle.vg_dispatch.specs.Standing.{NoneCongested}
use Rattle.vg_engine.specs.declared.runs.Outcome.{Outcome}
use Rattle.vg_workers.specs.Places.{AllWith, pairs}

-- there is a count for each node and each interface that a graph may have, and none has reached 2 ^ 63
pub record AreWholeCounts (tally : Tally) : Type 0 where
  pub nodes : length tally.visits ≡ most_nodes
  pub interfaces : length tally.sends ≡ most_interfaces
  pub visits : (node : ℕ) → slice_index tally.visits node < 2 ^ 63
  pub drops : (node : ℕ) (error : DropError) → drops_at node (error_number error) tally.drops < 2 ^ 63
  pub sends : (interface : ℕ) → slice_index tally.sends interface < 2 ^ 63

-- the graph of the last generation
pub record IsLast (graphs : List Graph) (g : Graph) : Type 0 where
  pub is : slice_get graphs (length graphs - 1) ≡ Some g

-- the numbers of the packets in frames
abbrev pub numbers_in : List HandoffFrame → List ℕ
numbers_in frames = flat_map (λ (frame : HandoffFrame). map (λ c. c.packet.number) frame.packets) frames

-- the queue from a worker to another: nothing is left in it, and the packets that were put on it are, number by number and as often, those
-- whose journeys have a leg on the one worker followed by a leg on the other
pub record IsRestOf (js : List Journey) (pair : ℕ × ℕ) (rest : Rest HandoffFrame) : Type 0 where
  pub empty : left rest ≡ []
  pub packets : (count : ℕ → ℕ) → sum_by count (numbers_in (all_put rest)) ≡ sum_by (λ j. count j.number * hands_in pair.0 pair.1 j.course.legs) js

-- what a worker's cache gave out and took in: the chain of each packet of its own, and that of each that ended there
abbrev pub counts_on : (workers : ℕ) → List (List ℕ) → List Journey → ℕ → CacheCounts
counts_on workers packets js worker = record { allocated = own_pieces workers worker packets; freed = ended_pieces worker packets js }

-- the settlement of a pool that has all its buffers back, after each worker's cache, by number, gave out and took in those of its packets
abbrev pub all_back : (buffers workers : ℕ) → List (List ℕ) → List Journey → Settlement
all_back buffers workers packets js =
    record { len = buffers; total = buffers; allocated = all_pieces packets; caches = map (counts_on workers packets js) (below workers) }

-- the run of a capture through these generations, where `first i` is the first generation that packet i meets
pub record IsOutcome (visit : Visit) (lossless : Bool) (graphs : List Graph) (first : ℕ → ℕ) (capture : Capture) (options : Options) (outcome : Outcome) : Type 0 where
  -- each packet has its journey, under lawful choices
  pub choices : List Choice
  pub js : List Journey
  pub lawful : AreLawfulChoices visit graphs options.workers options.queue first (frames_of capture.packets) choices js
  -- the fates by number, and the packets sent by number
  pub are_fates : outcome.fates ≡ fates js
  pub are_sent : outcome.sent ≡ sent js
  -- no packet that is sent is longer than the longest packet that is drawn and its room together
  pub short : AllByRecursion (λ (sent : ℕ × List ℕ). length sent.1 ≤ longest_extent) outcome.sent
  -- handoffs that refuse nothing leave no packet congested
  pub none_congested : lossless ≡ true → NoneCongested outcome.fates
  -- the counts are those of the journeys
  pub counts : AreCounts js outcome.counts
  pub whole : AreWholeCounts outcome.counts
  -- the traces are those of the first packets, by number
  pub traces : outcome.trace ≡ map trace (take options.trace js)
  -- every buffer is back, and the chain of each packet was given out by its first worker and taken in by its last, as the settlement of the
  -- pool says
  pub buffers : outcome.buffers ≡ options.buffers
  pub settled : outcome.settled ≡ all_back options.buffers options.workers (frames_of capture.packets) js
  -- the graph of the last generation, in which each packet ends
  pub last : Graph
  pub is_last : IsLast graphs last
  pub last_is : with_routes outcome.last last.routes last.routes6 ≡ last
  pub ends : AllByRecursion (λ j. IsEndIn last (end_of j.course.outcome)) js
  -- no packet visits a node that it hasn't
  pub visits : AllByRecursion (λ j. AllByRecursion (λ node. node < length last.nodes) (trace j)) js
  -- the closed queues, by the worker from which and then by the worker to which they lead
  pub rests : AllWith (IsRestOf js) (pairs options.workers) outcome.rests
  -- main has released the workers for each generation
  pub stamp : length graphs ≤ (main_view outcome.seat.seat).stamp
