-- What a run on several workers comes to.
use Rattle.std.specs.Prelude.{◌≡◌, ℕ, ◌*◌, ◌==◌, ◌<◌, ◌≤◌, List, [], length, map, slice_index, slice_index_or, if◌then◌else◌}
use Rattle.std.specs.List.{sum_by}
use Rattle.vg_model.specs.declared.kinds.DropError.{DropError}
use Rattle.vg_model.specs.declared.fates.Fate.{Fate}
use Rattle.vg_model.specs.Errors.{error_number}
use Rattle.vg_model.specs.Journey.{Journey, Choice, fates, sent}
use Rattle.vg_model.specs.Count.{trace, node_count, error_count, interface_count}
use Rattle.vg_model.specs.Lawful.{AreLawfulChoices, hands_in, last_worker}
use Rattle.vg_model.specs.PoolBook.{pieces_of}
use Rattle.vg_counters.specs.Tally.{drops_at}
use Rattle.vg_counters.specs.Notes.{merged}
use Rattle.vg_journeys.specs.Trips.{Run, number_of}
use Rattle.vg_journeys.specs.Runs.{AreInside, chain_of}
use Rattle.vg_journeys.specs.Accounts.{Account, below, frames_with, arrivals_in, draws_from, drawn_pieces}

-- how many buffers packets take as they are drawn
abbrev pub all_pieces : List (List ℕ) → ℕ
all_pieces packets = sum_by (λ (bytes : List ℕ). pieces_of (length bytes)) packets

-- and those of a worker's own packets, which it draws: those whose number leaves its own over the number of workers
abbrev pub own_pieces : (workers worker : ℕ) → List (List ℕ) → ℕ
own_pieces workers worker packets = sum_by drawn_pieces (draws_from 0 workers worker (length packets) packets)

-- the buffers of the packets that end on a worker: the last leg of their journeys is on it
abbrev pub ended_pieces : (worker : ℕ) → List (List ℕ) → List Journey → ℕ
ended_pieces worker packets js = sum_by (λ j. if last_worker j.course.legs == worker then chain_of packets j.number else 0) js

-- what all workers have kept together is what the journeys of the packets say, one journey for each packet, under lawful choices
pub record AreKept (run : Run) (traced : ℕ) (at : ℕ → Account) : Type 0 where
  pub choices : List Choice
  pub js : List Journey
  pub lawful : AreLawfulChoices run.visit run.graphs run.workers run.slots run.first run.packets choices js
  pub inside : AreInside run js
  -- the fates that were logged and the packets that were sent, by any way of counting
  pub logs : (count : Fate → ℕ) → sum_by (λ w. sum_by count (at w).log) (below run.workers) ≡ sum_by count (fates js)
  pub sents : (count : ℕ × List ℕ → ℕ) → sum_by (λ w. sum_by count (at w).sent) (below run.workers) ≡ sum_by count (sent js)
  -- the counts
  pub visits : (node : ℕ) → sum_by (λ w. slice_index (at w).counts.visits node) (below run.workers) ≡ node_count node js
  pub drops : (node : ℕ) (error : DropError) → sum_by (λ w. drops_at node (error_number error) (at w).counts.drops) (below run.workers) ≡ error_count node error js
  pub sends : (interface : ℕ) → sum_by (λ w. slice_index (at w).counts.sends interface) (below run.workers) ≡ interface_count interface js
  -- the traces of the first packets
  pub traces : traced ≤ length run.packets → (number : ℕ) → number < traced
      → merged number (map (λ w. (at w).trace) (below run.workers)) ≡ slice_index_or (map trace js) number []
  -- the packets that went over a queue are, number by number and as often, those whose journeys have a leg on the one worker behind one
  -- on the other
  pub hands : (from to : ℕ) → from < run.workers → to < run.workers → (count : ℕ → ℕ)
      → sum_by (λ e. count (number_of e)) (arrivals_in to (frames_with to (at from).put)) ≡ sum_by (λ j. count j.number * hands_in from to j.course.legs) js
  -- each buffer that a cache gave out came back to one
  pub as_many : length js ≡ length run.packets
  pub allocated : sum_by (λ w. (at w).allocated) (below run.workers) ≡ all_pieces run.packets
  pub freed : sum_by (λ w. (at w).freed) (below run.workers) ≡ all_pieces run.packets
  -- each cache gave out the chains of the packets that its worker drew, and took in those of the packets that ended there
  pub allocated_by : (w : ℕ) → w < run.workers → (at w).allocated ≡ own_pieces run.workers w run.packets
  pub freed_by : (w : ℕ) → w < run.workers → (at w).freed ≡ ended_pieces w run.packets js
