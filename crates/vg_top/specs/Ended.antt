-- What a run leaves beside its files: its queues, closed, main's seat, and the settlement of its pool.
use Rattle.std.specs.Prelude.{◌≡◌, ℕ, ◌≤◌, List, length}
use Rattle.vg_model.specs.Graph.{Graph}
use Rattle.vg_model.specs.Journey.{Journey}
use Rattle.vg_barrier.specs.Seats.{main_view}
use Rattle.vg_engine.specs.Places.{AllWith, pairs}
use Rattle.vg_engine.specs.Outcomes.{IsRestOf, all_back}
use Rattle.vg_top.specs.declared.done.RunEnd.{RunEnd}

-- the end of a run with so many workers and buffers through these generations, on which these packets had these journeys
pub record HasEnded (workers buffers : ℕ) (graphs : List Graph) (packets : List (List ℕ)) (js : List Journey) (end : RunEnd) : Type 0 where
  -- the queues from each worker to each other, by the one and then by the other: nothing is left in them, and the packets that were put on
  -- each are, number by number and as often, those whose journeys have a leg on the one worker followed by a leg on the other
  pub rests : AllWith (IsRestOf js) (pairs workers) end.rests
  -- main has released its workers at least once for each generation
  pub stamp : length graphs ≤ (main_view end.seat.seat).stamp
  -- no buffer was lost: the pool has all of them back, after each worker's cache gave out the chain of each packet of its own and took in
  -- that of each that ended there
  pub settled : end.settled ≡ all_back buffers workers packets js
