-- What a worker has drawn, taken, put and kept, and what trips add to it.
use Rattle.std.specs.Prelude.{◌≡◌, ℕ, zero, suc, ◌+◌, ◌%◌, ◌<◌, ◌≤◌, ◌==◌, ◌&&◌, List, [], ◌∷◌, ◌++◌, length, map, slice_index, slice_index_or, nat_lt, flat_map, if◌then◌else◌}
use Rattle.std.specs.List.{sum_by, count_by, filter_map, AllByRecursion}
use Rattle.vg_model.specs.declared.kinds.DropError.{DropError}
use Rattle.vg_model.specs.declared.fates.Fate.{Fate}
use Rattle.vg_model.specs.Errors.{error_number}
use Rattle.vg_model.specs.Count.{is_drop, is_sent_on}
use Rattle.vg_model.specs.PoolBook.{pieces_of}
use Rattle.vg_pool.specs.Contents.{Contents}
use Rattle.vg_counters.specs.Tally.{Tally, IsSameSize, drops_at}
use Rattle.vg_counters.specs.Notes.{Notes, nodes_of}
use Rattle.vg_journeys.specs.Chains.{count_some}
use Rattle.vg_journeys.specs.Trips.{Run, Arrival, Drawn, Taken, Trip, contents_after, onward, logged, sent_by_trip, trip_visits, noted_of, is_of, IsTrip}
use Rattle.vg_journeys.specs.Treks.{IsRefusal}

-- a frame that is handed over: packets that a handoff node of one worker handed to another
pub record HandoffFrame : Type 0 where
  pub node : ℕ
  pub generation : ℕ
  pub packets : List Contents

-- how its packets come to the worker to which it goes
abbrev pub frame_arrivals : ℕ → HandoffFrame → List Arrival
frame_arrivals to frame = map (Taken to frame.node) frame.packets

abbrev pub arrivals_in : ℕ → List HandoffFrame → List Arrival
arrivals_in to frames = flat_map (frame_arrivals to) frames

-- the frames of the queue from, or to, this worker
abbrev pub frames_with : ℕ → List (List HandoffFrame) → List HandoffFrame
frames_with worker queues = slice_index_or queues worker []

-- the numbers of so many workers
abbrev pub below : ℕ → List ℕ
below zero = []
below (suc n) = below n ++ n ∷ []

-- what a worker has done so far: its number and the number of the next packet that it draws; the frames that it has taken, by the worker
-- from which, and put, by the worker to which; what it has kept; and how many buffers its cache gave out and took in
pub record Account : Type 0 where
  pub worker : ℕ
  pub mark : ℕ
  pub taken : List (List HandoffFrame)
  pub put : List (List HandoffFrame)
  pub log : List Fate
  pub sent : List (ℕ × List ℕ)
  pub counts : Tally
  pub trace : Notes
  pub allocated : ℕ
  pub freed : ℕ

-- the packets of the capture that a worker has drawn, where this is the number of the next: its own below it
abbrev pub draws_from : (number workers worker mark : ℕ) → List (List ℕ) → List Arrival
draws_from number workers worker mark [] = []
draws_from number workers worker mark (bytes ∷ packets) =
    if (number % workers == worker) && nat_lt number mark then Drawn number bytes ∷ draws_from (number + 1) workers worker mark packets
    else draws_from (number + 1) workers worker mark packets

-- what came to a worker, by any way of counting: packets that it drew, and packets in frames that it took
abbrev pub came : Run → (Arrival → ℕ) → Account → ℕ
came run count a =
    sum_by count (draws_from 0 run.workers a.worker a.mark run.packets)
    + sum_by (λ from. sum_by count (arrivals_in a.worker (frames_with from a.taken))) (below run.workers)

-- what went from it: packets in frames that queues accepted
abbrev pub gone : Run → (Arrival → ℕ) → Account → ℕ
gone run count a = sum_by (λ to. sum_by count (arrivals_in to (frames_with to a.put))) (below run.workers)

-- the buffers that a packet took as it was drawn
abbrev pub drawn_pieces : Arrival → ℕ
drawn_pieces (Drawn number bytes) = pieces_of (length bytes)
drawn_pieces (Taken worker node c) = 0

-- the buffers of a packet that is logged: its whole chain comes back
abbrev pub freed_pieces : Trip → ℕ
freed_pieces t = count_some (λ (f : Fate). (contents_after t).pieces) (logged t)

-- from one moment to another a worker makes these trips and nothing else: one for each packet that came to it, each as often; each
-- is logged, or went on in a frame that a queue accepted; what is kept grows by what they log, send, visit and drop
pub record Adds (run : Run) (old new : Account) (trips : List Trip) : Type 0 where
  pub each : AllByRecursion (IsTrip run) trips
  pub own : AllByRecursion (λ t. t.worker ≡ new.worker) trips
  pub refusals : AllByRecursion (λ t. IsRefusal run.slots (λ from to. length (frames_with to new.put)) t.worker t.way.outcome t.refused) trips
  pub same_worker : new.worker ≡ old.worker
  pub entered : (count : Arrival → ℕ) → came run count old + sum_by (λ t. count t.arrival) trips ≡ came run count new
  pub went : (count : Arrival → ℕ) → gone run count old + sum_by (λ t. count_some count (onward t)) trips ≡ gone run count new
  pub queues : (to : ℕ) → length (frames_with to old.put) ≤ length (frames_with to new.put)
  pub log : new.log ≡ old.log ++ filter_map logged trips
  pub sent : new.sent ≡ old.sent ++ filter_map sent_by_trip trips
  pub size : IsSameSize old.counts new.counts
  pub visits : (node : ℕ) → slice_index new.counts.visits node ≡ slice_index old.counts.visits node + sum_by (λ t. count_by (λ n. n == node) (trip_visits t)) trips
  pub drops : (node : ℕ) (error : DropError) → drops_at node (error_number error) new.counts.drops
      ≡ drops_at node (error_number error) old.counts.drops + count_by (λ (f : Fate). is_drop node error f.end) (filter_map logged trips)
  pub sends : (interface : ℕ) → slice_index new.counts.sends interface
      ≡ slice_index old.counts.sends interface + count_by (λ (f : Fate). is_sent_on interface f.end) (filter_map logged trips)
  -- where at most one trip has this number and leg, and nothing was noted for them before it, its visits are noted, in order
  pub traced : length new.trace ≡ length old.trace
  pub notes : (number leg : ℕ) → number < length old.trace → sum_by (is_of number leg) trips ≤ 1
      → (0 < sum_by (is_of number leg) trips → nodes_of number leg old.trace ≡ [])
      → nodes_of number leg new.trace ≡ nodes_of number leg old.trace ++ flat_map (noted_of number leg) trips
  pub allocated : new.allocated ≡ old.allocated + sum_by (λ t. drawn_pieces t.arrival) trips
  pub freed : new.freed ≡ old.freed + sum_by freed_pieces trips
