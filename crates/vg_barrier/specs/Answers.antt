-- When each answer of a poll or a check comes. The seat's trail says what this call found: the seat is the same as before, by
-- its table and number, and its trail is longer by just the steps named here, the latest first, each with the number of the word
-- and the value that was there.
use Rattle.std.specs.Prelude.{◌≡◌, ℕ, ◌+◌, ◌*◌, ◌%◌, ◌<◌, true, false, List, ◌∷◌, ◌++◌, length, replicate, slice_index}
use Rattle.std.proofs.Common.{zero, suc}
use Rattle.vg_steps.specs.Trails.{found}
use Rattle.vg_steps.specs.declared.notes.Found.{Found}
use Rattle.vg_steps.specs.Seats.{trail_of, IsSameSeat, Finds}
use Rattle.vg_barrier.specs.declared.barrier.TheConstants.{REQUEST, ARRIVALS, GENERATION}
use Rattle.vg_barrier.specs.declared.parcel.Parcel.{Ghosts}
use Rattle.vg_barrier.specs.declared.views.MainPhase.TheVariants.{Idle, Holding, Clearing as is_clearing}
use Rattle.vg_barrier.specs.declared.views.WorkerPhase.TheVariants as phase
use Rattle.vg_barrier.specs.declared.main_seat.MainSeat.{MainSeat}
use Rattle.vg_barrier.specs.declared.main_seat.Asked.{Asked}
use Rattle.vg_barrier.specs.declared.main_seat.Held.{Held}
use Rattle.vg_barrier.specs.declared.main_seat.Clearing.{Clearing}
use Rattle.vg_barrier.specs.declared.main_seat.Parking.{Parking}
use Rattle.vg_barrier.specs.declared.main_seat.Parking.TheVariants as parking
use Rattle.vg_barrier.specs.declared.main_seat.Cleared.{Cleared}
use Rattle.vg_barrier.specs.declared.main_seat.Cleared.TheVariants as cleared
use Rattle.vg_barrier.specs.declared.worker_seat.Running.{Running}
use Rattle.vg_barrier.specs.declared.worker_seat.ParkedSeat.{ParkedSeat}
use Rattle.vg_barrier.specs.declared.worker_seat.Check.{Check}
use Rattle.vg_barrier.specs.declared.worker_seat.Check.TheVariants as check
use Rattle.vg_barrier.specs.Machine.{mark_word}
use Rattle.vg_barrier.specs.Seats.{main_view, worker_view, first_of, Whole}

-- What main's steps found that took the first n parcels, before the steps of this trail: by rising number, the mark of each
abbrev pub marks_found : List ℕ → ℕ → List Found → List Found
marks_found marks zero trail = trail
marks_found marks (suc n) trail = found (mark_word n) (slice_index marks n) ∷ marks_found marks n trail

module _ {P B : Type 0} {G : Ghosts P B} where
  -- Main holds the barrier, with all parcels
  pub record Holds (before : Asked P B G) (held : Held P B G) : Type 0 where
    pub seat : IsSameSeat before.seat held.main.seat
    -- its first step found in the arrival count the number of workers, and one more step for each took its parcel
    pub trail : trail_of held.main.seat
        ≡ marks_found (main_view held.main.seat).marks (main_view before.seat).made (found ARRIVALS (main_view before.seat).made ∷ trail_of before.seat)
    pub view : main_view held.main.seat
        ≡ record (main_view before.seat) {
          phase = Holding;
          read = (main_view before.seat).made;
          marks = (main_view held.main.seat).marks;
          with = (main_view before.seat).made;
          steps = ((main_view before.seat).steps + 1) + (main_view before.seat).made;
        }
    -- each parcel fits the book, has its worker's mark, and the generation of main's last release
    pub whole : Whole G.fits G.mark G.generation (main_view held.main.seat) (main_view before.seat).released held.parcels.items
    pub all : length held.parcels.items ≡ (main_view before.seat).made

  -- Main waits on for workers to arrive
  pub record WaitsForArrivals (before after : Asked P B G) (seen : ℕ) : Type 0 where
    pub seat : IsSameSeat before.seat after.seat
    -- its one step found this number in the arrival count, which is less than the number of workers
    pub trail : Finds before.seat ARRIVALS seen after.seat
    pub missing : seen < (main_view before.seat).made
    pub view : main_view after.seat ≡ record (main_view before.seat) { read = seen; steps = (main_view before.seat).steps + 1 }

  abbrev pub CountsArrived : Asked P B G → Parking P B G → Type 0
  CountsArrived before (parking.All held) = Holds before held
  CountsArrived before (parking.Wait asked seen) = WaitsForArrivals before asked seen

  -- Main has given all parcels back, and released the workers
  pub record Releases (before : Held P B G) (after : Clearing P B G) : Type 0 where
    pub seat : IsSameSeat before.main.seat after.seat
    -- a step for each parcel stored its generation, which is that of the first, and a last one stored the request word
    pub trail : trail_of after.seat
        ≡ found REQUEST (2 * ((main_view before.main.seat).stamp + 1))
        ∷ replicate (main_view before.main.seat).made (found GENERATION (first_of G.generation before.parcels.items)) ++ trail_of before.main.seat
    pub view : main_view after.seat
        ≡ record (main_view before.main.seat) {
          phase = is_clearing;
          stamp = (main_view before.main.seat).stamp + 1;
          with = 0;
          released = first_of G.generation before.parcels.items;
          returning = false;
          back = first_of G.generation before.parcels.items;
          steps = ((main_view before.main.seat).steps + (main_view before.main.seat).made) + 1;
        }

  -- Main is idle again
  pub record IsIdleAgain (before : Clearing P B G) (main : MainSeat P B G) : Type 0 where
    pub seat : IsSameSeat before.seat main.seat
    -- its one step found 0 in the arrival count
    pub trail : Finds before.seat ARRIVALS 0 main.seat
    pub view : main_view main.seat ≡ record (main_view before.seat) { phase = Idle; read = 0; steps = (main_view before.seat).steps + 1 }

  -- Main waits on for workers to leave
  pub record WaitsForLeavers (before after : Clearing P B G) (seen : ℕ) : Type 0 where
    pub seat : IsSameSeat before.seat after.seat
    -- its one step found this number in the arrival count, which isn't 0
    pub trail : Finds before.seat ARRIVALS seen after.seat
    pub left : 0 < seen
    pub view : main_view after.seat ≡ record (main_view before.seat) { read = seen; steps = (main_view before.seat).steps + 1 }

  abbrev pub CountsLeft : Clearing P B G → Cleared P B G → Type 0
  CountsLeft before (cleared.Idle main) = IsIdleAgain before main
  CountsLeft before (cleared.Wait clearing seen) = WaitsForLeavers before clearing seen

  -- A running worker runs on, with its parcel as it was
  pub record RunsOn (before after : Running P B G) : Type 0 where
    pub seat : IsSameSeat before.worker.seat after.worker.seat
    -- its one step found in the request word twice the parcel's stamp, which is even
    pub trail : Finds before.worker.seat REQUEST (2 * (worker_view before.worker.seat).stamp) after.worker.seat
    pub parcel : after.parcel ≡ before.parcel
    pub view : worker_view after.worker.seat
        ≡ record (worker_view before.worker.seat) { read = 2 * (worker_view before.worker.seat).stamp; steps = (worker_view before.worker.seat).steps + 1 }

  -- A running worker has parked
  pub record Parks (before : Running P B G) (after : ParkedSeat P B G) : Type 0 where
    pub seat : IsSameSeat before.worker.seat after.seat
    -- Its first step found in the request word an odd number. The second stored the parcel's mark in the worker's own word, and
    -- the third gave the parcel and added the worker to the arrival count
    pub request : ℕ
    pub odd : request % 2 ≡ 1
    pub arrivals : ℕ
    pub trail : trail_of after.seat
        ≡ found ARRIVALS arrivals
        ∷ found (mark_word (worker_view before.worker.seat).number) (G.mark before.parcel)
        ∷ found REQUEST request
        ∷ trail_of before.worker.seat
    pub view : worker_view after.seat
        ≡ record (worker_view before.worker.seat) {
          phase = phase.Parked;
          has = false;
          read = request;
          mark = G.mark before.parcel;
          steps = (worker_view before.worker.seat).steps + 3;
        }

  abbrev pub Checks : Running P B G → Check P B G → Type 0
  Checks before (check.Run running) = RunsOn before running
  Checks before (check.Parked parked) = Parks before parked

  -- A parked worker has left, and runs with its parcel
  pub record Leaves (before : ParkedSeat P B G) (after : Running P B G) : Type 0 where
    pub seat : IsSameSeat before.seat after.worker.seat
    -- Its first step found in the request word twice the stamp with which the parcel comes, which is even. The second found the
    -- parcel's generation and took the parcel, and the third took the worker off the arrival count
    pub stamp : ℕ
    pub arrivals : ℕ
    pub trail : trail_of after.worker.seat
        ≡ found ARRIVALS arrivals
        ∷ found GENERATION (G.generation after.parcel)
        ∷ found REQUEST (2 * stamp)
        ∷ trail_of before.seat
    pub view : worker_view after.worker.seat
        ≡ record (worker_view before.seat) {
          phase = phase.Running;
          has = true;
          read = 2 * stamp;
          stamp = stamp;
          generation = G.generation after.parcel;
          steps = (worker_view before.seat).steps + 3;
        }
    -- the first word of all that a worker reads is 0, and where it is 0, before the first release, the parcel has generation 0
    pub opening_stamp : (worker_view before.seat).steps ≡ 0 → stamp ≡ 0
    pub opening_generation : stamp ≡ 0 → G.generation after.parcel ≡ 0
    pub fits : G.fits after.parcel (worker_view before.seat).book
    -- the parcel has the mark with which it was given
    pub mark : G.mark after.parcel ≡ (worker_view before.seat).mark

  -- A parked worker stays parked
  pub record StaysParked (before after : ParkedSeat P B G) : Type 0 where
    pub seat : IsSameSeat before.seat after.seat
    -- its one step found in the request word an odd number. The first word of all that a worker reads is 0
    pub request : ℕ
    pub odd : request % 2 ≡ 1
    pub opening : (worker_view before.seat).steps ≡ 0 → request ≡ 0
    pub trail : Finds before.seat REQUEST request after.seat
    pub view : worker_view after.seat ≡ record (worker_view before.seat) { read = request; steps = (worker_view before.seat).steps + 1 }

  abbrev pub Polls : ParkedSeat P B G → Check P B G → Type 0
  Polls before (check.Run running) = Leaves before running
  Polls before (check.Parked parked) = StaysParked before parked

  -- a running worker's parcel is as it may be given: it fits the book, and has the generation with which it came
  pub record MayGive (running : Running P B G) : Type 0 where
    pub fits : G.fits running.parcel (worker_view running.worker.seat).book
    pub generation : G.generation running.parcel ≡ (worker_view running.worker.seat).generation
