-- The seats and the parcels of workers at the start of a run.
use Rattle.std.specs.Prelude.{◌≡◌, ℕ}
use Rattle.vg_steps.specs.Seated.{TableId}
use Rattle.vg_steps.specs.Seats.{table_of}
use Rattle.vg_model.specs.Graph.{Graph}
use Rattle.vg_barrier.specs.declared.parcel.Parcel.{Ghosts}
use Rattle.vg_barrier.specs.declared.worker_seat.Running.{Running}
use Rattle.vg_barrier.specs.Seats.{worker_view}
use Rattle.vg_barrier.specs.Answers.{MayGive}
use Rattle.vg_dispatch.specs.declared.parcels.Stop.TheVariants as stops
use Rattle.vg_dispatch.specs.declared.parcels.WorkerParcel.{WorkerParcel}
use Rattle.vg_dispatch.specs.Workers.{Windows}

-- the parcel of a worker at the start: generation 0, and the packet with the worker's own number next
abbrev pub first_parcel : Graph → (limit number : ℕ) → WorkerParcel
first_parcel graph limit number = record { fork = record { graph = graph; generation = 0 }; limit = limit; next = number; stop = stops.No }

module _ {G : Ghosts WorkerParcel Windows} where
  -- the seat of a worker with this number at the start
  pub record IsFirstSeat (book : Windows) (barrier : TableId) (number : ℕ) (seat : Running WorkerParcel Windows G) : Type 0 where
    pub at : table_of seat.worker.seat ≡ barrier
    pub gives : MayGive seat
    pub number_is : (worker_view seat.worker.seat).number ≡ number
    pub next : seat.parcel.next ≡ number
    pub book_is : (worker_view seat.worker.seat).book ≡ book
