-- When a worker stands for what is run.
use Rattle.std.specs.Prelude.{Bool, true, ◌≡◌, ℕ, ◌+◌, ◌%◌, ◌≤◌, List, length, min, Option, None, Some}
use Rattle.std.specs.List.{AllByRecursion}
use Rattle.vg_steps.specs.Seated.{TableId}
use Rattle.vg_steps.specs.Tables.{place}
use Rattle.vg_model.specs.declared.fates.Fate.{Fate}
use Rattle.vg_model.specs.Visit.{Visit}
use Rattle.vg_capture.specs.declared.captures.Capture.{Capture}
use Rattle.vg_plan.specs.Plan.{Planned, IsPlan, windows, first_generation}
use Rattle.vg_barrier.specs.declared.barrier.Barrier.{Barrier}
use Rattle.vg_journeys.specs.Trips.{Run}
use Rattle.vg_journeys.specs.Accounts.{HandoffFrame, frames_with}
use Rattle.vg_journeys.specs.Moments.{StandsFor}
use Rattle.vg_dispatch.specs.declared.options.Options.{Options}
use Rattle.vg_dispatch.specs.declared.parcels.WorkerParcel.{WorkerParcel}
use Rattle.vg_dispatch.specs.declared.parcels.Stop.{Stop}
use Rattle.vg_dispatch.specs.declared.parcels.Stop.TheVariants as stops
use Rattle.vg_dispatch.specs.Parcels.{Fits}
use Rattle.vg_underway.specs.OwnPackets.{captured_extent, own_from, frames_of}
use Rattle.vg_dispatch.specs.Progress.{AreInRange}
use Rattle.vg_dispatch.specs.Workers.{Windows, WorkerSeat, WorkerBook, account_of}

-- what is run
abbrev pub run_of : Visit → Planned → Capture → Options → Run
run_of visit plan capture options = record {
  visit = visit;
  graphs = plan.graphs;
  workers = options.workers;
  slots = options.queue;
  first = first_generation plan.script capture;
  packets = frames_of capture.packets;
}

-- how many packets are traced
abbrev pub traced_of : Capture → Options → ℕ
traced_of capture options = min options.trace (length capture.packets)

-- the capture is the one that the worker was made for
pub record IsMadeFor (capture : Capture) (options : Options) (w : WorkerBook) : Type 0 where
  pub options_are : w.options ≡ options
  pub packets : w.packets ≡ length capture.packets
  pub bytes : w.bytes ≡ captured_extent capture.packets
  pub own : w.own ≡ length (own_from options.workers w.mark capture.packets)
  pub left : w.left ≡ captured_extent (own_from options.workers w.mark capture.packets)

-- a parcel that a worker has: a generation of the book, the one with which it came, with the worker's mark
pub record HasParcel (book : Windows) (mark : ℕ) (seat : WorkerSeat) (parcel : WorkerParcel) : Type 0 where
  pub fits : Fits parcel book
  pub generation : parcel.fork.generation ≡ seat.view.generation
  pub next : parcel.next ≡ mark

-- where the worker is parked, it gave its parcel with its mark
abbrev pub KeepsParcel : Windows → (mark : ℕ) → WorkerSeat → Option WorkerParcel → Type 0
KeepsParcel book mark seat None = seat.view.mark ≡ mark
KeepsParcel book mark seat (Some parcel) = HasParcel book mark seat parcel

pub record IsSeatFor (book : Windows) (number mark : ℕ) (seat : WorkerSeat) : Type 0 where
  pub number_is : seat.view.number ≡ number
  pub book_is : seat.view.book ≡ book
  pub parcel : KeepsParcel book mark seat seat.parcel

abbrev pub IsSeated : Windows → (number mark : ℕ) → Option WorkerSeat → Type 0
IsSeated book number mark None = ⊥
IsSeated book number mark (Some seat) = IsSeatFor book number mark seat

-- a worker that has stopped has the parcel that said so
abbrev pub IsStopOf : Stop → Option WorkerParcel → Type 0
IsStopOf stops.No parcel = Unit {0}
IsStopOf stops.End None = ⊥
IsStopOf stops.End (Some parcel) = parcel.stop ≡ stops.End
IsStopOf stops.Lacking None = ⊥
IsStopOf stops.Lacking (Some parcel) = parcel.stop ≡ stops.Lacking

abbrev pub HasStopped : Stop → Option WorkerSeat → Type 0
HasStopped stop None = ⊥
HasStopped stop (Some seat) = IsStopOf stop seat.parcel

-- no fate has a count of a queue that was full
abbrev pub NoneCongested : List Fate → Type 0
NoneCongested log = AllByRecursion (λ (fate : Fate). fate.congested ≡ None) log

-- The worker stands for the run of this capture through this plan: all that it has done are legs of packets as the run has them.
pub record IsAtWork (visit : Visit) (lossless : Bool) (plan : Planned) (capture : Capture) (options : Options) (w : WorkerBook) : Type 0 where
  pub planned : IsPlan plan
  pub range : AreInRange options
  pub made : IsMadeFor capture options w
  pub stands : StandsFor (run_of visit plan capture options) (traced_of capture options) w.number (account_of w)
  -- it draws every packet whose number is its own by the workers' count, in order
  pub own_mark : w.mark % options.workers ≡ w.number
  -- it puts no empty frame
  pub full : (to : ℕ) → AllByRecursion (λ (frame : HandoffFrame). 1 ≤ length frame.packets) (frames_with to w.put)
  -- handoffs that refuse nothing leave no packet congested
  pub none_congested : lossless ≡ true → NoneCongested w.log
  -- there is one queue from and one to each other worker
  pub inputs : length w.inputs + 1 ≡ options.workers
  pub outputs : length w.outputs + 1 ≡ options.workers

-- and it sits at its place, with a parcel of the plan's windows
pub record IsWorkerOf (visit : Visit) (lossless : Bool) (plan : Planned) (capture : Capture) (options : Options) (w : WorkerBook) : Type 0 where
  pub work : IsAtWork visit lossless plan capture options w
  pub seated : IsSeated (windows plan capture) w.number w.mark w.seat
  pub stopped : HasStopped w.stop w.seat
  -- once the last generation is over it has drawn all its packets
  pub drawn : w.stop ≡ stops.End → length capture.packets ≤ w.mark

-- what no turn changes
pub record IsSameWorker (old new : WorkerBook) : Type 0 where
  pub number : new.number ≡ old.number
  pub options : new.options ≡ old.options
  pub inputs : new.inputs ≡ old.inputs
  pub outputs : new.outputs ≡ old.outputs

-- the barrier of a seat
abbrev pub barrier_of : Option WorkerSeat → Option TableId
barrier_of None = None
barrier_of (Some seat) = Some seat.barrier

module _ {P B : Type 0} where
  -- which barrier it is
  abbrev pub barrier_id : Barrier P B → TableId
  barrier_id barrier = place barrier.table
