-- What contracts see of a worker between two turns.
use Rattle.std.specs.Prelude.{◌≡◌, ◌≢◌, ℕ, ◌<◌, List, [], Option, None, Some, slice_index_or}
use Rattle.std.specs.List.{AllByRecursion}
use Rattle.vg_steps.specs.Seated.{TableId}
use Rattle.vg_steps.specs.declared.notes.Found.{Found}
use Rattle.vg_steps.specs.Seats.{table_of, id_of, trail_of}
use Rattle.vg_model.specs.declared.fates.Fate.{Fate}
use Rattle.vg_model.specs.Graph.{Graph}
use Rattle.vg_model.specs.PoolBook.{CacheBook}
use Rattle.vg_counters.specs.Tally.{Tally}
use Rattle.vg_counters.specs.Notes.{Notes}
use Rattle.vg_barrier.specs.declared.parcel.Parcel.{Ghosts}
use Rattle.vg_barrier.specs.declared.worker_seat.Check.{Check}
use Rattle.vg_barrier.specs.declared.worker_seat.Check.TheVariants as check
use Rattle.vg_barrier.specs.declared.worker_seat.Running.{Running}
use Rattle.vg_barrier.specs.declared.views.WorkerView.{WorkerView}
use Rattle.vg_barrier.specs.Seats.{worker_view}
use Rattle.vg_journeys.specs.Accounts.{Account, HandoffFrame, frames_with}
use Rattle.vg_dispatch.specs.declared.options.Options.{Options}
use Rattle.vg_dispatch.specs.declared.parcels.WorkerParcel.{WorkerParcel}
use Rattle.vg_dispatch.specs.declared.parcels.Stop.{Stop}
use Rattle.vg_underway.specs.Peers.{place_among}
use Rattle.vg_underway.specs.Queues.{Intake}
use Rattle.vg_underway.specs.Outlets.{Outlet}

-- what all parcels of a run's barrier are generations of: graphs with their limits
abbrev pub Windows : Type 0
Windows = List (Graph × ℕ)

-- a worker's seat: of which barrier it is, and which of its seats; what each step of the worker found there, the latest first; what the
-- worker knows there; and, where it isn't parked, its parcel
pub record WorkerSeat : Type 0 where
  pub barrier : TableId
  pub id : ℕ
  pub trail : List Found
  pub view : WorkerView Windows
  pub parcel : Option WorkerParcel

module _ {G : Ghosts WorkerParcel Windows} where
  -- the seat of a worker that runs
  abbrev pub running_seat : Running WorkerParcel Windows G → WorkerSeat
  running_seat running = record { barrier = table_of running.worker.seat; id = id_of running.worker.seat; trail = trail_of running.worker.seat; view = worker_view running.worker.seat; parcel = Some running.parcel }

  abbrev pub seat_of : Check WorkerParcel Windows G → WorkerSeat
  seat_of (check.Run running) = running_seat running
  seat_of (check.Parked parked) = record { barrier = table_of parked.seat; id = id_of parked.seat; trail = trail_of parked.seat; view = worker_view parked.seat; parcel = None }

  abbrev pub seat_in : Option (Check WorkerParcel Windows G) → Option WorkerSeat
  seat_in None = None
  seat_in (Some seat) = Some (seat_of seat)

-- a worker by what it was made for, what it has done, what it has kept, and where it sits
pub record WorkerBook : Type 0 where
  -- its number, and the options of the run
  pub number : ℕ
  pub options : Options
  -- how many packets the capture has, and how many bytes they and the rooms that they are received with have together
  pub packets : ℕ
  pub bytes : ℕ
  -- the number of the next packet that it draws; how many of its own packets there are from there on, and how many bytes they and their
  -- rooms have together
  pub mark : ℕ
  pub own : ℕ
  pub left : ℕ
  -- by the worker from which: the frames that it has taken, without one that waits in it
  pub taken : List (List HandoffFrame)
  -- by the worker to which: the frames that its handoffs have accepted
  pub put : List (List HandoffFrame)
  -- what became of packets, in the order in which they ended; numbers and bytes of those that were transmitted
  pub log : List Fate
  pub sent : List (ℕ × List ℕ)
  pub counts : Tally
  pub trace : Notes
  pub cache : CacheBook
  -- by rising number of the other workers: the frame from it that waits; its queues' rings; the room of the handoff to it, and how many
  -- frames this holds back
  pub waits : List (Option HandoffFrame)
  pub inputs : List TableId
  pub outputs : List TableId
  pub rooms : List ℕ
  pub held : List ℕ
  -- by the worker to which: its handoffs; by the worker from which: what each step of its end of the queue found, the latest first
  pub outlets : List Outlet
  pub looks : List (List Found)
  -- its seat, how many turns it has begun, and whether and why it has stopped
  pub seat : Option WorkerSeat
  pub turns : ℕ
  pub stop : Stop

-- what it has done so far
abbrev pub account_of : WorkerBook → Account
account_of w = record {
  worker = w.number;
  mark = w.mark;
  taken = w.taken;
  put = w.put;
  log = w.log;
  sent = w.sent;
  counts = w.counts;
  trace = w.trace;
  allocated = w.cache.allocated;
  freed = w.cache.freed;
}

-- another worker of the run
abbrev pub IsOther : WorkerBook → ℕ → Type 0
IsOther w other = (other < w.options.workers) × (other ≢ w.number)

-- its queue from another worker
abbrev pub intake_from : WorkerBook → ℕ → Intake
intake_from w from = record {
  taken = frames_with from w.taken;
  waits = slice_index_or w.waits (place_among w.number from) None;
  trail = slice_index_or w.looks from [];
}

-- no frame waits in it, and its handoffs hold none back
pub record IsIdle (w : WorkerBook) : Type 0 where
  pub waits : AllByRecursion (λ (frame : Option HandoffFrame). frame ≡ None) w.waits
  pub held : AllByRecursion (λ (count : ℕ). count ≡ 0) w.held
