-- What no turn of a worker, and no step of main, changes.
use Rattle.std.specs.Prelude.{Bool, ◌≡◌, ℕ, List, [], ◌∷◌, Some}
use Rattle.vg_steps.specs.Seated.{TableId}
use Rattle.vg_model.specs.Visit.{Visit}
use Rattle.vg_capture.specs.declared.captures.Capture.{Capture}
use Rattle.vg_plan.specs.Plan.{Planned}
use Rattle.vg_dispatch.specs.declared.options.Options.{Options}
use Rattle.vg_dispatch.specs.Workers.{WorkerBook}
use Rattle.vg_dispatch.specs.Standing.{IsWorkerOf, barrier_of, barrier_id}
use Rattle.vg_threads.specs.declared.mains.Main.{Main}
use Rattle.vg_threads.specs.Leads.{WorkerBarrier, IsMain}

-- the worker's number, what it runs, its barrier, and the rings of its queues from and to the other workers
pub record Tie : Type 0 where
  pub number : ℕ
  pub plan : Planned
  pub capture : Capture
  pub options : Options
  pub barrier : TableId
  pub inputs : List TableId
  pub outputs : List TableId

-- that of a worker that runs this at this barrier
abbrev pub tie_of : Planned → Capture → Options → (barrier : TableId) → WorkerBook → Tie
tie_of plan capture options barrier w =
    record { number = w.number; plan = plan; capture = capture; options = options; barrier = barrier; inputs = w.inputs; outputs = w.outputs }

-- the worker stands for what it runs, and sits at this barrier
pub record IsWorkerAt (visit : Visit) (lossless : Bool) (plan : Planned) (capture : Capture) (options : Options) (barrier : TableId) (w : WorkerBook) : Type 0 where
  pub stands : IsWorkerOf visit lossless plan capture options w
  pub seat : barrier_of w.seat ≡ Some barrier

-- it is the worker that is tied so
pub record IsTied (visit : Visit) (lossless : Bool) (tie : Tie) (w : WorkerBook) : Type 0 where
  pub at : IsWorkerAt visit lossless tie.plan tie.capture tie.options tie.barrier w
  pub tie_is : tie_of tie.plan tie.capture tie.options tie.barrier w ≡ tie

-- they are the workers that are tied so, in their order
abbrev pub AreTied : (visit : Visit) (lossless : Bool) → List Tie → List WorkerBook → Type 0
AreTied visit lossless [] [] = Unit {0}
AreTied visit lossless [] (w ∷ ws) = ⊥
AreTied visit lossless (t ∷ ts) [] = ⊥
AreTied visit lossless (t ∷ ts) (w ∷ ws) = IsTied visit lossless t w × AreTied visit lossless ts ws

-- what main leads, and its barrier
pub record MainTie : Type 0 where
  pub plan : Planned
  pub capture : Capture
  pub barrier : TableId

-- it is main that is tied so
pub record IsTiedMain (tie : MainTie) (main : Main) : Type 0 where
  pub at : (b : WorkerBarrier) → barrier_id b ≡ tie.barrier → IsMain tie.plan tie.capture b main
