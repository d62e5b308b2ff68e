-- The workers of a run.
use Rattle.std.specs.Prelude.{Bool, ◌≡◌, ◌≢◌, ℕ, zero, suc, ◌+◌, ◌<◌, List, [], ◌∷◌, length, map, All, Some}
use Rattle.vg_steps.specs.Seated.{TableId}
use Rattle.vg_model.specs.Visit.{Visit}
use Rattle.vg_capture.specs.declared.captures.Capture.{Capture}
use Rattle.vg_plan.specs.Plan.{Planned}
use Rattle.vg_journeys.specs.Accounts.{Account, frames_with}
use Rattle.vg_journeys.specs.Moments.{begun}
use Rattle.vg_dispatch.specs.declared.options.Options.{Options}
use Rattle.vg_dispatch.specs.declared.parcels.Stop.TheVariants as stops
use Rattle.vg_dispatch.specs.Workers.{WorkerBook, account_of, IsIdle}
use Rattle.vg_dispatch.specs.Standing.{IsWorkerOf, barrier_of}
use Rattle.vg_workers.specs.Places.{AllAt, others}

-- the rings of a worker's queues, where `ring a b` is that from worker a to worker b
abbrev pub rings_from : (ring : ℕ → ℕ → TableId) (workers own : ℕ) → List TableId
rings_from ring workers own = map (λ from. ring from own) (others workers own)

abbrev pub rings_to : (ring : ℕ → ℕ → TableId) (workers own : ℕ) → List TableId
rings_to ring workers own = map (ring own) (others workers own)

-- a worker of a run, with its number, at the run's barrier, and with its ends of these rings
pub record IsMember (visit : Visit) (lossless : Bool) (plan : Planned) (capture : Capture) (options : Options) (barrier : TableId)
    (ring : ℕ → ℕ → TableId) (number : ℕ) (w : WorkerBook) : Type 0 where
  pub stands : IsWorkerOf visit lossless plan capture options w
  pub number_is : w.number ≡ number
  pub seat : barrier_of w.seat ≡ Some barrier
  pub inputs : w.inputs ≡ rings_from ring options.workers number
  pub outputs : w.outputs ≡ rings_to ring options.workers number

-- all workers of a run, by number: each stands for the run, and a ring leads from each to each other
pub record IsCrew (visit : Visit) (lossless : Bool) (plan : Planned) (capture : Capture) (options : Options) (barrier : TableId)
    (workers : List WorkerBook) : Type 0 where
  pub count : length workers ≡ options.workers
  pub ring : ℕ → ℕ → TableId
  pub each : AllAt (IsMember visit lossless plan capture options barrier ring) 0 workers

-- none goes on
abbrev pub HaveStopped : List WorkerBook → Type 0
HaveStopped workers = All (λ (w : WorkerBook). w.stop ≢ stops.No) workers

-- the last generation is over for each
abbrev pub HaveEnded : List WorkerBook → Type 0
HaveEnded workers = All (λ (w : WorkerBook). w.stop ≡ stops.End) workers

-- what worker k has done
abbrev pub account_at : List WorkerBook → ℕ → Account
account_at [] k = begun 0 k
account_at (w ∷ ws) zero = account_of w
account_at (w ∷ ws) (suc k) = account_at ws k

-- a worker of so many, with its number and its ends of queues
pub record IsNumbered (workers number : ℕ) (w : WorkerBook) : Type 0 where
  pub number_is : w.number ≡ number
  pub workers_are : w.options.workers ≡ workers
  pub inputs : length w.inputs + 1 ≡ workers
  pub outputs : length w.outputs + 1 ≡ workers

-- they stand by number
abbrev pub AreNumbered : List WorkerBook → Type 0
AreNumbered workers = AllAt (IsNumbered (length workers)) 0 workers

-- each other worker has taken all frames that this one has put
abbrev pub HasGiven : List WorkerBook → ℕ → Type 0
HasGiven workers from = (to : ℕ) → to < length workers → from ≢ to
    → length (frames_with to (account_at workers from).put) ≡ length (frames_with from (account_at workers to).taken)

-- every frame that one has put another has taken, and none holds any back
pub record AreDone (workers : List WorkerBook) : Type 0 where
  pub idle : All IsIdle workers
  pub given : (from : ℕ) → from < length workers → HasGiven workers from
