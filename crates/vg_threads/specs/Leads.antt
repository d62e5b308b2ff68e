-- What main knows between its steps.
use Rattle.std.specs.Prelude.{◌≡◌, ℕ, ◌+◌, ◌≤◌, List, length}
use Rattle.vg_model.specs.Graph.{Graph}
use Rattle.vg_capture.specs.declared.captures.Capture.{Capture}
use Rattle.vg_script.specs.Events.{Event}
use Rattle.vg_plan.specs.Plan.{Planned, IsPlan, windows}
use Rattle.vg_barrier.specs.declared.barrier.Barrier.{Barrier}
use Rattle.vg_barrier.specs.declared.views.MainView.{MainView}
use Rattle.vg_barrier.specs.Seats.{main_view}
use Rattle.vg_barrier.specs.Barrier.{IsSeatOf}
use Rattle.vg_dispatch.specs.declared.parcels.Stop.{Stop}
use Rattle.vg_dispatch.specs.declared.parcels.Stop.TheVariants as stops
use Rattle.vg_dispatch.specs.declared.parcels.WorkerParcel.{WorkerParcel}
use Rattle.vg_threads.specs.Turns.{IsAt}
use Rattle.vg_threads.specs.declared.decisions.Lead.{Lead}
use Rattle.vg_threads.specs.declared.mains.Phase.{Phase}
use Rattle.vg_threads.specs.declared.mains.Phase.TheVariants as phase
use Rattle.vg_threads.specs.declared.mains.Main.{Main}

-- the barrier of a run, and what main knows of it
abbrev pub WorkerBarrier : Type 0
WorkerBarrier = Barrier WorkerParcel (List (Graph × ℕ))

abbrev pub WorkerView : Type 0
WorkerView = MainView (List (Graph × ℕ))

-- as long as the workers go on, main has the graph of their generation and the events behind it; once they are told to stop at the end,
-- this is the last generation, and as many releases were made as there are generations
abbrev pub StandsAt : (plan : Planned) (released stamp : ℕ) → Stop → List Event → Graph → Type 0
StandsAt plan released stamp stops.No left g = IsAt plan released left g
StandsAt plan released stamp stops.End left g = IsAt plan released left g × (released + 1 ≡ length plan.graphs) × (length plan.graphs ≤ stamp)
StandsAt plan released stamp stops.Lacking left g = Unit {0}

-- main leads the run of this plan and capture, where the workers have this generation, and so many releases were made
pub record IsLead (plan : Planned) (capture : Capture) (released stamp : ℕ) (lead : Lead) : Type 0 where
  pub is_plan : IsPlan plan
  pub book : lead.book ≡ windows plan capture
  pub releases : released ≤ stamp
  pub stands : StandsAt plan released stamp lead.told lead.processes lead.master

-- main's seat is of this barrier
abbrev pub IsPhaseOf : Phase → WorkerBarrier → Type 0
IsPhaseOf (phase.Idle seat) b = IsSeatOf seat.seat b
IsPhaseOf (phase.Asked asked) b = IsSeatOf asked.seat b
IsPhaseOf (phase.Clearing clearing) b = IsSeatOf clearing.seat b

-- what main knows of the barrier
abbrev pub view_at : Phase → WorkerView
view_at (phase.Idle seat) = main_view seat.seat
view_at (phase.Asked asked) = main_view asked.seat
view_at (phase.Clearing clearing) = main_view clearing.seat

-- main asks only as long as the workers go on
abbrev pub AsksInTime : Phase → Stop → Type 0
AsksInTime (phase.Idle seat) told = Unit {0}
AsksInTime (phase.Asked asked) told = told ≡ stops.No
AsksInTime (phase.Clearing clearing) told = Unit {0}

-- main, between its steps at this barrier
pub record IsMain (plan : Planned) (capture : Capture) (b : WorkerBarrier) (main : Main) : Type 0 where
  pub seat : IsPhaseOf main.phase b
  pub book : (view_at main.phase).book ≡ windows plan capture
  pub in_time : AsksInTime main.phase main.lead.told
  pub lead : IsLead plan capture (view_at main.phase).released (view_at main.phase).stamp main.lead
