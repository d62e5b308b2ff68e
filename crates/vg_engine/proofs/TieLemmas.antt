-- For run_counted of threads: the workers of a run before they go into threads, and once they are back.
use Rattle.std.proofs.Common.{ℕ, suc, List, [], ◌∷◌, map, ap, sym, ◌∙◌}
use Rattle.std.proofs.lemmas.List.{length-map}
use Rattle.std.specs.Prelude.{Bool}
use Rattle.std.specs.List.{AllByRecursion}
use Rattle.vg_steps.specs.Seated.{TableId}
use Rattle.vg_model.specs.Visit.{Visit}
use Rattle.vg_capture.specs.declared.captures.Capture.{Capture}
use Rattle.vg_plan.specs.Plan.{Planned}
use Rattle.vg_dispatch.specs.declared.options.Options.{Options}
use Rattle.vg_dispatch.specs.Workers.{WorkerBook}
use Rattle.vg_threads.specs.Ties.{Tie, tie_of, IsWorkerAt, IsTied, AreTied}
use Rattle.vg_workers.specs.Places.{AllAt}
use Rattle.vg_workers.specs.Crews.{IsMember, IsCrew}
use Rattle.vg_threads.proofs.ThreadLemmas.{tied_length}

module _ (visit : Visit) (lossless : Bool) (plan : Planned) (capture : Capture) (options : Options) (barrier : TableId) where
  abbrev pub tied : WorkerBook → Tie
  tied w = tie_of plan capture options barrier w

  abbrev pub IsHere : WorkerBook → Type 0
  IsHere w = IsWorkerAt visit lossless plan capture options barrier w

  -- each of a crew stands for the run at its barrier
  pub crew_here : (ws : List WorkerBook) → IsCrew visit lossless plan capture options barrier ws → AllByRecursion IsHere ws
  crew_here ws crew = here 0 ws crew.each
    where
      here : (n : ℕ) (ws : List WorkerBook) → AllAt (IsMember visit lossless plan capture options barrier crew.ring) n ws → AllByRecursion IsHere ws
      here n [] each = tt
      here n (w ∷ ws) each = (record { stands = each.0.stands; seat = each.0.seat }, here (suc n) ws each.1)

  -- it is the crew that comes back
  pub crew_back : (ws vs : List WorkerBook) → IsCrew visit lossless plan capture options barrier ws → AreTied visit lossless (map tied ws) vs
      → IsCrew visit lossless plan capture options barrier vs
  crew_back ws vs crew back = record {
    count = sym (tied_length visit lossless (map tied ws) vs back) ∙ (length-map ws tied ∙ crew.count);
    ring = crew.ring;
    each = here 0 ws vs crew.each back;
  }
    where
      member : (n : ℕ) (w v : WorkerBook) → IsMember visit lossless plan capture options barrier crew.ring n w → IsTied visit lossless (tied w) v
          → IsMember visit lossless plan capture options barrier crew.ring n v
      member n w v was back = record {
        stands = back.at.stands;
        number_is = ap (λ (t : Tie). t.number) back.tie_is ∙ was.number_is;
        seat = back.at.seat;
        inputs = ap (λ (t : Tie). t.inputs) back.tie_is ∙ was.inputs;
        outputs = ap (λ (t : Tie). t.outputs) back.tie_is ∙ was.outputs;
      }

      here : (n : ℕ) (ws vs : List WorkerBook) → AllAt (IsMember visit lossless plan capture options barrier crew.ring) n ws → AreTied visit lossless (map tied ws) vs
          → AllAt (IsMember visit lossless plan capture options barrier crew.ring) n vs
      here n [] [] each back = tt
      here n (w ∷ ws) (v ∷ vs) each back = (member n w v each.0 back.0, here (suc n) ws vs each.1 back.1)
      here n [] (v ∷ vs) each back = absurd back
      here n (w ∷ ws) [] each back = absurd back
