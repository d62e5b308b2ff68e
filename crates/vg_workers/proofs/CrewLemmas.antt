-- For turn_one, finish_all, has_given and finish: the workers of a run through turns.
use Rattle.std.proofs.Common.{◌≡◌, ◌≢◌, ℕ, zero, suc, ◌<◌, ◌≤◌, List, [], ◌∷◌, length, map, set, get_or, sym, ap, subst, ◌∙◌, arith, length-set}
use Rattle.std.specs.Prelude.{Bool, slice_get, Some}
use Rattle.std.proofs.lemmas.Option.{none-some, same_Some}
use Rattle.vg_steps.specs.Seated.{TableId}
use Rattle.vg_model.specs.Visit.{Visit}
use Rattle.vg_capture.specs.declared.captures.Capture.{Capture}
use Rattle.vg_plan.specs.Plan.{Planned}
use Rattle.vg_dispatch.specs.declared.options.Options.{Options}
use Rattle.vg_dispatch.specs.declared.parcels.Stop.{Stop}
use Rattle.vg_dispatch.specs.declared.parcels.Stop.TheVariants as stops
use Rattle.vg_dispatch.specs.Workers.{WorkerBook, account_of}
use Rattle.vg_dispatch.specs.Standing.{IsWorkerOf, IsSameWorker, barrier_of}
use Rattle.vg_workers.specs.Places.{AllAt}
use Rattle.vg_workers.specs.Crews.{IsMember, IsCrew, HaveStopped, IsNumbered, AreNumbered, account_at}
use Rattle.vg_workers.proofs.PlaceLemmas.{get_is, first_get, first_set, all_then}

-- what a worker has done, where it stands in the list
pub account_is : (ws : List WorkerBook) (k : ℕ) (w : WorkerBook) → slice_get ws k ≡ Some w → account_at ws k ≡ account_of w
account_is [] k w e = absurd (none-some w e)
account_is (v ∷ vs) zero w e = ap account_of (same_Some v w e)
account_is (v ∷ vs) (suc k) w e = account_is vs k w e

module _ (visit : Visit) (lossless : Bool) (plan : Planned) (capture : Capture) (options : Options) (barrier : TableId) where
  -- a member of the crew
  pub crew_at : (ws : List WorkerBook) (crew : IsCrew visit lossless plan capture options barrier ws) (k : ℕ) (w : WorkerBook) → k < length ws → w ≡ get_or ws k w
      → IsMember visit lossless plan capture options barrier crew.ring k w
  crew_at ws crew k w h is = first_get (IsMember visit lossless plan capture options barrier crew.ring) ws k w crew.each (get_is ws k w h is)

  -- the crew, once one of them has done something
  pub crew_set : (ws : List WorkerBook) → IsCrew visit lossless plan capture options barrier ws → (k : ℕ) (w new : WorkerBook) → k < length ws → w ≡ get_or ws k w
      → IsWorkerOf visit lossless plan capture options new → IsSameWorker w new → barrier_of new.seat ≡ barrier_of w.seat → IsCrew visit lossless plan capture options barrier (set ws k new)
  crew_set ws crew k w new h is stands same seat =
      let was = crew_at ws crew k w h is in
      record {
        count = length-set ws k new ∙ crew.count;
        ring = crew.ring;
        each =
            first_set (IsMember visit lossless plan capture options barrier crew.ring) ws k new crew.each
            (record {
              stands = stands;
              number_is = same.number ∙ was.number_is;
              seat = seat ∙ was.seat;
              inputs = same.inputs ∙ was.inputs;
              outputs = same.outputs ∙ was.outputs;
            });
      }

  -- they stand by number
  pub crew_numbered : (ws : List WorkerBook) → IsCrew visit lossless plan capture options barrier ws → AreNumbered ws
  crew_numbered ws crew =
      all_then (IsMember visit lossless plan capture options barrier crew.ring) (IsNumbered (length ws)) 0 ws crew.each
      (λ k w h member.
      let work = member.stands.work in
      let count = crew.count in
      let inputs = work.inputs in
      let outputs = work.outputs in
      record {
        number_is = member.number_is;
        workers_are = ap (λ (o : Options). o.workers) work.made.options_are ∙ sym count;
        inputs = omega (arith, inputs, count);
        outputs = omega (arith, outputs, count);
      })

  -- and are few
  pub crew_few : (ws : List WorkerBook) → IsCrew visit lossless plan capture options barrier ws → length ws ≤ 8
  crew_few ws crew = here crew.ring ws crew.count crew.each
    where
      here : (ring : ℕ → ℕ → TableId) (ws : List WorkerBook) → length ws ≡ options.workers → AllAt (IsMember visit lossless plan capture options barrier ring) 0 ws → length ws ≤ 8
      here ring [] count each = omega arith
      here ring (w ∷ ws) count each = let range = each.0.stands.work.range.workers.1 in omega (arith, range, count)

-- whether workers have stopped
pub stops_of : List WorkerBook → List Stop
stops_of ws = map (λ (w : WorkerBook). w.stop) ws

pub stopped_same : (ws vs : List WorkerBook) → map (λ (w : WorkerBook). w.stop) ws ≡ map (λ (w : WorkerBook). w.stop) vs → HaveStopped vs → HaveStopped ws
stopped_same ws vs same stopped k d h = here ws vs same stopped k d h
  where
    first_same : (a b : Stop) (xs ys : List Stop) → a ∷ xs ≡ b ∷ ys → a ≡ b
    first_same a b xs ys e = cc

    rest_same : (a b : Stop) (xs ys : List Stop) → a ∷ xs ≡ b ∷ ys → xs ≡ ys
    rest_same a b xs ys e = cc

    here : (ws vs : List WorkerBook) → map (λ (w : WorkerBook). w.stop) ws ≡ map (λ (w : WorkerBook). w.stop) vs → HaveStopped vs → HaveStopped ws
    here [] vs same stopped k d h = absurd (omega (arith, h))
    here (w ∷ ws) [] same stopped k d h = absurd (cc)
    here (w ∷ ws) (v ∷ vs) same stopped zero d h =
        subst (λ s. s ≢ stops.No) (sym (first_same w.stop v.stop _ _ same)) (stopped 0 v (omega arith))
    here (w ∷ ws) (v ∷ vs) same stopped (suc k) d h = here ws vs (rest_same w.stop v.stop _ _ same) (λ i e g. stopped (suc i) e (omega (arith, g))) k d (omega (arith, h))

-- a worker by its number
pub numbered_at : (ws : List WorkerBook) (k : ℕ) (w : WorkerBook) → AreNumbered ws → k < length ws → w ≡ get_or ws k w → IsNumbered (length ws) k w
numbered_at ws k w numbered h is = first_get (IsNumbered (length ws)) ws k w numbered (get_is ws k w h is)

pub account_here : (ws : List WorkerBook) (k : ℕ) (w : WorkerBook) → k < length ws → w ≡ get_or ws k w → account_at ws k ≡ account_of w
account_here ws k w h is = account_is ws k w (get_is ws k w h is)
