-- For the steps of main and of workers (MainMachine and WorkerMachine), and for `Barrier::{make_worker, end}`: what the rule says of the seat that makes
-- a step.
use Rattle.std.proofs.Common.{◌≡◌, ◌≢◌, ℕ, zero, suc, ◌≤◌, List, length, get_or, sym, refl, ap, ◌∙◌, arith, Option}
use mathlib.Core.Logic.{dite}
use mathlib.Core.Option.{some, some-injective}
use native.Mathlib.Decide.{dec_lt}
use lib.ListN.{get_elem?}
use Rattle.vg_steps.specs.Table.{State, Me}
use Rattle.vg_barrier.specs.declared.parcel.Stamped.{Stamped}
use Rattle.vg_barrier.specs.declared.views.MainPhase.TheVariants.{Clearing}
use Rattle.vg_barrier.specs.declared.views.MainView.{MainView}
use Rattle.vg_barrier.specs.declared.views.WorkerView.{WorkerView}
use Rattle.vg_barrier.specs.declared.views.View.{View}
use Rattle.vg_barrier.specs.declared.views.View.TheVariants.{Main, Worker}
use Rattle.vg_barrier.specs.Machine.{Kept}
use Rattle.vg_barrier.proofs.Phases.{arrivals_le, no_main_in, worker_in}

module _ {B : Type 0} where
  abbrev pub worker_or : WorkerView B → View B → WorkerView B
  worker_or d (Main m) = d
  worker_or d (Worker v) = v

  abbrev pub main_or : MainView B → View B → MainView B
  main_or d (Main m) = m
  main_or d (Worker v) = d

module _ {P B : Type 0} where
  -- what a step tells of a seat whose view and slots are known
  pub told_worker : (f : WorkerView B → WorkerView B) (me : Me (Option (Stamped P)) (View B)) (v u : WorkerView B)
      (cs ds : List (ℕ × Option (Stamped P)))
      → me ≡ (Worker v, cs) → me ≡ (Worker u, ds)
      → ◌≡◌ {A = Me (Option (Stamped P)) (View B)} (Worker (f v), me.1) (Worker (f u), ds)
  told_worker f me v u cs ds a b = λ i. (Worker (f (worker_or v ((sym a ∙ b) i).0)), (b i).1)

  pub told_main : (f : MainView B → MainView B) (me : Me (Option (Stamped P)) (View B)) (v u : MainView B)
      (cs ds : List (ℕ × Option (Stamped P)))
      → me ≡ (Main v, cs) → me ≡ (Main u, ds) → ◌≡◌ {A = Me (Option (Stamped P)) (View B)} (Main (f v), me.1) (Main (f u), ds)
  told_main f me v u cs ds a b = λ i. (Main (f (main_or v ((sym a ∙ b) i).0)), (b i).1)

module _ {P B : Type 0} {fits_book : P → B → Type 0} {mark_of generation_of : P → ℕ} {workers : ℕ} where
  -- a worker's seat stands behind main's, at its number
  pub worker_at : (s : State (Option (Stamped P)) (View B)) (r : Kept fits_book mark_of generation_of workers s) (id : ℕ)
      (v : WorkerView B)
      → get_elem? s.views id ≡ some (Worker v) → (k : ℕ) × (id ≡ suc k) × (get_elem? r.made k ≡ some v)
  worker_at s r zero v at =
      let e : some (Main r.main) ≡ some (Worker v) = sym (ap (λ l. get_elem? l 0) r.views) ∙ at in
      let p : Main r.main ≡ Worker v = some-injective (Main r.main) (Worker v) e in
      cc
  worker_at s r (suc k) v at = (k, refl, worker_in r.made k v (sym (ap (λ l. get_elem? l (suc k)) r.views) ∙ at))

  pub main_at : (s : State (Option (Stamped P)) (View B)) (r : Kept fits_book mark_of generation_of workers s) (id : ℕ)
      (m : MainView B)
      → get_elem? s.views id ≡ some (Main m) → (id ≡ 0) × (r.main ≡ m)
  main_at s r zero m at =
      let p : Main r.main ≡ Main m = some-injective (Main r.main) (Main m) (sym (ap (λ l. get_elem? l 0) r.views) ∙ at) in
      (refl, cc)
  main_at s r (suc k) m at = absurd (no_main_in r.made k m (sym (ap (λ l. get_elem? l (suc k)) r.views) ∙ at))

  pub few_arrive : (s : State (Option (Stamped P)) (View B)) (r : Kept fits_book mark_of generation_of workers s)
      → get_or s.words 16 0 ≤ 8
  few_arrive s r = let a = r.arrival in let le = arrivals_le r.made in let w = r.within in let f = r.few in omega arith

  -- where main asks, all workers are made
  pub all_made : (s : State (Option (Stamped P)) (View B)) (r : Kept fits_book mark_of generation_of workers s)
      → r.main.phase ≢ Clearing → length r.made ≡ workers
  all_made s r not =
      dite (dec_lt (length r.made) workers) (λ l. absurd (not (r.unmade l).0)) (λ l. let w = r.within in omega arith)
