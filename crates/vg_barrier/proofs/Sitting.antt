-- For the clauses of `Running::check`, `ParkedSeat::poll`, `MainSeat::ask`, `Asked::poll`, `take_all`, `Held::release`, `return_all` and `Clearing::poll`: what
-- a seat's ghost fields say, from its view after a step.
use Rattle.std.proofs.Common.{◌≡◌, ℕ, ◌+◌, ◌%◌, Bool, true, false, cond, eqb, eq-eqb, ne_eqb, List, ◌∙◌, sym, ap, subst, length, Option}
use Rattle.vg_steps.specs.Seats.{me_of}
use Rattle.vg_steps.specs.declared.seats.Seat.{Seat}
use Rattle.vg_steps.specs.Table.{Me}
use Rattle.vg_barrier.specs.declared.parcel.Stamped.{Stamped}
use Rattle.vg_barrier.specs.declared.views.WorkerPhase.{WorkerPhase}
use Rattle.vg_barrier.specs.declared.views.WorkerView.{WorkerView}
use Rattle.vg_barrier.specs.declared.views.View.{View}
use Rattle.vg_barrier.specs.declared.views.View.TheVariants.{Main, Worker}
use Rattle.vg_barrier.specs.declared.views.MainPhase.TheVariants.{Idle, Asked, Holding, Clearing}
use Rattle.vg_barrier.specs.Steps.{after_request, read_request, counted_in, cleared}
use Rattle.vg_barrier.specs.declared.views.MainPhase.{MainPhase}
use Rattle.vg_barrier.specs.declared.views.MainView.{MainView}
use Rattle.vg_barrier.specs.Seats.{main_of, worker_of, main_view, worker_view, has_parcel, empties, IsMain, IsWorker}

module _ (P B : Type 0) where
  abbrev M : Type 0
  M = Me (Option (Stamped P)) (View B)

  pub worker_is : (s : Seat (Option (Stamped P)) (View B)) (v : WorkerView B) (cs : List (ℕ × Option (Stamped P)))
      → me_of s ≡ (Worker v, cs) → worker_view s ≡ v
  worker_is s v cs e = ap (λ (x : M). worker_of x.0) e

  pub becomes_worker : (s : Seat (Option (Stamped P)) (View B)) (v : WorkerView B) (phase : WorkerPhase)
      (cs ds : List (ℕ × Option (Stamped P)))
      → me_of s ≡ (Worker v, cs) → cs ≡ ds → v.phase ≡ phase → v.has ≡ has_parcel phase → IsWorker s phase ds
  becomes_worker s v phase cs ds e same a b =
      let is = worker_is s v cs e in
      (e ∙ (λ i. (Worker (sym is i), same i)), ap (λ (x : WorkerView B). x.phase) is ∙ a, ap (λ (x : WorkerView B). x.has) is ∙ b)

  pub main_is : (s : Seat (Option (Stamped P)) (View B)) (m : MainView B) (cs : List (ℕ × Option (Stamped P)))
      → me_of s ≡ (Main m, cs) → main_view s ≡ m
  main_is s m cs e = ap (λ (x : M). main_of x.0) e

  pub becomes_main : (s : Seat (Option (Stamped P)) (View B)) (m : MainView B) (phase : MainPhase) (n : ℕ) (returning : Bool)
      (cs : List (ℕ × Option (Stamped P)))
      → me_of s ≡ (Main m, cs) → cs ≡ empties n → m.phase ≡ phase → m.with ≡ n → m.returning ≡ returning → length m.marks ≡ m.made
      → IsMain s phase n returning
  becomes_main s m phase n returning cs e same a b c d = let is = main_is s m cs e in (
    e ∙ (λ i. (Main (sym is i), same i)),
    ap (λ (x : MainView B). x.phase) is ∙ a,
    ap (λ (x : MainView B). x.with) is
        ∙ b,
    ap (λ (x : MainView B). x.returning) is ∙ c,
    subst (λ (x : MainView B). length x.marks ≡ x.made) (sym is) d,
  )

module _ (B : Type 0) where
  pub odd_phase : (v : WorkerView B) (r : ℕ) (p q : WorkerPhase) → v.phase ≡ p → r % 2 ≡ 1 → after_request true p ≡ q
      → read_request v r ≡ record v { phase = q; read = r; steps = v.steps + 1 }
  odd_phase v r p q e odd to = λ i. record v {
    phase = ((λ j. after_request (eq-eqb (r % 2) 1 odd j) (e j)) ∙ to) i;
    read = r;
    steps = v.steps + 1;
  }

  pub even_phase : (v : WorkerView B) (r : ℕ) (p q : WorkerPhase) → v.phase ≡ p → (r % 2 ≡ 1 → ⊥) → after_request false p ≡ q
      → read_request v r ≡ record v { phase = q; read = r; steps = v.steps + 1 }
  even_phase v r p q e even to = λ i. record v {
    phase = ((λ j. after_request (ne_eqb (r % 2) 1 even j) (e j)) ∙ to) i;
    read = r;
    steps = v.steps + 1;
  }

  in_phase : (b : Bool) (p q : MainPhase) → b ≡ true → cond b p q ≡ p
  in_phase b p q e = ap (λ (z : Bool). cond z p q) e

  not_in_phase : (b : Bool) (p q : MainPhase) → b ≡ false → cond b p q ≡ q
  not_in_phase b p q e = ap (λ (z : Bool). cond z p q) e

  pub polled_all : (m : MainView B) (x : ℕ) → x ≡ m.made
      → counted_in m x ≡ record m { phase = Holding; read = m.made; steps = m.steps + 1 }
  polled_all m x e = λ i. record m {
    phase = in_phase (eqb x m.made) Holding Asked (eq-eqb x m.made e) i;
    read = e i;
    steps = m.steps + 1;
  }

  pub polled_wait : (m : MainView B) (x : ℕ) → m.phase ≡ Asked → (x ≡ m.made → ⊥)
      → counted_in m x ≡ record m { read = x; steps = m.steps + 1 }
  polled_wait m x p n = λ i. record m {
    phase = (not_in_phase (eqb x m.made) Holding Asked (ne_eqb x m.made n) ∙ sym p) i;
    read = x;
    steps = m.steps + 1;
  }

  pub cleared_all : (m : MainView B) (x : ℕ) → x ≡ 0 → cleared m x ≡ record m { phase = Idle; read = 0; steps = m.steps + 1 }
  cleared_all m x e = λ i. record m { phase = in_phase (eqb x 0) Idle Clearing (eq-eqb x 0 e) i; read = e i; steps = m.steps + 1 }

  pub cleared_wait : (m : MainView B) (x : ℕ) → m.phase ≡ Clearing → (x ≡ 0 → ⊥)
      → cleared m x ≡ record m { read = x; steps = m.steps + 1 }
  cleared_wait m x p n = λ i. record m {
    phase = (not_in_phase (eqb x 0) Idle Clearing (ne_eqb x 0 n) ∙ sym p) i;
    read = x;
    steps = m.steps + 1;
  }
