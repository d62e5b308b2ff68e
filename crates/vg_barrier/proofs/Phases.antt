-- For the steps of main and of workers (MainMachine and WorkerMachine), and for `Barrier::{make_worker, end}`: lists of workers, and which phases of main
-- and of a worker go together.
use Rattle.std.proofs.Common.{◌≡◌, ◌≢◌, ℕ, zero, suc, ◌+◌, ◌*◌, ◌%◌, ◌≤◌, Bool, true, false, eqb, cond, List, [], ◌∷◌, ◌++◌, map, length, set, sym, refl, ap, ◌∙◌, arith}
use Rattle.std.proofs.lemmas.Bool.{eqb-true, eqb-false}
use mathlib.Core.Option.{some, some-injective, some-ne-none}
use lib.ListN.{get_elem?}
use Rattle.vg_barrier.specs.declared.views.MainPhase.{MainPhase}
use Rattle.vg_barrier.specs.declared.views.MainPhase.TheVariants.{Idle, Asked, Holding, Clearing}
use Rattle.vg_barrier.specs.declared.views.WorkerPhase.{WorkerPhase}
use Rattle.vg_barrier.specs.declared.views.WorkerPhase.TheVariants.{Running, Called, Parked, Leaving}
use Rattle.vg_barrier.specs.declared.views.MainView.{MainView}
use Rattle.vg_barrier.specs.declared.views.WorkerView.{WorkerView}
use Rattle.vg_barrier.specs.declared.views.View.TheVariants.{Main, Worker}
use Rattle.vg_barrier.specs.Machine.{arrived, asking, MayBe, HasIn, arrivals, has_at}
use Rattle.vg_barrier.specs.Steps.{after_request}

pub arrived_le : (p : WorkerPhase) → arrived p ≤ 1
arrived_le Running = omega arith
arrived_le Called = omega arith
arrived_le Parked = omega arith
arrived_le Leaving = omega arith

-- lists of workers

module _ {B : Type 0} where
  pub worker_in : (l : List (WorkerView B)) (k : ℕ) (v : WorkerView B) → get_elem? (map Worker l) k ≡ some (Worker v)
      → get_elem? l k ≡ some v
  worker_in [] k v e = absurd (some-ne-none (Worker v) (sym e))
  worker_in (x ∷ xs) zero v e =
      let p : Worker x ≡ Worker v = some-injective (Worker x) (Worker v) e in
      let q : x ≡ v = cc in
      ap (λ (u : WorkerView B). some u) q
  worker_in (x ∷ xs) (suc k) v e = worker_in xs k v e

  pub no_main_in : (l : List (WorkerView B)) (k : ℕ) (m : MainView B) → get_elem? (map Worker l) k ≡ some (Main m) → ⊥
  no_main_in [] k m e = some-ne-none (Main m) (sym e)
  no_main_in (x ∷ xs) zero m e = let p : Worker x ≡ Main m = some-injective (Worker x) (Main m) e in cc
  no_main_in (x ∷ xs) (suc k) m e = no_main_in xs k m e

  pub arrivals-set : (l : List (WorkerView B)) (k : ℕ) (v w : WorkerView B) → get_elem? l k ≡ some v
      → arrivals (set l k w) + arrived v.phase ≡ arrivals l + arrived w.phase
  arrivals-set [] k v w e = absurd (some-ne-none v (sym e))
  arrivals-set (x ∷ xs) zero v w e =
      let is : arrived x.phase ≡ arrived v.phase = ap (λ (u : WorkerView B). arrived u.phase) (some-injective x v e) in
      omega arith
  arrivals-set (x ∷ xs) (suc k) v w e = let r = arrivals-set xs k v w e in omega arith

  pub arrivals-snoc : (l : List (WorkerView B)) (v : WorkerView B) → arrivals (l ++ v ∷ []) ≡ arrivals l + arrived v.phase
  arrivals-snoc [] v = omega arith
  arrivals-snoc (x ∷ xs) v = let r = arrivals-snoc xs v in omega arith

  pub has_here : (l : List (WorkerView B)) (k : ℕ) (v : WorkerView B) → get_elem? l k ≡ some v → has_at l k ≡ v.has
  has_here [] k v e = absurd (some-ne-none v (sym e))
  has_here (x ∷ xs) zero v e = ap (λ (u : WorkerView B). u.has) (some-injective x v e)
  has_here (x ∷ xs) (suc k) v e = has_here xs k v e

  pub has-set_here : (l : List (WorkerView B)) (k : ℕ) (v w : WorkerView B) → get_elem? l k ≡ some v
      → has_at (set l k w) k ≡ w.has
  has-set_here [] k v w e = absurd (some-ne-none v (sym e))
  has-set_here (x ∷ xs) zero v w e = refl
  has-set_here (x ∷ xs) (suc k) v w e = has-set_here xs k v w e

  pub has-set_else : (l : List (WorkerView B)) (k j : ℕ) (w : WorkerView B) → j ≢ k → has_at (set l k w) j ≡ has_at l j
  has-set_else [] k j w ne = refl
  has-set_else (x ∷ xs) zero zero w ne = absurd (ne refl)
  has-set_else (x ∷ xs) zero (suc j) w ne = refl
  has-set_else (x ∷ xs) (suc k) zero w ne = refl
  has-set_else (x ∷ xs) (suc k) (suc j) w ne = has-set_else xs k j w (λ e. ne (ap suc e))

  pub has-snoc : (l : List (WorkerView B)) (w : WorkerView B) (j : ℕ) → w.has ≡ false → has_at (l ++ w ∷ []) j ≡ has_at l j
  has-snoc [] w zero none_yet = none_yet
  has-snoc [] w (suc j) none_yet = refl
  has-snoc (x ∷ xs) w zero none_yet = refl
  has-snoc (x ∷ xs) w (suc j) none_yet = has-snoc xs w j none_yet

  pub arrivals_le : (l : List (WorkerView B)) → arrivals l ≤ length l
  arrivals_le [] = omega arith
  arrivals_le (x ∷ xs) = let a = arrived_le x.phase in let r = arrivals_le xs in omega arith

  pub all_arrived : (l : List (WorkerView B)) (k : ℕ) (v : WorkerView B) → arrivals l ≡ length l → get_elem? l k ≡ some v
      → arrived v.phase ≡ 1
  all_arrived [] k v full e = absurd (some-ne-none v (sym e))
  all_arrived (x ∷ xs) zero v full e =
      let a = arrived_le x.phase in
      let r = arrivals_le xs in
      let is : arrived x.phase ≡ arrived v.phase = ap (λ (u : WorkerView B). arrived u.phase) (some-injective x v e) in
      omega arith
  all_arrived (x ∷ xs) (suc k) v full e =
      let a = arrived_le x.phase in
      let r = arrivals_le xs in
      all_arrived xs k v (omega arith) e

  pub none_arrived : (l : List (WorkerView B)) (k : ℕ) (v : WorkerView B) → arrivals l ≡ 0 → get_elem? l k ≡ some v
      → arrived v.phase ≡ 0
  none_arrived [] k v full e = absurd (some-ne-none v (sym e))
  none_arrived (x ∷ xs) zero v full e =
      let is : arrived x.phase ≡ arrived v.phase = ap (λ (u : WorkerView B). arrived u.phase) (some-injective x v e) in
      omega arith
  none_arrived (x ∷ xs) (suc k) v full e = none_arrived xs k v (omega arith) e

  pub all_run : (l : List (WorkerView B)) → ((k : ℕ) (v : WorkerView B) → get_elem? l k ≡ some v → v.phase ≡ Running)
      → arrivals l ≡ 0
  all_run [] run = refl
  all_run (x ∷ xs) run =
      let first : arrived x.phase ≡ 0 = ap arrived (run 0 x refl) in
      let others = all_run xs (λ k v e. run (suc k) v e) in
      omega arith

  -- each is parked, so none has its parcel
  pub none_has : (l : List (WorkerView B)) → ((k : ℕ) (v : WorkerView B) → get_elem? l k ≡ some v → v.has ≡ false) → (k : ℕ)
      → has_at l k ≡ false
  none_has [] h k = refl
  none_has (x ∷ xs) h zero = h 0 x refl
  none_has (x ∷ xs) h (suc k) = none_has xs (λ j v e. h (suc j) v e) k

-- phases

pub stays_counted : (odd : Bool) (p : WorkerPhase) → arrived (after_request odd p) ≡ arrived p
stays_counted true Running = refl
stays_counted false Running = refl
stays_counted odd Called = refl
stays_counted true Parked = refl
stays_counted false Parked = refl
stays_counted odd Leaving = refl

pub odd_asks : (r stamp : ℕ) (p : MainPhase) (odd : Bool) → eqb (r % 2) 1 ≡ odd → r ≡ 2 * stamp + asking p
    → cond odd (asking p ≡ 1) (asking p ≡ 0)
odd_asks r stamp Idle true e is = let o = eqb-true (r % 2) 1 e in absurd (omega arith)
odd_asks r stamp Idle false e is = refl
odd_asks r stamp Asked true e is = refl
odd_asks r stamp Asked false e is = absurd (eqb-false (r % 2) 1 e (omega arith))
odd_asks r stamp Holding true e is = refl
odd_asks r stamp Holding false e is = absurd (eqb-false (r % 2) 1 e (omega arith))
odd_asks r stamp Clearing true e is = let o = eqb-true (r % 2) 1 e in absurd (omega arith)
odd_asks r stamp Clearing false e is = refl

pub reading_may_be : (p : MainPhase) (q : WorkerPhase) (odd : Bool) → cond odd (asking p ≡ 1) (asking p ≡ 0) → MayBe p q
    → MayBe p (after_request odd q)
reading_may_be Idle q true o h = absurd (omega arith)
reading_may_be Idle q false o h = ap (after_request false) h
reading_may_be Asked Running true o h = λ e. cc
reading_may_be Asked Called true o h = λ e. cc
reading_may_be Asked Parked true o h = λ e. cc
reading_may_be Asked Leaving true o h = h
reading_may_be Asked q false o h = absurd (omega arith)
reading_may_be Holding q true o h = ap (after_request true) h
reading_may_be Holding q false o h = absurd (omega arith)
reading_may_be Clearing q true o h = absurd (omega arith)
reading_may_be Clearing Running false o h = λ e. cc
reading_may_be Clearing Called false o h = h
reading_may_be Clearing Parked false o h = λ e. cc
reading_may_be Clearing Leaving false o h = λ e. cc

-- a called worker parks only while main asks, and one that leaves runs only while main is clearing
pub called_may_park : (p : MainPhase) (q : WorkerPhase) → q ≡ Called → MayBe p q → MayBe p Parked
called_may_park Idle q is h = let e : Called ≡ Running = sym is ∙ h in cc
called_may_park Asked q is h = λ e. cc
called_may_park Holding q is h = refl
called_may_park Clearing q is h = absurd (h is)

pub leaving_may_run : (p : MainPhase) (q : WorkerPhase) → q ≡ Leaving → MayBe p q → MayBe p Running
leaving_may_run Idle q is h = refl
leaving_may_run Asked q is h = absurd (h is)
leaving_may_run Holding q is h = let e : Leaving ≡ Parked = sym is ∙ h in cc
leaving_may_run Clearing q is h = λ e. cc

pub parked_if : (q : WorkerPhase) → arrived q ≡ 1 → q ≢ Leaving → q ≡ Parked
parked_if Running a h = absurd (omega arith)
parked_if Called a h = absurd (omega arith)
parked_if Parked a h = refl
parked_if Leaving a h = absurd (h refl)

pub running_if : (q : WorkerPhase) → arrived q ≡ 0 → q ≢ Called → q ≡ Running
running_if Running a h = refl
running_if Called a h = absurd (h refl)
running_if Parked a h = absurd (omega arith)
running_if Leaving a h = absurd (omega arith)

pub read_has : (odd : Bool) (p : WorkerPhase) (b : Bool) → HasIn p b → HasIn (after_request odd p) b
read_has true Running b h = h
read_has false Running b h = h
read_has odd Called b h = h
read_has true Parked b h = h
read_has false Parked b h = tt
read_has odd Leaving b h = h
