-- What contracts say of a seat.
use Rattle.std.specs.Prelude.{◌≡◌, ℕ, ◌+◌, ◌<◌, ◌≤◌, ◌⊎◌, Bool, true, false, List, [], ◌∷◌, Option, None, length, slice_index}
use Rattle.vg_steps.specs.Seats.{table_of, me_of}
use Rattle.std.proofs.Common.{zero, suc}
use mathlib.Core.Option.{some}
use lib.ListN.{get_elem?}
use Rattle.vg_steps.specs.declared.seats.Seat.{Seat}
use Rattle.vg_barrier.specs.declared.parcel.Stamped.{Stamped}
use Rattle.vg_barrier.specs.declared.views.MainPhase.{MainPhase}
use Rattle.vg_barrier.specs.declared.views.MainPhase.TheVariants.{Idle}
use Rattle.vg_barrier.specs.declared.views.WorkerPhase.{WorkerPhase}
use Rattle.vg_barrier.specs.declared.views.WorkerPhase.TheVariants.{Running, Called, Parked, Leaving}
use Rattle.vg_barrier.specs.declared.views.MainView.{MainView}
use Rattle.vg_barrier.specs.declared.views.WorkerView.{WorkerView}
use Rattle.vg_barrier.specs.declared.views.View.{View}
use Rattle.vg_barrier.specs.declared.views.View.TheVariants.{Main, Worker}

-- a place in a barrier
abbrev pub Place : Type 0 → Type 0 → Type 0
Place P B = Seat (Option (Stamped P)) (View B)

-- whether a worker has its parcel, between its calls
abbrev pub has_parcel : WorkerPhase → Bool
has_parcel Running = true
has_parcel Called = true
has_parcel Parked = false
has_parcel Leaving = false

module _ {B : Type 0} where
  -- what main knows. A worker's place has no view of main's: a stand-in is there, which no contract meets
  abbrev pub main_of : View B → MainView B
  main_of (Main m) = m
  main_of (Worker v) = record { book = v.book; phase = Idle; stamp = 0; made = 0; read = 0; steps = 0; released = 0; marks = []; with = 0; returning = false; back = 0 }

  -- what a worker knows, likewise
  abbrev pub worker_of : View B → WorkerView B
  worker_of (Main m) = record { book = m.book; number = 0; phase = Running; read = 0; steps = 0; has = false; stamp = 0; mark = 0; generation = 0 }
  worker_of (Worker v) = v

module _ {P : Type 0} where
  -- the generation of the first parcel, where there is one
  abbrev pub first_of : (P → ℕ) → List P → ℕ
  first_of f [] = 0
  first_of f (p ∷ ps) = f p

  -- the slots below n, which are empty: the last one comes first
  abbrev pub empties : ℕ → List (ℕ × Option (Stamped P))
  empties zero = []
  empties (suc n) = (n, None) ∷ empties n

module _ {P B : Type 0} where
  -- what main knows, at its place
  abbrev pub main_view : Place P B → MainView B
  main_view s = main_of (me_of s).0

  -- what a worker knows, at its place
  abbrev pub worker_view : Place P B → WorkerView B
  worker_view s = worker_of (me_of s).0

  -- this is main's place, in this phase, with the slots of the n parcels that it has
  abbrev pub IsMain : Place P B → MainPhase → ℕ → Bool → Type 0
  IsMain s phase n returning = let m : MainView B = main_view s in (me_of s ≡ (Main m, empties n)) × (m.phase ≡ phase) × (m.with ≡ n) × (m.returning ≡ returning) × (length m.marks ≡ m.made)

  -- main's own numbers at this place: its releases, and the workers, of which there are 1 to 8, each with a slot
  pub record Numbers (s : Place P B) (releases workers : ℕ) : Type 0 where
    pub stamp : releases ≡ (main_view s).stamp
    pub made : workers ≡ (main_view s).made
    pub slots : workers ≡ (table_of s).slots
    pub few : workers ≤ 8
    pub some_made : 0 < workers

  -- this is a worker's place, in this phase, with these slots
  abbrev pub IsWorker : Place P B → WorkerPhase → List (ℕ × Option (Stamped P)) → Type 0
  IsWorker s phase cs = let v : WorkerView B = worker_view s in (me_of s ≡ (Worker v, cs)) × (v.phase ≡ phase) × (v.has ≡ has_parcel phase)

  -- a worker's own number at this place, which is its slot's
  abbrev pub HasNumber : Place P B → ℕ → Type 0
  HasNumber s number = (number ≡ (worker_view s).number) × (number < (table_of s).slots) × (number < 8)

  -- parcel k fits the book of main's view, has the mark that main knows, and this generation
  pub record IsWhole (fits_book : P → B → Type 0) (mark_of generation_of : P → ℕ) (m : MainView B) (g k : ℕ) (p : P) : Type 0 where
    pub fits : fits_book p m.book
    pub mark : mark_of p ≡ slice_index m.marks k
    pub generation : generation_of p ≡ g

  -- all parcels are so
  abbrev pub Whole : (P → B → Type 0) → (P → ℕ) → (P → ℕ) → MainView B → ℕ → List P → Type 0
  Whole fits mark generation m g parcels = (k : ℕ) (p : P) → get_elem? parcels k ≡ some p → IsWhole fits mark generation m g k p

  -- main may give the parcels back: they are whole, of one generation, which is that of the last release or the next
  pub record MayReturn (fits_book : P → B → Type 0) (mark_of generation_of : P → ℕ) (m : MainView B) (parcels : List P) : Type 0 where
    pub whole : Whole fits_book mark_of generation_of m (first_of generation_of parcels) parcels
    pub next : (first_of generation_of parcels ≡ m.released) ⊎ (first_of generation_of parcels ≡ m.released + 1)
