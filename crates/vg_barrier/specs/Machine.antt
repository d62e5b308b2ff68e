-- The rule of a barrier, which holds between any two atomic steps, whoever makes them.
--
-- There are two words by which main and the workers meet. The request word says whether main asks the workers to park, as
-- VPP's `wait_at_barrier` does, and here it counts the releases too: it is twice their number, and one more from main's
-- asking to its release. The arrival count says how many workers have parked and not left, as VPP's `workers_at_barrier`
-- does.
--
-- Main goes round Idle, Asked, Holding, Clearing. A worker goes round Running, Called, Parked, Leaving:
--
--   Idle       main doesn't ask             all workers are Running
--   Asked      main asks                    none is Leaving: each is Running, Called or Parked
--   Holding    main asks, and has found     all are Parked, so nothing of theirs changes under main's hands
--              all workers arrived
--   Clearing   main has released            none is Called: each is Parked, Leaving or Running
--
-- A worker between its reading of an odd request word and its addition to the count is Called; between its reading of
-- the even word and its subtraction it is Leaving. So the count is the number of Parked and Leaving workers. It is right
-- that main holds at the number of workers, since in Asked none is Leaving, and that it is idle at 0, since in Clearing
-- none is Called.
--
-- Each worker has a parcel, and the table a slot for each parcel. A parcel is at one place at a time:
--
--   with its worker   in Running and Called, and in Leaving once the worker has taken it
--   with main         in Holding, from main's taking of it to its return
--   in its slot       else, with a stamp: the number of releases made when a worker takes it next, or has given it
--
-- Main takes the parcels by rising number, and gives them back by falling number. So one number says which it has: those
-- below `with`. Whether the others were given back already, or not taken yet, is `returning`.
--
-- A third word is the generation of the parcels that main gave back last. One word more for each worker is its parcel's
-- mark, which the worker stores before it gives the parcel, so that main knows it, and gives the parcel back with it.
use Rattle.std.specs.Prelude.{◌≡◌, ◌≢◌, ℕ, ◌+◌, ◌-◌, ◌*◌, ◌<◌, ◌≤◌, ◌⊎◌, Bool, true, false, List, [], ◌∷◌, map, length, slice_index, Option, Some}
use Rattle.std.proofs.Common.{zero, suc}
use mathlib.Core.Option.{some}
use lib.ListN.{get_elem?}
use Rattle.vg_steps.specs.Table.{State}
use Rattle.vg_barrier.specs.declared.barrier.TheConstants.{APART, REQUEST, ARRIVALS, GENERATION, MARKS}
use Rattle.vg_barrier.specs.declared.parcel.Stamped.{Stamped}
use Rattle.vg_barrier.specs.declared.views.MainPhase.{MainPhase}
use Rattle.vg_barrier.specs.declared.views.MainPhase.TheVariants.{Idle, Asked, Holding, Clearing}
use Rattle.vg_barrier.specs.declared.views.WorkerPhase.{WorkerPhase}
use Rattle.vg_barrier.specs.declared.views.WorkerPhase.TheVariants.{Running, Called, Parked, Leaving}
use Rattle.vg_barrier.specs.declared.views.MainView.{MainView}
use Rattle.vg_barrier.specs.declared.views.WorkerView.{WorkerView}
use Rattle.vg_barrier.specs.declared.views.View.{View}
use Rattle.vg_barrier.specs.declared.views.View.TheVariants.{Main, Worker}

-- where the mark of worker k's parcel stands. Behind the last worker's the words end
abbrev pub mark_word : ℕ → ℕ
mark_word k = k * APART + MARKS

-- 1 where a worker counts as arrived
abbrev pub arrived : WorkerPhase → ℕ
arrived Running = 0
arrived Called = 0
arrived Parked = 1
arrived Leaving = 1

-- 1 where main asks
abbrev pub asking : MainPhase → ℕ
asking Idle = 0
asking Asked = 1
asking Holding = 1
asking Clearing = 0

-- a worker may be in this phase while main is in that one
abbrev pub MayBe : MainPhase → WorkerPhase → Type 0
MayBe Idle p = p ≡ Running
MayBe Asked p = p ≢ Leaving
MayBe Holding p = p ≡ Parked
MayBe Clearing p = p ≢ Called

-- whether a worker has its parcel: where it leaves, either may be
abbrev pub HasIn : WorkerPhase → Bool → Type 0
HasIn Running b = b ≡ true
HasIn Called b = b ≡ true
HasIn Parked b = b ≡ false
HasIn Leaving b = Unit {0}

abbrev pub one_if : Bool → ℕ
one_if true = 1
one_if false = 0

module _ {B : Type 0} where
  -- how many workers count as arrived
  abbrev pub arrivals : List (WorkerView B) → ℕ
  arrivals [] = 0
  arrivals (v ∷ vs) = arrived v.phase + arrivals vs

  -- whether worker k has its parcel. One that isn't made has none
  abbrev pub has_at : List (WorkerView B) → ℕ → Bool
  has_at [] k = false
  has_at (v ∷ vs) zero = v.has
  has_at (v ∷ vs) (suc k) = has_at vs k

  -- what holds of worker k, which knows v, where the request word is r, the published generation e, and its mark word m
  pub record WorkerKept (main : MainView B) (r e m k : ℕ) (v : WorkerView B) : Type 0 where
    pub number : v.number ≡ k
    pub may_be : MayBe main.phase v.phase
    -- a worker that leaves has read the request word as it is
    pub leaves_by : v.phase ≡ Leaving → v.read ≡ r
    -- before its first step it is Parked, and main hasn't asked yet
    pub fresh : v.steps ≡ 0 → (v.phase ≡ Parked) × (r ≡ 0)
    pub book : v.book ≡ main.book
    pub mark : v.mark ≡ m
    pub has : HasIn v.phase v.has
    -- a parcel that is with its worker has the newest stamp and the published generation
    pub newest : v.has ≡ true → (v.stamp ≡ main.stamp) × (v.generation ≡ e)

  -- the stamp of a parcel in a slot: one that main has given back has the next stamp already
  abbrev pub stamp_due : MainView B → ℕ
  stamp_due m = m.stamp + one_if m.returning

module _ {P B : Type 0} (fits_book : P → B → Type 0) (mark_of generation_of : P → ℕ) where
  -- what holds of the parcel x in a slot, where the published generation is e, and its worker's mark word m
  pub record ParcelKept (main : MainView B) (e m : ℕ) (x : Stamped P) : Type 0 where
    pub fits : fits_book x.parcel main.book
    pub mark : mark_of x.parcel ≡ m
    pub stamp : x.stamp ≡ stamp_due main
    pub generation : generation_of x.parcel ≡ e

  -- What holds of the words, the slots and the views. The views are main's, and then those of the workers made, by number
  pub record Kept (workers : ℕ) (s : State (Option (Stamped P)) (View B)) : Type 0 where
    pub main : MainView B
    pub made : List (WorkerView B)
    pub views : s.views ≡ Main main ∷ map Worker made
    pub words : length s.words ≡ mark_word workers
    pub homes : length s.homes ≡ workers
    pub few : workers ≤ 8
    pub counted : main.made ≡ length made
    pub within : length made ≤ workers
    -- all workers are made before main first asks
    pub unmade : length made < workers → (main.phase ≡ Clearing) × (main.stamp ≡ 0)
    -- the request word is odd exactly in Asked and Holding, and main's stamp is half of it
    pub request : slice_index s.words REQUEST ≡ 2 * main.stamp + asking main.phase
    -- the arrival count is the number of Parked and Leaving workers, where one that isn't made yet counts as Parked
    pub arrival : slice_index s.words ARRIVALS ≡ arrivals made + (workers - length made)
    pub each : (k : ℕ) (v : WorkerView B) → get_elem? made k ≡ some v → WorkerKept main (slice_index s.words REQUEST) (slice_index s.words GENERATION) (slice_index s.words (mark_word k)) k v
    -- main has parcels in Holding alone
    pub empty_handed : main.phase ≢ Holding → (main.with ≡ 0) × (main.returning ≡ false)
    pub with_few : main.with ≤ workers
    pub marked : length main.marks ≡ workers
    -- a parcel that is with neither its worker nor main is in its slot
    pub slot : (k : ℕ) → k < workers → has_at made k ≡ false → main.with ≤ k
        → (x : Stamped P) × (get_elem? s.homes k ≡ some (some (Some x))) × ParcelKept main (slice_index s.words GENERATION) (slice_index s.words (mark_word k)) x
    -- main knows the mark of each worker that isn't made, and of each parcel that it has taken
    pub unmade_mark : (k : ℕ) → length made ≤ k → k < workers → slice_index main.marks k ≡ slice_index s.words (mark_word k)
    pub taken_mark : (k : ℕ) → k < workers → (k < main.with) ⊎ (main.returning ≡ true) → slice_index main.marks k ≡ slice_index s.words (mark_word k)
    -- The published generation is that of the last release, which is 0 before the first. Once main has given a parcel back
    -- it is the one given back, which is that of the last release or the next
    pub opens_at : main.stamp ≡ 0 → main.released ≡ 0
    pub published : main.returning ≡ false → slice_index s.words GENERATION ≡ main.released
    pub publishing : main.returning ≡ true → (slice_index s.words GENERATION ≡ main.back) × ((main.back ≡ main.released) ⊎ (main.back ≡ main.released + 1))

-- what main knows as the table is made: no worker is made, and all count as Parked
abbrev pub opening_view : {B : Type 0} → B → List ℕ → View B
opening_view b marks = Main (record { book = b; phase = Clearing; stamp = 0; made = 0; read = 0; steps = 0; released = 0; marks = marks; with = 0; returning = false; back = 0 })
