-- What the end of a barrier gives.
use Rattle.std.specs.Prelude.{◌≡◌, ℕ, slice_index, Option}
use mathlib.Core.Option.{some}
use lib.ListN.{get_elem?}
use Rattle.vg_steps.specs.Table.{State}
use Rattle.vg_steps.specs.Seats.{id_of}
use Rattle.vg_barrier.specs.declared.barrier.TheConstants.{REQUEST, ARRIVALS, GENERATION}
use Rattle.vg_barrier.specs.declared.parcel.Stamped.{Stamped}
use Rattle.vg_barrier.specs.declared.barrier.Barrier.{Barrier}
use Rattle.vg_barrier.specs.declared.ending.Words.{Words}
use Rattle.vg_barrier.specs.declared.views.View.{View}
use Rattle.vg_barrier.specs.declared.views.View.TheVariants.{Main}
use Rattle.vg_barrier.specs.Seats.{Place, main_view}
use Rattle.vg_barrier.specs.Barrier.{workers_of}
use Rattle.vg_barrier.specs.Machine.{Kept}

module _ {P B : Type 0} (fits_book : P → B → Type 0) (mark_of generation_of : P → ℕ) where
  -- the words are those of a state that keeps the rule, and in which main knows what it knows at this place
  pub record IsEnd (b : Barrier P B) (p : Place P B) (words : Words) : Type 0 where
    pub state : State (Option (Stamped P)) (View B)
    pub rule : Kept fits_book mark_of generation_of (workers_of b) state
    pub main : get_elem? state.views (id_of p) ≡ some (Main (main_view p))
    pub request : slice_index state.words REQUEST ≡ words.request
    pub arrivals : slice_index state.words ARRIVALS ≡ words.arrivals
    pub generation : slice_index state.words GENERATION ≡ words.generation
