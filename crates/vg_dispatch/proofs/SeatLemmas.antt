-- For the clause of `looked`, and `worker` of `Worker::{turn, finish}`: a worker's look at its seat, and what it keeps.
use Rattle.std.proofs.Common.{◌≡◌, ℕ, ◌+◌, ◌*◌, ◌∷◌, sym, ap, subst, ◌∙◌}
use Rattle.std.specs.Prelude.{Bool, true, false, Option, Some, None}
use Rattle.vg_model.specs.Visit.{Visit}
use Rattle.vg_capture.specs.declared.captures.Capture.{Capture}
use Rattle.vg_plan.specs.Plan.{Planned}
use Rattle.vg_steps.specs.Trails.{found}
use Rattle.vg_steps.specs.Seats.{trail_of}
use Rattle.vg_barrier.specs.WordPlaces.{request_word, arrival_word, generation_word}
use Rattle.vg_barrier.specs.Machine.{mark_word}
use Rattle.vg_barrier.specs.declared.parcel.Parcel.{Ghosts}
use Rattle.vg_barrier.specs.declared.worker_seat.Running.{Running}
use Rattle.vg_barrier.specs.declared.worker_seat.ParkedSeat.{ParkedSeat}
use Rattle.vg_barrier.specs.declared.worker_seat.Check.{Check}
use Rattle.vg_barrier.specs.declared.worker_seat.Check.TheVariants as check
use Rattle.vg_barrier.specs.declared.views.WorkerView.{WorkerView}
use Rattle.vg_barrier.specs.declared.views.WorkerPhase.TheVariants as phase
use Rattle.vg_barrier.specs.Seats.{worker_view}
use Rattle.vg_barrier.specs.Answers.{Checks, Polls}
use Rattle.vg_dispatch.specs.declared.options.Options.{Options}
use Rattle.vg_dispatch.specs.declared.parcels.WorkerParcel.{WorkerParcel}
use Rattle.vg_dispatch.specs.declared.parcels.Stop.{Stop}
use Rattle.vg_dispatch.specs.Parcels.{Fits}
use Rattle.vg_dispatch.specs.Workers.{Windows, WorkerSeat, WorkerBook, running_seat, seat_of}
use Rattle.vg_dispatch.specs.Standing.{IsAtWork, IsSeatFor, HasParcel, KeepsParcel}
use Rattle.vg_dispatch.specs.Turned.{Looks, LooksBy}

module _ {G : Ghosts WorkerParcel Windows} (fits_is : (p : WorkerParcel) (book : Windows) → G.fits p book → Fits p book) (mark_is : (p : WorkerParcel) → G.mark p ≡ p.next) (generation_is : (p : WorkerParcel) → G.generation p ≡ p.fork.generation) where
  pub checks_look : (before : Running WorkerParcel Windows G) (after : Check WorkerParcel Windows G) → Checks before after → Looks (running_seat before) (seat_of after)
  checks_look before (check.Run running) h = record { same = h.seat.0; id = h.seat.1; by = record { parcel_is = h.parcel; trail = h.trail; view = h.view } }
  checks_look before (check.Parked parked) h =
      let v : WorkerView Windows = worker_view before.worker.seat in
      record {
        same = h.seat.0;
        id = h.seat.1;
        by = record {
          request = h.request;
          odd = h.odd;
          arrivals = h.arrivals;
          trail = h.trail ∙ ap (λ m. found arrival_word h.arrivals ∷ found (mark_word v.number) m ∷ found request_word h.request ∷ trail_of before.worker.seat) (mark_is before.parcel);
          view = h.view ∙ ap (λ m. record v { phase = phase.Parked; has = false; read = h.request; mark = m; steps = v.steps + 3 }) (mark_is before.parcel);
        };
      }

  pub polls_look : (before : ParkedSeat WorkerParcel Windows G) (after : Check WorkerParcel Windows G) → Polls before after → Looks (seat_of (check.Parked before)) (seat_of after)
  polls_look before (check.Run running) h =
      let v : WorkerView Windows = worker_view before.seat in
      record {
        same = h.seat.0;
        id = h.seat.1;
        by = record {
          stamp = h.stamp;
          arrivals = h.arrivals;
          trail = h.trail ∙ ap (λ n. found arrival_word h.arrivals ∷ found generation_word n ∷ found request_word (2 * h.stamp) ∷ trail_of before.seat) (generation_is running.parcel);
          view = h.view ∙ ap (λ n. record v { phase = phase.Running; has = true; read = 2 * h.stamp; stamp = h.stamp; generation = n; steps = v.steps + 3 }) (generation_is running.parcel);
          fits = fits_is running.parcel v.book h.fits;
          next = sym (mark_is running.parcel) ∙ h.mark;
        };
      }
  polls_look before (check.Parked parked) h =
      record { same = h.seat.0; id = h.seat.1; by = record { request = h.request; odd = h.odd; trail = h.trail; view = h.view } }

-- the worker that looked sits as it did
looked_by : (book : Windows) (number mark : ℕ) (before after : WorkerSeat) (p q : Option WorkerParcel) → KeepsParcel book mark before p → before.view.number ≡ number → before.view.book ≡ book → LooksBy before p after q
    → (after.view.number ≡ number) × (after.view.book ≡ book) × KeepsParcel book mark after q
looked_by book number mark before after (Some parcel) (Some same) keeps n b by =
    let has : HasParcel book mark before same = subst (HasParcel book mark before) (sym by.parcel_is) keeps in (
      ap (λ (v : WorkerView Windows). v.number) by.view ∙ n,
      ap (λ (v : WorkerView Windows). v.book) by.view ∙ b,
      record { fits = has.fits; generation = has.generation ∙ sym (ap (λ (v : WorkerView Windows). v.generation) by.view); next = has.next },
    )
looked_by book number mark before after (Some parcel) None keeps n b by = (
  ap (λ (v : WorkerView Windows). v.number) by.view ∙ n,
  ap (λ (v : WorkerView Windows). v.book) by.view ∙ b,
  ap (λ (v : WorkerView Windows). v.mark) by.view ∙ keeps.next,
)
looked_by book number mark before after None (Some parcel) keeps n b by = (
  ap (λ (v : WorkerView Windows). v.number) by.view ∙ n,
  ap (λ (v : WorkerView Windows). v.book) by.view ∙ b,
  record { fits = subst (Fits parcel) b by.fits; generation = sym (ap (λ (v : WorkerView Windows). v.generation) by.view); next = by.next ∙ keeps },
)
looked_by book number mark before after None None keeps n b by = (
  ap (λ (v : WorkerView Windows). v.number) by.view ∙ n,
  ap (λ (v : WorkerView Windows). v.book) by.view ∙ b,
  ap (λ (v : WorkerView Windows). v.mark) by.view ∙ keeps,
)

pub seated_after : (book : Windows) (number mark : ℕ) (before after : WorkerSeat) → IsSeatFor book number mark before → Looks before after → IsSeatFor book number mark after
seated_after book number mark before after is looks =
    let all = looked_by book number mark before after before.parcel after.parcel is.parcel is.number_is is.book_is looks.by in
    record { number_is = all.0; book_is = all.1; parcel = all.2 }

-- what doesn't speak of the seat stays
pub work_same : (visit : Visit) (lossless : Bool) (plan : Planned) (capture : Capture) (options : Options) (w : WorkerBook) (seat : Option WorkerSeat) (turns : ℕ) (stop : Stop) → IsAtWork visit lossless plan capture options w
    → IsAtWork visit lossless plan capture options (record w { seat = seat; turns = turns; stop = stop })
work_same visit lossless plan capture options w seat turns stop h = record {
  planned = h.planned;
  range = h.range;
  made = record { options_are = h.made.options_are; packets = h.made.packets; bytes = h.made.bytes; own = h.made.own; left = h.made.left };
  stands = h.stands;
  own_mark = h.own_mark;
  full = h.full;
  none_congested = h.none_congested;
  inputs = h.inputs;
  outputs = h.outputs;
}
