-- For seats_of and workers_of: the seats, the parcels and the links of workers at the start of a run.
use Rattle.std.proofs.Common.{◌≡◌, ℕ, zero, suc, ◌+◌, ◌<◌, List, [], ◌∷◌, length, map, refl, sym, ap, subst, ◌∙◌, arith}
use Rattle.std.specs.Prelude.{slice_get, slice_index, Some}
use mathlib.Core.Option.{some, some-injective, some-ne-none}
use lib.ListN.{get_elem?}
use Rattle.std.proofs.lemmas.Option.{none-some, same_Some}
use Rattle.std.proofs.lemmas.List.{length-map}
use Rattle.vg_steps.specs.Seated.{TableId}
use Rattle.vg_steps.specs.Tables.{place}
use Rattle.vg_model.specs.Graph.{Graph}
use Rattle.vg_ring.specs.Ends.{rx_ring}
use Rattle.vg_barrier.specs.declared.barrier.Barrier.{Barrier}
use Rattle.vg_barrier.specs.declared.worker_seat.Running.{Running}
use Rattle.vg_barrier.specs.declared.views.WorkerView.{WorkerView}
use Rattle.vg_barrier.specs.Making.{Numbered}
use Rattle.vg_barrier.specs.Parcels.{AreFirst}
use Rattle.vg_journeys.specs.Accounts.{HandoffFrame}
use Rattle.vg_dispatch.specs.declared.parcels.WorkerParcel.{WorkerParcel}
use Rattle.vg_dispatch.specs.contracts.parcels.WorkerParcelParcel.TheImpl.{ghosts}
use Rattle.vg_dispatch.specs.declared.links.WorkerLinks.{WorkerLinks}
use Rattle.vg_dispatch.specs.Parcels.{Fits}
use Rattle.vg_dispatch.specs.Workers.{Windows}
use Rattle.vg_workers.specs.Places.{AllAt, others_from}
use Rattle.vg_workers.specs.Linked.{IsLinked}
use Rattle.vg_threads.specs.Renewals.{parcel_generation}
use Rattle.vg_engine.specs.Seats.{first_parcel, IsFirstSeat}
use Rattle.vg_workers.proofs.PlaceLemmas.{first_get, first_from, get_within, others_length}

-- what stands at a place, said in two ways
elem_get : {X : Type 0} (xs : List X) (k : ℕ) (x : X) → get_elem? xs k ≡ some x → slice_get xs k ≡ Some x
elem_get [] k x e = absurd (some-ne-none x (sym e))
elem_get (y ∷ ys) zero x e = ap Some (some-injective y x e)
elem_get (y ∷ ys) (suc k) x e = elem_get ys k x e

get_elem : {X : Type 0} (xs : List X) (k : ℕ) (x : X) → slice_get xs k ≡ Some x → get_elem? xs k ≡ some x
get_elem [] k x e = absurd (none-some x e)
get_elem (y ∷ ys) zero x e = ap some (same_Some y x e)
get_elem (y ∷ ys) (suc k) x e = get_elem ys k x e

-- the first parcels fit the book
first_fits : (book : Windows) (graph : Graph) (limit number : ℕ) → slice_get book 0 ≡ Some (graph, limit) → Fits (first_parcel graph limit number) book
first_fits book graph limit number window = record { window = window; drawn = λ earlier before e at. absurd (omega (arith, e)); stop = tt }

pub are_first : (book : Windows) (graph : Graph) (limit : ℕ) (ps : List WorkerParcel) → slice_get book 0 ≡ Some (graph, limit) → AllAt (λ number p. p ≡ first_parcel graph limit number) 0 ps
    → AreFirst Fits parcel_generation book ps
are_first book graph limit ps window all k p e =
    let is = first_get (λ number p. p ≡ first_parcel graph limit number) ps k p all (elem_get ps k p e) in
    subst (λ (q : WorkerParcel). Fits q book × (q.fork.generation ≡ 0)) (sym is) (first_fits book graph limit k window, refl)

marks_are : (graph : Graph) (limit : ℕ) (ps : List WorkerParcel) (n : ℕ) → AllAt (λ number p. p ≡ first_parcel graph limit number) n ps → (k : ℕ) → k < length ps
    → slice_index (map (λ (p : WorkerParcel). p.next) ps) k ≡ n + k
marks_are graph limit [] n all k h = absurd (omega (arith, h))
marks_are graph limit (p ∷ ps) n all zero h = ap (λ (q : WorkerParcel). q.next) all.0 ∙ (let z : n ≡ n + 0 = omega arith in z)
marks_are graph limit (p ∷ ps) n all (suc k) h = marks_are graph limit ps (suc n) all.1 k (omega (arith, h)) ∙ (let z : suc n + k ≡ n + suc k = omega arith in z)

-- the seats of a barrier that was made for them
pub first_seats : (b : Barrier WorkerParcel Windows) (book : Windows) (graph : Graph) (limit : ℕ) (ps : List WorkerParcel) (workers : List (Running WorkerParcel Windows ghosts))
    → AllAt (λ number p. p ≡ first_parcel graph limit number) 0 ps → length workers ≡ length ps → Numbered b book (map (λ (p : WorkerParcel). p.next) ps) workers
    → AllAt (IsFirstSeat book (place b.table)) 0 workers
first_seats b book graph limit ps workers all count numbered =
    first_from (IsFirstSeat book (place b.table)) workers (λ k w e.
    let low = get_within workers k w e in
    let is = numbered k w (get_elem workers k w e) in
    let mark = marks_are graph limit ps 0 all k (omega (arith, low, count)) in
    let book_is : _ ≡ book = ap (λ (v : WorkerView Windows). v.book) is.view in
    record {
      at = is.seat;
      gives = record { fits = subst (λ (x : Windows). Fits w.parcel x) (sym book_is) is.fits; generation = is.generation ∙ sym (ap (λ (v : WorkerView Windows). v.generation) is.view) };
      number_is = ap (λ (v : WorkerView Windows). v.number) is.view;
      next = is.mark ∙ mark ∙ (let z : 0 + k ≡ k = omega arith in z);
      book_is = book_is;
    })

-- a worker that is linked to all others has an end for each
pub inputs_count : {H : Type 0} (accepted : H → List HandoffFrame) (ring_of : H → TableId) (slots_of : H → ℕ) (slots : ℕ) (ring : ℕ → ℕ → TableId) (own workers : ℕ) (l : WorkerLinks H)
    → own < workers → IsLinked accepted ring_of slots_of slots ring own workers workers l → length l.inputs.items + 1 ≡ workers
inputs_count accepted ring_of slots_of slots ring own workers l h is =
    let all = others_length own 0 workers (omega arith) (omega (arith, h)) in
    let one = length-map l.inputs.items rx_ring in
    let two = ap length is.inputs_are in
    let three = length-map (others_from own 0 workers) (λ from. ring from own) in
    omega (arith, all, one, two, three)

pub outputs_count : {H : Type 0} (accepted : H → List HandoffFrame) (ring_of : H → TableId) (slots_of : H → ℕ) (slots : ℕ) (ring : ℕ → ℕ → TableId) (own workers : ℕ) (l : WorkerLinks H)
    → own < workers → IsLinked accepted ring_of slots_of slots ring own workers workers l → length l.outputs.items + 1 ≡ workers
outputs_count accepted ring_of slots_of slots ring own workers l h is =
    let all = others_length own 0 workers (omega arith) (omega (arith, h)) in
    let one = length-map l.outputs.items ring_of in
    let two = ap length is.outputs_are in
    let three = length-map (others_from own 0 workers) (ring own) in
    omega (arith, all, one, two, three)
