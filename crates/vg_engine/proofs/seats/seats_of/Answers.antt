use Rattle.std.proofs.Common.{◌≡◌, arith, ap, sym, subst, ◌∙◌}
use Rattle.std.specs.Prelude.{slice_get, Some}
use Rattle.vg_steps.specs.Tables.{place}
use Rattle.vg_plan.proofs.GenerationLemmas.{length_graphs}
use Rattle.vg_dispatch.specs.Workers.{Windows}
use Rattle.vg_workers.specs.Places.{AllAt}
use Rattle.vg_engine.specs.Seats.{IsFirstSeat}
use Rattle.vg_threads.proofs.TurnLemmas.{book_length, window_is}
use Rattle.vg_engine.proofs.SeatLemmas.{are_first, first_seats}
use Rattle.vg_engine.proofs.seats.seats_of.Goals as goal

pub limit-requires : goal.limit-requires
limit-requires c =
    let plan = c.args.input.now.plan.now in
    let len = book_length plan c.args.input.now.capture.now c.in_ok-book.book c.in_ok-book.ensures in
    let count = length_graphs plan c.script-script.ensures.plan in
    omega (arith, len, count)

pub new-requires-3-clause-first : goal.new-requires-3-clause-first
new-requires-3-clause-first c =
    let plan = c.args.input.now.plan.now in
    let window = window_is plan c.args.input.now.capture.now c.in_ok-book.book 0 c.limit.result c.in_ok-master.master c.in_ok-book.ensures c.in_ok-master.ensures c.limit.ensures in
    let same : slice_get c.in_ok-book-2.field-0 0 ≡ Some (c.in_ok-master.master, c.limit.result) = ap (λ (b : Windows). slice_get b 0) (c.in_ok-book-2.ensures ∙ sym c.in_ok-book.ensures) ∙ window in
    are_first _ c.in_ok-master.master c.limit.result _ same c.in_ok-parcels.ensures.each

pub returns-clause-seats : goal.returns-clause-seats
returns-clause-seats c =
    let made = c.in_ok-parts.ensures in
    let barrier = c.in_ok-parts.parts.barrier in
    let workers = c.in_ok-parts.parts.workers.items in
    subst (λ (book : Windows). AllAt (IsFirstSeat book (place barrier.table)) 0 workers) c.in_ok-book-2.ensures
    (first_seats barrier c.in_ok-book-2.field-0 c.in_ok-master.master c.limit.result c.in_ok-parcels.parcels.items workers c.in_ok-parcels.ensures.each made.count made.numbered)
