use Rattle.std.proofs.Common.{ℕ, ◌+◌, ◌*◌, ap, sym, ◌∙◌}
use Rattle.vg_queue_tests.specs.contracts.barrier.WindowParcel.TheImpl.{ghosts}
use Rattle.vg_barrier.specs.Seats.{worker_view}
use Rattle.vg_barrier.proofs.Crew.{last_may}
use Rattle.vg_queue_tests.proofs.barrier.threads_share_a_barrier_and_take_seats.Goals as goal

pub check-requires-clause-seat : goal.check-requires-clause-seat
check-requires-clause-seat g c =
    let first =
    last_may _ _ ghosts c.in_ok-parts.parts.barrier _ _ _ _ c.in-Some.worker
    (ap (λ v. v.items) (sym c.send-workers.ensures) ∙ c.in-Some.ensures.items) c.in_ok-parts.ensures.numbered in
    first.0

-- what the worker has drawn changes neither the limit nor the generation
pub check-requires-clause-parcel : goal.check-requires-clause-parcel
check-requires-clause-parcel g c =
    let first =
    last_may _ _ ghosts c.in_ok-parts.parts.barrier _ _ _ _ c.in-Some.worker
    (ap (λ v. v.items) (sym c.send-workers.ensures) ∙ c.in-Some.ensures.items) c.in_ok-parts.ensures.numbered in
    let before = first.1 in
    let same = c.parcel_mut.ensures.value in
    let drawn = c.draw_to.ensures in
    let generation = drawn.1 ∙ ap (λ w. w.generation) same in
    record {
      fits = drawn.2
          ∙
          (ap (λ w. w.limit) same
          ∙ (before.fits ∙ ap (λ (n : ℕ). (worker_view c.in-Some.worker.worker.seat).book + 2 * n) (sym generation)));
      generation = generation ∙ before.generation;
    }
