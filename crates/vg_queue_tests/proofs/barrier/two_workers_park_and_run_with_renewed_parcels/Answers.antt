use Rattle.std.proofs.Common.{ℕ, ◌≡◌, ◌+◌, ◌*◌, [], ◌∷◌, ◌++◌, length, ap, sym, ◌∙◌}
use Rattle.vg_barrier.specs.declared.views.MainView.{MainView}
use Rattle.vg_barrier.specs.declared.views.WorkerView.{WorkerView}
use Rattle.vg_queue_tests.specs.contracts.barrier.WindowParcel.TheImpl.{ghosts}
use Rattle.vg_barrier.specs.Seats.{main_view}
use Rattle.vg_barrier.proofs.Crew.{last_two_may, renewed}
use Rattle.vg_queue_tests.proofs.barrier.two_workers_park_and_run_with_renewed_parcels.Goals as goal

-- the two workers are of the barrier as it is made, and stay so

pub check-requires-clause-seat : goal.check-requires-clause-seat
check-requires-clause-seat g c =
    let both =
    last_two_may _ _ ghosts c.in_ok-parts.parts.barrier _ _ _ _ _ c.in-Some.second c.in-Some-pop.first
    c.in-Some.ensures.items c.in-Some-pop.ensures.items c.in_ok-parts.ensures.numbered in
    both.0.0

pub check-requires-clause-parcel : goal.check-requires-clause-parcel
check-requires-clause-parcel g c =
    let both =
    last_two_may _ _ ghosts c.in_ok-parts.parts.barrier _ _ _ _ _ c.in-Some.second c.in-Some-pop.first
    c.in-Some.ensures.items c.in-Some-pop.ensures.items c.in_ok-parts.ensures.numbered in
    both.0.1

pub poll-requires-2 : goal.poll-requires-2
poll-requires-2 g c =
    let both =
    last_two_may _ _ ghosts c.in_ok-parts.parts.barrier _ _ _ _ _ c.in-Some.second c.in-Some-pop.first
    c.in-Some.ensures.items c.in-Some-pop.ensures.items c.in_ok-parts.ensures.numbered in
    c.in-Parked.ensures.seat.0 ∙ both.0.0

pub check-requires-2-clause-seat : goal.check-requires-2-clause-seat
check-requires-2-clause-seat g c =
    let both =
    last_two_may _ _ ghosts c.in_ok-parts.parts.barrier _ _ _ _ _ c.in-Some.second c.in-Some-pop.first
    c.in-Some.ensures.items c.in-Some-pop.ensures.items c.in_ok-parts.ensures.numbered in
    both.1.0

pub check-requires-2-clause-parcel : goal.check-requires-2-clause-parcel
check-requires-2-clause-parcel g c =
    let both =
    last_two_may _ _ ghosts c.in_ok-parts.parts.barrier _ _ _ _ _ c.in-Some.second c.in-Some-pop.first
    c.in-Some.ensures.items c.in-Some-pop.ensures.items c.in_ok-parts.ensures.numbered in
    both.1.1

-- main has renewed both parcels
pub release-clearing-requires-clause-parcels : goal.release-clearing-requires-clause-parcels
release-clearing-requires-clause-parcels g c =
    let told = c.in-All.ensures in
    let wait = c.in-Wait.ensures in
    let ask = c.ask-asked.ensures.step in
    let made = c.in_ok-parts.ensures.main in
    let parcels = c.in_ok-push-2.ensures.items
    ∙ ap (λ l. l ++ c.first-2.result ∷ [])
    (c.in_ok-push.ensures.items ∙ ap (λ l. l ++ c.first.result ∷ []) c.new-windows.ensures.items) in
    let two : length c.in-All.held.parcels.items ≡ 2 = told.all
    ∙
    (ap (λ (z : MainView ℕ). z.made) wait.view
    ∙ (ap (λ (z : MainView ℕ). z.made) ask ∙ (ap (λ (z : MainView ℕ). z.made) made ∙ ap length parcels))) in
    let book = ap (λ (z : MainView ℕ). z.book) told.view
    ∙
    (ap (λ (z : MainView ℕ). z.book) wait.view
    ∙ (ap (λ (z : MainView ℕ). z.book) ask ∙ ap (λ (z : MainView ℕ). z.book) made)) in
    let none = ap (λ (z : MainView ℕ). z.released) told.view
    ∙
    (ap (λ (z : MainView ℕ). z.released) wait.view
    ∙ (ap (λ (z : MainView ℕ). z.released) ask ∙ ap (λ (z : MainView ℕ). z.released) made)) in
    let first = c.renew.ensures in let second = c.renew-2.ensures in
    renewed _ _ ghosts (main_view c.in-All.held.main.seat)
    (main_view c.in-Wait.asked.seat).released c.in-All.held.parcels.items c.parcel_mut.result.now c.parcel_mut-2.result.now
    c.renew.new.window c.renew-2.new.window two told.whole c.parcel_mut.ensures.value c.parcel_mut-2.ensures.value first.0 second.0
    (first.2 ∙ (λ i. sym book i + 2 * sym first.1 i)) (second.2 ∙ (λ i. sym book i + 2 * sym second.1 i))
    (first.1 ∙ ap (λ (z : ℕ). z + 1) (sym none)) (second.1 ∙ ap (λ (z : ℕ). z + 1) (sym none))

pub poll-requires-4 : goal.poll-requires-4
poll-requires-4 g c =
    let both =
    last_two_may _ _ ghosts c.in_ok-parts.parts.barrier _ _ _ _ _ c.in-Some.second c.in-Some-pop.first
    c.in-Some.ensures.items c.in-Some-pop.ensures.items c.in_ok-parts.ensures.numbered in
    c.in-Parked-poll.ensures.seat.0 ∙ (c.in-Parked.ensures.seat.0 ∙ both.0.0)

pub poll-requires-6 : goal.poll-requires-6
poll-requires-6 g c =
    let both =
    last_two_may _ _ ghosts c.in_ok-parts.parts.barrier _ _ _ _ _ c.in-Some.second c.in-Some-pop.first
    c.in-Some.ensures.items c.in-Some-pop.ensures.items c.in_ok-parts.ensures.numbered in
    c.in-Parked-check.ensures.seat.0 ∙ both.1.0

pub check-requires-3-clause-seat : goal.check-requires-3-clause-seat
check-requires-3-clause-seat g c =
    let both =
    last_two_may _ _ ghosts c.in_ok-parts.parts.barrier _ _ _ _ _ c.in-Some.second c.in-Some-pop.first
    c.in-Some.ensures.items c.in-Some-pop.ensures.items c.in_ok-parts.ensures.numbered in
    c.in-Run.ensures.seat.0 ∙ (c.in-Parked-poll.ensures.seat.0 ∙ (c.in-Parked.ensures.seat.0 ∙ both.0.0))

pub check-requires-3-clause-parcel : goal.check-requires-3-clause-parcel
check-requires-3-clause-parcel g c = let ran = c.in-Run.ensures in let window = c.in-Run.first.parcel in
    record {
      fits = ran.fits ∙ ap (λ (b : ℕ). b + 2 * window.generation) (sym (ap (λ (z : WorkerView ℕ). z.book) ran.view));
      generation = sym (ap (λ (z : WorkerView ℕ). z.generation) ran.view);
    }
