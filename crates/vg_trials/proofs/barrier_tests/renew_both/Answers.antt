use Rattle.std.proofs.Common.{ℕ, ◌≡◌, ◌+◌, ap, sym, ◌∙◌, arith}
use Rattle.vg_barrier.specs.Seats.{main_view}
use Rattle.vg_barrier.proofs.Crew.{renewed}
use Rattle.vg_dispatch.specs.contracts.parcels.WorkerParcelParcel.TheImpl.{ghosts}
use Rattle.vg_trials.proofs.ParcelLemmas.{fits_next}
use Rattle.vg_trials.proofs.barrier_tests.renew_both.Goals as goal

pub returns-clause-parcels : goal.returns-clause-parcels
returns-clause-parcels g c =
    let main = main_view c.args.held.main.seat in
    let book = main.book in
    let first = c.renew.new.parcel in
    let second = c.renew-2.new.parcel in
    let first_is = c.renew.ensures.new in
    let second_is = c.renew-2.ensures.new in
    let next : 1 ≡ main.released + 1 = ap (λ (n : ℕ). n + 1) (sym c.requires.none) in
    let first_generation : first.fork.generation ≡ 1 = ap (λ p. p.fork.generation) first_is ∙ c.requires.next.0 in
    let second_generation : second.fork.generation ≡ 1 = ap (λ p. p.fork.generation) second_is ∙ c.requires.next.1 in
    let first_next : first.next ≡ 2 = ap (λ p. p.next) first_is in
    let second_next : second.next ≡ 3 = ap (λ p. p.next) second_is in
    let first_fits =
    fits_next book first c.args.forks.0.graph c.args.limit 2 c.requires.drawn c.requires.window.0 first_generation (ap (λ p. p.fork.graph) first_is) (ap (λ p. p.limit) first_is)
    (omega (arith, first_next)) (ap (λ p. p.stop) first_is) in
    let second_fits =
    fits_next book second c.args.forks.1.graph c.args.limit 2 c.requires.drawn c.requires.window.1 second_generation (ap (λ p. p.fork.graph) second_is) (ap (λ p. p.limit) second_is)
    (omega (arith, second_next)) (ap (λ p. p.stop) second_is) in
    renewed _ _ ghosts main main.released c.args.held.parcels.items c.parcel_mut.result.now c.parcel_mut-2.result.now first second c.requires.two c.requires.whole c.parcel_mut.ensures.value c.parcel_mut-2.ensures.value
    (first_next ∙ sym c.renew.ensures.same) (second_next ∙ sym c.renew-2.ensures.same) first_fits second_fits (first_generation ∙ next) (second_generation ∙ next)
