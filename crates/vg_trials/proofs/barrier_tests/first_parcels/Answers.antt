use Rattle.std.proofs.Common.{◌∷◌, [], ◌++◌, ap, sym, subst, ◌∙◌}
use Rattle.vg_barrier.specs.Parcels.{AreFirst}
use Rattle.vg_dispatch.specs.Parcels.{Fits}
use Rattle.vg_trials.proofs.ParcelLemmas.{are_first}
use Rattle.vg_trials.proofs.barrier_tests.first_parcels.Goals as goal

pub returns-clause-first : goal.returns-clause-first
returns-clause-first c =
    let one = c.in_ok-first_parcel.field-0 in
    let other = c.in_ok-first_parcel-2.field-0 in
    let of_one = c.in_ok-first_parcel.ensures in
    let of_other = c.in_ok-first_parcel-2.ensures in
    let both = c.in_ok-push-2.ensures.items ∙ ap (λ l. l ++ other ∷ []) (c.in_ok-push.ensures.items ∙ ap (λ l. l ++ one ∷ []) c.new-parcels.ensures.items) in
    λ book window. subst (AreFirst Fits (λ parcel. parcel.fork.generation) book) (sym both)
    (are_first book c.args.master.now c.args.limit one other window (of_one.fork, of_one.limit, of_one.stop) (of_other.fork, of_other.limit, of_other.stop))
