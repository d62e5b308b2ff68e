use Rattle.vg_barrier.proofs.Crew.{last_two_may}
use Rattle.vg_dispatch.specs.contracts.parcels.WorkerParcelParcel.TheImpl.{ghosts}
use Rattle.vg_trials.proofs.barrier_tests.crew_of.Goals as goal

pub returns-clause-seats : goal.returns-clause-seats
returns-clause-seats g c =
    let both = last_two_may _ _ ghosts c.in_ok-parts.parts.barrier _ _ _ _ _ c.in-Some.second c.in-Some-pop.first c.in-Some.ensures.items c.in-Some-pop.ensures.items c.in_ok-parts.ensures.numbered in
    (both.0.0, both.1.0)

pub returns-clause-parcels : goal.returns-clause-parcels
returns-clause-parcels g c =
    let both = last_two_may _ _ ghosts c.in_ok-parts.parts.barrier _ _ _ _ _ c.in-Some.second c.in-Some-pop.first c.in-Some.ensures.items c.in-Some-pop.ensures.items c.in_ok-parts.ensures.numbered in
    (both.0.1, both.1.1)
