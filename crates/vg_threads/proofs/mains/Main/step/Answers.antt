use Rattle.std.proofs.Common.{ℕ, ap, sym, subst}
use Rattle.vg_barrier.specs.Seats.{main_view, Whole}
use Rattle.vg_dispatch.specs.Parcels.{Fits}
use Rattle.vg_threads.specs.Leads.{WorkerView}
use Rattle.vg_threads.specs.Renewals.{parcel_mark, parcel_generation}
use Rattle.vg_threads.proofs.mains.Main.step.Goals as goal

pub decide-held-requires-clause-whole : goal.decide-held-requires-clause-whole
decide-held-requires-clause-whole c =
    let told = c.in-All.ensures in
    let held = c.in-All.held in
    subst (λ (n : ℕ). Whole Fits parcel_mark parcel_generation (main_view held.main.seat) n held.parcels.items) (sym (ap (λ (z : WorkerView). z.released) told.view)) told.whole

pub release-requires-clause-parcels : goal.release-requires-clause-parcels
release-requires-clause-parcels c = rw c.decide-held.ensures.seat c.decide-held.ensures.parcels
