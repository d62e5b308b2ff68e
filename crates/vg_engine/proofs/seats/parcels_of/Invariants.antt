use Rattle.std.proofs.Common.{◌≡◌, ◌+◌, length}
use Rattle.std.specs.Vec.Iter.{into_iter_items, into_iter_len}
use Rattle.std.specs.List.{AllByRecursion}
use Rattle.vg_workers.specs.Places.{AllAt}
use Rattle.vg_engine.specs.Seats.{first_parcel}
use Rattle.vg_engine.proofs.seats.parcels_of.Given as goal

abbrev pub invariant-loop-fork : goal.invariant-loop-fork
invariant-loop-fork l = record {
  count : length l.parcels.items + into_iter_len l.fork-iterator ≡ l.workers;
  forks : AllByRecursion (λ f. f ≡ record { graph = l.master; generation = 0 }) (into_iter_items l.fork-iterator);
  each : AllAt (λ number parcel. parcel ≡ first_parcel l.master l.limit number) 0 l.parcels.items;
}
