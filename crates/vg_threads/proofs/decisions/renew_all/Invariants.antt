use Rattle.std.proofs.Common.{◌≡◌, ◌+◌, ◌++◌, length, map, take, drop}
use Rattle.std.specs.Vec.Iter.{into_iter_items, into_iter_len}
use Rattle.std.specs.List.{AllByRecursion}
use Rattle.vg_fork.specs.Forked.{Forked}
use Rattle.vg_threads.specs.Renewals.{renewed}
use Rattle.vg_threads.proofs.decisions.renew_all.Given as goal

abbrev pub invariant-loop-fork : goal.invariant-loop-fork
invariant-loop-fork l = record {
  main : l.held.main ≡ l.fn.held.main;
  count : l.k + into_iter_len l.fork-iterator ≡ length l.fn.held.parcels.items;
  len : length l.held.parcels.items ≡ length l.fn.held.parcels.items;
  parcels : (fork : Forked) → AllByRecursion (λ f. f ≡ fork) l.fn.forks.items → AllByRecursion (λ f. f ≡ fork) (into_iter_items l.fork-iterator)
      × (l.held.parcels.items ≡ map (renewed fork l.limit) (take l.k l.fn.held.parcels.items) ++ drop l.k l.fn.held.parcels.items);
}
