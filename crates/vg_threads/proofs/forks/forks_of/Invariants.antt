use Rattle.std.proofs.Common.{◌≡◌, ◌+◌, ◌≤◌, length, vec_capacity}
use Rattle.std.specs.List.{AllByRecursion}
use Rattle.vg_threads.proofs.forks.forks_of.Given as goal

abbrev pub invariant-loop-other : goal.invariant-loop-other
invariant-loop-other l = record {
  count : length l.forks.items + 1 ≡ l._other;
  room : l.workers ≤ vec_capacity l.forks;
  each : AllByRecursion (λ f. f ≡ record { graph = l.master; generation = l.generation }) l.forks.items;
}
