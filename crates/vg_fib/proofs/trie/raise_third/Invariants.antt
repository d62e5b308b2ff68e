-- For `raise_third`: so many numbers are raised, and what became of the last one is known.
use Rattle.std.proofs.Common.{◌≡◌, ◌-◌}
use Rattle.vg_model.specs.Route.{ip4}
use Rattle.vg_fib.specs.Numbers.{changed_by}
use Rattle.vg_fib.specs.Trie.{IsRaised}
use Rattle.vg_fib.proofs.trie.raise_third.Given as goal

abbrev pub invariant-loop-place : goal.invariant-loop-place
invariant-loop-place l = record {
  raised : IsRaised (changed_by ip4 l.slots l.change) l.from (l.place - l.from) l.initial.third.items l.third.items;
  known : l.last.after ≡ changed_by ip4 l.slots l.change l.last.number;
}
