-- For `raise_second`: the numbers under so many places are raised, and what became of the last one is known.
use Rattle.std.proofs.Common.{◌≡◌, ◌-◌}
use Rattle.vg_model.specs.Route.{ip4}
use Rattle.vg_fib.specs.Numbers.{changed_by}
use Rattle.vg_fib.specs.Trie.{IsRaisedSecond}
use Rattle.vg_fib.proofs.trie.raise_second.Given as goal

abbrev pub invariant-loop-place : goal.invariant-loop-place
invariant-loop-place l = record {
  raised : IsRaisedSecond (changed_by ip4 l.slots l.change) l.from (l.place - l.from) l.initial.second.items l.initial.third.items l.second.items l.third.items;
  known : l.last.after ≡ changed_by ip4 l.slots l.change l.last.number;
}
