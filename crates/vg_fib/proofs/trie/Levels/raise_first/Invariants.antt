-- For `raise_first`: the numbers under so many places are raised, and what became of the last one is known.
use Rattle.std.proofs.Common.{◌≡◌, ◌-◌}
use Rattle.vg_model.specs.Route.{ip4}
use Rattle.vg_fib.specs.Numbers.{changed_by}
use Rattle.vg_fib.specs.Trie.{IsRaisedFirst}
use Rattle.vg_fib.proofs.trie.Levels.raise_first.Given as goal

abbrev pub invariant-loop-place : goal.invariant-loop-place
invariant-loop-place l = record {
  raised : IsRaisedFirst (changed_by ip4 l.slots l.change) l.from (l.place - l.from) l.initial.self l.self;
  known : l.last.after ≡ changed_by ip4 l.slots l.change l.last.number;
}
