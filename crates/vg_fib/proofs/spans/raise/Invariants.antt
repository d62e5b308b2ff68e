use Rattle.std.proofs.Common.{◌-◌}
use Rattle.vg_model.specs.Route.{ip6}
use Rattle.vg_fib.specs.Numbers.{changed_by}
use Rattle.vg_fib.specs.Trie.{IsRaised}
use Rattle.vg_fib.proofs.spans.raise.Given as goal

-- so many numbers are raised
abbrev pub invariant-loop-place : goal.invariant-loop-place
invariant-loop-place l = IsRaised (changed_by ip6 l.slots l.change) l.from (l.place - l.from) l.initial.numbers.items l.numbers.items
