-- `starts_of`, the number of the first packet of each capture but the first: the loop over those behind the first.
use Rattle.std.proofs.Common.{◌≡◌, ◌++◌, drop}
use Rattle.vg_diff.specs.Numbers.{starts_behind}
use Rattle.vg_diff.proofs.numbers.starts_of.Given as goal

-- the numbers so far, and those of the captures behind, are those of all
abbrev pub invariant-loop-capture : goal.invariant-loop-capture
invariant-loop-capture l = l.starts.items ++ starts_behind l.count (drop l.capture-index l.others) ≡ starts_behind l.initial.count l.others
