-- `numbers_of`, the numbers of packets that were sent or dropped: the loop over the report's packets.
use Rattle.std.proofs.Common.{◌≡◌, ◌++◌, drop}
use Rattle.vg_diff.specs.Numbers.{numbers_from}
use Rattle.vg_diff.proofs.numbers.numbers_of.Given as goal

-- the numbers so far, and those of the packets behind, are those of all
abbrev pub invariant-loop-number : goal.invariant-loop-number
invariant-loop-number l = l.numbers.items ++ numbers_from l.sent l.number (drop l.number l.report.packets) ≡ numbers_from l.sent 0 l.report.packets
