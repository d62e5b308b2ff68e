-- For `marked`: its loop.
use Rattle.std.proofs.Common.{take}
use Rattle.vg_why.specs.Asked.{Packets, AreMarks}
use Rattle.vg_why.proofs.asks.marked.Given as goal

-- the packets of the numbers so far are marked
abbrev pub invariant-loop-number : goal.invariant-loop-number
invariant-loop-number l = AreMarks (Packets (take l.number-index l.numbers)) l.count l.marks.items
