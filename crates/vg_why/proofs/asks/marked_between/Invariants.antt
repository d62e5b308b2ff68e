-- For `marked_between`: its loop.
use Rattle.vg_why.specs.Asked.{All, AreMarks, filter_shown}
use Rattle.vg_why.proofs.asks.marked_between.Given as goal

-- so many packets are marked
abbrev pub invariant-loop-number : goal.invariant-loop-number
invariant-loop-number l = AreMarks (All (filter_shown l.filter)) l.number l.marks.items
