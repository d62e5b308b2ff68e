-- `Lines::words`, that it takes no line which begins a row: the loop over lines that say nothing.
use Rattle.std.proofs.Common.{◌≡◌, ◌≤◌, length}
use Rattle.vg_row.specs.Names.{Goes}
use Rattle.vg_row.proofs.cursor.Lines.words.Given as goal

-- what was taken ahead says nothing
abbrev pub invariant-loop-said : goal.invariant-loop-said
invariant-loop-said l = (l.self ≡ l.fn.self) × Goes l.fn.self l.ahead

abbrev pub decreases-loop-said : goal.decreases-loop-said
decreases-loop-said l = length l.ahead.rest.now
