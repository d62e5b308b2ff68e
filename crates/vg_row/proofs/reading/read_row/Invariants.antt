-- `read_row`, that it takes no line which begins another row: the loop over the lines.
use Rattle.std.proofs.Common.{◌≡◌, ◌≤◌, length}
use Rattle.vg_row.specs.Names.{Goes}
use Rattle.vg_row.proofs.reading.read_row.Given as goal

-- no line that was taken begins a row
abbrev pub invariant-loop-word : goal.invariant-loop-word
invariant-loop-word l = Goes l.fn.lines l.lines

abbrev pub decreases-loop-word : goal.decreases-loop-word
decreases-loop-word l = length l.lines.rest.now
