-- `read_bytes`, that it takes no line which begins a row: the loop over the lines.
use Rattle.std.proofs.Common.{◌≡◌, ◌≤◌, length}
use Rattle.vg_row.specs.Names.{Goes}
use Rattle.vg_row.proofs.reading.read_bytes.Given as goal

-- no line that was taken begins a row
abbrev pub invariant-loop-form : goal.invariant-loop-form
invariant-loop-form l = Goes l.fn.lines l.lines

abbrev pub decreases-loop-form : goal.decreases-loop-form
decreases-loop-form l = length l.lines.rest.now
