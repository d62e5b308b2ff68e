-- `read_all`, that each line which begins a row makes one: the loop over the lines.
use Rattle.std.proofs.Common.{◌≡◌, ◌++◌, length}
use Rattle.vg_row.specs.Names.{names_left, names_of}
use Rattle.vg_row.proofs.reading.read_all.Given as goal

-- the names of the rows so far, and those that are left
abbrev pub invariant-loop-said : goal.invariant-loop-said
invariant-loop-said l = names_of l.rows.items ++ names_left l.lines ≡ names_left l.fn.lines

abbrev pub decreases-loop-said : goal.decreases-loop-said
decreases-loop-said l = length l.lines.rest.now
