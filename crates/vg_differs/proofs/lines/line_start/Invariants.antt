-- For `line_start`: the line of the place so far begins there.
use Rattle.vg_differs.specs.Lines.{IsLineStart}
use Rattle.vg_differs.proofs.lines.line_start.Given as goal

abbrev pub invariant-loop-k : goal.invariant-loop-k
invariant-loop-k l = IsLineStart l.text l.k l.start
