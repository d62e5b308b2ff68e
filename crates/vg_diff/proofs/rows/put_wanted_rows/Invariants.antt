-- For `put_wanted_rows`: its loop.
use Rattle.std.proofs.Common.{◌≡◌, ◌++◌, take, flat_map}
use Rattle.vg_diff.specs.Lines.{Row, wanted_line}
use Rattle.vg_diff.proofs.rows.put_wanted_rows.Given as goal

abbrev pub invariant-loop-row : goal.invariant-loop-row
invariant-loop-row l = l.out.items ≡ l.fn.out.items ++ flat_map (λ (row : Row). wanted_line l.found row.0 row.1) (take l.row-index l.rows)
