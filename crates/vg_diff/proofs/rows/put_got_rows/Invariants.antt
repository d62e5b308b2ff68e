-- For `put_got_rows`: its loop.
use Rattle.std.proofs.Common.{◌≡◌, ◌++◌, take, flat_map}
use Rattle.vg_diff.specs.Lines.{Row, got_line}
use Rattle.vg_diff.proofs.rows.put_got_rows.Given as goal

abbrev pub invariant-loop-row : goal.invariant-loop-row
invariant-loop-row l = l.out.items ≡ l.fn.out.items ++ flat_map (λ (row : Row). got_line l.found row.0 row.1) (take l.row-index l.rows)
