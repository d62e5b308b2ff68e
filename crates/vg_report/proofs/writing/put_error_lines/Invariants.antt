use Rattle.std.proofs.Common.{◌≡◌, ◌++◌, take, flat_map, map}
use Rattle.vg_report.specs.Text.{line_text, error_line}
use Rattle.vg_report.proofs.writing.put_error_lines.Given as goal

abbrev pub invariant-loop-node : goal.invariant-loop-node
invariant-loop-node l = l.out.items ≡ l.fn.out.items ++ flat_map line_text (map error_line (take l.node-index l.errors))
