use Rattle.std.proofs.Common.{◌≡◌, ◌++◌, take, flat_map}
use Rattle.vg_report.specs.Text.{line_text, numbered, trace_line}
use Rattle.vg_report.proofs.writing.put_trace_lines.Given as goal

abbrev pub invariant-loop-number : goal.invariant-loop-number
invariant-loop-number l = l.out.items ≡ l.fn.out.items ++ flat_map line_text (numbered trace_line 0 (take l.number l.traces))
