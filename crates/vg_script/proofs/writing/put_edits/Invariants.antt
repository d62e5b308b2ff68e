use Rattle.std.proofs.Common.{◌≡◌, ◌++◌, take, flat_map}
use Rattle.vg_script.specs.Plain.{line_text, edit_lines}
use Rattle.vg_script.proofs.writing.put_edits.Given as goal

abbrev pub invariant-loop-line : goal.invariant-loop-line
invariant-loop-line l = l.out.items ≡ l.fn.out.items ++ flat_map line_text (edit_lines (take l.line-index l.edits))
