-- For `put_names`: its loop.
use Rattle.std.proofs.Common.{◌≡◌, ◌++◌, take}
use Rattle.vg_diff.specs.Lines.{names_text}
use Rattle.vg_diff.proofs.lines.put_names.Given as goal

abbrev pub invariant-loop-name : goal.invariant-loop-name
invariant-loop-name l = l.out.items ≡ l.fn.out.items ++ names_text (take l.name-index l.names)
