use Rattle.std.proofs.Common.{◌≡◌, ◌++◌, take}
use Rattle.vg_report.specs.Text.{further}
use Rattle.vg_report.proofs.writing.put_names.Given as goal

abbrev pub invariant-loop-name : goal.invariant-loop-name
invariant-loop-name l = l.out.items ≡ l.fn.out.items ++ further (take l.name-index l.names)
