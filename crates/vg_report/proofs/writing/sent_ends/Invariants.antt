-- For `sent_ends`: the ends are those of the interfaces so far.
use Rattle.std.proofs.Common.{◌≡◌, map, take}
use Rattle.vg_report.specs.Text.{sent_end}
use Rattle.vg_report.proofs.writing.sent_ends.Given as goal

abbrev pub invariant-loop-interface : goal.invariant-loop-interface
invariant-loop-interface l = l.ends.items ≡ map sent_end (take l.interface-index l.interfaces)
