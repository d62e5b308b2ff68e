-- For `led`: what is found is that of the lines so far.
use Rattle.std.proofs.Common.{◌≡◌, take, Bor}
use Rattle.std.specs.Prelude.{flat_map}
use Rattle.vg_model.specs.declared.edits.EditLine.{EditLine}
use Rattle.vg_remarks.specs.Statements.{led_on}
use Rattle.vg_remarks.proofs.statements.led.Given as goal

abbrev pub invariant-loop-line : goal.invariant-loop-line
invariant-loop-line l = l.found.items ≡ flat_map (λ (e : Bor EditLine). led_on e.now) (take l.line-index l.lines)
