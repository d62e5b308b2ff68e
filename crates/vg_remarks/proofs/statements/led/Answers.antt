-- For what `led` returns: what is found is that of all lines.
use Rattle.std.proofs.Common.{◌∙◌, ap, sym, Bor}
use Rattle.std.specs.Prelude.{flat_map}
use Rattle.std.proofs.lemmas.List.{take_all}
use Rattle.vg_model.specs.declared.edits.EditLine.{EditLine}
use Rattle.vg_remarks.specs.Statements.{led_on}
use Rattle.vg_remarks.proofs.StatementLemmas.{flat_map_seen}
use Rattle.vg_remarks.proofs.statements.led.Goals as goal

pub returns : goal.returns
returns c =
    let lines = c.args.lines.now in
    c.loop-line.invariant
    ∙ (ap (flat_map (λ (e : Bor EditLine). led_on e.now)) (take_all c.loop-line.line-index lines c.loop-line-test.false)
    ∙ sym (flat_map_seen led_on (λ (e : Bor EditLine). e.now) lines))
