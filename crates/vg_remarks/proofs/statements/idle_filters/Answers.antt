-- For `idle_filters`: the loop finds one line more, and in the end what is found is that of all lines.
use Rattle.std.proofs.Common.{◌∙◌, ap, sym, subst, arith, Bor}
use Rattle.std.specs.Prelude.{flat_map, option_to_list}
use Rattle.std.proofs.lemmas.List.{take_all}
use Rattle.vg_model.specs.declared.edits.EditLine.{EditLine}
use Rattle.vg_remarks.specs.Found.{IsFound}
use Rattle.vg_remarks.specs.Statements.{idle_filter}
use Rattle.vg_remarks.proofs.FoundLemmas.{found_next}
use Rattle.vg_remarks.proofs.StatementLemmas.{flat_map_seen}
use Rattle.vg_remarks.proofs.statements.idle_filters.Goals as goal

pub loop-line-preserved : goal.loop-line-preserved
loop-line-preserved c = record {
  found =
      found_next (λ (e : Bor EditLine). idle_filter e.now) c.args.lines.now c.loop-line.line-index c.line-item.result c.idle.result c.with-found.result
      c.loop-line-test.true c.line-item.is c.idle.ensures (c.with-found.ensures.found _ c.loop-line.invariant.found);
  few = omega arith;
}

pub returns : goal.returns
returns c =
    let lines = c.args.lines.now in
    subst (λ l. IsFound l c.loop-line.found)
    (ap (flat_map (λ (e : Bor EditLine). option_to_list (idle_filter e.now))) (take_all c.loop-line.line-index lines c.loop-line-test.false)
    ∙ sym (flat_map_seen (λ e. option_to_list (idle_filter e)) (λ (e : Bor EditLine). e.now) lines))
    c.loop-line.invariant.found
