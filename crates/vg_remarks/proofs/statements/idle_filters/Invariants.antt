-- For `idle_filters`: what is found is that of the lines so far.
use Rattle.std.proofs.Common.{◌≤◌, take, Bor}
use Rattle.std.specs.Prelude.{flat_map, option_to_list}
use Rattle.vg_model.specs.declared.edits.EditLine.{EditLine}
use Rattle.vg_remarks.specs.Found.{IsFound}
use Rattle.vg_remarks.specs.Statements.{idle_filter}
use Rattle.vg_remarks.proofs.statements.idle_filters.Given as goal

abbrev pub invariant-loop-line : goal.invariant-loop-line
invariant-loop-line l = record {
  found : IsFound (flat_map (λ (e : Bor EditLine). option_to_list (idle_filter e.now)) (take l.line-index l.lines)) l.found;
  few : l.found.count ≤ l.line-index;
}
