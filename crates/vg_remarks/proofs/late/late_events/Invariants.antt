-- For `late_events`: what is found is that of the events so far.
use Rattle.std.proofs.Common.{◌≤◌, take}
use Rattle.std.specs.Prelude.{flat_map, option_to_list}
use Rattle.vg_plan.specs.declared.events.Run.{Run}
use Rattle.vg_plan.specs.Run.{seen}
use Rattle.vg_remarks.specs.Found.{IsFound}
use Rattle.vg_remarks.specs.Late.{late_of}
use Rattle.vg_remarks.proofs.late.late_events.Given as goal

abbrev pub invariant-loop-run : goal.invariant-loop-run
invariant-loop-run l = record {
  found : IsFound (flat_map (λ (run : Run). option_to_list (late_of l.last (seen run))) (take l.run-index l.run-items)) l.found;
  few : l.found.count ≤ l.run-index;
}
