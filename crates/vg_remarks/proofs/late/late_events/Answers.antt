-- For `late_events`: the loop finds one event more, and in the end what is found is that of all events.
use Rattle.std.proofs.Common.{◌∙◌, ap, sym, subst, map, arith}
use Rattle.std.specs.Prelude.{flat_map, option_to_list}
use Rattle.std.proofs.lemmas.List.{take_all}
use Rattle.vg_script.specs.Events.{Event, events}
use Rattle.vg_plan.specs.declared.events.Run.{Run}
use Rattle.vg_plan.specs.Run.{seen}
use Rattle.vg_remarks.specs.Found.{IsFound}
use Rattle.vg_remarks.specs.Late.{late_of}
use Rattle.vg_remarks.proofs.FoundLemmas.{found_next}
use Rattle.vg_remarks.proofs.StatementLemmas.{flat_map_seen}
use Rattle.vg_remarks.proofs.late.late_events.Goals as goal

pub loop-run-preserved : goal.loop-run-preserved
loop-run-preserved c = record {
  found =
      found_next (λ (run : Run). late_of c.last_time-last.result (seen run)) c.as_slice-run-items.result.now c.loop-run.run-index c.run-item.result c.late.result c.with-found.result
      c.loop-run-test.true c.run-item.is c.late.ensures (c.with-found.ensures.found _ c.loop-run.invariant.found);
  few = omega arith;
}

pub returns : goal.returns
returns c =
    let last = c.last_time-last.result in
    let items = c.as_slice-run-items.result.now in
    subst (λ l. IsFound l c.loop-run.found)
    (ap (flat_map (λ (run : Run). option_to_list (late_of last (seen run)))) (take_all c.loop-run.run-index items c.loop-run-test.false)
    ∙ (sym (flat_map_seen (λ (e : Event). option_to_list (late_of last e)) seen items)
    ∙ (ap (λ runs. flat_map (λ (e : Event). option_to_list (late_of last e)) (map seen runs)) c.as_slice-run-items.ensures.value
    ∙ (ap (flat_map (λ (e : Event). option_to_list (late_of last e))) c.in_ok-runs.ensures
    ∙ ap (λ last. flat_map (λ (e : Event). option_to_list (late_of last e)) (events c.args.script.now)) c.last_time-last.ensures))))
    c.loop-run.invariant.found
