use Rattle.std.proofs.Common.{◌≡◌, [], ◌∷◌, map, subst}
use Rattle.vg_script.specs.Events.{Event, events}
use Rattle.vg_trials.proofs.ParcelLemmas.{event_makes, if_ok}
use Rattle.vg_trials.proofs.barrier_tests.make_event.Goals as goal

pub returns : goal.returns
returns g c =
    let only = subst (λ script. map (λ (event : Event). event.edits) (events script) ≡ c.in-Some.edits.now ∷ []) c.script.ensures.script c.in-Some.ensures in
    if_ok c.apply.result _ _ c.apply.ensures.made
    (event_makes c.args.plan.now c.in-Some.edits.now c.args.master.now c.apply.new.self (c.events_are_made.ensures.next c.args.plan.now c.script.ensures.plan) only c.requires)
