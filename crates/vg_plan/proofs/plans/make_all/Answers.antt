use Rattle.std.proofs.Common.{ap, sym, ◌∙◌, subst, map}
use Rattle.std.specs.Prelude.{Ok}
use Rattle.vg_model.specs.Edit.{apply_all}
use Rattle.vg_model.specs.Generations.{after_groups}
use Rattle.vg_script.specs.Events.{Event}
use Rattle.vg_plan.specs.Plan.{graphs_of}
use Rattle.vg_plan.specs.Progress.{AreMade}
use Rattle.vg_plan.specs.Run.{seen, groups_of}
use Rattle.vg_plan.proofs.GenerationLemmas.{first_graph}
use Rattle.vg_plan.proofs.RunLemmas.{times_seen}
use Rattle.vg_plan.proofs.ProgressLemmas.{is_planned}
use Rattle.vg_plan.proofs.TimesLemmas.{times_are}
use Rattle.vg_plan.proofs.plans.make_all.Goals as goal

pub returns-in-Ok-times_of-clause-made : goal.returns-in-Ok-times_of-clause-made
returns-in-Ok-times_of-clause-made c =
    let groups = ap groups_of c.as_slice.ensures.value ∙ ap (map (λ (e : Event). e.edits)) c.in-Ok.ensures in
    let first = ap (λ g. apply_all g c.args.script.now.start) (sym c.in-Ok-start.ensures) ∙ c.in_ok-make.ensures.made in
    is_planned c.args.script.now c.make.new.self c.requires first
    (subst (λ groups. AreMade (after_groups (Ok c.make.new.self) groups)) groups c.in_ok-make_events.ensures.made)

pub returns-in-Ok-times_of-clause-first : goal.returns-in-Ok-times_of-clause-first
returns-in-Ok-times_of-clause-first c =
    let made = ap (λ g. apply_all g c.args.script.now.start) (sym c.in-Ok-start.ensures) ∙ c.in_ok-make.ensures.made in
    let first = first_graph (record { script = c.args.script.now; graphs = graphs_of c.args.script.now }) (returns-in-Ok-times_of-clause-made c) in
    cc

pub returns-in-Ok-times_of-clause-times : goal.returns-in-Ok-times_of-clause-times
returns-in-Ok-times_of-clause-times c =
    times_are c.args.script.now c.in-Ok-times_of.times.items c.requires
    (c.in-Ok-times_of.ensures ∙ (times_seen c.deref.result.now ∙ ap (map (λ (e : Event). e.time)) (ap (map seen) c.deref.ensures.value ∙ c.in-Ok.ensures)))
