use Rattle.std.proofs.Common.{ap, ◌∙◌}
use Rattle.vg_script.specs.Events.{events}
use Rattle.vg_plan.proofs.LeftLemmas.{is_left, graphs_of_plan}
use Rattle.vg_plan.proofs.generations.Generations.of.Goals as goal

pub invariant_of-result : goal.invariant_of-result
invariant_of-result c =
    is_left c.args.plan.now c.in_ok-new.field-0 c.in_ok-runs.runs.items c.script.ensures.plan c.in_ok-new.ensures (c.in_ok-runs.ensures ∙ ap events c.script.ensures.script)

pub returns : goal.returns
returns c =
    graphs_of_plan c.args.plan.now c.in_ok-new.field-0 c.in_ok-runs.runs.items c.script.ensures.plan c.in_ok-new.ensures (c.in_ok-runs.ensures ∙ ap events c.script.ensures.script)
