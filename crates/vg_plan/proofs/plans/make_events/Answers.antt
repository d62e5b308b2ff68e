use Rattle.std.proofs.Common.{◌+◌, drop, subst}
use Rattle.std.proofs.lemmas.Result.{err_from_is_err_and}
use Rattle.std.specs.Prelude.{Ok}
use Rattle.vg_model.specs.Generations.{Graphs, after_groups}
use Rattle.vg_plan.specs.Progress.{AreMadeUpTo}
use Rattle.vg_plan.specs.Refusals.{IsRefusalOf}
use Rattle.vg_plan.specs.Run.{groups_of}
use Rattle.vg_plan.proofs.RunLemmas.{next_group, no_group}
use Rattle.vg_plan.proofs.ProgressLemmas.{made_next, made_refused, all_are_made}
use Rattle.vg_plan.proofs.plans.make_events.Goals as goal

pub returns-in_err-make-clause-refused : goal.returns-in_err-make-clause-refused
returns-in_err-make-clause-refused c =
    let all : Graphs = after_groups (Ok c.args.first.now) (groups_of c.args.runs.now) in
    let next = next_group c.args.runs.now c.loop-run.run-index c.run-item.result c.loop-run-test.true c.run-item.is in
    let refused : IsRefusalOf all c.in_err-make.field-0.0 =
    made_refused all c.loop-run.master c.run-item.result.edits.now (drop (c.loop-run.run-index + 1) (groups_of c.args.runs.now)) c.in_err-make.field-0.0
    (subst (AreMadeUpTo all c.loop-run.master) next c.loop-run.invariant) c.in_err-make.ensures.refused in
    let p = err_from_is_err_and c.from_residual.result c.from_residual.ensures.1 in
    rw (p.1, p.2) refused

pub loop-run-preserved : goal.loop-run-preserved
loop-run-preserved c =
    let all : Graphs = after_groups (Ok c.args.first.now) (groups_of c.args.runs.now) in
    let next = next_group c.args.runs.now c.loop-run.run-index c.run-item.result c.loop-run-test.true c.run-item.is in
    made_next all c.loop-run.master c.make.new.self c.run-item.result.edits.now (drop (c.loop-run.run-index + 1) (groups_of c.args.runs.now))
    (subst (AreMadeUpTo all c.loop-run.master) next c.loop-run.invariant) c.in_ok-make.ensures.made c.in_ok-make.ensures.generation

pub returns-clause-made : goal.returns-clause-made
returns-clause-made c =
    let all : Graphs = after_groups (Ok c.args.first.now) (groups_of c.args.runs.now) in
    all_are_made all c.loop-run.master
    (subst (AreMadeUpTo all c.loop-run.master) (no_group c.args.runs.now c.loop-run.run-index c.loop-run-test.false) c.loop-run.invariant)
