use Rattle.std.proofs.Common.{◌<◌, length, map, refl, arith, subst, ap}
use Rattle.vg_script.specs.Lawful.{IsLawfulBlock}
use Rattle.vg_plan.specs.Run.{seen}
use Rattle.vg_plan.proofs.RunLemmas.{pushed_run}
use Rattle.vg_plan.proofs.events.push_runs.Goals as goal

pub loop-past-preserved : goal.loop-past-preserved
loop-past-preserved c =
    let lawful = subst IsLawfulBlock c.in-Process.is c.requires in
    let some : 0 < length c.as_slice-groups.result.now = omega (arith, lawful.4, ap length c.as_slice-groups.ensures) in
    pushed_run (map seen c.args.runs.now.items) c.loop-past.runs.items c.push-in-loop-past.new.self.items c.in-Process.line c.in-Process.every c.loop-past.past c.from.result
    c.as_slice-groups.result.now _ c.loop-past.invariant c.in_ok-push-in-Process.ensures.items c.from.ensures refl refl refl (omega arith) c.index-groups-past.is
