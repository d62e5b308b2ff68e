use Rattle.std.proofs.Common.{drop}
use Rattle.std.specs.Prelude.{Ok}
use Rattle.vg_model.specs.Generations.{after_groups}
use Rattle.vg_plan.specs.Progress.{AreMadeUpTo}
use Rattle.vg_plan.specs.Run.{groups_of}
use Rattle.vg_plan.proofs.plans.make_events.Given as goal

abbrev pub invariant-loop-run : goal.invariant-loop-run
invariant-loop-run l = AreMadeUpTo (after_groups (Ok l.first) (groups_of l.runs)) l.master (drop l.run-index (groups_of l.runs))
