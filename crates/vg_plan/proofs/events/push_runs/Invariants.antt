use Rattle.std.proofs.Common.{◌≡◌, ◌++◌, map}
use Rattle.vg_script.specs.Events.{runs}
use Rattle.vg_plan.specs.Run.{seen}
use Rattle.vg_plan.proofs.events.push_runs.Given as goal

abbrev pub invariant-loop-past : goal.invariant-loop-past
invariant-loop-past l = map seen l.runs.items ≡ map seen l.fn.runs.items ++ runs l.line l.every l.past l.groups
