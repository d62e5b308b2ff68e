-- What contracts see of a plan and of a book.
use Rattle.std.specs.Prelude.{◌≡◌, Some, slice_get}
use Rattle.vg_plan.specs.Plan.{Planned, graphs_of, IsPlan}
use Rattle.vg_plan.specs.Times.{AreTimes}
use Rattle.vg_plan.specs.declared.plans.Plan.TheInside.{Inside}

-- a plan by its script
abbrev pub planned : Inside → Planned
planned plan = record { script = plan.script; graphs = graphs_of plan.script }

-- what holds of a plan's parts
pub record IsKept (plan : Inside) : Type 0 where
  pub planned : IsPlan (record { script = plan.script; graphs = graphs_of plan.script })
  pub first : slice_get (graphs_of plan.script) 0 ≡ Some plan.first
  pub times : AreTimes plan.script plan.times.items
