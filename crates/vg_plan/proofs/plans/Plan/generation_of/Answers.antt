use Rattle.std.proofs.Common.{◌∙◌, ap, rules}
use Rattle.std.specs.Prelude.{nat_le}
use Rattle.std.proofs.lemmas.List.Sorted.{IsPartitionPoint-from_clause}
use Rattle.vg_script.specs.Events.{events, generation_at}
use Rattle.vg_plan.specs.Plan.{Planned}
use Rattle.vg_plan.specs.Times.{AreTimes}
use Rattle.vg_plan.proofs.WindowLemmas.{generation_at_point, parted}
use Rattle.vg_plan.proofs.plans.Plan.generation_of.Goals as goal

pub returns : goal.returns
returns c =
    let times : AreTimes c.self.inside.script c.deref.result.now = rw c.deref.ensures.value c.self.invariant.times in
    let point = IsPartitionPoint-from_clause (λ time. nat_le time c.args.time) c.deref.result.now c.partition_point.result c.partition_point.ensures.partitioned
    (parted c.self.inside.script c.deref.result.now c.args.time times) (λ a r q k. search rules) in
    generation_at_point c.self.inside.script c.deref.result.now c.args.time c.partition_point.result times c.partition_point.ensures.bound point
    ∙ ap (λ (p : Planned). generation_at (events p.script) c.args.time) c.self.view_is
