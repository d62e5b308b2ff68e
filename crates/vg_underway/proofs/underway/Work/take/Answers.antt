use Rattle.std.proofs.Common.{arith}
use Rattle.vg_model.specs.Leg.{first_slot}
use Rattle.vg_model.proofs.LegEnds.{arc_target}
use Rattle.vg_underway.proofs.OwedLemmas.{target_within}
use Rattle.vg_underway.proofs.underway.Work.take.Goals as goal

pub put-requires-clause-node : goal.put-requires-clause-node
put-requires-clause-node c =
    let in_graph = target_within c.args.fork.now.graph c.arc.result (arc_target c.args.fork.now.graph c.args.node c.arc.result c.requires.valid (first_slot, c.arc.ensures)) in
    let few = c.requires.few in
    omega (arith, in_graph, few)
