use Rattle.vg_replay.proofs.CountLemmas.{adds_drop_there, adds_drop_elsewhere}
use Rattle.vg_replay.proofs.counting.count_drop.Goals as goal

pub returns-then-node-ne-ERROR_DROP : goal.returns-then-node-ne-ERROR_DROP
returns-then-node-ne-ERROR_DROP c =
    adds_drop_elsewhere c.args.error c.args.node c.args.counts.now c.dropped.new.self c.visit.new.self c.requires c.nodes-nodes.ensures.kept c.if-node-ne-ERROR_DROP.true c.dropped.ensures c.visit.ensures

pub returns-else-node-ne-ERROR_DROP : goal.returns-else-node-ne-ERROR_DROP
returns-else-node-ne-ERROR_DROP c =
    adds_drop_there c.args.error c.args.node c.args.counts.now c.dropped.new.self c.requires c.nodes-nodes.ensures.kept c.if-node-ne-ERROR_DROP.false c.dropped.ensures
