-- For `put_drops`: its loop.
use Rattle.vg_ways.specs.Counts.{node_text}
use Rattle.vg_ways.specs.Tallies.{tally_in}
use Rattle.vg_ways.proofs.TableLemmas.{text_more}
use Rattle.vg_ways.proofs.tables.put_drops.Goals as goal

pub loop-node-preserved : goal.loop-node-preserved
loop-node-preserved c =
    text_more (node_text c.args.names.now (tally_in c.args.tally.now).dropped) c.loop-node.node c.args.out.now.items c.loop-node.invariant
    c.in_ok-put_node_drops.ensures
