-- `put_adjacencies`, the lines of the neighbors.
use Rattle.vg_draw.specs.Prefixes.{seen}
use Rattle.vg_draw.specs.Drawing.{adjacency_line}
use Rattle.vg_draw.proofs.LineLemmas.{one_more_line}
use Rattle.vg_draw.proofs.drawing.put_adjacencies.Goals as goal

pub loop-number-preserved : goal.loop-number-preserved
loop-number-preserved c =
    one_more_line (adjacency_line (seen c.args.before) (seen c.args.routes)) c.args.graph.now.adjacencies c.loop-number.number c.adjacency_at.result.now c.args.out.now.items _ _
    c.adjacency_at.ensures c.loop-number.invariant c.in_ok-put_adjacency_line.ensures
