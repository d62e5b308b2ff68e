-- For the loop of `any_hands_over`: one node more.
use Rattle.std.proofs.Common.{sym}
use Rattle.std.specs.Prelude.{slice_get}
use Rattle.vg_model.specs.Graph.{Node}
use Rattle.vg_draw.specs.Drawing.{hands_over}
use Rattle.vg_draw.proofs.AnyLemmas.{then_map, one_found, none_more}
use Rattle.vg_draw.proofs.ways.any_hands_over.Goals as goal

pub returns-then-hands_over : goal.returns-then-hands_over
returns-then-hands_over c =
    let nodes = c.args.graph.now.nodes in
    sym (one_found (λ (node : Node). hands_over node.kind) nodes c.loop-number.number (hands_over c.kind.result)
    (then_map (λ (node : Node). node.kind) hands_over (slice_get nodes c.loop-number.number) c.kind.result c.kind.ensures) (sym c.if-hands_over.ensures))

pub loop-number-preserved : goal.loop-number-preserved
loop-number-preserved c =
    let nodes = c.args.graph.now.nodes in
    none_more (λ (node : Node). hands_over node.kind) nodes c.loop-number.number (hands_over c.kind.result)
    (then_map (λ (node : Node). node.kind) hands_over (slice_get nodes c.loop-number.number) c.kind.result c.kind.ensures) (sym c.if-hands_over.ensures)
    c.loop-number.invariant
