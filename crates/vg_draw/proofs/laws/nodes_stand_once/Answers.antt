-- `nodes_stand_once`, the law.
use Rattle.vg_model.specs.Graph.{Node}
use Rattle.vg_draw.specs.Drawing.{ways_of, drawn_line}
use Rattle.vg_draw.proofs.OnceLemmas.{length-numbered, numbered_from_zero}
use Rattle.vg_draw.proofs.laws.nodes_stand_once.Goals as goal

pub returns : goal.returns
returns c = λ report nodes. (
  length-numbered (λ number (node : Node). drawn_line (ways_of report nodes) report number node.name node.kind) 0 nodes,
  numbered_from_zero (λ number (node : Node). drawn_line (ways_of report nodes) report number node.name node.kind) nodes,
)
