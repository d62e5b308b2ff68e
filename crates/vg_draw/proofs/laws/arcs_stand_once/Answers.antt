use Rattle.vg_draw.specs.Drawing.{arc_line}
use Rattle.vg_draw.proofs.OnceLemmas.{length-numbered, numbered_from_zero}
use Rattle.vg_draw.proofs.laws.arcs_stand_once.Goals as goal

pub returns : goal.returns
returns c = λ report number name kind arcs. (
  length-numbered (arc_line report number name kind) 0 arcs,
  numbered_from_zero (arc_line report number name kind) arcs,
)
