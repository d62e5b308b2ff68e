-- For the loop of `any_drops`: one node more.
use Rattle.std.proofs.Common.{refl, sym}
use Rattle.std.specs.Prelude.{true, false}
use Rattle.vg_draw.specs.Drawing.{drops}
use Rattle.vg_draw.proofs.AnyLemmas.{one_found, none_more}
use Rattle.vg_draw.proofs.ways.any_drops.Goals as goal

pub returns-then-drops : goal.returns-then-drops
returns-then-drops c = sym (one_found (drops c.args.report.now) c.args.graph.now.nodes c.loop-number.number true c.if-drops.ensures refl)

pub loop-number-preserved : goal.loop-number-preserved
loop-number-preserved c = none_more (drops c.args.report.now) c.args.graph.now.nodes c.loop-number.number false c.if-drops.ensures refl c.loop-number.invariant
