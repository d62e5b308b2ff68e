-- `any_drops`, whether a node drops packets: the loop over the nodes.
use Rattle.std.proofs.Common.{◌≡◌, take}
use Rattle.std.specs.Prelude.{false}
use Rattle.vg_draw.specs.Drawing.{any_drops}
use Rattle.vg_draw.proofs.ways.any_drops.Given as goal

abbrev pub invariant-loop-number : goal.invariant-loop-number
invariant-loop-number l = any_drops l.report (take l.number l.graph.nodes) ≡ false
