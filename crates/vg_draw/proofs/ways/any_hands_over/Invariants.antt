-- `any_hands_over`, whether a node hands packets over: the loop over the nodes.
use Rattle.std.proofs.Common.{◌≡◌, take}
use Rattle.std.specs.Prelude.{false}
use Rattle.vg_draw.specs.Drawing.{any_hands_over}
use Rattle.vg_draw.proofs.ways.any_hands_over.Given as goal

abbrev pub invariant-loop-number : goal.invariant-loop-number
invariant-loop-number l = any_hands_over (take l.number l.graph.nodes) ≡ false
