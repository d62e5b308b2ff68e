-- `leads_to_drop`, whether an arc leads to the node that drops: the loop over the slots.
use Rattle.std.proofs.Common.{◌≡◌, take}
use Rattle.std.specs.Prelude.{false}
use Rattle.vg_model.specs.Graph.{next_nodes}
use Rattle.vg_draw.specs.Drawing.{leads_to_drop}
use Rattle.vg_draw.proofs.ways.leads_to_drop.Given as goal

abbrev pub invariant-loop-slot : goal.invariant-loop-slot
invariant-loop-slot l = leads_to_drop (take l.slot (next_nodes l.graph l.number)) ≡ false
