-- `flow_hashes`, the hashes of the flows of frames: the loop over the frames.
use Rattle.std.proofs.Common.{◌≡◌, map, take}
use Rattle.vg_match.specs.Sides.{seen}
use Rattle.vg_diff.specs.Orders.{flow_hash}
use Rattle.vg_diff.proofs.orders.flow_hashes.Given as goal

abbrev pub invariant-loop-frame : goal.invariant-loop-frame
invariant-loop-frame l = l.hashes.items ≡ map flow_hash (seen (take l.frame-index l.frames))
