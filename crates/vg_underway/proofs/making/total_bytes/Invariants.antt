use Rattle.std.proofs.Common.{◌≡◌, take}
use Rattle.vg_underway.specs.OwnPackets.{captured_extent}
use Rattle.vg_underway.proofs.making.total_bytes.Given as goal

abbrev pub invariant-loop-place : goal.invariant-loop-place
invariant-loop-place l = l.total ≡ captured_extent (take l.place l.packets)
