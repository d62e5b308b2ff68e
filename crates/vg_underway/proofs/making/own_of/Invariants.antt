use Rattle.std.proofs.Common.{◌≡◌, ◌+◌, ◌-◌, length}
use Rattle.vg_underway.specs.OwnPackets.{captured_extent, own_from}
use Rattle.vg_underway.proofs.making.own_of.Given as goal

abbrev pub invariant-packets : goal.invariant-packets
invariant-packets l = record {
  count : l.own.count + length (own_from l.workers l.place l.packets) ≡ length (own_from l.workers l.number l.packets);
  bytes : l.own.bytes + captured_extent (own_from l.workers l.place l.packets) ≡ captured_extent (own_from l.workers l.number l.packets);
}

abbrev pub decreases-packets : goal.decreases-packets
decreases-packets l = length l.packets - l.place
