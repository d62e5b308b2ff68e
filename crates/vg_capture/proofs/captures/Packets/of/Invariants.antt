use Rattle.std.proofs.Common.{◌≡◌, false, take}
use Rattle.vg_capture.specs.Places.{captured_in, ArePlaces}
use Rattle.vg_capture.proofs.captures.Packets.of.Given as goal

abbrev pub invariant-loop-packet : goal.invariant-loop-packet
invariant-loop-packet l = (captured_in false l.bytes.items l.places.items ≡ take l.packet-index l.packets) × ArePlaces l.bytes.items l.places.items
