use Rattle.std.proofs.Common.{◌≡◌, ◌++◌, ◌-◌, ◌≤◌, length}
use Rattle.vg_load.specs.Packets.{load_packets, packets_from}
use Rattle.vg_load.proofs.packets.load_capture.Given as goal

abbrev pub invariant-loop-number : goal.invariant-loop-number
invariant-loop-number l =
    (l.made.items ++ packets_from (l.packets - l.number) l.number l.words ≡ load_packets l.seed l.packets) × (length l.made.items ≡ l.number) × (l.number ≤ l.packets)
