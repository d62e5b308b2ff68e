-- `count_began`, how many packets began in a generation: the loop over the packets.
use Rattle.std.proofs.Common.{◌≡◌, ◌≤◌, take}
use Rattle.std.specs.Prelude.{count_by}
use Rattle.vg_draw.specs.Drawing.{began_in}
use Rattle.vg_draw.proofs.counts.count_began.Given as goal

abbrev pub invariant-loop-number : goal.invariant-loop-number
invariant-loop-number l = record {
  count : l.count ≡ count_by (began_in l.generation) (take l.number l.packets);
  few : l.count ≤ l.number;
}
