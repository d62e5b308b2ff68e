-- For `fill_list`: the bytes of the packets so far stand one behind the other, and each has at most 65,535.
use Rattle.std.proofs.Common.{◌≡◌, ◌*◌, ◌≤◌, take}
use Rattle.vg_savefile.specs.Packed.{ArePacked, total_len}
use Rattle.vg_savefile.proofs.saving.fill_list.Given as goal

abbrev pub invariant-loop-entry : goal.invariant-loop-entry
invariant-loop-entry l = record {
  packed : ArePacked 0 (take l.entry-index l.entries);
  total : total_len (take l.entry-index l.entries) ≡ l.end;
  few : l.end ≤ 65535 * l.entry-index;
}
