-- For `ends_of`: the count and what is found are those of the packets so far.
use Rattle.std.proofs.Common.{◌≡◌, ◌≤◌, List, take}
use Rattle.vg_model.specs.declared.routes.Prefix.{Prefix}
use Rattle.vg_remarks.specs.Addresses.{IsKnown}
use Rattle.vg_remarks.specs.Found.{IsFound}
use Rattle.vg_remarks.specs.Packets.{congested, told_below}
use Rattle.vg_remarks.proofs.packets.ends_of.Given as goal

abbrev pub invariant-loop-number : goal.invariant-loop-number
invariant-loop-number l = record {
  counted : l.congested ≡ congested (take l.number l.lines);
  few : l.congested ≤ l.number;
  found : (led : List Prefix) → IsKnown led l.known → IsFound (told_below led l.packets l.lines l.number) l.unforwarded;
  found_few : l.unforwarded.count ≤ l.number;
}
