-- For `marks_of`: the addresses so far have bits.
use Rattle.std.proofs.Common.{take}
use Rattle.vg_remarks.specs.Lasts.{AreMarked}
use Rattle.vg_remarks.proofs.lasts.marks_of.Given as goal

abbrev pub invariant-loop-address : goal.invariant-loop-address
invariant-loop-address l = AreMarked (take l.address-index l.addresses) l.marks.items
