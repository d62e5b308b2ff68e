-- For `sent_of`: what was sent so far, with what is still to come, is all.
use Rattle.std.proofs.Common.{◌≡◌, ◌++◌, drop}
use Rattle.vg_capture.specs.Savefile.{pairs, AreWithin}
use Rattle.vg_check.specs.Saves.{sent_from}
use Rattle.vg_differs.proofs.saved.sent_of.Given as goal

abbrev pub invariant-loop-number : goal.invariant-loop-number
invariant-loop-number l = record {
  all : sent_from 0 l.trips ≡ pairs l.sent.items ++ sent_from l.number (drop l.number l.trips);
  within : AreWithin l.packets l.sent.items;
}
