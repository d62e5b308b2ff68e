use Rattle.std.proofs.Common.{◌≡◌, ◌++◌, take}
use Rattle.std.specs.Prelude.{flat_map}
use Rattle.vg_capture.specs.Savefile.{file_header, sent_in}
use Rattle.vg_savefile.proofs.saving.written.Given as goal

abbrev pub invariant-loop-k : goal.invariant-loop-k
invariant-loop-k l = l.file ≡ file_header l.capture ++ flat_map (sent_in l.capture.packets) (take l.k l.sent)
