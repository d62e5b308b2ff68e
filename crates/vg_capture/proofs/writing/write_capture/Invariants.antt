use Rattle.std.proofs.Common.{◌≡◌, ◌++◌, take}
use Rattle.std.specs.Prelude.{flat_map}
use Rattle.vg_capture.specs.Savefile.{file_header, sent_in, pairs}
use Rattle.vg_capture.proofs.writing.write_capture.Given as goal

abbrev pub invariant-loop-one : goal.invariant-loop-one
invariant-loop-one l = l.file ≡ file_header l.capture ++ flat_map (sent_in l.capture.packets) (pairs (take l.one-index l.sent))
