-- For `put_frames`: its loop.
use Rattle.std.proofs.Common.{◌≡◌, ◌++◌, take}
use Rattle.vg_match.specs.Sides.{seen}
use Rattle.vg_diff.specs.Run.{packet_bytes}
use Rattle.vg_diff.proofs.differences.put_frames.Given as goal

abbrev pub invariant-loop-number : goal.invariant-loop-number
invariant-loop-number l = seen l.out.items ≡ seen l.fn.out.items ++ take l.number (packet_bytes l.capture.packets)
