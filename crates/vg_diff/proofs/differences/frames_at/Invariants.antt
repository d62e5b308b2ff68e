-- `frames_at`, the frames of numbers of a capture: the loop over the numbers.
use Rattle.std.proofs.Common.{◌≡◌, take}
use Rattle.vg_match.specs.Sides.{seen}
use Rattle.vg_diff.specs.Numbers.{frames_of_numbers}
use Rattle.vg_diff.specs.Run.{packet_bytes}
use Rattle.vg_diff.proofs.differences.frames_at.Given as goal

abbrev pub invariant-loop-number : goal.invariant-loop-number
invariant-loop-number l = seen l.frames.items ≡ frames_of_numbers (packet_bytes l.capture.packets) (take l.number-index l.numbers)
