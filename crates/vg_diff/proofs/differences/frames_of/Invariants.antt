-- For `frames_of`: its loop.
use Rattle.std.proofs.Common.{◌≡◌, take}
use Rattle.vg_match.specs.Sides.{seen}
use Rattle.vg_diff.specs.Run.{all_bytes}
use Rattle.vg_diff.proofs.differences.frames_of.Given as goal

abbrev pub invariant-loop-capture : goal.invariant-loop-capture
invariant-loop-capture l = seen l.frames.items ≡ all_bytes (take l.capture-index l.captures)
