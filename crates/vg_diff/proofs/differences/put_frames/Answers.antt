-- For `put_frames`: its clause.
use Rattle.std.proofs.Common.{arith}
use Rattle.vg_match.specs.Sides.{seen}
use Rattle.vg_diff.proofs.FrameLemmas.{frames_more}
use Rattle.vg_diff.proofs.differences.put_frames.Goals as goal

pub loop-number-preserved : goal.loop-number-preserved
loop-number-preserved c =
    frames_more c.args.capture.now.packets c.loop-number.number (seen c.args.out.now.items) _ _ _ (omega arith) c.bytes.ensures c.in_ok-push.ensures.items c.loop-number.invariant
