-- For the loop of `meant_hashed`: one frame more.
use Rattle.std.proofs.Common.{◌<◌, ◌∙◌, length, arith}
use Rattle.std.proofs.lemmas.List.{length-map}
use Rattle.vg_match.specs.Sides.{seen}
use Rattle.vg_match.proofs.SideLemmas.{meant_more}
use Rattle.vg_match.proofs.sides.meant_hashed.Goals as goal

pub loop-number-preserved : goal.loop-number-preserved
loop-number-preserved c =
    let below : c.loop-number.number < length (seen c.args.side.now.frames.now) = simp length-map (omega arith) in (
      meant_more c.args.only.now (seen c.args.side.now.frames.now) _ _ c.loop-number.number below c.in_ok-put_meant.ensures.numbers ∙ c.loop-number.invariant.0,
      c.in_ok-put_meant.ensures.keys,
      c.in_ok-put_meant.ensures.hashes,
    )
