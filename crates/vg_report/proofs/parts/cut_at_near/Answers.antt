use Rattle.std.proofs.Common.{◌==◌, arith}
use Rattle.vg_report.proofs.SplitLemmas.{at_near, at_none_near, before_place, after_place}
use Rattle.vg_report.proofs.parts.cut_at_near.Goals as goal

pub returns-then-byte-mark : goal.returns-then-byte-mark
returns-then-byte-mark c =
    let text = c.args.text.now in
    let at = at_near c.args.mark text c.loop-place.place c.loop-place-test.true c.loop-place.invariant c.if-byte-mark.true in
    (at.1, before_place (λ byte. byte == c.args.mark) text _ at.0, after_place (λ byte. byte == c.args.mark) text _ at.0)

pub returns : goal.returns
returns c = at_none_near c.args.mark c.args.text.now (λ k h. c.loop-place.invariant k (omega (arith, h, c.loop-place-test.false)))
