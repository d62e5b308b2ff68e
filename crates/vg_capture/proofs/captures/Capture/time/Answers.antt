use Rattle.std.proofs.Common.{◌≡◌, ◌+◌, ◌-◌, ap, sym, ◌∙◌, arith}
use Rattle.std.specs.Prelude.{max}
use Rattle.vg_capture.specs.Time.{latest}
use Rattle.vg_capture.proofs.TimeLemmas.{latest-ge-first, latest_more, stamp_read}
use Rattle.vg_capture.proofs.captures.Capture.time.Goals as goal

pub loop-other-init : goal.loop-other-init
loop-other-init c = sym (stamp_read c.args.self.now 0 c.stamp-first.result c.stamp-first.ensures.stamp)

pub loop-other-preserved : goal.loop-other-preserved
loop-other-preserved c =
    let back : c.loop-other.other + 1 - 1 ≡ c.loop-other.other = omega arith in
    c.max-latest.ensures ∙ ap (λ l. max l c.stamp.result) c.loop-other.invariant
    ∙ sym (latest_more c.args.self.now c.loop-other.other c.stamp.result c.loop-other.auto.other c.stamp.ensures.stamp)
    ∙ ap (latest c.args.self.now) (sym back)

pub overflow_sub-result : goal.overflow_sub-result
overflow_sub-result c =
    let first = stamp_read c.args.self.now 0 c.stamp-first.result c.stamp-first.ensures.stamp in
    let later = latest-ge-first c.args.self.now (c.loop-other.other - 1) in
    omega (arith, first, later, c.loop-other.invariant)

pub returns : goal.returns
returns c =
    let first = stamp_read c.args.self.now 0 c.stamp-first.result c.stamp-first.ensures.stamp in
    let last : c.loop-other.other - 1 ≡ c.args.number = omega (arith, c.loop-other.auto.other-end, c.loop-other-test.false) in
    let latest = c.loop-other.invariant ∙ ap (latest c.args.self.now) last in
    omega (arith, first, latest)
