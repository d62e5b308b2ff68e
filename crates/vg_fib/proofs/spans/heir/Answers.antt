use Rattle.std.proofs.Common.{◌<◌, length, arith}
use Rattle.std.proofs.lemmas.Bool.{iff_false}
use Rattle.vg_fib.proofs.PrefixLemmas.{are6}
use Rattle.vg_fib.proofs.HeirLemmas.{heir_begins, heir_more, heir_skips, heir_ends}
use Rattle.vg_fib.proofs.spans.heir.Goals as goal
use Rattle.vg_fib.proofs.spans.heir.Goals.{then-is_around, else-is_around}

pub loop-place-init : goal.loop-place-init
loop-place-init c = heir_begins are6 c.args.slots.now c.args.prefix

pub loop-place-preserved : goal.loop-place-preserved
loop-place-preserved c =
    let slots = c.args.slots.now in
    let place = c.loop-place.place in
    let inside : place < length slots = omega (arith, c.loop-place-test.true) in
    elim c.if-is_around.branch [
      | then-is_around w ↦
          rw (w.heir-is, w.longer_of-heir.ensures) (heir_more are6 slots c.args.prefix place c.loop-place.heir inside
          (c.is_around.ensures.0 w.if-is_around.true) c.loop-place.invariant)
      | else-is_around w ↦
          rw w.heir-is (heir_skips are6 slots c.args.prefix place c.loop-place.heir inside (iff_false c.is_around.ensures w.if-is_around.false) c.loop-place.invariant)
    ]

pub returns : goal.returns
returns c = heir_ends are6 c.args.slots.now c.args.prefix c.loop-place.place c.loop-place.heir (omega (arith, c.loop-place-test.false)) c.loop-place.invariant
