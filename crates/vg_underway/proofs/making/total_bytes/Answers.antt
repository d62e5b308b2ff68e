-- For the clause of `total_bytes`: the bytes of the packets before a place are counted, and with those of its own they are 2^64 or more where
-- the sum has no number.
use Rattle.std.proofs.Common.{◌≡◌, ◌+◌, ◌<◌, length, ◌∙◌, arith}
use Rattle.std.specs.Prelude.{None}
use Rattle.std.proofs.lemmas.List.Sums.{sum_by-take-le}
use Rattle.vg_underway.specs.OwnPackets.{received_extent}
use Rattle.vg_underway.proofs.OwnLemmas.{bytes_more, captured_there}
use Rattle.vg_underway.proofs.making.total_bytes.Goals as goal

pub returns-in_err-total : goal.returns-in_err-total
returns-in_err-total c =
    let inside : c.loop-place.place < length c.args.packets.now = omega (arith, c.loop-place-test.true, c.len-place-end.ensures.count) in
    let there = captured_there c.args.packets.now c.loop-place.place c.bytes.result.now inside c.bytes.ensures in
    let more = bytes_more c.loop-place.place c.loop-place.total c.args.packets.now there.0 c.bytes.result.now inside there.1 there.2 c.loop-place.invariant in
    let part = sum_by-take-le received_extent c.args.packets.now (c.loop-place.place + 1) in
    let none : c.from_residual.result ≡ None = c.from_residual.ensures in
    let over = c.in_err-total.ensures in
    rw none (omega (arith, over, more, part))

pub loop-place-preserved : goal.loop-place-preserved
loop-place-preserved c =
    let inside : c.loop-place.place < length c.args.packets.now = omega (arith, c.loop-place-test.true, c.len-place-end.ensures.count) in
    let there = captured_there c.args.packets.now c.loop-place.place c.bytes.result.now inside c.bytes.ensures in
    c.in_ok-total.ensures.1
    ∙ bytes_more c.loop-place.place c.loop-place.total c.args.packets.now there.0 c.bytes.result.now inside there.1 there.2 c.loop-place.invariant
