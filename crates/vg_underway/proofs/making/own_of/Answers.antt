use Rattle.std.proofs.Common.{◌+◌, ◌<◌, ◌∙◌, length, drop, ap, arith}
use Rattle.std.proofs.lemmas.List.{length-drop}
use Rattle.std.proofs.lemmas.List.Sums.{sum_by-cons, sum_by-take-drop}
use Rattle.vg_capture.specs.declared.captures.Captured.{Captured}
use Rattle.vg_underway.specs.OwnPackets.{received_extent, captured_extent, own_from}
use Rattle.vg_underway.proofs.OwnLemmas.{own_first, own_fewer, own_lighter, get_elem, captured_there}
use Rattle.vg_underway.proofs.making.own_of.Goals as goal

pub overflow_add-own : goal.overflow_add-own
overflow_add-own c =
    let count = c.packets.invariant.count in
    let most = own_fewer c.args.workers 0 (drop c.args.number c.args.packets.now) in
    let len = length-drop c.args.number c.args.packets.now in
    let few = c.requires.few in
    omega (arith, count, most, len, few)

pub overflow_add-own-in-packets-2 : goal.overflow_add-own-in-packets-2
overflow_add-own-in-packets-2 c =
    let bytes = c.packets.invariant.bytes in
    let inside : c.packets.place < length c.args.packets.now = omega (arith, c.packets-test.true, c.len-count.ensures.count) in
    let there = captured_there c.args.packets.now c.packets.place c.bytes.result.now inside c.bytes.ensures in
    let elem : Captured = get_elem c.args.packets.now c.packets.place there.0 in
    let first = ap captured_extent (own_first c.args.workers c.packets.place c.args.packets.now there.0 c.requires.workers inside) in
    let one = sum_by-cons received_extent elem (own_from c.args.workers (c.packets.place + c.args.workers) c.args.packets.now) in
    let light = own_lighter c.args.workers 0 (drop c.args.number c.args.packets.now) in
    let behind = sum_by-take-drop received_extent c.args.packets.now c.args.number in
    let here = ap length (there.2 ∙ ap (λ (x : Captured). x.bytes) there.1) in
    let all = c.requires.bytes in
    omega (arith, bytes, first, one, light, behind, here, all)

pub packets-preserved : goal.packets-preserved
packets-preserved c =
    let inside : c.packets.place < length c.args.packets.now = omega (arith, c.packets-test.true, c.len-count.ensures.count) in
    let there = captured_there c.args.packets.now c.packets.place c.bytes.result.now inside c.bytes.ensures in
    let elem : Captured = get_elem c.args.packets.now c.packets.place there.0 in
    let split = own_first c.args.workers c.packets.place c.args.packets.now there.0 c.requires.workers inside in
    let first = ap captured_extent split in
    let one = sum_by-cons received_extent elem (own_from c.args.workers (c.packets.place + c.args.workers) c.args.packets.now) in
    let here = ap length (there.2 ∙ ap (λ (x : Captured). x.bytes) there.1) in
    let count = c.packets.invariant.count in
    let bytes = c.packets.invariant.bytes in
    let len = ap length split in
    record { count = omega (arith, count, len); bytes = omega (arith, bytes, first, one, here) }
