use Rattle.std.proofs.Common.{ap, length, arith, length-append}
use Rattle.vg_backlog.proofs.waiting.put_all.Goals as goal

pub push_back_reserved-requires : goal.push_back_reserved-requires
push_back_reserved-requires c =
    let all = ap length c.packets.invariant.0 in
    let capacity = c.packets.invariant.1 in
    let more = ap length c.in-Some.ensures in
    let here = c.packets.buffers.ok.0 in
    let first = c.args.buffers.now.ok.0 in
    let room = c.requires in
    omega (arith, all, capacity, more, here, first, room, length-append c.packets.buffers.items c.packets.packets, length-append c.args.buffers.now.items c.args.packets)
