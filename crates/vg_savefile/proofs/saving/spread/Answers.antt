use Rattle.std.proofs.Common.{◌+◌, ◌-◌, length, refl, arith}
use Rattle.vg_savefile.proofs.PackedLemmas.{next_place, more_spread}
use Rattle.vg_savefile.proofs.saving.spread.Goals as goal

pub put_record-requires-clause-number : goal.put_record-requires-clause-number
put_record-requires-clause-number c =
    let place =
    next_place (length c.args.capture.now.packets) c.args.capture.now.packets c.args.entries.items c.packets.entries.items c.pop.new.self.items c.in-Some.entry c.args.list.now c.packets.list c.packets.end
    c.packets.invariant c.in-Some.ensures.items c.requires.packed c.requires.numbers c.requires.room in
    place.number

pub put_record-requires-clause-back : goal.put_record-requires-clause-back
put_record-requires-clause-back c =
    let place =
    next_place (length c.args.capture.now.packets) c.args.capture.now.packets c.args.entries.items c.packets.entries.items c.pop.new.self.items c.in-Some.entry c.args.list.now c.packets.list c.packets.end
    c.packets.invariant c.in-Some.ensures.items c.requires.packed c.requires.numbers c.requires.room in
    place.back

pub put_record-requires-clause-within : goal.put_record-requires-clause-within
put_record-requires-clause-within c =
    let place =
    next_place (length c.args.capture.now.packets) c.args.capture.now.packets c.args.entries.items c.packets.entries.items c.pop.new.self.items c.in-Some.entry c.args.list.now c.packets.list c.packets.end
    c.packets.invariant c.in-Some.ensures.items c.requires.packed c.requires.numbers c.requires.room in
    let within = place.within in
    let same = c.packets.auto.list in
    omega (arith, within, same)

pub overflow_sub-end : goal.overflow_sub-end
overflow_sub-end c =
    let place =
    next_place (length c.args.capture.now.packets) c.args.capture.now.packets c.args.entries.items c.packets.entries.items c.pop.new.self.items c.in-Some.entry c.args.list.now c.packets.list c.packets.end
    c.packets.invariant c.in-Some.ensures.items c.requires.packed c.requires.numbers c.requires.room in
    let back = place.back in
    omega (arith, back)

pub packets-preserved : goal.packets-preserved
packets-preserved c =
    more_spread c.args.capture.now.packets c.args.entries.items c.packets.entries.items c.pop.new.self.items c.in-Some.entry c.args.list.now c.packets.list c.put_record.new.list c.packets.end
    (c.packets.end - (c.in-Some.entry.len + 16)) c.packets.invariant c.in-Some.ensures.items c.requires.packed c.requires.room refl c.put_record.ensures
