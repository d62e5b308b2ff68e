use Rattle.std.proofs.Common.{rules, refl, arith, drop}
use Rattle.vg_capture.specs.Places.{captured_in}
use Rattle.vg_capture.proofs.PlaceLemmas.{nothing_read, one_read, room_for_one}
use Rattle.vg_capture.proofs.RecordLemmas.{refused_short, refused_long, refused_cut}
use Rattle.vg_capture.proofs.reading.read_places.Goals as goal

pub loop-rest-init : goal.loop-rest-init
loop-rest-init g c = nothing_read g.T.ByteOrder.number_of c.args.big c.args.file.now c.split_at.result.1.now c.in_ok-places.places.items c.split_at.ensures.back c.in_ok-places.ensures.items

pub returns-then-rest-lt-RECORD_HEADER_LEN-clause-read : goal.returns-then-rest-lt-RECORD_HEADER_LEN-clause-read
returns-then-rest-lt-RECORD_HEADER_LEN-clause-read g c =
    let room = (room_for_one c.args.big c.args.file.now c.loop-rest.places.items _ c.loop-rest.invariant.are (omega (arith, c.loop-rest.places.ok)) c.if-len-eq-MOST_PACKETS.false).1 in
    refused_short g.T.ByteOrder.number_of (drop 24 c.args.file.now) c.loop-rest.place c.loop-rest.rest.now (captured_in c.args.big c.args.file.now c.loop-rest.places.items) c.loop-rest.invariant.read
    room (search rules) c.if-rest-lt-RECORD_HEADER_LEN.true

pub returns-then-len-gt-LONGEST_RECORD-clause-read : goal.returns-then-len-gt-LONGEST_RECORD-clause-read
returns-then-len-gt-LONGEST_RECORD-clause-read g c =
    let room = (room_for_one c.args.big c.args.file.now c.loop-rest.places.items _ c.loop-rest.invariant.are (omega (arith, c.loop-rest.places.ok)) c.if-len-eq-MOST_PACKETS.false).1 in
    refused_long g.T.ByteOrder.number_of (drop 24 c.args.file.now) c.loop-rest.place c.loop-rest.rest.now (captured_in c.args.big c.args.file.now c.loop-rest.places.items) c.u32_at-len.result c.loop-rest.invariant.read
    room (search rules) c.u32_at-len.ensures c.if-len-gt-LONGEST_RECORD.true

pub returns-then-body-len-clause-read : goal.returns-then-body-len-clause-read
returns-then-body-len-clause-read g c =
    let room = (room_for_one c.args.big c.args.file.now c.loop-rest.places.items _ c.loop-rest.invariant.are (omega (arith, c.loop-rest.places.ok)) c.if-len-eq-MOST_PACKETS.false).1 in
    refused_cut g.T.ByteOrder.number_of (drop 24 c.args.file.now) c.loop-rest.place c.loop-rest.rest.now (captured_in c.args.big c.args.file.now c.loop-rest.places.items) c.u32_at-len.result c.split_at-in-loop-rest.result.1.now
    c.loop-rest.invariant.read room (search rules) c.u32_at-len.ensures c.if-len-gt-LONGEST_RECORD.false c.split_at-in-loop-rest.ensures.back c.if-body-len.true

pub loop-rest-preserved : goal.loop-rest-preserved
loop-rest-preserved g c =
    let room = (room_for_one c.args.big c.args.file.now c.loop-rest.places.items _ c.loop-rest.invariant.are (omega (arith, c.loop-rest.places.ok)) c.if-len-eq-MOST_PACKETS.false).0 in
    one_read g.T.ByteOrder.number_of c.args.big c.args.file.now c.loop-rest.place _ c.loop-rest.rest.now c.loop-rest.places.items c.u32_at-len.result
    c.split_at-in-loop-rest.result.1.now c.split_at-in-loop-rest-2.result.1.now _ c.push.new.self.items c.requires.order (omega arith) c.requires.header c.loop-rest.invariant room (search rules)
    c.u32_at-len.ensures c.if-len-gt-LONGEST_RECORD.false c.split_at-in-loop-rest.ensures.back c.if-body-len.false c.split_at-in-loop-rest-2.ensures.back
    refl refl c.in_ok-push.ensures.items
