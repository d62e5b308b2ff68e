use Rattle.std.proofs.Common.{◌≡◌, ◌++◌, ◌<◌, ◌^◌, length, rules}
use Rattle.vg_capture.proofs.PlaceLemmas.{packet_more}
use Rattle.vg_capture.proofs.captures.add.Goals as goal

pub returns-clause-packets : goal.returns-clause-packets
returns-clause-packets c =
    let seconds : c.args.marks.seconds < 2 ^ 32 = search rules in
    let fraction : c.args.marks.fraction < 2 ^ 32 = search rules in
    let original : c.args.marks.original < 2 ^ 32 = search rules in
    let start : c.in-Ok.at ≡ length c.args.bytes.now.items = search rules in
    let size : c.in-Ok-try_from.len ≡ length c.args.more.now = search rules in
    let first : c.extend_from_slice.new.self.items ≡ c.args.bytes.now.items ++ c.head-head.result = search rules in
    let second : c.extend_from_slice-2.new.self.items ≡ c.extend_from_slice.new.self.items ++ c.args.more.now = search rules in
    (packet_more c.args.bytes.now.items c.head-head.result c.args.more.now c.extend_from_slice.new.self.items c.extend_from_slice-2.new.self.items c.args.places.now.items c.push.new.self.items
    c.args.marks c.in-Ok-try_from.len _ c.requires.places c.requires.few seconds fraction original start size c.head-head.ensures first second c.in_ok-push.ensures.items).0
