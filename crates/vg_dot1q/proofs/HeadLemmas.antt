-- For the functions of `tags`: what is read of a tag in a packet's head is what is read of the packet.
use Rattle.std.proofs.Common.{◌≡◌, ◌-◌, ◌≤◌, true, ◌==◌, length, arith, leb-true}
use Rattle.std.specs.Prelude.{nat_le, min}
use Rattle.std.proofs.lemmas.Bool.{and_parts}
use Rattle.std.proofs.lemmas.List.{length-take}
use Rattle.vg_model.specs.Bytes.{number16_at}
use Rattle.vg_model.specs.Tag.{is_tagged}
use Rattle.vg_pool.specs.Contents.{Contents, AreContents, head_of}
use Rattle.vg_nodes.proofs.HeadLemmas.{number16_of_first, head_room}

-- a tag, and the type behind it, stand in the head
pub tag_head : (c : Contents) → AreContents c → is_tagged c.packet ≡ true → 18 ≤ length (head_of c.packet)
tag_head c are tagged =
    let long : 18 ≤ length c.packet.bytes =
    leb-true 18 (length c.packet.bytes) (and_parts (nat_le 18 (length c.packet.bytes)) (number16_at c.packet.bytes 12 == 0x8100) tagged).0 in
    let big = head_room c are in
    let size : length (head_of c.packet) ≡ min (2112 - c.packet.room) (length c.packet.bytes) = length-take (2112 - c.packet.room) c.packet.bytes in
    omega (arith, long, big, size)

pub control_head : (c : Contents) → AreContents c → number16_at (head_of c.packet) 14 ≡ number16_at c.packet.bytes 14
control_head c are = number16_of_first (2112 - c.packet.room) 14 c.packet.bytes (let big = head_room c are in omega (arith, big))
