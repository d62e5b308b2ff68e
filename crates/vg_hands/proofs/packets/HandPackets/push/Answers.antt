use Rattle.std.proofs.Common.{◌≡◌, ◌+◌, ◌∷◌, length, ap, subst, sym, arith}
use Rattle.vg_pool.specs.Contents.{Contents}
use Rattle.vg_hands.specs.Handed.{in_line, IsCounted}
use Rattle.vg_hands.proofs.PacketLemmas.{counted_behind}
use Rattle.vg_hands.proofs.packets.HandPackets.push.Goals as goal

pub invariant_of-self : goal.invariant_of-self
invariant_of-self c =
    let size = ap length c.self.view_is in
    let count = c.self.invariant.count_is in
    let less = c.requires in
    subst (λ back. IsCounted (in_line c.self.inside.front back) (c.self.inside.count + 1) (c.self.inside.bytes + (c.len.result + c.room.result))) (sym c.push.ensures)
    (counted_behind c.self.inside.front c.self.inside.back c.args.buffer c.self.invariant c.know_contents.ensures (omega (arith, size, count, less)) c.len.ensures c.room.ensures.room)
