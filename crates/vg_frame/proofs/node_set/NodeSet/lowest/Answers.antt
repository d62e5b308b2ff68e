use Rattle.std.proofs.Common.{◌<◌, w64, arith}
use Rattle.std.proofs.lemmas.Nat.Bits.{bit_at-trailing_zeros}
use Rattle.vg_frame.proofs.node_set.NodeSet.lowest.Goals as goal

pub returns : goal.returns
returns c =
    let bits = c.args.self.now.bits in
    let some : 0 < bits = omega arith in
    let found = bit_at-trailing_zeros w64 bits some (omega arith) in
    record { within = found.0; has = found.1; lower = found.2 }
