use Rattle.std.proofs.Common.{w64}
use Rattle.std.proofs.lemmas.Nat.Bits.{bit_at_set_same, bit_at_set_other}
use Rattle.vg_frame.proofs.node_set.NodeSet.insert.Goals as goal

pub returns : goal.returns
returns c =
    let bits = c.args.self.now.bits in
    record {
      changed = bit_at_set_same w64 bits c.args.node c.requires;
      others = λ other _ apart. bit_at_set_other w64 bits c.args.node c.requires other apart;
    }
