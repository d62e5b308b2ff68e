-- For what `mark` writes: one bit of one word is set.
use Rattle.std.proofs.Common.{◌/◌, ◌%◌, get_or, w64, arith}
use Rattle.std.proofs.lemmas.Nat.Bits.{bit_at_set_same, bit_at_set_other}
use Rattle.vg_remarks.proofs.LastLemmas.{marked_besides}
use Rattle.vg_remarks.proofs.lasts.mark.Goals as goal

pub returns : goal.returns
returns c =
    let address = c.args.address in
    let word = get_or c.args.marks.now (address / 64 % 1024) 0 in
    let bit = address % 64 in
    marked_besides c.args.marks.now address _ c.requires (record {
      here = bit_at_set_same w64 word bit (omega arith);
      others = λ other apart. bit_at_set_other w64 word bit (omega arith) other apart;
    })
