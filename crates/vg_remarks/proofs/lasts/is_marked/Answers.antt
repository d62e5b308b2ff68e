-- For what `is_marked` answers: the test is of one bit.
use Rattle.std.proofs.Common.{◌/◌, ◌%◌, nat_eq, get_or, ap}
use Rattle.std.proofs.lemmas.Nat.Bits.{shr_and_one}
use Rattle.vg_remarks.specs.Lasts.{is_marked}
use Rattle.vg_remarks.proofs.lasts.is_marked.Goals as goal

pub returns : goal.returns
unfolding is_marked
returns c =
    let address = c.args.address in
    ap (λ bit. nat_eq bit 1) (shr_and_one (get_or c.args.marks.now (address / 64 % 1024) 0) (address % 64))
