-- For `copy`: the first 32 bytes and the last 32 are all of them.
use Rattle.std.proofs.Common.{length, refl}
use Rattle.vg_savefile.proofs.PlaceLemmas.{halves}
use Rattle.vg_savefile.proofs.placing.copy.Goals as goal

pub returns-then-len-le64 : goal.returns-then-len-le64
returns-then-len-le64 c =
    halves c.args.to.now c.args.from.now c.copy_32.new.to c.copy_32-then-len-le64.new.to (length c.args.from.now) c.requires refl c.if-len-ge32.true c.if-len-le64.true
    c.copy_32.ensures c.copy_32-then-len-le64.ensures
