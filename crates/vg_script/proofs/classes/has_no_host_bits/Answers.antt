use Rattle.std.proofs.Common.{◌==◌, ◌-◌, ◌%◌, ap, arith}
use Rattle.vg_script.proofs.PartLemmas.{shifted, shifted_some, all_bits}
use Rattle.vg_script.proofs.classes.has_no_host_bits.Goals as goal

pub nonzero_rem-result : goal.nonzero_rem-result
nonzero_rem-result c = shifted_some (128 - c.args.len) (omega arith)

pub returns-then-len-eq0 : goal.returns-then-len-eq0
returns-then-len-eq0 c = all_bits c.args.addr c.args.len (omega arith) c.if-len-eq0.true

pub returns-else-len-eq0 : goal.returns-else-len-eq0
returns-else-len-eq0 c = ap (λ s. c.args.addr % s == 0) (shifted (128 - c.args.len) (omega arith))
