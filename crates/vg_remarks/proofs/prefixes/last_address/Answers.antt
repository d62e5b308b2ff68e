-- For the cast in `last_address`: the last address has 32 bits.
use Rattle.std.proofs.Common.{◌-◌, arith}
use Rattle.std.proofs.lemmas.Nat.{one_shl}
use Rattle.vg_remarks.proofs.PrefixLemmas.{last_fits}
use Rattle.vg_remarks.proofs.prefixes.last_address.Goals as goal

pub overflow_cast-result : goal.overflow_cast-result
overflow_cast-result c =
    let prefix = c.args.prefix.now in
    omega (arith, last_fits prefix.addr prefix.len prefix.few (omega arith) prefix.host_bits, one_shl (32 - prefix.len) 64 (omega arith))

pub returns : goal.returns
returns c =
    let prefix = c.args.prefix.now in
    omega (arith, one_shl (32 - prefix.len) 64 (omega arith))
