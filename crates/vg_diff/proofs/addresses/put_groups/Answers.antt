-- For `put_groups`: its clause.
use Rattle.std.proofs.Common.{append_assoc, arith}
use Rattle.std.proofs.lemmas.Grind.{common_steps}
use Rattle.vg_script.proofs.PrintLemmas.{groups-cons}
use Rattle.vg_diff.proofs.addresses.put_groups.Goals as goal

pub returns : goal.returns
returns c = grind (arith, common_steps, groups-cons, append_assoc)
