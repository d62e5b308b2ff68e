-- For `put_parts`: its clause.
use Rattle.std.proofs.Common.{append_assoc, arith}
use Rattle.std.proofs.lemmas.Grind.{common_steps}
use Rattle.vg_script.proofs.PrintLemmas.{parts-cons}
use Rattle.vg_diff.proofs.addresses.put_parts.Goals as goal

pub returns : goal.returns
returns c = grind (arith, common_steps, parts-cons, append_assoc)
