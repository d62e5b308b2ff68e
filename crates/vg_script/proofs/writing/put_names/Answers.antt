use Rattle.std.proofs.Common.{append_assoc, arith}
use Rattle.std.proofs.lemmas.Grind.{common_steps}
use Rattle.vg_script.proofs.PrintLemmas.{join_with_byte-cons}
use Rattle.vg_script.proofs.writing.put_names.Goals as goal

pub returns : goal.returns
returns c = grind (arith, common_steps, join_with_byte-cons, append_assoc)
