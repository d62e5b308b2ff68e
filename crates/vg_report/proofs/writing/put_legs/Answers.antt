use Rattle.std.proofs.Common.{append_assoc, arith}
use Rattle.std.proofs.lemmas.Grind.{common_steps}
use Rattle.vg_report.proofs.LineLemmas.{legs_word-cons}
use Rattle.vg_report.proofs.writing.put_legs.Goals as goal

pub returns : goal.returns
returns c = grind (arith, common_steps, legs_word-cons, append_assoc)
