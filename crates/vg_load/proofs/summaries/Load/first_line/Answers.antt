use Rattle.std.proofs.Common.{rules, arith, append_assoc}
use Rattle.std.proofs.lemmas.Grind.{common_steps}
use Rattle.vg_load.specs.Summary.{first_line}
use Rattle.vg_load.proofs.summaries.Load.first_line.Goals as goal

pub returns : goal.returns
unfolding first_line
returns c = first_of (search (rules, append_assoc), grind (arith, common_steps, append_assoc))
