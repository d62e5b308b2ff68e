use Rattle.std.proofs.Common.{rules, arith, append_assoc}
use Rattle.std.proofs.lemmas.Grind.{common_steps}
use Rattle.vg_load.specs.Summary.{plain_line}
use Rattle.vg_load.proofs.summaries.Load.plain_line.Goals as goal

pub returns : goal.returns
unfolding plain_line
returns c = first_of (search (rules, append_assoc), grind (arith, common_steps, append_assoc))
