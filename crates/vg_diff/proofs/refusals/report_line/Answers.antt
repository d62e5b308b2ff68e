-- For `report_line`: its clause.
use Rattle.std.proofs.Common.{rules, arith, append_assoc}
use Rattle.std.proofs.lemmas.Grind.{common_steps}
use Rattle.vg_diff.proofs.refusals.report_line.Goals as goal

pub returns : goal.returns
returns c = first_of (search (rules, append_assoc), grind (arith, common_steps, append_assoc))
