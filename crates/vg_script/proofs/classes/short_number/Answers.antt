-- For `short_number`: what each pattern of digits says.
use Rattle.std.proofs.Common.{arith, rules}
use Rattle.std.proofs.lemmas.Grind.{common_steps}
use Rattle.vg_script.proofs.NumberLemmas.{from_digits, long_number}
use Rattle.vg_script.proofs.classes.short_number.Goals as goal

pub returns-in-48-to-57 : goal.returns-in-48-to-57
returns-in-48-to-57 c = from_digits c.args.word.now (first_of (search rules, grind (arith, common_steps)))

pub returns-in_default : goal.returns-in_default
returns-in_default c = from_digits c.args.word.now (first_of (search rules, grind (arith, common_steps)))

pub returns-in_default-14 : goal.returns-in_default-14
returns-in_default-14 c = long_number c.args.word.now (omega arith)
