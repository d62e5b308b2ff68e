use Rattle.std.proofs.Common.{◌<◌, length, arith}
use Rattle.std.proofs.lemmas.Bool.Decides.{nat_tests}
use Rattle.vg_report.proofs.WordLemmas.{long_begins}
use Rattle.vg_report.proofs.words.begins_as_decimal.Goals as goal

pub returns-else-word-eq1 : goal.returns-else-word-eq1
returns-else-word-eq1 c =
    let word = c.args.word.now in
    let some : 0 < length word = grind (arith, nat_tests, c.if-is_empty.ensures) in
    long_begins word some c.if-word-eq1.false
