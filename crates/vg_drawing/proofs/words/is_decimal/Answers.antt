use Rattle.std.proofs.Common.{◌<◌, length, sym, true, arith, rules, tests}
use Rattle.std.specs.Char.{is_ascii_digit}
use Rattle.std.proofs.lemmas.Bool.Decides.{nat_tests}
use Rattle.std.proofs.lemmas.Iterator.{YieldsList-from_slice}
use Rattle.std.proofs.lemmas.Iterator.Search.{all_from_yields_List}
use Rattle.vg_words.proofs.NumberLemmas.{long_decimal}
use Rattle.vg_drawing.proofs.words.is_decimal.Goals as goal

pub returns-else-word-eq1 : goal.returns-else-word-eq1
returns-else-word-eq1 c =
    let word = c.args.word.now in
    let some : 0 < length word = grind (arith, nat_tests, c.if-is_empty.ensures) in
    let all = all_from_yields_List is_ascii_digit _ _ true c.if-not-all.ensures.ran (YieldsList-from_slice word cc) (λ x b q k. search (rules, tests)) in
    long_decimal word some (sym all) c.if-word-eq1.false
