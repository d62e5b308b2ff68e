use Rattle.std.proofs.Common.{sym, ◌∙◌, true, rules, tests}
use Rattle.std.specs.Char.{is_ascii_digit}
use Rattle.std.proofs.lemmas.Iterator.{YieldsList-from_slice}
use Rattle.std.proofs.lemmas.Iterator.Search.{all_from_yields_List}
use Rattle.vg_report.proofs.WordLemmas.{digits_decimal}
use Rattle.vg_report.proofs.words.is_decimal.Goals as goal

pub returns : goal.returns
returns c =
    let word = c.args.word.now in
    let all = all_from_yields_List is_ascii_digit _ _ true c.if-not-all.ensures.ran (YieldsList-from_slice word cc) (λ x b q k. search (rules, tests)) in
    c.begins_as_decimal.ensures ∙ digits_decimal word (sym all)
