-- For `Keyword::of`: a route, and any other keyword.
use Rattle.std.proofs.Common.{rules, tests, sym, ◌∙◌}
use Rattle.std.specs.Prelude.{bytes_eq}
use Rattle.std.proofs.lemmas.Iterator.{YieldsList-from_slice}
use Rattle.std.proofs.lemmas.Iterator.Search.{find_from_yields_List}
use Rattle.vg_script.specs.Keywords.{keyword_row}
use Rattle.vg_script.proofs.ReadLemmas.{all_keywords, row_found, route_found}
use Rattle.vg_script.proofs.statements.Keyword.of.Goals as goal

pub returns-then-is : goal.returns-then-is
returns-then-is c = route_found c.args.word.now (sym c.is.ensures ∙ c.if-is.true)

pub returns : goal.returns
returns c =
    row_found c.args.word.now _
    (c.copied.ensures ∙ find_from_yields_List (λ k. bytes_eq c.args.word.now (keyword_row k).word) _ _ c.find.result c.find.ensures.ran (YieldsList-from_slice all_keywords cc) (λ x b q k. search (rules, tests)))
