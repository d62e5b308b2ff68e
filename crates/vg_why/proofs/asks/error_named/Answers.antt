-- For `error_named`: its clause.
use Rattle.std.proofs.Common.{rules, tests, ◌∙◌}
use Rattle.std.specs.Prelude.{bytes_eq}
use Rattle.std.proofs.lemmas.Iterator.{YieldsList-from_slice}
use Rattle.std.proofs.lemmas.Iterator.Search.{find_from_yields_List}
use Rattle.vg_model.specs.Errors.{error_word, all_errors}
use Rattle.vg_why.proofs.asks.error_named.Goals as goal

pub returns : goal.returns
returns c =
    c.copied.ensures
    ∙ find_from_yields_List (λ e. bytes_eq c.args.word.now (error_word e)) _ _ c.find.result c.find.ensures.ran (YieldsList-from_slice all_errors cc) (λ x b q k. search (rules, tests))
