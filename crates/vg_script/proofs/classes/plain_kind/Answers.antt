use Rattle.std.proofs.Common.{rules, tests, ◌∙◌}
use Rattle.std.proofs.lemmas.Iterator.{YieldsList-from_slice}
use Rattle.std.proofs.lemmas.Iterator.Search.{find_from_yields_List}
use Rattle.vg_model.specs.Graph.{plain_kinds}
use Rattle.vg_script.specs.Classes.{is_word_for}
use Rattle.vg_script.proofs.classes.plain_kind.Goals as goal

pub returns : goal.returns
returns c =
    c.copied.ensures ∙ find_from_yields_List (is_word_for c.args.word.now) _ _ c.find.result c.find.ensures.ran (YieldsList-from_slice plain_kinds cc) (λ x b q k. search (rules, tests))
