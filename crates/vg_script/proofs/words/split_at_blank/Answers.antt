use Rattle.std.proofs.Common.{rules, tests, ◌∙◌}
use Rattle.std.proofs.lemmas.Iterator.{YieldsList-from_slice}
use Rattle.std.proofs.lemmas.Iterator.Search.{position_from_yields_List}
use Rattle.vg_script.specs.Lines.{is_blank}
use Rattle.vg_script.proofs.SplitLemmas.{before_found, after_found}
use Rattle.vg_script.proofs.words.split_at_blank.Goals as goal

pub returns-clause-before : goal.returns-clause-before
returns-clause-before c =
    let text = c.args.text.now in
    let found = position_from_yields_List is_blank _ _ _ c.position.ensures.ran (YieldsList-from_slice text cc) (λ x b q k. search (rules, tests)) in
    c.split_at.ensures.before ∙ before_found is_blank text c.position.result found

pub returns-clause-after : goal.returns-clause-after
returns-clause-after c =
    let text = c.args.text.now in
    let found = position_from_yields_List is_blank _ _ _ c.position.ensures.ran (YieldsList-from_slice text cc) (λ x b q k. search (rules, tests)) in
    c.split_at.ensures.after ∙ after_found is_blank text c.position.result found
