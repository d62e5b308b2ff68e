use Rattle.std.proofs.Common.{◌==◌, ◌+◌, ◌∷◌, drop, sym, ap, rules, tests, ◌∙◌}
use Rattle.std.specs.List.{slice_split}
use Rattle.std.proofs.lemmas.Iterator.{YieldsList-from_slice}
use Rattle.std.proofs.lemmas.Iterator.Search.{position_from_yields_List}
use Rattle.vg_script.proofs.SplitLemmas.{parts_found, parts_missing}
use Rattle.vg_script.proofs.parts.first_part.Goals as goal

pub returns-in-Some-clause-parts : goal.returns-in-Some-clause-parts
returns-in-Some-clause-parts c =
    let text = c.args.text.now in
    let found = position_from_yields_List (λ byte. byte == c.args.mark) _ _ _ c.position.ensures.ran (YieldsList-from_slice text cc) (λ x b q k. search (rules, tests)) in
    parts_found (λ byte. byte == c.args.mark) text c.in-Some.place (sym c.in-Some.is ∙ found)
    ∙ ap (λ t. t ∷ slice_split (λ byte. byte == c.args.mark) (drop (c.in-Some.place + 1) text)) (sym c.split_at.ensures.before)
    ∙ ap (λ t. c.split_at.result.0.now ∷ slice_split (λ byte. byte == c.args.mark) t) (sym c.split_at.ensures.after)

pub returns-in-None-clause-parts : goal.returns-in-None-clause-parts
returns-in-None-clause-parts c =
    let text = c.args.text.now in
    let found = position_from_yields_List (λ byte. byte == c.args.mark) _ _ _ c.position.ensures.ran (YieldsList-from_slice text cc) (λ x b q k. search (rules, tests)) in
    parts_missing (λ byte. byte == c.args.mark) text (sym c.in-None.is ∙ found)
