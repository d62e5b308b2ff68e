-- For `before_dequeue`: its clause `len`.
use Rattle.std.proofs.Common.{◌==◌, length, ap, rules, tests}
use Rattle.std.specs.Prelude.{unwrap_or}
use Rattle.std.proofs.lemmas.Iterator.{YieldsList-from_slice}
use Rattle.std.proofs.lemmas.Iterator.Search.{position_from_yields_List}
use Rattle.vg_model.specs.Graph.{handoff_dequeue}
use Rattle.vg_ways.proofs.stories.before_dequeue.Goals as goal

pub returns-in-Some-clause-len : goal.returns-in-Some-clause-len
returns-in-Some-clause-len c =
    let visits = c.args.visits.now in
    let found = position_from_yields_List (λ node. node == handoff_dequeue) _ _ _ c.in-Some.ensures.ran (YieldsList-from_slice visits cc) (λ x b q k. search (rules, tests)) in
    ap (λ o. unwrap_or o (length visits)) found

pub returns-in-None-clause-len : goal.returns-in-None-clause-len
returns-in-None-clause-len c =
    let visits = c.args.visits.now in
    let found = position_from_yields_List (λ node. node == handoff_dequeue) _ _ _ c.in-None.ensures.ran (YieldsList-from_slice visits cc) (λ x b q k. search (rules, tests)) in
    ap (λ o. unwrap_or o (length visits)) found
