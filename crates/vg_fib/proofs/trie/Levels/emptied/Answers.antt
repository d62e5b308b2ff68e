use Rattle.std.proofs.Common.{◌++◌, ◌∙◌, ap}
use Rattle.std.proofs.Math.ListN.{replicate}
use Rattle.vg_fib.specs.declared.entries.Entry.TheVariants.{Leaf}
use Rattle.vg_fib.proofs.LevelLemmas.{no_route_levels, no_route_numbers}
use Rattle.vg_fib.proofs.trie.Levels.emptied.Goals as goal

pub returns-clause-shape : goal.returns-clause-shape
returns-clause-shape c =
    let all = c.in_ok-add_leaves.ensures ∙ ap (λ old. old ++ replicate 65536 (Leaf 0)) c.clear.ensures.items in
    no_route_levels _ _ _ all c.clear-2.ensures.items c.clear-3.ensures.items

pub returns-clause-no_route : goal.returns-clause-no_route
returns-clause-no_route c =
    let all = c.in_ok-add_leaves.ensures ∙ ap (λ old. old ++ replicate 65536 (Leaf 0)) c.clear.ensures.items in
    no_route_numbers _ _ _ all
