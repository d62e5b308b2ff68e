-- For `FateList::joined`: one list more.
use Rattle.std.proofs.Common.{rules, ◌≡◌, ◌++◌, ◌∷◌, ◌∙◌, List, ap, sym, append_assoc}
use Rattle.std.specs.Prelude.{flat_map}
use Rattle.std.specs.Vec.Iter.{into_iter_items}
use Rattle.vg_model.specs.declared.fates.Fate.{Fate}
use Rattle.vg_fates.proofs.logs.FateList.joined.Goals as goal

pub loop-list-preserved : goal.loop-list-preserved
loop-list-preserved c =
    let rest = into_iter_items c.next-in-loop-list.new.self in
    let left : into_iter_items c.loop-list.list-iterator ≡ c.in-Some-list.list ∷ rest = search rules in
    c.loop-list.invariant
    ∙ ap (λ (lists : List (List Fate)). c.loop-list.fates ++ flat_map (λ (list : List Fate). list) lists) left
    ∙ sym (append_assoc c.loop-list.fates c.in-Some-list.list (flat_map (λ (list : List Fate). list) rest))
    ∙ ap (λ (fates : List Fate). fates ++ flat_map (λ (list : List Fate). list) rest) (sym c.in_ok-fates.ensures)
