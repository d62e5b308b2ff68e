-- For `FateList::joined`: the fates so far, and behind them those of the lists that are left.
use Rattle.std.proofs.Common.{◌≡◌, ◌++◌, List}
use Rattle.std.specs.Prelude.{flat_map}
use Rattle.std.specs.Vec.Iter.{into_iter_items}
use Rattle.vg_model.specs.declared.fates.Fate.{Fate}
use Rattle.vg_fates.proofs.logs.FateList.joined.Given as goal

abbrev pub invariant-loop-list : goal.invariant-loop-list
invariant-loop-list l = flat_map (λ (list : List Fate). list) l.fn.lists.items ≡ l.fates ++ flat_map (λ (list : List Fate). list) (into_iter_items l.list-iterator)
