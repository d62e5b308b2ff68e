use Rattle.std.proofs.Common.{◌≡◌, ◌++◌, ℕ, List}
use Rattle.std.specs.Prelude.{flat_map}
use Rattle.std.specs.Vec.Iter.{into_iter_items}
use Rattle.vg_underway.proofs.sent.SentList.joined.Given as goal

abbrev pub invariant-loop-list : goal.invariant-loop-list
invariant-loop-list l =
    l.sent ++ flat_map (λ (list : List (ℕ × List ℕ)). list) (into_iter_items l.list-iterator) ≡ flat_map (λ (list : List (ℕ × List ℕ)). list) l.fn.lists.items
