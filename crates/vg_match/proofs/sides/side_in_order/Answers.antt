-- For the clause of `side_in_order`: the entries that are meant, in another order.
use Rattle.std.proofs.Common.{map, subst}
use Rattle.std.specs.List.Sorted.{IsPermutation}
use Rattle.std.proofs.lemmas.List.Sorted.{IsPermutation-map, All-permutation}
use Rattle.vg_match.specs.Keys.{compared}
use Rattle.vg_match.specs.Matching.{entry_of}
use Rattle.vg_match.specs.Sides.{IsOf, seen, number_of}
use Rattle.vg_match.proofs.sides.side_in_order.Goals as goal

pub returns : goal.returns
returns c =
    let before = c.in_ok-made.made.items in
    let after = c.put_in_order.new.hashed.items in
    let moved : IsPermutation (map entry_of before) (map entry_of after) = IsPermutation-map entry_of before after c.put_in_order.ensures.moved in
    record {
      hashed = c.put_in_order.ensures.order;
      numbers = subst (λ numbers. IsPermutation numbers (map number_of (map entry_of after))) c.in_ok-made.ensures.numbers (IsPermutation-map number_of _ _ moved);
      keys = All-permutation (IsOf (compared c.args.ignored.now) (seen c.args.frames.now)) _ _ moved c.in_ok-made.ensures.keys;
    }
