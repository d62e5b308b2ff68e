-- `reordered`, how many pairs came in another order: where hashes tell all flows apart, the order by hashes is that by flows.
use Rattle.std.proofs.Common.{map, subst, sym, ap, ◌∙◌, All}
use Rattle.std.specs.List.Sorted.{IsPermutation}
use Rattle.std.proofs.lemmas.List.Sorted.{IsPermutation-map, All-permutation}
use Rattle.vg_diff.specs.Orders.{turn_of, coming, coming_cmp, late, IsHashed, AreAllTold}
use Rattle.vg_diff.proofs.OrderLemmas.{coming_turns, turns_hashed, sorted_map, told_sorted}
use Rattle.vg_diff.proofs.orders.reordered.Goals as goal

pub late-requires : goal.late-requires
late-requires c =
    let hashed : All (IsHashed c.args.frames.now) (map (turn_of c.args.hashes.now c.args.starts.now) c.args.pairs.now)
    = turns_hashed c.args.frames.now c.args.hashes.now c.args.starts.now c.requires c.args.pairs.now in
    subst (All (IsHashed c.args.frames.now)) (sym c.as_slice.ensures.value)
    (All-permutation (IsHashed c.args.frames.now) _ _ c.sort_unstable.ensures.permutation (subst (All (IsHashed c.args.frames.now)) (sym c.in_ok-turns.ensures) hashed))

pub returns-in-Some : goal.returns-in-Some
returns-in-Some c =
    let frames = c.args.frames.now in
    let turns = c.sort_unstable.new.self.items in
    record {
      all = map (coming frames) turns;
      each =
          subst (λ pairs. IsPermutation pairs (map (coming frames) turns))
          (ap (map (coming frames)) c.in_ok-turns.ensures ∙ coming_turns frames c.args.hashes.now c.args.starts.now c.requires c.args.pairs.now)
          (IsPermutation-map (coming frames) _ _ c.sort_unstable.ensures.permutation);
      rise = sorted_map (coming frames) coming_cmp turns
          (told_sorted frames turns c.sort_unstable.ensures.sorted (subst (AreAllTold frames) c.as_slice.ensures.value c.in-Some.ensures.told));
      is = c.in-Some.ensures.value ∙ ap (λ all. late (map (coming frames) all)) c.as_slice.ensures.value;
    }
