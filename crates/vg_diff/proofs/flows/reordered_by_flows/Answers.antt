-- `reordered_by_flows`, how many pairs came in another order, by the flows themselves.
use Rattle.std.proofs.Common.{map, subst, ap, ◌∙◌}
use Rattle.std.specs.List.Sorted.{IsPermutation}
use Rattle.std.proofs.lemmas.List.Sorted.{IsPermutation-map}
use Rattle.vg_diff.specs.Orders.{coming_with, coming_cmp, late}
use Rattle.vg_diff.proofs.OrderLemmas.{sorted_map}
use Rattle.vg_diff.proofs.flows.reordered_by_flows.Goals as goal

pub returns : goal.returns
returns c = record {
  all = map coming_with c.sort.new.self.items;
  each =
      subst (λ pairs. IsPermutation pairs (map coming_with c.sort.new.self.items)) c.in_ok-turns.ensures
      (IsPermutation-map coming_with _ _ c.in_ok-sort.ensures.permutation);
  rise = sorted_map coming_with coming_cmp c.sort.new.self.items c.in_ok-sort.ensures.sorted;
  is = c.late.ensures ∙ ap (λ all. late (map coming_with all)) c.as_slice.ensures.value;
}
