-- For `in_order`: its clause.
use Rattle.std.proofs.Common.{subst, ap, ◌∙◌, ◌++◌, map, rules}
use Rattle.std.specs.List.Sorted.{IsPermutation}
use Rattle.std.proofs.lemmas.List.Sorted.{IsNonDecreasingBy-from_sort_by_key}
use Rattle.vg_diff.specs.Lines.{Row, row_of_pair}
use Rattle.vg_diff.proofs.rows.in_order.Goals as goal

pub returns : goal.returns
returns c = record {
  each =
      subst (λ all. IsPermutation all c.sort_by_key.new.self.items)
      (c.in_ok-extend_from_slice.ensures.items ∙ ap (λ front. front ++ c.as_slice.result.now) c.in_ok-rows.ensures ∙ ap (λ rest. map row_of_pair c.args.pairs.now ++ rest) (c.as_slice.ensures.value ∙ c.in_ok-more.ensures))
      c.in_ok-sort_by_key.ensures.permutation;
  rise = IsNonDecreasingBy-from_sort_by_key (λ (row : Row). row.0) c.sort_by_key.new.self.items c.in_ok-sort_by_key.ensures.sorted (λ a r f called. search rules);
}
