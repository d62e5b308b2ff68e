-- For `RouteIndex::of`: what a call requires, the invariant of what it makes.
use Rattle.std.proofs.Common.{◌∙◌, ℕ, ap, length, of_calls, rules, subst, sym}
use Rattle.std.specs.List.Sorted.{IsPermutation}
use Rattle.std.proofs.lemmas.Fn.{always_returns_same}
use Rattle.vg_model.specs.declared.routes.Prefix.{Prefix}
use Rattle.vg_model.specs.Route.{ip4}
use Rattle.vg_fib.proofs.PrefixLemmas.{are4}
use Rattle.vg_story.specs.Matches.{AreAround, AreByRank}
use Rattle.vg_story.proofs.MatchLemmas.{ranks_rise}
use Rattle.vg_story.proofs.matches.RouteIndex.of.Goals as goal

pub around4-requires : goal.around4-requires
around4-requires c =
    subst (AreByRank ip4) (sym c.as_slice-2.ensures.value)
    (ranks_rise are4 c.sort_unstable_by_key.new.self.items
    (c.sort_unstable_by_key.ensures.sorted (λ (r : Prefix × ℕ). (r.0.addr, r.0.len)) (always_returns_same _ _ _ (λ a r f k. search (rules, of_calls)))))

pub invariant_of-result : goal.invariant_of-result
invariant_of-result c =
    let sorted = c.sort_unstable_by_key.new.self.items in
    record {
      one_line_each = c.requires;
      moved = subst (λ rs. IsPermutation rs sorted) (c.in_ok-sorted.ensures.items ∙ c.as_slice.ensures.value) c.sort_unstable_by_key.ensures.permutation;
      order = ranks_rise are4 sorted
          (c.sort_unstable_by_key.ensures.sorted (λ (r : Prefix × ℕ). (r.0.addr, r.0.len)) (always_returns_same _ _ _ (λ a r f k. search (rules, of_calls))));
      nested = subst (λ rs. AreAround ip4 rs c.in_ok-around.around.items) c.as_slice-2.ensures.value c.in_ok-around.ensures.around;
      all = c.in_ok-around.ensures.all ∙ ap length c.as_slice-2.ensures.value;
    }
