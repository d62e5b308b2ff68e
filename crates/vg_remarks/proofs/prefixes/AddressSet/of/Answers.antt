-- For `AddressSet::of`: the loop goes over one prefix more, and in the end over all.
use Rattle.std.proofs.Common.{◌++◌, ◌∷◌, [], take, sym, subst, rules}
use Rattle.std.specs.List.Sorted.{IsNonDecreasingBy, IsPermutation}
use Rattle.std.proofs.lemmas.List.{take_all, take_more}
use Rattle.std.proofs.lemmas.List.Sorted.{IsNonDecreasingBy-from_sort_by_key}
use Rattle.vg_model.specs.declared.routes.Prefix.{Prefix}
use Rattle.vg_remarks.specs.Addresses.{IsCover}
use Rattle.vg_remarks.proofs.PrefixLemmas.{begun_more, cover_moved}
use Rattle.vg_remarks.proofs.prefixes.AddressSet.of.Goals as goal

pub loop-prefix-preserved : goal.loop-prefix-preserved
loop-prefix-preserved c =
    let sorted = c.deref-prefix-items.result.now in
    let i = c.loop-prefix.prefix-index in
    let prefix = c.prefix-item.result in
    let rises : IsNonDecreasingBy (λ (p : Prefix). p.addr) sorted = subst (IsNonDecreasingBy (λ (p : Prefix). p.addr)) (sym c.deref-prefix-items.ensures.value)
    (IsNonDecreasingBy-from_sort_by_key (λ (p : Prefix). p.addr) c.sort_unstable_by_key.new.self.items c.sort_unstable_by_key.ensures.sorted (λ a r q k. search rules)) in
    record {
      cover = subst (λ taken. IsCover taken c.keep.new.kept.items) (sym (take_more sorted i prefix c.loop-prefix-test.true))
          (subst (λ p. IsCover (take i sorted ++ p ∷ []) c.keep.new.kept.items) c.prefix-item.is (c.in_ok-keep.ensures.cover (take i sorted) c.loop-prefix.invariant.cover));
      begun = begun_more sorted c.keep.new.kept.items i prefix rises c.loop-prefix-test.true c.prefix-item.is c.in_ok-keep.ensures.begun;
    }

pub returns : goal.returns
returns c =
    let sorted = c.deref-prefix-items.result.now in
    let moved : IsPermutation c.args.prefixes.items sorted = subst (IsPermutation c.args.prefixes.items) (sym c.deref-prefix-items.ensures.value) c.sort_unstable_by_key.ensures.permutation in
    cover_moved c.args.prefixes.items sorted c.loop-prefix.kept.items moved
    (subst (λ taken. IsCover taken c.loop-prefix.kept.items) (take_all c.loop-prefix.prefix-index sorted c.loop-prefix-test.false) c.loop-prefix.invariant.cover)
