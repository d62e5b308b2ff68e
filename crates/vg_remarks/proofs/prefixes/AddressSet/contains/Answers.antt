-- For what `AddressSet::contains` answers: the last kept prefix that begins no later covers the address where any does.
use Rattle.std.proofs.Common.{◌≡◌, ◌-◌, ◌≤◌, ◌∙◌, length, sym, subst, arith, rules}
use Rattle.std.specs.Prelude.{nat_le}
use Rattle.std.specs.List.Sorted.{IsNonDecreasingBy}
use Rattle.std.proofs.lemmas.Bool.{le-ltb}
use Rattle.std.proofs.lemmas.List.Sorted.{IsPartitionedBy-leb, IsPartitionPoint-from_clause}
use Rattle.vg_model.specs.declared.routes.Prefix.{Prefix}
use Rattle.vg_remarks.proofs.PrefixLemmas.{found, last_begun, not_found, IsBegunBelow}
use Rattle.vg_remarks.proofs.prefixes.AddressSet.contains.Goals as goal

pub returns-then-begun-gt0 : goal.returns-then-begun-gt0
returns-then-begun-gt0 c = λ prefixes is.
    let kept = c.args.self.now.prefixes.items in
    let address = c.args.address in
    let begun = c.partition_point-begun.result in
    let rises : IsNonDecreasingBy (λ (p : Prefix). p.addr) c.deref.result.now = subst (IsNonDecreasingBy (λ (p : Prefix). p.addr)) (sym c.deref.ensures.value) is.begins in
    let point : IsBegunBelow c.deref.result.now address begun = IsPartitionPoint-from_clause (λ (p : Prefix). nat_le p.addr address) c.deref.result.now begun c.partition_point-begun.ensures.partitioned
    (IsPartitionedBy-leb (λ (p : Prefix). p.addr) c.deref.result.now address rises) (λ a r q k. search rules) in
    let all : begun ≤ length kept = subst (λ xs. begun ≤ length xs) c.deref.ensures.value c.partition_point-begun.ensures.bound in
    let at = last_begun kept address begun c.if-begun-gt0.true all (subst (λ xs. IsBegunBelow xs address begun) c.deref.ensures.value point) in
    c.covers.ensures ∙ found prefixes kept address is (begun - 1) at c.index.result.now c.index.ensures

pub returns-else-begun-gt0 : goal.returns-else-begun-gt0
returns-else-begun-gt0 c = λ prefixes is.
    let kept = c.args.self.now.prefixes.items in
    let address = c.args.address in
    let begun = c.partition_point-begun.result in
    let rises : IsNonDecreasingBy (λ (p : Prefix). p.addr) c.deref.result.now = subst (IsNonDecreasingBy (λ (p : Prefix). p.addr)) (sym c.deref.ensures.value) is.begins in
    let point : IsBegunBelow c.deref.result.now address begun = IsPartitionPoint-from_clause (λ (p : Prefix). nat_le p.addr address) c.deref.result.now begun c.partition_point-begun.ensures.partitioned
    (IsPartitionedBy-leb (λ (p : Prefix). p.addr) c.deref.result.now address rises) (λ a r q k. search rules) in
    let none : begun ≡ 0 = omega arith in
    le-ltb 0 begun c.if-begun-gt0.false
    ∙ sym (not_found prefixes kept address is (subst (λ b. IsBegunBelow kept address b) none (subst (λ xs. IsBegunBelow xs address begun) c.deref.ensures.value point)))
