-- For `begun6`: its clause.
use Rattle.std.proofs.Common.{ℕ, rules}
use Rattle.std.specs.Prelude.{nat_le}
use Rattle.std.proofs.lemmas.List.Sorted.{IsPartitionedBy-leb, IsPartitionPoint-from_clause}
use Rattle.vg_model.specs.declared.routes.Prefix6.{Prefix6}
use Rattle.vg_fib.proofs.PrefixLemmas.{are6}
use Rattle.vg_story.proofs.MatchLemmas.{addresses_rise, begun_at}
use Rattle.vg_story.proofs.matches6.begun6.Goals as goal

pub returns : goal.returns
returns c =
    let sorted = c.args.sorted.now in
    let address = c.args.address in
    begun_at are6 sorted address c.partition_point.result c.partition_point.ensures.bound
    (IsPartitionPoint-from_clause (λ (r : Prefix6 × ℕ). nat_le r.0.addr address) sorted c.partition_point.result c.partition_point.ensures.partitioned
    (IsPartitionedBy-leb (λ (r : Prefix6 × ℕ). r.0.addr) sorted address (addresses_rise are6 sorted c.requires)) (λ a r q k. search rules))
