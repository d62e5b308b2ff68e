-- For `begun4`: its clause.
use Rattle.std.proofs.Common.{ℕ, rules}
use Rattle.std.specs.Prelude.{nat_le}
use Rattle.std.proofs.lemmas.List.Sorted.{IsPartitionedBy-leb, IsPartitionPoint-from_clause}
use Rattle.vg_model.specs.declared.routes.Prefix.{Prefix}
use Rattle.vg_fib.proofs.PrefixLemmas.{are4}
use Rattle.vg_story.proofs.MatchLemmas.{addresses_rise, begun_at}
use Rattle.vg_story.proofs.matches.begun4.Goals as goal

pub returns : goal.returns
returns c =
    let sorted = c.args.sorted.now in
    let address = c.args.address in
    begun_at are4 sorted address c.partition_point.result c.partition_point.ensures.bound
    (IsPartitionPoint-from_clause (λ (r : Prefix × ℕ). nat_le r.0.addr address) sorted c.partition_point.result c.partition_point.ensures.partitioned
    (IsPartitionedBy-leb (λ (r : Prefix × ℕ). r.0.addr) sorted address (addresses_rise are4 sorted c.requires)) (λ a r q k. search rules))
