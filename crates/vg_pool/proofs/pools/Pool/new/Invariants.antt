use Rattle.std.specs.Prelude.{◌≡◌, ◌+◌, replicate}
use Rattle.vg_model.specs.PoolBook.{empty_cache}
use Rattle.vg_pool.proofs.pools.Pool.new.Given as goal

abbrev pub invariant-loop : goal.invariant-loop
invariant-loop g l =
    (l.no_taken.parts + l.counter ≡ l.caches) × (l.no_taken.amount ≡ 0)
    × (l.no_given.parts + l.counter ≡ l.caches) × (l.no_given.amount ≡ 0)
    × (l.made.items ≡ replicate l.counter empty_cache)
