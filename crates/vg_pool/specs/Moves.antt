-- How many buffers go between a pool and a cache.
use Rattle.std.specs.Prelude.{ℕ, ◌+◌, ◌-◌, ◌*◌, ◌/◌, ◌^◌, nat_lt, min, if◌then◌else◌}
use Rattle.vg_model.specs.PoolBook.{CacheBook}
use Rattle.vg_pool.specs.Settlement.{PoolState}

-- the most buffers of a cache
abbrev pub most_cached : ℕ
most_cached = 9472

-- where so many buffers were ever taken from a pool, it gives no more
abbrev pub most_taken : ℕ
most_taken = 2 ^ 62

-- how many buffers go between a pool and a cache at once
abbrev pub lot : ℕ
lot = 128

-- the most buffers of a cache that is not relieved
abbrev pub most_kept : ℕ
most_kept = 256

-- how many buffers go from the pool into the cache where n are asked for
abbrev pub taken_of : ℕ → PoolState → CacheBook → ℕ
taken_of n pool cache =
    if nat_lt pool.taken most_taken then min n (min pool.len (most_cached - cache.len)) else 0

-- how many buffers go from the cache back into the pool of so many buffers where n are asked for
abbrev pub given_of : ℕ → ℕ → PoolState → CacheBook → ℕ
given_of total n pool cache = min n (min cache.len (total - pool.len))

-- a cache with fewer buffers takes a lot
abbrev pub least_kept : ℕ
least_kept = 5

-- how many buffers a cache asks for: a lot where it may lack some for the longest packet, else none
abbrev pub wanted : CacheBook → ℕ
wanted cache = if nat_lt cache.len least_kept then lot else 0

-- how many buffers a cache has too many: the fewest lots that leave it no more than it may keep
abbrev pub surplus : CacheBook → ℕ
surplus cache = lot * ((cache.len - most_kept + (lot - 1)) / lot)
