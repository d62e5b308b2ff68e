-- What contracts see of a pool, and what its settlement comes to.
use Rattle.std.specs.Prelude.{ℕ, ◌-◌, ◌^◌, min, sum_by, List, Option, map}
use Rattle.vg_model.specs.PoolBook.{PoolBook, CacheBook}
use Rattle.vg_pool.specs.declared.caches.CacheCounts.{CacheCounts}

-- what a settlement came to
pub record Settlement : Type 0 where
  -- how many buffers the pool had afterwards
  pub len : ℕ
  -- how many it was made with
  pub total : ℕ
  -- how many `alloc` gave out of all its caches, each buffer of a chain counted
  pub allocated : ℕ
  -- how many `alloc` gave out of each of its caches and `free` took into it, in the order in which they were settled
  pub caches : List CacheCounts

-- a pool: its book, and what its settlement came to, where it was settled
pub record PoolState : Type 0 where
  pub len : ℕ
  pub taken : ℕ
  pub given : ℕ
  pub settled : Option Settlement

-- the book alone
abbrev pub book : PoolState → PoolBook
book pool = record { len = pool.len; taken = pool.taken; given = pool.given }

-- what went out of a cache and into it
abbrev pub counts_of : CacheBook → CacheCounts
counts_of cache = record { allocated = cache.allocated; freed = cache.freed }

-- where more buffers were ever given out, this many are told
abbrev pub most_told : ℕ
most_told = 2 ^ 64 - 1

-- the settlement of a pool of so many buffers with these caches, after which its list has this length
abbrev pub settlement_of : (total len : ℕ) → List CacheBook → Settlement
settlement_of total len caches = record { len = len; total = total; allocated = min (sum_by (λ c. c.allocated) caches) most_told; caches = map counts_of caches }
