-- The book of a pool: where its buffers are. A buffer is in the pool's list, in a cache, or out with whom a cache gave it.
-- One unit is one buffer. The units ever taken from a pool into caches, and those that caches ever gave back, are counted in two
-- ledgers; each cache keeps its shares of them.
use Rattle.std.specs.Prelude.{◌≡◌, ℕ, ◌+◌, ◌-◌, ◌/◌, ◌≤◌, ◌==◌, ◌||◌, nat_lt, if◌then◌else◌}
use Rattle.vg_model.specs.Packet.{longest_packet}

-- what contracts see of a pool
pub record PoolBook : Type 0 where
  -- how many buffers are in its list
  pub len : ℕ
  -- how many were ever taken into caches
  pub taken : ℕ
  -- how many caches ever gave back
  pub given : ℕ

-- the units out: those ever taken, less those ever given back
abbrev pub units_out : PoolBook → ℕ
units_out pool = pool.taken - pool.given

-- what holds of every pool of so many buffers: the list's length and the units out are the total
pub record IsPoolBook (total : ℕ) (pool : PoolBook) : Type 0 where
  -- no more were given back than were taken
  pub backed : pool.given ≤ pool.taken
  pub whole : pool.len + units_out pool ≡ total

-- what contracts see of a cache
pub record CacheBook : Type 0 where
  -- how many buffers it has
  pub len : ℕ
  -- its shares of those ever taken and ever given back
  pub taken : ℕ
  pub given : ℕ
  -- how many buffers `alloc` gave and `free` took since it was made, each buffer of a chain counted
  pub allocated : ℕ
  pub freed : ℕ

-- what holds of every cache: its length is its share of those taken, less its share of those given back, less the buffers that
-- `alloc` gave, plus those that `free` took
abbrev pub IsCacheBook : CacheBook → Type 0
IsCacheBook cache = cache.len + cache.given + cache.allocated ≡ cache.taken + cache.freed

-- a cache as it is made
abbrev pub empty_cache : CacheBook
empty_cache = record { len = 0; taken = 0; given = 0; allocated = 0; freed = 0 }

-- for how many bytes of a packet each buffer of its chain has room; the first has room for as many beside the room of a packet as it is received
abbrev pub buffer_size : ℕ
buffer_size = 2048

-- the most buffers of a chain
abbrev pub most_pieces : ℕ
most_pieces = 5

-- how many buffers a packet takes that is drawn with so many bytes: as many as its bytes fill, the last perhaps in part; one that is empty,
-- or too long to be received into buffers, takes one
abbrev pub pieces_of : ℕ → ℕ
pieces_of bytes = if bytes == 0 || nat_lt longest_packet bytes then 1 else (bytes + (buffer_size - 1)) / buffer_size

-- the chain of a packet has as many buffers as it took when it was drawn with so many bytes
abbrev pub IsChainOf : (drawn pieces : ℕ) → Type 0
IsChainOf drawn pieces = pieces ≡ pieces_of drawn
