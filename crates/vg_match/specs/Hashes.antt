-- Numbers made of bytes, by which these are told apart first.
use Rattle.std.specs.Prelude.{ℕ, zero, suc, ◌+◌, ◌-◌, ◌*◌, ◌%◌, ◌/◌, ◌^◌, nat_lt, List, length, slice_range, if◌then◌else◌}
use Rattle.std.specs.Int.{w64, from_be_bytes}

-- the 64-bit number at a place
unfoldable pub number64_at : List ℕ → ℕ → ℕ
number64_at bytes at = from_be_bytes w64 (slice_range bytes at (at + 8))

-- a hash with one number more
unfoldable pub mixed : (hash number : ℕ) → ℕ
mixed hash number = ((hash * 0x9e3779b97f4a7c15) % 2 ^ 64 + number) % 2 ^ 64

-- the hash of so many groups of eight bytes each
abbrev pub hash_of_groups : List ℕ → ℕ → ℕ
hash_of_groups bytes zero = 0
hash_of_groups bytes (suc count) = mixed (hash_of_groups bytes count) (number64_at bytes (8 * count))

-- the hash of all whole groups, and of the last eight bytes
unfoldable pub hash_of : List ℕ → ℕ
hash_of bytes = if nat_lt (length bytes) 8 then 0 else mixed (hash_of_groups bytes (length bytes / 8)) (number64_at bytes (length bytes - 8))
