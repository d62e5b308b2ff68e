-- For the clause of `hash_of`: the hash of one group more.
use Rattle.std.proofs.Common.{◌≡◌, ℕ, ◌+◌, ◌*◌, List, ap, add-one}
use Rattle.vg_match.specs.Hashes.{number64_at, mixed, hash_of_groups}

pub groups_more : (bytes : List ℕ) (count : ℕ) → hash_of_groups bytes (count + 1) ≡ mixed (hash_of_groups bytes count) (number64_at bytes (8 * count))
groups_more bytes count = ap (hash_of_groups bytes) (add-one count)
