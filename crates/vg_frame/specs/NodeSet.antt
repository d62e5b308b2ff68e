-- A set of nodes, as a number with a bit for each.
use Rattle.std.specs.Prelude.{◌≡◌, ◌≢◌, ℕ, ◌<◌}
use Rattle.std.specs.Int.{bit_at}

-- the node has this bit afterwards, and every other node has the bit that it had
pub record SetsBit (old new node bit : ℕ) : Type 0 where
  pub changed : bit_at new node ≡ bit
  pub others : (other : ℕ) → other < 64 → other ≢ node → bit_at new other ≡ bit_at old other

-- the node is the lowest of the set
pub record IsLowest (bits node : ℕ) : Type 0 where
  pub within : node < 64
  pub has : bit_at bits node ≡ 1
  pub lower : (lower : ℕ) → lower < node → bit_at bits lower ≡ 0
