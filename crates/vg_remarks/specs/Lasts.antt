-- A set of addresses, with a bit for the low 16 bits of each.
use Rattle.std.specs.Prelude.{◌≡◌, ℕ, ◌/◌, ◌%◌, ◌==◌, Bool, true, List, length, slice_index}
use Rattle.std.specs.BTreeMap.{is_at}
use Rattle.std.specs.Int.{bit_at}
use Rattle.std.specs.List.{list_any}
use Rattle.std.specs.Ordering.{nat_cmp}

-- one of the addresses is this one
abbrev pub has : List ℕ → ℕ → Bool
has addresses address = list_any (is_at (nat_cmp address)) addresses

-- the bit of an address's low 16 bits is set
unfoldable pub is_marked : List ℕ → ℕ → Bool
is_marked marks address = bit_at (slice_index marks (address / 64 % 1024)) (address % 64) == 1

-- there is a bit for each number of 16 bits, and those of the addresses' low bits are set
pub record AreMarked (addresses marks : List ℕ) : Type 0 where
  pub whole : length marks ≡ 1024
  pub marked : (address : ℕ) → has addresses address ≡ true → is_marked marks address ≡ true

-- the bit of an address's low 16 bits is set besides those that were
pub record IsMarkedBesides (address : ℕ) (old new : List ℕ) : Type 0 where
  pub whole : length new ≡ 1024
  pub here : is_marked new address ≡ true
  pub kept : (other : ℕ) → is_marked old other ≡ true → is_marked new other ≡ true
