-- The order of a table's prefixes, by which a prefix is found.
use Rattle.std.specs.Prelude.{◌≡◌, ℕ, ◌+◌, ◌-◌, ◌*◌, ◌<◌, ◌≤◌, nat_lt, List, length, map, slice_index, if◌then◌else◌}
use Rattle.vg_model.specs.Route.{PrefixKind, RoutesOf}

-- a number by which prefixes are in order: by their address, then by their length, which is at most 128
abbrev pub rank : {P : Type 0} → PrefixKind P → P → ℕ
rank kind prefix = 256 * kind.addr prefix + kind.len prefix

-- the ranks of the prefixes of routes, by place
abbrev pub ranks : {P : Type 0} → PrefixKind P → RoutesOf P → List ℕ
ranks kind routes = map (λ route. rank kind route.0) routes

-- the rank of the prefix whose place stands here in the order
abbrev pub rank_at : List ℕ → List ℕ → ℕ → ℕ
rank_at ranks order i = slice_index ranks (slice_index order i)

-- the places of these ranks, each once, by rising rank
pub record IsOrder (ranks order : List ℕ) : Type 0 where
  pub all : length order ≡ length ranks
  pub within : (i : ℕ) → i < length order → slice_index order i < length ranks
  pub rising : (i j : ℕ) → i < j → j < length order → rank_at ranks order i < rank_at ranks order j
  pub each : (place : ℕ) → place < length ranks → (i : ℕ) × (i < length order) × (slice_index order i ≡ place)

-- the place of this rank stands here in the order
pub record StandsIn (ranks order : List ℕ) (rank i : ℕ) : Type 0 where
  pub inside : i < length order
  pub is : rank_at ranks order i ≡ rank

-- no place has this rank; those before here have a lower one, and the others a higher one
pub record IsGap (ranks order : List ℕ) (rank i : ℕ) : Type 0 where
  pub inside : i ≤ length order
  pub lower : (k : ℕ) → k < i → rank_at ranks order k < rank
  pub higher : (k : ℕ) → i ≤ k → k < length order → rank < rank_at ranks order k

-- a place after this one was taken out
abbrev pub moved_down : ℕ → ℕ → ℕ
moved_down gone place = if nat_lt gone place then place - 1 else place
