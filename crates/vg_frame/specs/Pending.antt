-- The buffer indexes that wait for nodes: one list for each node, the oldest index first.
use Rattle.std.specs.Prelude.{◌≡◌, ℕ, ◌<◌, List, [], length, take, drop, slice_index_or, slice_set}
use Rattle.std.specs.List.{sum_by}
pub use Rattle.vg_model.specs.Packet.{frame_size}

-- the most indexes that wait in all
abbrev pub most_pending : ℕ
most_pending = 2304

-- those that wait for a node
abbrev pub pending_at : List (List ℕ) → ℕ → List ℕ
pending_at pending node = slice_index_or pending node []

-- how many wait in all
abbrev pub pending_count : List (List ℕ) → ℕ
pending_count pending = sum_by length pending

-- no index waits for any node
abbrev pub IsNothingPending : List (List ℕ) → Type 0
IsNothingPending pending = (node : ℕ) → pending_at pending node ≡ []

-- of the lowest node for which any index waits, the first 256 are taken, or all where there are fewer
pub record TakesFrame (old : List (List ℕ)) (node : ℕ) (frame : List ℕ) (new : List (List ℕ)) : Type 0 where
  pub within : node < length old
  pub some : 0 < length (pending_at old node)
  pub lowest : (lower : ℕ) → lower < node → pending_at old lower ≡ []
  pub oldest : frame ≡ take frame_size (pending_at old node)
  pub rest : new ≡ slice_set old node (drop frame_size (pending_at old node))
