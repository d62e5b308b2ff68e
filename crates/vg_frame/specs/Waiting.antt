-- The indexes that wait for one node, and how they are cut into frames.
use Rattle.std.specs.Prelude.{◌≡◌, ℕ, ◌+◌, ◌*◌, ◌<◌, ◌≤◌, List, [], ◌∷◌, length, map, slice_index_or}
use Rattle.std.specs.List.{sum_by, All}
use Rattle.std.specs.Int.{bit_at}
use Rattle.vg_frame.specs.Pending.{frame_size}

-- the most frames of a store, the most nodes, and the most full frames that may wait
abbrev pub most_frames : ℕ
most_frames = 80

abbrev pub most_nodes : ℕ
most_nodes = 64

abbrev pub most_full : ℕ
most_full = 9

-- the indexes, the oldest first, and how many full frames they are cut into, before those of a frame that isn't full
pub record Waiting : Type 0 where
  pub indexes : List ℕ
  pub full : ℕ

-- no frame is full before it has all its indexes
abbrev pub IsCut : Waiting → Type 0
IsCut w = frame_size * w.full ≤ length w.indexes

-- no index
abbrev pub none_waits : Waiting
none_waits = record { indexes = []; full = 0 }

-- what waits, by node
abbrev pub pending : List Waiting → List (List ℕ)
pending queues = map (λ w. w.indexes) queues

abbrev pub full_frames : List Waiting → ℕ
full_frames queues = sum_by (λ w. w.full) queues

-- the bit of a node: 1 where any index waits for it
abbrev pub busy_bit : List ℕ → ℕ
busy_bit [] = 0
busy_bit (_ ∷ _) = 1

-- what holds of the queues of a store, its spare frames, and its set of nodes with a frame
pub record IsStore (queues : List Waiting) (spare bits : ℕ) : Type 0 where
  pub nodes : length queues ≤ most_nodes
  pub cut : All IsCut queues
  pub frames : spare + full_frames queues + length queues ≡ most_frames
  pub busy : (node : ℕ) → node < 64 → bit_at bits node ≡ busy_bit (slice_index_or (pending queues) node [])
