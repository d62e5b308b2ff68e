-- How a queue keeps the indexes that wait for a node.
use Rattle.std.specs.Prelude.{◌≡◌, ℕ, ◌<◌, ◌≤◌, List, ◌++◌, length, vec_len, vec_capacity, Box}
use Rattle.std.specs.declared.alloc.Global.{Global}
use Rattle.std.specs.List.{All, flat_map}
use Rattle.vg_frame.specs.Pending.{frame_size}
use Rattle.vg_frame.specs.Waiting.{Waiting, most_full}
use Rattle.vg_frame.specs.declared.frames.Frame.{Frame}
use Rattle.vg_frame.specs.declared.queues.Queue.TheInside.{Inside}

-- the indexes of a frame
abbrev pub indexes_of : Box Frame Global → List ℕ
indexes_of frame = frame.value

-- the indexes of the full frames, and then the newest
abbrev pub waiting : Inside → Waiting
waiting q = record { indexes = flat_map indexes_of q.full.items ++ q.newest.value; full = vec_len q.full }

pub record IsQueue (q : Inside) : Type 0 where
  pub full : All (λ frame. length (indexes_of frame) ≡ frame_size) q.full.items
  pub few : length q.newest.value < frame_size
  pub room : most_full ≤ vec_capacity q.full
