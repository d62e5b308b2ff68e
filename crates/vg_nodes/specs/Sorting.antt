-- Indexes that are sorted by the steps of their packets.
use Rattle.std.specs.Prelude.{ℕ, ◌<◌, [], ◌∷◌, ◌++◌, length}
use Rattle.vg_model.specs.declared.kinds.Step.{Step}
use Rattle.vg_model.specs.declared.kinds.Step.TheVariants.{Next, Tx, Dropped, Hand}
use Rattle.vg_frame.specs.Pending.{frame_size}
use Rattle.vg_nodes.specs.declared.sorted.Sorted.{Sorted}

-- no index in any list
abbrev pub nothing_sorted : Sorted
nothing_sorted = record { next = []; tx = []; drops = []; hands = [] }

-- each list has room for one more
pub record HasRoom (out : Sorted) : Type 0 where
  pub next : length out.next < frame_size
  pub tx : length out.tx < frame_size
  pub drops : length out.drops < frame_size
  pub hands : length out.hands < frame_size

-- an index goes into the list that a step names, behind the others there
abbrev pub put : ℕ → Step → Sorted → Sorted
put index (Next slot) out = record out { next = out.next ++ (index, slot) ∷ [] }
put index (Tx interface) out = record out { tx = out.tx ++ (index, interface) ∷ [] }
put index (Dropped error) out = record out { drops = out.drops ++ (index, error) ∷ [] }
put index (Hand hash) out = record out { hands = out.hands ++ (index, hash) ∷ [] }
