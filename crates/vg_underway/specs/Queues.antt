-- What contracts see of the queue from another worker, and how a round takes a frame from it.
use Rattle.std.specs.Prelude.{◌≡◌, ℕ, ◌+◌, List, [], ◌∷◌, length, Option, None, Some}
use Rattle.std.specs.List.{sum_by}
use Rattle.vg_model.specs.Valid.{extent}
use Rattle.vg_pool.specs.Contents.{Contents}
use Rattle.vg_steps.specs.Seated.{TableId}
use Rattle.vg_steps.specs.Trails.{found}
use Rattle.vg_steps.specs.declared.notes.Found.{Found}
use Rattle.vg_ring.specs.WordPlaces.{head_word, tail_word}
use Rattle.vg_hands.specs.Handed.{IsHandFrame}
use Rattle.vg_journeys.specs.Accounts.{HandoffFrame}

-- the frames that were taken from it; the one that waits to be taken, which counts as not taken; and what each step of the worker's end
-- of its ring found, the latest first
pub record Intake : Type 0 where
  pub taken : List HandoffFrame
  pub waits : Option HandoffFrame
  pub trail : List Found

-- which ring it is, and what was taken from it
pub record Queue : Type 0 where
  pub ring : TableId
  pub taken : List HandoffFrame
  pub waits : Option HandoffFrame
  pub trail : List Found

abbrev pub intake_of : Queue → Intake
intake_of queue = record { taken = queue.taken; waits = queue.waits; trail = queue.trail }

-- a queue from which nothing was taken, over this ring, whose end has made these steps
abbrev pub queue_of : TableId → List Found → Queue
queue_of ring trail = record { ring = ring; taken = []; waits = None; trail = trail }

-- a frame comes from a queue: the one that waits, for which no step is made, or else what one pop gives, which makes two steps, of which
-- the second leaves the number of frames taken in the ring's head
abbrev pub Comes : (waits : Option HandoffFrame) (taken : List HandoffFrame) (trail : List Found) → HandoffFrame → (new_trail : List Found) → Type 0
Comes (Some waiting) taken trail frame new_trail = (frame ≡ waiting) × (new_trail ≡ trail)
Comes None taken trail frame new_trail = (first : Found) × (new_trail ≡ found head_word (length taken + 1) ∷ first ∷ trail)

-- nothing is taken: a frame that came and may not be taken waits, or else none waited and the pop's one step found in the ring's tail that
-- all frames were taken
abbrev pub Leaves : (may : HandoffFrame → Type 0) (old : Intake) (waits : Option HandoffFrame) (new_trail : List Found) → Type 0
Leaves may old (Some frame) new_trail = Comes old.waits old.taken old.trail frame new_trail × IsHandFrame frame × (may frame → ⊥)
Leaves may old None new_trail = (old.waits ≡ None) × (new_trail ≡ found tail_word (length old.taken) ∷ old.trail)

-- a round tries to take one frame from a queue: it takes the frame that comes just where it may
abbrev pub Tries : (may : HandoffFrame → Type 0) (old : Intake) (took : List HandoffFrame) (new : Intake) → Type 0
Tries may old [] new = Leaves may old new.waits new.trail
Tries may old (frame ∷ []) new = Comes old.waits old.taken old.trail frame new.trail × may frame × (new.waits ≡ None)
Tries may old (frame ∷ next ∷ more) new = ⊥

-- how long a frame's packets and their rooms are together
abbrev pub frame_extent : HandoffFrame → ℕ
frame_extent frame = sum_by (λ (c : Contents). extent c.packet) frame.packets

-- the packets of frames, and how long they and their rooms are together
abbrev pub packets_in : List HandoffFrame → ℕ
packets_in frames = sum_by (λ (frame : HandoffFrame). length frame.packets) frames

abbrev pub extents_in : List HandoffFrame → ℕ
extents_in frames = sum_by frame_extent frames
