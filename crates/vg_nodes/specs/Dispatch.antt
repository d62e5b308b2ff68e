-- What a dispatch makes of a frame: its indexes sorted by the steps of their packets, and the packets as they are then.
use Rattle.std.specs.Prelude.{◌≡◌, ◌≢◌, ℕ, List, Option, Some, None, option_map, option_and_then}
use Rattle.std.specs.List.{filter_map, AllByRecursion}
use Rattle.std.specs.Borrow.{MutBor}
use Rattle.vg_model.specs.declared.kinds.DropError.{DropError}
use Rattle.vg_model.specs.declared.kinds.Step.{Step}
use Rattle.vg_model.specs.declared.kinds.Step.TheVariants.{Next, Tx, Dropped, Hand}
use Rattle.vg_model.specs.Packet.{Packet}
use Rattle.vg_pool.specs.Contents.{Contents}
use Rattle.vg_frame.specs.Placed.{buffer_at, count}
use Rattle.vg_nodes.specs.declared.sorted.Sorted.{Sorted}

-- what a visit of one node makes of a packet: the step, and the packet after it
abbrev pub NodeVisit : Type 0
NodeVisit = Packet → Step × Packet

-- a visit that gave this step, and left a buffer so, made of its packet what it means; legs and chain stayed
pub record IsVisitAs (visit : NodeVisit) (before : Contents) (step : Step) (after : Contents) : Type 0 where
  pub visited : (step, after.packet) ≡ visit before.packet
  pub legs : after.legs ≡ before.legs
  pub chain : after.pieces ≡ before.pieces

-- what each visit made of a packet, of all visits of which this holds
abbrev pub IsMeaningOf : (MutBor Contents → Step → MutBor Contents → Type 0) → NodeVisit → Type 0
IsMeaningOf gives visit = (before : MutBor Contents) (step : Step) (after : MutBor Contents) → gives before step after → IsVisitAs visit before.now step after.now

-- the step of the packet that an index has
abbrev pub step_at : NodeVisit → List (Option Contents) → ℕ → Option Step
step_at visit memory index = option_map (λ c. (visit c.packet).0) (buffer_at memory index)

-- what a buffer has after the visit: the packet after it, with the same legs, over the same chain
abbrev pub after_visit : NodeVisit → Contents → Contents
after_visit visit c = record c { packet = (visit c.packet).1 }

-- the entry of each list for an index with a step, where the step names the list
abbrev pub next_entry : ℕ → Step → Option (ℕ × ℕ)
next_entry index (Next slot) = Some (index, slot)
next_entry index (Tx interface) = None
next_entry index (Dropped error) = None
next_entry index (Hand hash) = None

abbrev pub tx_entry : ℕ → Step → Option (ℕ × ℕ)
tx_entry index (Next slot) = None
tx_entry index (Tx interface) = Some (index, interface)
tx_entry index (Dropped error) = None
tx_entry index (Hand hash) = None

abbrev pub drop_entry : ℕ → Step → Option (ℕ × DropError)
drop_entry index (Next slot) = None
drop_entry index (Tx interface) = None
drop_entry index (Dropped error) = Some (index, error)
drop_entry index (Hand hash) = None

abbrev pub hand_entry : ℕ → Step → Option (ℕ × ℕ)
hand_entry index (Next slot) = None
hand_entry index (Tx interface) = None
hand_entry index (Dropped error) = None
hand_entry index (Hand hash) = Some (index, hash)

-- the entries of a list for indexes, in their order, by the steps of their packets
abbrev pub entries : {V : Type 0} → (ℕ → Step → Option (ℕ × V)) → NodeVisit → List (Option Contents) → List ℕ → List (ℕ × V)
entries entry visit memory indexes = filter_map (λ index. option_and_then (entry index) (step_at visit memory index)) indexes

-- the lists have the indexes in their order, each in the list that the step of its packet names
pub record IsSortedBy (visit : NodeVisit) (memory : List (Option Contents)) (frame : List ℕ) (out : Sorted) : Type 0 where
  pub next : out.next ≡ entries next_entry visit memory frame
  pub tx : out.tx ≡ entries tx_entry visit memory frame
  pub drops : out.drops ≡ entries drop_entry visit memory frame
  pub hands : out.hands ≡ entries hand_entry visit memory frame

-- each index has the packet after its visit, with the same legs, over the same chain; every other index has what it had; as many are live as before
pub record IsVisitedBy (visit : NodeVisit) (frame : List ℕ) (old new : List (Option Contents)) : Type 0 where
  pub visited : AllByRecursion (λ index. buffer_at new index ≡ option_map (after_visit visit) (buffer_at old index)) frame
  pub others : (index : ℕ) → AllByRecursion (λ other. other ≢ index) frame → buffer_at new index ≡ buffer_at old index
  pub count : count new ≡ count old
