-- How a worker takes frames that others handed over.
use Rattle.std.specs.Prelude.{◌≡◌, ℕ, ◌+◌, ◌*◌, ◌<◌, ◌≤◌, ◌^◌, List, [], ◌∷◌, ◌++◌, length, flat_map, vec_len}
use Rattle.std.specs.List.{AllByRecursion}
use Rattle.vg_model.specs.Graph.{Graph}
use Rattle.vg_model.specs.PoolBook.{CacheBook, most_pieces}
use Rattle.vg_pool.specs.Moves.{most_cached}
use Rattle.vg_hands.specs.Handed.{most_handed, IsHandFrame}
use Rattle.vg_journeys.specs.Trips.{Arrival}
use Rattle.vg_journeys.specs.Accounts.{HandoffFrame, arrivals_in}
use Rattle.vg_underway.specs.declared.underway.Work.{Work}
use Rattle.vg_underway.specs.declared.taking.Bounds.{Bounds}
use Rattle.vg_underway.specs.declared.taking.Came.{Came}
use Rattle.vg_underway.specs.Queues.{Queue, intake_of, Tries, frame_extent, packets_in, extents_in}
use Rattle.vg_underway.specs.Underway.{Setting}
use Rattle.vg_underway.specs.Draws.{IsHandoff, IsEntered, arrivals_extent}

-- a frame that may be taken under this graph and this generation: it isn't of a later one, and a handoff node of the graph put it
pub record MayTake (g : Graph) (generation : ℕ) (frame : HandoffFrame) : Type 0 where
  pub kept : IsHandFrame frame
  pub earlier : frame.generation ≤ generation
  pub node : IsHandoff g frame.node

-- A frame is within the log, where so many packets with so many bytes came in this round before it. N being the number of packets of the
-- run: the packets that the worker has ever taken are at most 3 N; the fates that it has logged, the packets of this round and its own
-- packets that aren't drawn yet are at most N; and the bytes that it has sent, and those of these packets with their rooms, are at most
-- those of all packets of the run with the rooms that they are received with.
pub record IsWithinLog (bounds : Bounds) (came : Came) (logged kept : ℕ) (frame : HandoffFrame) : Type 0 where
  pub taken : bounds.taken + came.count + length frame.packets ≤ 3 * bounds.packets
  pub fates : logged + came.count + length frame.packets + bounds.own ≤ bounds.packets
  pub bytes_most : kept + came.bytes + frame_extent frame + bounds.left ≤ bounds.bytes

-- how the packets of frames come, by the queue from which
abbrev pub taken_arrivals : ℕ → List (List HandoffFrame) → List Arrival
taken_arrivals worker took = flat_map (λ frames. arrivals_in worker frames) took

-- queues from which these frames were taken, as far as the list goes; the others are as they were
abbrev pub AreTaken : (old new : List Queue) → List (List HandoffFrame) → Type 0
AreTaken [] [] [] = Unit {0}
AreTaken [] [] (t ∷ ts) = ⊥
AreTaken [] (n ∷ ns) took = ⊥
AreTaken (o ∷ os) [] took = ⊥
AreTaken (o ∷ os) (n ∷ ns) [] = (n ≡ o) × AreTaken os ns []
AreTaken (o ∷ os) (n ∷ ns) (t ∷ ts) = (n.ring ≡ o.ring) × (n.taken ≡ o.taken ++ t) × AreTaken os ns ts

-- a frame that may be taken where so many packets with so many bytes came in this round before it
abbrev pub MayComeNext : Setting → Bounds → (logged kept packets bytes : ℕ) → HandoffFrame → Type 0
MayComeNext s bounds logged kept packets bytes frame = MayTake s.graph s.generation frame × IsWithinLog bounds (record { count = packets; bytes = bytes }) logged kept frame

-- a frame of each queue was tried, as far as the list goes, one queue after the other, where so many packets with so many bytes came before
abbrev pub AreTried : (may : (packets bytes : ℕ) → HandoffFrame → Type 0) (packets bytes : ℕ) (old new : List Queue) → List (List HandoffFrame) → Type 0
AreTried may packets bytes old new [] = Unit {0}
AreTried may packets bytes [] new (t ∷ ts) = ⊥
AreTried may packets bytes (o ∷ os) [] (t ∷ ts) = ⊥
AreTried may packets bytes (o ∷ os) (n ∷ ns) (t ∷ ts) =
    Tries (may packets bytes) (intake_of o) t (intake_of n) × AreTried may (packets + packets_in t) (bytes + extents_in t) os ns ts

-- the most buffers of a frame
abbrev pub most_in_frame : ℕ
most_in_frame = most_pieces * most_handed

-- a cache that has room for the buffers of so many frames
pub record IsSmall (frames : ℕ) (cache : CacheBook) : Type 0 where
  pub len : cache.len + most_in_frame * frames ≤ most_cached
  pub allocated : cache.allocated < 2 ^ 61
  pub freed : cache.freed < 2 ^ 61

-- a frame was tried of each queue: one at most was taken, which might be, within the log
pub record TakesFrames (s : Setting) (bounds : Bounds) (tried : ℕ) (old : Work) (queues : List Queue) (new : Work) (new_queues : List Queue) (came : Came) : Type 0 where
  pub took : List (List HandoffFrame)
  pub size : length took ≡ tried
  pub one : AllByRecursion (λ (frames : List HandoffFrame). length frames ≤ 1) took
  pub may : AllByRecursion (AllByRecursion (MayTake s.graph s.generation)) took
  pub taken : AreTaken queues new_queues took
  pub tries : AreTried (MayComeNext s bounds (length old.fates.items) (vec_len old.bytes)) 0 0 queues new_queues took
  pub entered : (cache : CacheBook) → IsSmall tried cache → IsEntered s (taken_arrivals s.worker took) old cache new cache
  pub count_is : length (taken_arrivals s.worker took) ≡ came.count
  pub bytes_is : arrivals_extent (taken_arrivals s.worker took) ≡ came.bytes
  pub few : came.count ≤ 256 * length took
  pub within : bounds.taken + came.count ≤ 3 * bounds.packets
  pub fates : length old.fates.items + came.count + bounds.own ≤ bounds.packets
  pub bytes_most : vec_len old.bytes + came.bytes + bounds.left ≤ bounds.bytes
