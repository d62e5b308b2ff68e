-- What a round of a worker does.
use Rattle.std.specs.Prelude.{Bool, false, ◌≡◌, ◌⊎◌, ℕ, ◌+◌, ◌*◌, ◌≤◌, ◌<◌, List, [], ◌++◌, length, Option, None, Some}
use Rattle.std.specs.List.{sum_by, AllByRecursion}
use Rattle.vg_model.specs.declared.fates.Fate.{Fate}
use Rattle.vg_model.specs.Graph.{Graph}
use Rattle.vg_pool.specs.Moves.{most_kept, wanted}
use Rattle.vg_journeys.specs.Trips.{Run, Trip, contents_after}
use Rattle.vg_journeys.specs.Accounts.{HandoffFrame, Adds, frames_with, below as workers_below}
use Rattle.vg_journeys.specs.Counts.{IsCountIn}
use Rattle.vg_journeys.specs.Windows.{mark_behind}
use Rattle.vg_dispatch.specs.declared.parcels.WorkerParcel.{WorkerParcel}
use Rattle.vg_underway.specs.Draws.{AreChained, LacksBuffers}
use Rattle.vg_underway.specs.SentEntries.{sent_size}
use Rattle.vg_underway.specs.Taking.{MayTake}
use Rattle.vg_underway.specs.Queues.{Tries, frame_extent, packets_in, extents_in}
use Rattle.vg_underway.specs.Outlets.{Outlet, outlet_with, most_in_round, IsTicked, Push, ArePushes, if_congested, refused_at, dropped_in, dropped_in_all}
use Rattle.vg_dispatch.specs.Workers.{WorkerSeat, WorkerBook, IsOther, intake_from, account_of}

-- of the frames that were taken of the workers below one
abbrev pub before : (List HandoffFrame → ℕ) → (took : List (List HandoffFrame)) → (from : ℕ) → ℕ
before of took from = sum_by (λ worker. of (frames_with worker took)) (workers_below from)

-- A frame is within the log of a worker, where so many packets with so many bytes came in this round before it. N being the number of
-- packets of the capture: the packets that the worker has ever taken are at most 3 N; the fates that it has logged, the packets of this
-- round and its own packets that aren't drawn yet are at most N; and the bytes that it has sent, and those of these packets with their
-- rooms, are at most those of all packets of the capture with the rooms that they are received with.
pub record IsWithin (w : WorkerBook) (packets bytes : ℕ) (frame : HandoffFrame) : Type 0 where
  pub taken : sum_by packets_in w.taken + packets + length frame.packets ≤ 3 * w.packets
  pub fates : length w.log + packets + length frame.packets + w.own ≤ w.packets
  pub bytes_most : sum_by sent_size w.sent + bytes + frame_extent frame + w.left ≤ w.bytes

-- a round may take this frame of a worker, where it took these of the workers below
abbrev pub MayTakeFrom : Graph → (generation : ℕ) → WorkerBook → (took : List (List HandoffFrame)) → (from : ℕ) → HandoffFrame → Type 0
MayTakeFrom g generation w took from frame = MayTake g generation frame × IsWithin w (before packets_in took from) (before extents_in took from) frame

-- the cache has no more buffers than it may keep, and each handoff has room for all that a round may bring
abbrev pub IsOpen : WorkerBook → (handoffs : ℕ → Outlet) → Type 0
IsOpen w handoffs = (w.cache.len ≤ most_kept) × ((to : ℕ) → IsOther w to → most_in_round w.options.workers ≤ (handoffs to).room)

-- and no gate is closed
abbrev pub MayDraw : WorkerBook → (handoffs : ℕ → Outlet) → Type 0
MayDraw w handoffs = IsOpen w handoffs × ((to : ℕ) → IsOther w to → (handoffs to).closed ≡ false)

-- what is logged of the packet of a trip that ends at the queue to this worker, which refused it, by any way of counting
abbrev pub trip_refused_at : (count : Fate → ℕ) (to : ℕ) → Trip → ℕ
trip_refused_at count to trip = refused_at count to (contents_after trip) trip.way.outcome trip.refused

-- A round under a graph and its generation, as far as this limit.
pub record IsRoundOf (run : Run) (lossless : Bool) (g : Graph) (generation limit : ℕ) (old new : WorkerBook) : Type 0 where
  -- first its handoffs tick
  pub ticked : ℕ → Outlet
  pub ticks : (to : ℕ) → IsTicked old.options.queue lossless (frames_with to old.put) (outlet_with to old.outlets) (ticked to)
  -- after that it looks for a frame of every other worker, the lowest number first, where every handoff has room for a round and the cache
  -- has no more buffers than it may keep
  pub took : List (List HandoffFrame)
  pub taken : (from : ℕ) → frames_with from new.taken ≡ frames_with from old.taken ++ frames_with from took
  pub one : (from : ℕ) → length (frames_with from took) ≤ 1
  pub may : (from : ℕ) → AllByRecursion (MayTake g generation) (frames_with from took)
  pub tries : IsOpen old ticked → (from : ℕ) → IsOther old from → Tries (MayTakeFrom g generation old took from) (intake_from old from) (frames_with from took) (intake_from new from)
  pub passes : (IsOpen old ticked → ⊥) → (from : ℕ) → IsOther old from → (frames_with from took ≡ []) × (intake_from new from ≡ intake_from old from)
  -- its cache takes so many buffers of the pool, where it may lack some for the longest packet
  pub filled : ℕ
  pub refill : filled ≤ wanted old.cache
  pub cached : new.cache.taken ≡ old.cache.taken + filled
  -- where it may draw, it draws its next packets below the limit, as many as the burst allows, up to one that takes more buffers than the
  -- cache then has; or else none
  pub draws : ℕ
  pub burst : draws ≤ old.options.burst
  pub left : ℕ
  pub buffers : AreChained old.options.workers old.mark draws run.packets (old.cache.len + filled) left
  pub mark : new.mark ≡ mark_behind old.options.workers old.mark draws
  pub below : (k : ℕ) → k < draws → mark_behind old.options.workers old.mark k < limit
  pub all : MayDraw old ticked → draws < old.options.burst → (limit ≤ new.mark) ⊎ LacksBuffers run.packets new.mark left
  pub none : (MayDraw old ticked → ⊥) → draws ≡ 0
  -- each packet that came goes through one leg, under this generation; it is logged, or stands in a frame that was accepted; nothing else
  -- is logged, put, counted or noted
  pub trips : List Trip
  pub adds : Adds run (account_of old) (account_of new) trips
  pub under : AllByRecursion (λ (trip : Trip). trip.generation ≡ generation) trips
  pub counts : AllByRecursion (λ (trip : Trip). IsCountIn old.options.queue lossless old.put new.put trip.way.outcome trip.refused) trips
  -- what it pushed to each other worker: frames that were accepted, and frames that came back
  pub pushes : ℕ → List Push
  pub made : (to : ℕ) → ArePushes old.options.queue lossless (frames_with to old.put) (ticked to) (pushes to) (frames_with to new.put) (outlet_with to new.outlets)
  pub pushed : ℕ → List HandoffFrame
  pub put : (to : ℕ) → frames_with to new.put ≡ frames_with to old.put ++ pushed to
  -- the fates with a count are those of the packets of frames that came back, each with the count that came back with its frame; and the
  -- packets whose ways end at the queue to a worker, which refused them, are just those of the frames that came back from it
  pub logged : List Fate
  pub log : new.log ≡ old.log ++ logged
  pub dropped : (count : Fate → ℕ) → sum_by (if_congested count) logged ≡ dropped_in_all count old.options.workers pushes
  pub refused : (to : ℕ) (count : Fate → ℕ) → sum_by (trip_refused_at count to) trips ≡ dropped_in count (pushes to)

-- a round under the parcel of a seat, up to this limit
abbrev pub RoundsWith : Run → (lossless : Bool) → Option WorkerParcel → (limit : ℕ) → (old new : WorkerBook) → Type 0
RoundsWith run lossless None limit old new = ⊥
RoundsWith run lossless (Some parcel) limit old new = IsRoundOf run lossless parcel.fork.graph parcel.fork.generation limit old new

abbrev pub RoundsAt : Run → (lossless : Bool) → Option WorkerSeat → (limit : ℕ) → (old new : WorkerBook) → Type 0
RoundsAt run lossless None limit old new = ⊥
RoundsAt run lossless (Some seat) limit old new = RoundsWith run lossless seat.parcel limit old new
