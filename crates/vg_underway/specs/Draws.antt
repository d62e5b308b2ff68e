-- How a worker draws packets of its capture.
use Rattle.std.specs.Prelude.{◌≡◌, ℕ, zero, suc, ◌+◌, ◌*◌, ◌<◌, ◌≤◌, ◌^◌, List, [], ◌∷◌, ◌++◌, length, slice_index, slice_index_or, slice_set, None, Some, nat_lt, vec_len, vec_capacity, if◌then◌else◌}
use Rattle.std.specs.List.{sum_by, AllByRecursion, flat_map}
use Rattle.vg_model.specs.declared.kinds.DropError.TheVariants.{TooLong}
use Rattle.vg_model.specs.declared.kinds.HashKind.{HashKind}
use Rattle.vg_model.specs.declared.kinds.Kind.TheVariants as kinds
use Rattle.vg_model.specs.declared.fates.Leg.{Leg}
use Rattle.vg_model.specs.declared.fates.End.TheVariants.{Dropped}
use Rattle.vg_model.specs.declared.fates.Fate.{Fate}
use Rattle.vg_model.specs.Packet.{fresh}
use Rattle.vg_model.specs.Valid.{extent}
use Rattle.vg_model.specs.Graph.{Graph, arc, kind_at, pg_input}
use Rattle.vg_model.specs.Leg.{first_slot}
use Rattle.vg_model.specs.Journey.{longest_packet}
use Rattle.vg_model.specs.PoolBook.{CacheBook, pieces_of}
use Rattle.vg_pool.specs.Moves.{most_cached}
use Rattle.vg_frame.specs.Pending.{pending_at, pending_count, most_pending, IsNothingPending}
use Rattle.vg_frame.specs.Placed.{buffer_at, count, most_placed, Changes, IsLive}
use Rattle.vg_model.specs.Edit.{most_nodes, most_interfaces}
use Rattle.vg_counters.specs.Tally.{Tally, IsWhole, more_at, drops_at}
use Rattle.vg_pool.specs.Contents.{Contents}
use Rattle.vg_journeys.specs.Trips.{Arrival, Drawn, Taken, pieces_before}
use Rattle.vg_journeys.specs.Turns.{Settled, IsSoundArrival, ComesFrom, arrival_is_of, settled_noted}
use Rattle.vg_journeys.specs.Accounts.{drawn_pieces}
use Rattle.vg_journeys.specs.Windows.{next_draws, mark_behind}
use Rattle.vg_capture.specs.declared.captures.Captured.{Captured}
use Rattle.vg_underway.specs.OwnPackets.{frames_of}
use Rattle.vg_underway.specs.declared.underway.Work.{Work}
use Rattle.vg_underway.specs.SentEntries.{AreWithin}
use Rattle.vg_underway.specs.Underway.{Setting, contents_at}
use Rattle.vg_counters.specs.Notes.{noted}
use Rattle.vg_underway.specs.Traced.{IsNotes, IsTraced, seen, leg_place, noted_end}
use Rattle.vg_underway.specs.Works.{IsHeld, Advances, Exchanges, EndsHere, CanCount, counted_end}

-- the counts with one visit of a node more
abbrev pub with_visit : ℕ → Tally → Tally
with_visit node tally = record tally { visits = more_at node 1 tally.visits }

abbrev pub with_source : Tally → Tally
with_source tally = with_visit pg_input tally

-- all that it takes to bring in one packet more at this node
pub record CanEnter (first : ℕ) (w : Work) : Type 0 where
  pub source : (first < length w.counts.visits) × (slice_index w.counts.visits first + 1 < 2 ^ 63)
  pub memory : count w.memory < most_placed
  pub pending : pending_count w.pending < most_pending

-- and to draw it, where its chain was taken out of the cache
pub record CanDraw (pieces : ℕ) (w : Work) (cache : CacheBook) : Type 0 where
  pub len : cache.len + pieces ≤ most_cached
  pub freed : cache.freed < 2 ^ 62
  pub fates : length w.fates.items < w.fates.room
  pub counts : CanCount (Dropped pg_input TooLong) (with_source w.counts)
  pub enter : CanEnter pg_input w

-- what is logged of a packet that is too long
abbrev pub too_long : ℕ → Leg → Fate
too_long number leg = record { number = number; legs = leg ∷ []; congested = None; end = Dropped pg_input TooLong }

-- a packet that is too long is dropped as it is drawn, and its one buffer is given back
pub record DrawsLong (leg : Leg) (number : ℕ) (old new : Work) (old_cache new_cache : CacheBook) : Type 0 where
  pub fates : new.fates.items ≡ old.fates.items ++ too_long number leg ∷ []
  pub room : new.fates.room ≡ old.fates.room
  pub rest : new ≡ record old {
    fates = new.fates;
    counts = counted_end (Dropped pg_input TooLong) (with_source old.counts);
    trace = noted_end number 0 (Dropped pg_input TooLong) (noted number 0 pg_input old.trace);
  }
  pub cache : new_cache ≡ record old_cache { len = old_cache.len + 1; freed = old_cache.freed + 1 }

-- a packet is placed in a buffer, with a visit of one node, and waits for the node to which the first slot of another leads
pub record Enters (g : Graph) (first via : ℕ) (c : Contents) (old new : Work) : Type 0 where
  pub to : ℕ
  pub leads : arc g via first_slot ≡ Some to
  pub index : ℕ
  pub vacant : buffer_at old.memory index ≡ None
  pub placed : Changes old.memory new.memory index (Some c)
  pub count_is : count new.memory ≡ count old.memory + 1
  pub rest : new ≡ record old {
    memory = new.memory;
    pending = slice_set old.pending to (pending_at old.pending to ++ index ∷ []);
    counts = with_visit first old.counts;
    trace = noted c.packet.number (leg_place c) first old.trace;
  }

-- a packet that isn't too long is drawn
pub record DrawsShort (g : Graph) (leg : Leg) (number : ℕ) (bytes : List ℕ) (old new : Work) (old_cache new_cache : CacheBook) : Type 0 where
  pub enters : Enters g pg_input pg_input (record { packet = fresh number bytes; legs = leg ∷ []; pieces = pieces_of (length bytes) }) old new
  pub cache : new_cache ≡ old_cache

-- a node that hands packets over to other workers
abbrev pub IsHandoff : Graph → ℕ → Type 0
IsHandoff g node = (hash : HashKind) × (kind_at g node ≡ Some (kinds.WorkerHandoff hash))

-- the buffers that a packet has once it is drawn: none where it is too long, since it is dropped as it is drawn
abbrev pub kept_pieces : Arrival → ℕ
kept_pieces (Drawn number bytes) = if nat_lt longest_packet (length bytes) then 0 else pieces_of (length bytes)
kept_pieces (Taken worker node c) = c.pieces

-- the packet of this number takes more buffers than a cache has
abbrev pub LacksBuffers : (packets : List (List ℕ)) (number cached : ℕ) → Type 0
LacksBuffers packets number cached = cached < pieces_of (length (slice_index_or packets number []))

-- So many packets, from a mark on, are drawn out of a cache of so many buffers: it has the buffers of each, and afterwards what is left.
pub record AreChained (workers mark count : ℕ) (packets : List (List ℕ)) (cached left : ℕ) : Type 0 where
  pub each : (k : ℕ) → k < count → sum_by kept_pieces (next_draws workers mark k packets) + pieces_of (length (slice_index_or packets (mark_behind workers mark k) [])) ≤ cached
  pub left_is : left + sum_by kept_pieces (next_draws workers mark count packets) ≡ cached

-- how long packets that come and their rooms are together: their leg makes that no more, so no more bytes of them are sent
abbrev pub arrival_extent : Arrival → ℕ
arrival_extent (Drawn number bytes) = extent (fresh number bytes)
arrival_extent (Taken worker node c) = extent c.packet

abbrev pub arrivals_extent : List Arrival → ℕ
arrivals_extent arrivals = sum_by arrival_extent arrivals

-- no packet counts more visits than the nodes, the node with which its leg begins, and that which drops, for its leg and for a refusal
abbrev pub most_visits : ℕ
most_visits = 67

-- the most packets that come in a round
abbrev pub most_arrivals : ℕ
most_arrivals = 2304

-- nothing is under way, and there is room for these packets
pub record IsReady (arrivals : List Arrival) (w : Work) (cache : CacheBook) : Type 0 where
  pub nodes : length w.pending ≡ most_nodes
  pub none : IsNothingPending w.pending
  pub empty : (index : ℕ) → buffer_at w.memory index ≡ None
  pub no_buffer : count w.memory ≡ 0
  pub visits : length w.counts.visits ≡ most_nodes
  pub sends : length w.counts.sends ≡ most_interfaces
  pub whole : IsWhole w.counts
  pub within : AreWithin w.entries.items w.bytes.items
  pub few : length arrivals ≤ most_arrivals
  pub fates : length w.fates.items + length arrivals ≤ w.fates.room
  pub entries_room : vec_len w.entries + length arrivals ≤ vec_capacity w.entries
  pub bytes : vec_len w.bytes + arrivals_extent arrivals ≤ vec_capacity w.bytes
  pub can_visit : (node : ℕ) → slice_index w.counts.visits node + most_visits * length arrivals < 2 ^ 61
  pub can_drop : (node error : ℕ) → drops_at node error w.counts.drops + length arrivals < 2 ^ 61
  pub can_send : (interface : ℕ) → slice_index w.counts.sends interface + length arrivals < 2 ^ 61
  -- room in the cache for the buffers of those that were handed over
  pub cached : cache.len + sum_by pieces_before arrivals ≤ most_cached + sum_by drawn_pieces arrivals
  pub allocated : cache.allocated < 2 ^ 61
  pub freed : cache.freed < 2 ^ 61
  pub is_notes : IsNotes w.trace

-- these packets came
pub record IsEntered (s : Setting) (arrivals : List Arrival) (old : Work) (old_cache : CacheBook) (new : Work) (new_cache : CacheBook) : Type 0 where
  pub held : IsHeld s 0 new []
  pub settled : List Settled
  pub advances : Advances s 0 arrivals settled old [] new []
  pub exchanges : Exchanges arrivals settled old_cache new_cache
  pub sound : AllByRecursion IsSoundArrival arrivals
  pub from : AllByRecursion (ComesFrom s.graph) arrivals
  pub traced : IsTraced s (seen s old.trace arrivals arrivals) (length old.trace) 0 new []
  pub here : AllByRecursion EndsHere settled
  pub nothing_refused : (number leg : ℕ) → flat_map (settled_noted number leg) settled ≡ []
  -- those under way are among them
  pub among : (index : ℕ) → IsLive new.memory index → 0 < sum_by (arrival_is_of (contents_at new.memory index).packet.number (leg_place (contents_at new.memory index))) arrivals

-- some packets came since a moment at which nothing was under way, and these are still to come
pub record IsUnderway (s : Setting) (arrivals : List Arrival) (w : Work) (cache : CacheBook) : Type 0 where
  pub before : List Arrival
  pub start : Work
  pub start_cache : CacheBook
  pub ready : IsReady (before ++ arrivals) start start_cache
  pub entered : IsEntered s before start start_cache w cache

-- so many packets, from a mark on, each as many numbers behind the one before as there are workers, are below a limit
abbrev pub AreBelow : (workers mark limit count : ℕ) → Type 0
AreBelow workers mark limit zero = Unit {0}
AreBelow workers mark limit (suc count) = (mark < limit) × AreBelow workers (mark + workers) limit count

-- some packets came since a moment at which nothing was under way, and there was room for own packets of the worker below the limit, at
-- most so many
pub record CanDrawOwn (s : Setting) (mark limit most : ℕ) (packets : List Captured) (w : Work) (cache : CacheBook) : Type 0 where
  pub before : List Arrival
  pub start : Work
  pub start_cache : CacheBook
  pub ready : (count : ℕ) → count ≤ most → AreBelow s.workers mark limit count → IsReady (before ++ next_draws s.workers mark count (frames_of packets)) start start_cache
  pub entered : IsEntered s before start start_cache w cache
