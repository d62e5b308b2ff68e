-- What a worker has under way and has kept, and how it changes while packets go from node to node.
use Rattle.std.specs.Prelude.{◌≡◌, ℕ, ◌+◌, ◌<◌, ◌≤◌, ◌^◌, ◌==◌, List, [], ◌∷◌, ◌++◌, length, map, slice_index, None, vec_len, vec_capacity, if◌then◌else◌}
use Rattle.std.specs.Option.{option_to_list}
use Rattle.std.specs.List.{AllByRecursion, sum_by, count_by, filter_map}
use Rattle.vg_model.specs.declared.kinds.DropError.{DropError}
use Rattle.vg_model.specs.declared.kinds.Step.{Step}
use Rattle.vg_model.specs.declared.kinds.Step.TheVariants.{Next, Tx, Dropped, Hand}
use Rattle.vg_model.specs.declared.fates.End.{End}
use Rattle.vg_model.specs.declared.fates.End.TheVariants as ends
use Rattle.vg_model.specs.Errors.{error_number}
use Rattle.vg_model.specs.Graph.{kind_at, error_drop}
use Rattle.vg_model.specs.Valid.{IsTarget, IsStepOf}
use Rattle.vg_model.specs.Edit.{most_nodes, most_interfaces}
use Rattle.vg_model.specs.Leg as legs
use Rattle.vg_model.specs.Count.{is_drop, is_sent_on}
use Rattle.vg_model.specs.PoolBook.{CacheBook}
use Rattle.vg_pool.specs.Contents.{Contents, AreContents}
use Rattle.vg_pool.specs.Moves.{most_cached}
use Rattle.vg_frame.specs.Pending.{pending_at, pending_count}
use Rattle.vg_frame.specs.Placed.{count, most_placed, Changes, IsLive}
use Rattle.vg_counters.specs.Tally.{Tally, IsWhole, IsSameSize, more_at, drops_at, one_drop_more}
use Rattle.vg_nodes.specs.declared.sorted.Sorted.{Sorted}
use Rattle.vg_underway.specs.declared.underway.Work.{Work}
use Rattle.vg_model.specs.declared.fates.Fate.{Fate}
use Rattle.vg_journeys.specs.Ended.{Ended, fate_of, sent_of}
use Rattle.vg_journeys.specs.Trips.{Arrival, last_generation}
use Rattle.vg_journeys.specs.Turns.{Settled, settled_log, settled_sent, settled_pieces, settled_visits, MayBeRefused}
use Rattle.vg_journeys.specs.Accounts.{drawn_pieces}
use Rattle.vg_underway.specs.SentEntries.{sent_by, AreWithin}
use Rattle.vg_underway.specs.Underway.{Setting, Weights, counts_from, contents_at, live_at, waiting, in_hand, arrival_owed}
use Rattle.vg_underway.specs.Places.{times_waiting, times_in_hand}
use Rattle.vg_underway.specs.Traced.{leg_place, noted_end, StayTraced}

-- what is counted with these ends, and what is still to be counted for the packets that wait
unfoldable pub total : Setting → Weights → Work → List Ended → ℕ
total s t w ended = sum_by t.ends ended + counts_from t.visits 0 w.counts.visits + waiting s t w.memory w.pending

-- the indexes that a dispatch has sorted, each with its step
abbrev pub next_step : ℕ × ℕ → ℕ × Step
next_step p = (p.0, Next p.1)

abbrev pub tx_step : ℕ × ℕ → ℕ × Step
tx_step p = (p.0, Tx p.1)

abbrev pub drop_step : ℕ × DropError → ℕ × Step
drop_step p = (p.0, Dropped p.1)

abbrev pub hand_step : ℕ × ℕ → ℕ × Step
hand_step p = (p.0, Hand p.1)

abbrev pub hand_of : Sorted → List (ℕ × Step)
hand_of sorted = map next_step sorted.next ++ (map tx_step sorted.tx ++ (map drop_step sorted.drops ++ map hand_step sorted.hands))

-- without those that go on; nor those that are transmitted; nor those that are dropped
abbrev pub without_next : Sorted → List (ℕ × Step)
without_next sorted = map tx_step sorted.tx ++ (map drop_step sorted.drops ++ map hand_step sorted.hands)

abbrev pub without_tx : Sorted → List (ℕ × Step)
without_tx sorted = map drop_step sorted.drops ++ map hand_step sorted.hands

abbrev pub without_drops : Sorted → List (ℕ × Step)
without_drops sorted = map hand_step sorted.hands

-- the step is one of a node
abbrev pub IsStepIn : Setting → ℕ → ℕ × Step → Type 0
IsStepIn s node p = IsStepOf s.graph (kind_at s.graph node) p.1

-- each buffer stands in one place: it waits for a node, or is in hand after a visit of this one
pub record IsHeld (s : Setting) (node : ℕ) (w : Work) (hand : List (ℕ × Step)) : Type 0 where
  pub nodes : length w.pending ≡ most_nodes
  pub places : (index : ℕ) → times_waiting index w.pending + times_in_hand index hand ≡ live_at w.memory index
  pub count_is : pending_count w.pending + length hand ≡ count w.memory
  pub few : count w.memory ≤ most_placed
  pub targets : (n : ℕ) → 0 < length (pending_at w.pending n) → IsTarget (kind_at s.graph n)
  pub steps : AllByRecursion (IsStepIn s node) hand
  pub sound : (index : ℕ) → AreContents (contents_at w.memory index)
  -- the last leg of each is under the generation
  pub legs : (index : ℕ) → IsLive w.memory index → (1 ≤ length (contents_at w.memory index).legs) × (last_generation (contents_at w.memory index).legs ≡ s.generation)
  pub visits : length w.counts.visits ≡ most_nodes
  pub sends : length w.counts.sends ≡ most_interfaces
  pub whole : IsWhole w.counts
  pub within : AreWithin w.entries.items w.bytes.items

-- how many bytes are sent of a packet
abbrev pub sent_bytes_of : List ℕ → legs.Outcome → ℕ
sent_bytes_of bytes (legs.Sent interface) = length bytes
sent_bytes_of bytes (legs.Dropped node error) = 0
sent_bytes_of bytes (legs.Handed node worker) = 0

abbrev pub sent_len : Ended → ℕ
sent_len e = sent_bytes_of e.contents.packet.bytes e.outcome

-- bytes that are sent
abbrev pub by_bytes : Weights
by_bytes = record { visits = λ node. 0; ends = sent_len }

-- buffers of chains: each packet has its chain until its leg is over
abbrev pub by_pieces : Weights
by_pieces = record { visits = λ node. 0; ends = λ e. e.contents.pieces }

-- visits of one node
abbrev pub by_visits : ℕ → Weights
by_visits node = record { visits = λ n. if n == node then 1 else 0; ends = λ e. 0 }

-- all visits
abbrev pub by_all_visits : Weights
by_all_visits = record { visits = λ n. 1; ends = λ e. 0 }

-- how many visits are counted in all
abbrev pub visits_in_all : Tally → ℕ
visits_in_all tally = counts_from (λ n. 1) 0 tally.visits

-- how many visits are still to come
abbrev pub visits_left : Setting → Work → ℕ
visits_left s w = waiting s by_all_visits w.memory w.pending

-- there is room for all that is still to come
pub record HasRoom (s : Setting) (node : ℕ) (w : Work) (hand : List (ℕ × Step)) : Type 0 where
  pub fates : length w.fates.items + count w.memory ≤ w.fates.room
  pub entries : vec_len w.entries + count w.memory ≤ vec_capacity w.entries
  pub bytes : vec_len w.bytes + (waiting s by_bytes w.memory w.pending + in_hand s by_bytes node w.memory hand) ≤ vec_capacity w.bytes
  pub visits : (n : ℕ) → total s (by_visits n) w [] + in_hand s (by_visits n) node w.memory hand + count w.memory < 2 ^ 62
  pub drops : (n error : ℕ) → drops_at n error w.counts.drops + count w.memory < 2 ^ 63
  pub sends : (interface : ℕ) → slice_index w.counts.sends interface + count w.memory < 2 ^ 63

-- while packets go from node to node
pub record IsSteady (s : Setting) (node : ℕ) (w : Work) (hand : List (ℕ × Step)) : Type 0 where
  pub held : IsHeld s node w hand
  pub room : HasRoom s node w hand

-- the ends of packets; how often they visit nodes since a queue refused them, by any way of counting; and how many are logged
abbrev pub ends_of : List Settled → List Ended
ends_of settled = map (λ (x : Settled). x.ended) settled

abbrev pub refused_visits : (ℕ → ℕ) → List Settled → ℕ
refused_visits f settled = sum_by (λ (x : Settled). sum_by f (settled_visits x)) settled

abbrev pub logged_count : List Settled → ℕ
logged_count settled = length (filter_map settled_log settled)

abbrev pub IsRightlyRefused : Settled → Type 0
IsRightlyRefused x = MayBeRefused x.ended.outcome x.refused

-- the packet ended here: on an interface or in a drop
abbrev pub StaysHere : legs.Outcome → Type 0
StaysHere (legs.Sent interface) = Unit {0}
StaysHere (legs.Dropped node error) = Unit {0}
StaysHere (legs.Handed node worker) = ⊥

abbrev pub EndsHere : Settled → Type 0
EndsHere x = StaysHere x.ended.outcome × (x.refused ≡ None)

-- what was kept and counted from one moment to another, in which these packets came, and these were settled
pub record Advances (s : Setting) (node : ℕ) (arrivals : List Arrival) (settled : List Settled) (old : Work) (old_hand : List (ℕ × Step)) (new : Work) (new_hand : List (ℕ × Step)) : Type 0 where
  pub same : (t : Weights) → total s t new (ends_of settled) + in_hand s t node new.memory new_hand
      ≡ total s t old [] + in_hand s t node old.memory old_hand + sum_by (arrival_owed s t) arrivals + refused_visits t.visits settled
  pub may_be : AllByRecursion IsRightlyRefused settled
  pub live : count new.memory + length settled ≡ count old.memory + length arrivals
  pub fates : new.fates.items ≡ old.fates.items ++ filter_map settled_log settled
  pub sent : sent_by new.entries.items new.bytes.items ≡ sent_by old.entries.items old.bytes.items ++ filter_map settled_sent settled
  pub entries_most : vec_len new.entries ≤ vec_len old.entries + length settled
  pub bytes : vec_len new.bytes ≡ vec_len old.bytes + sum_by sent_len (ends_of settled)
  pub room : (old.fates.room ≤ new.fates.room) × (vec_capacity old.entries ≤ vec_capacity new.entries) × (vec_capacity old.bytes ≤ vec_capacity new.bytes)
  pub size : IsSameSize old.counts new.counts
  pub visited : visits_in_all old.counts + refused_visits (λ n. 1) settled ≤ visits_in_all new.counts
  pub drops : (n : ℕ) (error : DropError) → drops_at n (error_number error) new.counts.drops
      ≡ drops_at n (error_number error) old.counts.drops + count_by (λ (f : Fate). is_drop n error f.end) (filter_map settled_log settled)
  pub drops_most : (n error : ℕ) → drops_at n error new.counts.drops ≤ drops_at n error old.counts.drops + length settled
  pub sends : (interface : ℕ) → slice_index new.counts.sends interface
      ≡ slice_index old.counts.sends interface + count_by (λ (f : Fate). is_sent_on interface f.end) (filter_map settled_log settled)

-- a cache gives the chain of each packet that is drawn, and takes back that of each that is logged
pub record Exchanges (arrivals : List Arrival) (settled : List Settled) (old_cache new_cache : CacheBook) : Type 0 where
  pub len : new_cache.len + sum_by drawn_pieces arrivals ≡ old_cache.len + sum_by settled_pieces settled
  pub freed : new_cache.freed ≡ old_cache.freed + sum_by settled_pieces settled
  pub allocated : new_cache.allocated ≡ old_cache.allocated + sum_by drawn_pieces arrivals
  pub taken : new_cache.taken ≡ old_cache.taken
  pub given : new_cache.given ≡ old_cache.given

-- the buffers of the packets that are under way, some of which are in hand after a visit of this node
abbrev pub pieces_held : Setting → ℕ → Work → List (ℕ × Step) → ℕ
pieces_held s node w hand = waiting s by_pieces w.memory w.pending + in_hand s by_pieces node w.memory hand

-- the cache can take all buffers of the worker
pub record TakesAll (s : Setting) (node : ℕ) (w : Work) (hand : List (ℕ × Step)) (cache : CacheBook) : Type 0 where
  pub len : cache.len + pieces_held s node w hand ≤ most_cached
  pub freed : cache.freed + pieces_held s node w hand < 2 ^ 62

-- packets that were in hand are put away, but for those that still are
pub record IsPutAway (s : Setting) (node : ℕ) (old : Work) (old_cache : CacheBook) (old_hand : List (ℕ × Step)) (new : Work) (new_cache : CacheBook) (new_hand : List (ℕ × Step)) : Type 0 where
  pub steady : IsSteady s node new new_hand
  pub takes : TakesAll s node new new_hand new_cache
  pub settled : List Settled
  pub advances : Advances s node [] settled old old_hand new new_hand
  pub exchanges : Exchanges [] settled old_cache new_cache
  pub here : AllByRecursion EndsHere settled
  pub traced : StayTraced s node settled old old_hand new new_hand

-- the counts with one end more
abbrev pub counted_end : End → Tally → Tally
counted_end (ends.Tx interface) tally = record tally { sends = more_at interface 1 tally.sends }
counted_end (ends.Dropped node error) tally = record tally {
  drops = one_drop_more node (error_number error) tally.drops;
  visits = if node == error_drop then tally.visits else more_at error_drop 1 tally.visits;
}

-- the counts have room for one end more
abbrev pub CanCount : End → Tally → Type 0
CanCount (ends.Tx interface) tally = (interface < length tally.sends) × (slice_index tally.sends interface + 1 < 2 ^ 63)
CanCount (ends.Dropped node error) tally = (node < length tally.visits) × (drops_at node (error_number error) tally.drops + 1 < 2 ^ 63)
    × (error_drop < length tally.visits) × (slice_index tally.visits error_drop + 1 < 2 ^ 63)

-- how a leg ends, by what is logged of it
abbrev pub outcome_of : End → legs.Outcome
outcome_of (ends.Tx interface) = legs.Sent interface
outcome_of (ends.Dropped node error) = legs.Dropped node error

-- a packet with this end
abbrev pub ended_with : End → Contents → Ended
ended_with end c = record { outcome = outcome_of end; contents = c }

abbrev pub settled_with : End → Contents → Settled
settled_with end c = record { ended = ended_with end c; refused = None }

-- all that it takes to take the packet of this index out with its end
pub record CanFinish (index : ℕ) (end : End) (w : Work) (cache : CacheBook) : Type 0 where
  pub live : IsLive w.memory index
  pub legs : (1 ≤ length (contents_at w.memory index).legs) × (length (contents_at w.memory index).legs ≤ 4)
  pub fates : length w.fates.items < w.fates.room
  pub entries : vec_len w.entries < vec_capacity w.entries
  pub bytes : vec_len w.bytes + sent_len (ended_with end (contents_at w.memory index)) ≤ vec_capacity w.bytes
  pub within : AreWithin w.entries.items w.bytes.items
  pub counts : CanCount end w.counts
  pub len : cache.len + (contents_at w.memory index).pieces ≤ most_cached
  pub freed : cache.freed < 2 ^ 62

-- the packet of this index is taken out with its end: it is logged and counted, and its bytes are kept where it is transmitted
pub record Finishes (index : ℕ) (end : End) (old new : Work) : Type 0 where
  pub memory : Changes old.memory new.memory index None
  pub count_is : count new.memory + 1 ≡ count old.memory
  pub pending : new.pending ≡ old.pending
  pub fates : new.fates.items ≡ old.fates.items ++ fate_of (ended_with end (contents_at old.memory index)) ∷ []
  pub sent : sent_by new.entries.items new.bytes.items
      ≡ sent_by old.entries.items old.bytes.items ++ option_to_list (sent_of (ended_with end (contents_at old.memory index)))
  pub entries : vec_len new.entries ≤ vec_len old.entries + 1
  pub bytes : vec_len new.bytes ≡ vec_len old.bytes + sent_len (ended_with end (contents_at old.memory index))
  pub room : (old.fates.room ≤ new.fates.room) × (vec_capacity old.entries ≤ vec_capacity new.entries) × (vec_capacity old.bytes ≤ vec_capacity new.bytes)
  pub within : AreWithin new.entries.items new.bytes.items
  pub counts : new.counts ≡ counted_end end old.counts
  pub trace : new.trace ≡ noted_end (contents_at old.memory index).packet.number (leg_place (contents_at old.memory index)) end old.trace
