-- For the clauses `work` and `round` of `Worker::round` and `worker` of `Worker::new`, in vg_dispatch, and for `Work::take_frames`: from one rest of a worker
-- to the next.
use Rattle.std.proofs.Common.{◌≡◌, ℕ, zero, suc, ◌+◌, ◌-◌, ◌*◌, ◌<◌, ◌≤◌, ◌^◌, cond, List, [], ◌∷◌, ◌++◌, length, get_or, refl, sym, ap, subst, ◌∙◌, arith, append_assoc, length-append}
use Rattle.std.specs.Prelude.{Bool, Option, Some, None, is_some, option_map, unwrap_or, slice_index, replicate, Vec, vec_len, flat_map, ◌==◌, if◌then◌else◌}
use Rattle.std.specs.Option.{option_to_list}
use Rattle.vg_model.specs.Journey.{sent_as}
use Rattle.vg_underway.proofs.DeliverLemmas.{delivers_then, delivers_nothing, refusals_of, queues_grow}
use Rattle.std.specs.List.{sum_by, count_by, filter_map, cons_option, AllByRecursion}
use Rattle.std.proofs.lemmas.List.{append-nil, length-map}
use Rattle.std.proofs.lemmas.Grind.{flat_map-append}
use Rattle.std.proofs.lemmas.List.Sums.{sum_by-cons, sum_by-append}
use Rattle.vg_model.specs.Graph.{Graph}
use Rattle.vg_model.specs.Leg.{Outcome, Sent, Dropped, Handed, Way}
use Rattle.vg_model.specs.Count.{is_sent_on}
use Rattle.vg_model.specs.PoolBook.{CacheBook}
use Rattle.vg_model.specs.declared.fates.Fate.{Fate}
use Rattle.vg_pool.specs.Contents.{Contents}
use Rattle.vg_pool.specs.Moves.{most_cached}
use Rattle.vg_frame.specs.Pending.{pending_at, pending_count, IsNothingPending}
use Rattle.vg_frame.specs.Placed.{buffer_at, count}
use Rattle.std.specs.declared.alloc.Global.{Global}
use Rattle.std.proofs.lemmas.List.Elements.{All-replicate}
use Rattle.vg_model.specs.Edit.{most_nodes, most_interfaces}
use Rattle.vg_counters.specs.Notes.{nodes_of, nothing_noted}
use Rattle.vg_counters.specs.Tally.{Tally, IsWhole, count_of_errors, drops_at}
use Rattle.vg_journeys.specs.Chains.{count_some}
use Rattle.vg_journeys.specs.Ended.{Ended, ended_by, counted_visits, drop_visits}
use Rattle.vg_journeys.specs.Trips.{Arrival, worker_of, logged_by, IsInTime, pieces_before}
use Rattle.vg_journeys.specs.Accounts.{Account, HandoffFrame, came, drawn_pieces}
use Rattle.vg_journeys.specs.Turns.{Settled, settled_log, settled_sent, settled_noted, arrival_is_of, IsSoundArrival, ComesFrom, MayArrive, IsTurn}
use Rattle.vg_underway.specs.declared.underway.Work.{Work}
use Rattle.vg_underway.specs.declared.sent.SentEntry.{SentEntry}
use Rattle.vg_underway.specs.SentEntries.{sent_by, sent_size, entry_of, AreWithin}
use Rattle.vg_underway.specs.Round.{run_in, place_in}
use Rattle.vg_underway.specs.Underway.{Setting, Weights, IsSetting, way_weight, counts_from, live_at, arrival_way, legs_at, arrival_owed}
use Rattle.vg_underway.specs.Places.{same_one, times_waiting}
use Rattle.vg_underway.specs.Traced.{IsTraced, IsNotes, arrival_nodes, arrival_notes, seen, with_refusals}
use Rattle.vg_underway.specs.Works.{total, IsHeld, Advances, Exchanges, sent_bytes_of, sent_len, ends_of, refused_visits, logged_count, by_bytes, by_visits}
use Rattle.vg_underway.specs.Hands.{Delivers, IsDispatched}
use Rattle.vg_underway.specs.Draws.{IsReady, IsEntered, IsUnderway, arrivals_extent}
use Rattle.vg_underway.specs.Rest.{IsAtRest, IsNew}
use Rattle.vg_underway.proofs.SumLemmas.{sum_from_none, sum_by_same, sum_by_none, counts_from_none, counts_from_at}
use Rattle.vg_underway.proofs.WorkLemmas.{total_of, fates_grow, advances_then, advances_of, exchanges_then, refused_none, refused_most, logged_most, logged_of}
use Rattle.vg_underway.proofs.TraceLemmas.{traced_over}
use Rattle.vg_underway.proofs.EnterTraceLemmas.{once_is}
use Rattle.vg_underway.proofs.KeptLemmas.{came_way}
use Rattle.vg_underway.proofs.DrawLemmas.{nothing_waiting, visits_so_far, bytes_so_far, sum_lengths, entered_none}

-- and none came yet
abbrev pub underway_none : (s : Setting) (arrivals : List Arrival) (w : Work) (cache : CacheBook) → IsReady arrivals w cache → IsUnderway s arrivals w cache
underway_none s arrivals w cache ready = record { before = []; start = w; start_cache = cache; ready = ready; entered = entered_none s arrivals w cache ready }

none_of_live : (o : Option Contents) → ◌≡◌ {A = ℕ} (cond (is_some o) 1 0) 0 → o ≡ None
none_of_live None h = refl
none_of_live (Some c) h = absurd (omega (arith, h))

-- nothing waits, so no index has a buffer
none_left : (s : Setting) (w : Work) → IsHeld s 0 w [] → IsNothingPending w.pending → (i : ℕ) → buffer_at w.memory i ≡ None
none_left s w held none i =
    let places : times_waiting i w.pending + 0 ≡ live_at w.memory i = held.places i in
    let idle : times_waiting i w.pending ≡ 0 = sum_from_none (λ node. same_one i) 0 w.pending none in
    none_of_live (buffer_at w.memory i) (omega (arith, places, idle))

-- nothing waits, so nothing is in the memory
pub no_buffer_left : (s : Setting) (w : Work) → IsHeld s 0 w [] → IsNothingPending w.pending → count w.memory ≡ 0
no_buffer_left s w held none =
    let all_of : pending_count w.pending + 0 ≡ count w.memory = held.count_is in
    let pending_none = sum_lengths w.pending none in
    omega (arith, all_of, pending_none)

-- a whole round: these packets came, and were dispatched until none waited
pub record IsOver (s : Setting) (slots : ℕ) (lossless : Bool) (told : List Settled → Type 0) (arrivals : List Arrival) (old : Work) (old_cache : CacheBook) (old_put : List (List HandoffFrame)) (new : Work) (new_cache : CacheBook) (new_put : List (List HandoffFrame)) : Type 0 where
  pub ready : IsReady arrivals old old_cache
  pub held : IsHeld s 0 new []
  pub none : IsNothingPending new.pending
  pub settled : List Settled
  pub advances : Advances s 0 arrivals settled old [] new []
  pub exchanges : Exchanges arrivals settled old_cache new_cache
  pub delivers : Delivers s slots lossless settled old_put new_put
  pub sound : AllByRecursion IsSoundArrival arrivals
  pub from : AllByRecursion (ComesFrom s.graph) arrivals
  pub size : length new.trace ≡ length old.trace
  pub is_notes : IsNotes new.trace
  pub notes : (number leg : ℕ) → number < length old.trace → sum_by (arrival_is_of number leg) arrivals ≤ 1 → (0 < sum_by (arrival_is_of number leg) arrivals → nodes_of number leg old.trace ≡ [])
      → nodes_of number leg new.trace ≡ nodes_of number leg old.trace ++ (flat_map (arrival_notes s number leg) arrivals ++ flat_map (settled_noted number leg) settled)
  pub tells : told settled

pub round_over : {told all : List Settled → Type 0} (s : Setting) (slots : ℕ) (lossless : Bool) (arrivals : List Arrival) (old mid new : Work) (old_cache mid_cache new_cache : CacheBook)
    (old_put new_put : List (List HandoffFrame)) → IsReady arrivals old old_cache → (entered : IsEntered s arrivals old old_cache mid mid_cache)
    → IsDispatched s slots lossless told mid mid_cache old_put new new_cache new_put → IsNothingPending new.pending → ((settled : List Settled) → told settled → all (entered.settled ++ settled))
    → IsOver s slots lossless all arrivals old old_cache old_put new new_cache new_put
round_over s slots lossless arrivals old mid new old_cache mid_cache new_cache old_put new_put ready entered done none tells =
    let same : arrivals ++ [] ≡ arrivals = append-nil arrivals in
    let advanced : Advances s 0 (arrivals ++ []) (entered.settled ++ done.settled) old [] new [] = advances_then s 0 arrivals [] entered.settled done.settled old mid new [] [] [] entered.advances done.advances in
    let moved : Exchanges (arrivals ++ []) (entered.settled ++ done.settled) old_cache new_cache = exchanges_then arrivals [] entered.settled done.settled old_cache mid_cache new_cache entered.exchanges done.exchanges in
    let traced : IsTraced s (with_refusals done.settled (seen s old.trace arrivals arrivals)) (length old.trace) 0 new [] = done.traced (seen s old.trace arrivals arrivals) (length old.trace) entered.traced in
    record {
      ready = ready;
      held = done.steady.held;
      none = none;
      settled = entered.settled ++ done.settled;
      advances = advances_of s 0 (arrivals ++ []) arrivals (entered.settled ++ done.settled) old new same advanced;
      exchanges = subst (λ es. Exchanges es (entered.settled ++ done.settled) old_cache new_cache) same moved;
      delivers = delivers_then s slots lossless entered.settled done.settled old_put old_put new_put (delivers_nothing s slots lossless entered.settled old_put entered.here) done.delivers;
      sound = entered.sound;
      from = entered.from;
      size = traced.size;
      is_notes = traced.is_notes;
      notes = λ number leg inside few first.
          let yes = once_is (sum_by (arrival_is_of number leg) arrivals) (length (nodes_of number leg old.trace)) few (λ some. ap length (first some)) in
          traced_over s (with_refusals done.settled (seen s old.trace arrivals arrivals)) (length old.trace) new number leg (none_left s new done.steady.held none) inside yes traced
          ∙ append_assoc (nodes_of number leg old.trace) (flat_map (arrival_notes s number leg) arrivals) (flat_map (settled_noted number leg) done.settled)
          ∙ ap (λ ns. nodes_of number leg old.trace ++ (flat_map (arrival_notes s number leg) arrivals ++ ns))
          (sym (flat_map-append (settled_noted number leg) entered.settled done.settled
          ∙ ap (λ ns. ns ++ flat_map (settled_noted number leg) done.settled) (entered.nothing_refused number leg)));
      tells = tells done.settled done.tells;
    }

-- at the end all that is counted came
pub all_counted : {told : List Settled → Type 0} (s : Setting) (slots : ℕ) (lossless : Bool) (t : Weights) (arrivals : List Arrival) (old new : Work) (old_cache new_cache : CacheBook)
    (old_put new_put : List (List HandoffFrame)) → (over : IsOver s slots lossless told arrivals old old_cache old_put new new_cache new_put)
    → sum_by t.ends (ends_of over.settled) + counts_from t.visits 0 new.counts.visits ≡ counts_from t.visits 0 old.counts.visits + sum_by (arrival_owed s t) arrivals + refused_visits t.visits over.settled
all_counted s slots lossless t arrivals old new old_cache new_cache old_put new_put over =
    let a = over.advances in
    let same : total s t new (ends_of over.settled) + 0 ≡ total s t old [] + 0 + sum_by (arrival_owed s t) arrivals + refused_visits t.visits over.settled = a.same t in
    let t1 = total_of s t new (ends_of over.settled) in let t2 = total_of s t old [] in
    let idle = nothing_waiting s t old.memory old.pending over.ready.none in
    let done = nothing_waiting s t new.memory new.pending over.none in
    omega (arith, same, t1, t2, idle, done)

-- each packet that is sent is logged, and what isn't logged goes on
sent_logged : (x : Settled) → length (option_to_list (settled_sent x)) ≤ length (option_to_list (settled_log x))
sent_logged x = by x.ended.outcome x.refused
  where
    by : (outcome : Outcome) (refused : Option ℕ) → length (option_to_list (sent_as x.ended.contents.packet.number x.ended.contents.packet.bytes outcome)) ≤ length (option_to_list (logged_by x.ended.contents outcome refused))
    by (Sent interface) refused = omega arith
    by (Dropped node error) refused = omega arith
    by (Handed node worker) None = omega arith
    by (Handed node worker) (Some count) = omega arith

length_filter : {X Y : Type 0} (f : X → Option Y) (x : X) (xs : List X) → length (filter_map f (x ∷ xs)) ≡ length (option_to_list (f x)) + length (filter_map f xs)
length_filter {X} {Y} f x xs = by (f x)
  where
    by : (o : Option Y) → length (cons_option o (filter_map f xs)) ≡ length (option_to_list o) + length (filter_map f xs)
    by None = omega arith
    by (Some y) = omega arith

pub sent_most : (xs : List Settled) → length (filter_map settled_sent xs) ≤ logged_count xs
sent_most [] = omega arith
sent_most (x ∷ xs) =
    let rest = sent_most xs in let one = sent_logged x in
    omega (arith, rest, one, length_filter settled_sent x xs, length_filter settled_log x xs)

-- the bytes of those that are sent
sent_weight : (xs : List Settled) → sum_by sent_size (filter_map settled_sent xs) ≡ sum_by sent_len (ends_of xs)
sent_weight [] = refl
sent_weight (x ∷ xs) =
    let rest = sent_weight xs in
    by x.ended.outcome (filter_map settled_sent xs) (sum_by sent_len (ends_of xs)) rest ∙ sym (sum_by-cons sent_len x.ended (ends_of xs))
  where
    by : (outcome : Outcome) (more : List (ℕ × List ℕ)) (n : ℕ) → sum_by sent_size more ≡ n
        → sum_by sent_size (cons_option (sent_as x.ended.contents.packet.number x.ended.contents.packet.bytes outcome) more) ≡ sent_bytes_of x.ended.contents.packet.bytes outcome + n
    by (Sent interface) more n e = let s = sum_by-cons sent_size (x.ended.contents.packet.number, x.ended.contents.packet.bytes) more in omega (arith, s, e)
    by (Dropped node error) more n e = omega (arith, e)
    by (Handed node worker) more n e = omega (arith, e)

-- at rest again
pub rest_after : {told : List Settled → Type 0} (s : Setting) (slots : ℕ) (lossless : Bool) (packets bytes came own left n drawn weight new_left : ℕ) (arrivals : List Arrival) (old new : Work) (old_cache new_cache : CacheBook) (old_put new_put : List (List HandoffFrame)) → IsSetting s
    → IsAtRest packets bytes came own left old → length arrivals ≡ n → arrivals_extent arrivals ≤ weight → drawn ≤ own → came + n + (own - drawn) ≤ 4 * packets → length old.fates.items + n + (own - drawn) ≤ packets
    → vec_len old.bytes + weight + new_left ≤ bytes → IsOver s slots lossless told arrivals old old_cache old_put new new_cache new_put → IsAtRest packets bytes (came + n) (own - drawn) new_left new
rest_after s slots lossless packets bytes came own left n drawn weight new_left arrivals old new old_cache new_cache old_put new_put ok rest size heavy part came_few within fits over =
    let a = over.advances in
    let live = a.live in
    let empty = rest.no_buffer in
    let held = over.held in
    let gone : count new.memory ≡ 0 = no_buffer_left s new held over.none in
    let grow = fates_grow s 0 arrivals over.settled old new [] [] a in
    let logged = logged_most over.settled in
    record {
      nodes = held.nodes;
      none = over.none;
      empty = none_left s new held over.none;
      no_buffer = gone;
      visits = held.visits;
      sends = held.sends;
      whole = held.whole;
      within = held.within;
      few = rest.few;
      came_few = came_few;
      logged = omega (arith, grow, logged, live, gone, empty, size, within);
      listed = (let h = rest.listed in let more = sent_most over.settled in
          let e : length (sent_by new.entries.items new.bytes.items) ≡ length (sent_by old.entries.items old.bytes.items) + length (filter_map settled_sent over.settled) =
          ap length a.sent ∙ length-append (sent_by old.entries.items old.bytes.items) (filter_map settled_sent over.settled) in
          let e1 = length-map new.entries.items (entry_of (new.bytes.items ∷ [])) in let e2 = length-map old.entries.items (entry_of (old.bytes.items ∷ [])) in
          let v1 = new.entries.ok.0 in let v2 = old.entries.ok.0 in
          omega (arith, h, more, e, e1, e2, v1, v2, grow));
      fates = (let h = rest.fates in let cap = a.room.0 in omega (arith, h, cap));
      entries = (let h = rest.entries in let cap = a.room.1 in omega (arith, h, cap));
      kept =
          (let e = a.bytes in
          let counted = all_counted s slots lossless by_bytes arrivals old new old_cache new_cache old_put new_put over in
          let c1 = counts_from_none 0 new.counts.visits in let c2 = counts_from_none 0 old.counts.visits in
          let none = refused_none over.settled in
          let most = bytes_so_far s arrivals ok over.sound over.from in
          omega (arith, e, counted, c1, c2, none, most, heavy, fits));
      bytes_room = (let h = rest.bytes_room in let cap = a.room.2 in omega (arith, h, cap));
      sent_is =
          (let h = rest.sent_is in let e = ap (sum_by sent_size) a.sent in let n = a.bytes in
          omega (arith, h, e, n, sum_by-append sent_size (sent_by old.entries.items old.bytes.items) (filter_map settled_sent over.settled), sent_weight over.settled));
      visited = λ node.
          (let h = rest.visited node in
          let counted = all_counted s slots lossless (by_visits node) arrivals old new old_cache new_cache old_put new_put over in
          let nothing_ended = sum_by_none {X = Ended} (ends_of over.settled) in
          let here : counts_from (by_visits node).visits 0 new.counts.visits ≡ slice_index new.counts.visits node = counts_from_at node new.counts.visits in
          let there : counts_from (by_visits node).visits 0 old.counts.visits ≡ slice_index old.counts.visits node = counts_from_at node old.counts.visits in
          let refused = refused_most node over.settled in
          let most = visits_so_far s node arrivals ok over.sound over.from in
          omega (arith, h, counted, nothing_ended, here, there, most, refused, live, gone, empty, size));
      dropped = λ node error. (let h = rest.dropped node error in let e = a.drops_most node error in omega (arith, h, e, live, gone, empty, size));
      sent = λ interface. (let h = rest.sent interface in let e = a.sends interface in let most = logged_of (λ (f : Fate). is_sent_on interface f.end) over.settled in omega (arith, h, e, most, live, gone, empty, size));
      is_notes = over.is_notes;
    }

-- at rest there is room for packets that come
pub ready_of : (packets bytes came own left : ℕ) (arrivals : List Arrival) (w : Work) (cache : CacheBook) → IsAtRest packets bytes came own left w → length arrivals ≤ 2304 → length w.fates.items + length arrivals ≤ packets → vec_len w.bytes + arrivals_extent arrivals ≤ bytes
    → cache.len + sum_by pieces_before arrivals ≤ most_cached + sum_by drawn_pieces arrivals → cache.allocated < 2 ^ 61 → cache.freed < 2 ^ 61 → IsReady arrivals w cache
ready_of packets bytes came own left arrivals w cache rest few within fits cached allocated freed =
    let few_packets = rest.few in
    let came_few = rest.came_few in
    record {
      nodes = rest.nodes;
      none = rest.none;
      empty = rest.empty;
      no_buffer = rest.no_buffer;
      visits = rest.visits;
      sends = rest.sends;
      whole = rest.whole;
      within = rest.within;
      few = few;
      fates = (let cap = rest.fates in omega (arith, cap, within));
      entries_room = (let cap = rest.entries in let listed = rest.listed in omega (arith, cap, listed, within));
      bytes = (let cap = rest.bytes_room in omega (arith, cap, fits));
      can_visit = λ node. (let most_of = rest.visited node in omega (arith, few, most_of, came_few, few_packets));
      can_drop = λ node error. (let most_of = rest.dropped node error in omega (arith, few, most_of, came_few, few_packets));
      can_send = λ interface. (let most_of = rest.sent interface in omega (arith, few, most_of, came_few, few_packets));
      cached = cached;
      allocated = allocated;
      freed = freed;
      is_notes = rest.is_notes;
    }

-- what a packet's leg adds
pub count_end : (s : Setting) (f : Ended → ℕ) (e : Arrival) → arrival_owed s (record { visits = λ n. 0; ends = f }) e ≡ count_some f (option_map (ended_by (legs_at s e) (pieces_before e)) (arrival_way s e))
count_end s f e = by (arrival_way s e)
  where
    by : (o : Option Way) → unwrap_or (option_map (way_weight (record { visits = λ n. 0; ends = f }) (legs_at s e) (pieces_before e)) o) 0 ≡ count_some f (option_map (ended_by (legs_at s e) (pieces_before e)) o)
    by None = refl
    by (Some way) = omega (arith, sum_by_none way.visits, sum_by_none (drop_visits way.outcome))

pub count_visits : (s : Setting) (node : ℕ) (e : Arrival) → arrival_owed s (by_visits node) e ≡ count_by (λ n. n == node) (arrival_nodes s e)
count_visits s node e = by (arrival_way s e)
  where
    by : (o : Option Way) → unwrap_or (option_map (way_weight (by_visits node) (legs_at s e) (pieces_before e)) o) 0 ≡ count_by (λ n. n == node) (unwrap_or (option_map counted_visits o) [])
    by None = refl
    by (Some way) = omega (arith, sum_by-append (λ n. if n == node then 1 else 0) way.visits (drop_visits way.outcome))

pub sum_ends : (f : Ended → ℕ) (xs : List Settled) → sum_by f (ends_of xs) ≡ sum_by (λ (x : Settled). f x.ended) xs
sum_ends f [] = refl
sum_ends f (x ∷ xs) = let rest = sum_ends f xs in omega (arith, rest, sum_by-cons f x.ended (ends_of xs), sum_by-cons (λ (x : Settled). f x.ended) x xs)

pub may_enter : (s : Setting) (graphs : List Graph) (slots : ℕ) (first : ℕ → ℕ) (packets : List (List ℕ)) (arrivals : List Arrival) → IsSetting s → AllByRecursion IsSoundArrival arrivals → AllByRecursion (ComesFrom s.graph) arrivals
    → AllByRecursion (λ e. s.worker ≡ worker_of s.workers e) arrivals → AllByRecursion (IsInTime first s.generation) arrivals → AllByRecursion (MayArrive (run_in s graphs slots first packets) (place_in s)) arrivals
may_enter s graphs slots first packets [] ok sound from own in_time = tt
may_enter s graphs slots first packets (e ∷ es) ok sound from own in_time =
    let way = came_way s e ok sound.0 from.0 in
    (record { own = own.0; in_time = in_time.0; sound = sound.0; way = way.0; is_way = way.1 }, may_enter s graphs slots first packets es ok sound.1 from.1 own.1 in_time.1)

-- what a worker has done so far, by what it has kept
abbrev pub account_with : (worker mark : ℕ) (taken put : List (List HandoffFrame)) → Work → CacheBook → Account
account_with worker mark taken put w cache = record {
  worker = worker;
  mark = mark;
  taken = taken;
  put = put;
  log = w.fates.items;
  sent = sent_by w.entries.items w.bytes.items;
  counts = w.counts;
  trace = w.trace;
  allocated = cache.allocated;
  freed = cache.freed;
}

-- a round is a turn of each run whose packets may come so
abbrev pub turn_of : {told : List Settled → Type 0} (s : Setting) (lossless : Bool) (graphs : List Graph) (slots : ℕ) (first : ℕ → ℕ) (packets : List (List ℕ)) (mark new_mark : ℕ)
    (taken put new_taken new_put : List (List HandoffFrame)) (arrivals : List Arrival) (old new : Work) (old_cache new_cache : CacheBook)
    → IsSetting s → IsOver s slots lossless told arrivals old old_cache put new new_cache new_put → AllByRecursion (λ e. s.worker ≡ worker_of s.workers e) arrivals → AllByRecursion (IsInTime first s.generation) arrivals
    → ((count : Arrival → ℕ) → came (run_in s graphs slots first packets) count (account_with s.worker mark taken put old old_cache) + sum_by count arrivals
    ≡ came (run_in s graphs slots first packets) count (account_with s.worker new_mark new_taken new_put new new_cache))
    → IsTurn (run_in s graphs slots first packets) (place_in s) arrivals (account_with s.worker mark taken put old old_cache) (account_with s.worker new_mark new_taken new_put new new_cache)
turn_of s lossless graphs slots first packets mark new_mark taken put new_taken new_put arrivals old new old_cache new_cache ok over own in_time entered =
    let a = over.advances in
    record {
      worker = refl;
      same_worker = refl;
      may = may_enter s graphs slots first packets arrivals ok over.sound over.from own in_time;
      entered = entered;
      settled = over.settled;
      same = λ f.
          let t : Weights = record { visits = λ n. 0; ends = f } in
          let counted = all_counted s slots lossless t arrivals old new old_cache new_cache put new_put over in
          let c1 = counts_from_none 0 new.counts.visits in let c2 = counts_from_none 0 old.counts.visits in
          let none = refused_none over.settled in
          let each = sum_by_same (arrival_owed s t) (λ e. count_some f (option_map (ended_by (legs_at s e) (pieces_before e)) (arrival_way s e))) arrivals (count_end s f) in
          let ends = sum_ends f over.settled in
          omega (arith, counted, c1, c2, none, each, ends);
      may_be = a.may_be;
      refusals = refusals_of s slots lossless put new_put over.settled over.delivers.counts;
      went = over.delivers.went;
      queues = queues_grow s slots lossless over.settled put new_put over.delivers;
      log = a.fates;
      sent = a.sent;
      size = a.size;
      visits = λ node.
          let counted = all_counted s slots lossless (by_visits node) arrivals old new old_cache new_cache put new_put over in
          let nothing_ended = sum_by_none {X = Ended} (ends_of over.settled) in
          let c1 : counts_from (by_visits node).visits 0 new.counts.visits ≡ slice_index new.counts.visits node = counts_from_at node new.counts.visits in
          let c2 : counts_from (by_visits node).visits 0 old.counts.visits ≡ slice_index old.counts.visits node = counts_from_at node old.counts.visits in
          let each = sum_by_same (arrival_owed s (by_visits node)) (λ e. count_by (λ n. n == node) (arrival_nodes s e)) arrivals (count_visits s node) in
          omega (arith, counted, nothing_ended, c1, c2, each);
      drops = a.drops;
      sends = a.sends;
      traced = over.size;
      notes = over.notes;
      allocated = over.exchanges.allocated;
      freed = over.exchanges.freed;
    }

-- a worker that is new is at rest
none_replicated : (k n : ℕ) → get_or {A = List ℕ} (replicate k []) n [] ≡ []
none_replicated zero n = refl
none_replicated (suc k) zero = refl
none_replicated (suc k) (suc n) = none_replicated k n

zero_replicated : (k n : ℕ) → get_or {A = ℕ} (replicate k 0) n 0 ≡ 0
zero_replicated zero n = refl
zero_replicated (suc k) zero = refl
zero_replicated (suc k) (suc n) = zero_replicated k n

rows_replicated : (k n error : ℕ) → drops_at n error (replicate k (replicate count_of_errors 0)) ≡ 0
rows_replicated zero n error = refl
rows_replicated (suc k) zero error = zero_replicated count_of_errors error
rows_replicated (suc k) (suc n) error = rows_replicated k n error

new_notes : (n : ℕ) → IsNotes (nothing_noted n)
new_notes zero k inside = absurd (omega (arith, inside))
new_notes (suc n) zero inside = refl
new_notes (suc n) (suc k) inside = new_notes n k (omega (arith, inside))

empty_len : {X : Type 0} (v : Vec X Global) → v.items ≡ [] → vec_len v ≡ 0
empty_len v none = v.ok.0 ∙ ap length none

pub rest_of_new : (packets bytes own left traced : ℕ) (w : Work) → IsNew packets bytes traced w → packets ≤ 65536 → own ≤ packets → left ≤ bytes → IsAtRest packets bytes 0 own left w
rest_of_new packets bytes own left traced w new few some fits =
    let fates = ap length new.fates in
    let entries = empty_len w.entries new.entries in
    let no_bytes = empty_len w.bytes new.bytes in
    record {
      nodes = ap length new.pending;
      none = λ n. ap (λ p. pending_at p n) new.pending ∙ none_replicated most_nodes n;
      empty = λ i. ap (λ m. buffer_at m i) new.memory;
      no_buffer = ap count new.memory;
      visits = ap (λ (t : Tally). length t.visits) new.counts;
      sends = ap (λ (t : Tally). length t.sends) new.counts;
      whole = subst IsWhole (sym new.counts) (record { rows = refl; errors = All-replicate (λ row. length row ≡ count_of_errors) most_nodes (replicate count_of_errors 0) refl });
      within = subst (λ (es : List SentEntry). AreWithin es w.bytes.items) (sym new.entries) (λ k d h. absurd (omega (arith, h)));
      few = few;
      came_few = omega (arith, some);
      logged = omega (arith, fates, some);
      listed = omega (arith, fates, entries);
      fates = new.fates_room;
      entries = new.entries_room;
      kept = omega (arith, no_bytes, fits);
      bytes_room = new.bytes_room;
      sent_is = (let e : sum_by sent_size (sent_by w.entries.items w.bytes.items) ≡ 0 = ap (λ (es : List SentEntry). sum_by sent_size (sent_by es w.bytes.items)) new.entries in omega (arith, e, no_bytes));
      visited = λ node. (let none : slice_index w.counts.visits node ≡ 0 = ap (λ (t : Tally). slice_index t.visits node) new.counts ∙ zero_replicated most_nodes node in omega (arith, none));
      dropped = λ node error. (let none : drops_at node error w.counts.drops ≡ 0 = ap (λ (t : Tally). drops_at node error t.drops) new.counts ∙ rows_replicated most_nodes node error in omega (arith, none));
      sent = λ interface. (let none : slice_index w.counts.sends interface ≡ 0 = ap (λ (t : Tally). slice_index t.sends interface) new.counts ∙ zero_replicated most_interfaces interface in omega (arith, none));
      is_notes = subst (λ t. IsNotes t) (sym new.trace) (new_notes traced);
    }
