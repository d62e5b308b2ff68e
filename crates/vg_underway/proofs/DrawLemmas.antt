-- For the clauses `drawn` of `Work::draw_own` and `taken` of `Work::take_frame`: packets are drawn, or come from another worker, one by one.
use Rattle.std.proofs.Common.{◌≡◌, ℕ, suc, ◌+◌, ◌*◌, ◌<◌, ◌≤◌, ◌&&◌, Bool, true, false, cond, List, [], ◌∷◌, ◌++◌, length, set, length-append, refl, sym, ap, subst, ◌∙◌, inl, inr, arith, zero-add, ◌^◌}
use Rattle.std.specs.Prelude.{Option, None, flat_map, is_some, unwrap_or, ◌==◌, slice_index, vec_len, vec_capacity}
use Rattle.std.specs.List.{sum_by, AllByRecursion}
use Rattle.std.proofs.lemmas.Grind.{flat_map-append}
use Rattle.std.proofs.Math.ListN.{length-set}
use Rattle.std.proofs.lemmas.List.{append-nil, length_push, get_or-set_other}
use Rattle.std.proofs.lemmas.List.Sums.{sum_by-cons, sum_by-append}
use Rattle.std.proofs.lemmas.Bool.Decides.{eqb_tells}
use Rattle.vg_model.specs.declared.kinds.DropError.TheVariants.{TooLong}
use Rattle.vg_model.specs.declared.kinds.Kind.TheVariants as kinds
use Rattle.vg_model.specs.declared.fates.Leg.{Leg}
use Rattle.vg_model.specs.declared.fates.End.{End}
use Rattle.vg_model.specs.declared.fates.End.TheVariants as ends
use Rattle.vg_model.specs.Errors.{error_number}
use Rattle.vg_model.specs.Graph.{kind_at, pg_input, error_drop}
use Rattle.vg_model.specs.Packet.{fresh}
use Rattle.vg_model.specs.Leg.{Dropped, first_slot, ends_at}
use Rattle.vg_model.specs.Valid.{IsTarget, AreBytes}
use Rattle.vg_model.specs.Journey.{longest_packet}
use Rattle.vg_model.specs.Count.{is_sent_on}
use Rattle.vg_model.specs.PoolBook.{CacheBook}
use Rattle.vg_model.proofs.LegEnds.{arc_target}
use Rattle.vg_pool.specs.Contents.{Contents, AreContents}
use Rattle.vg_frame.specs.Pending.{pending_at, pending_count}
use Rattle.vg_frame.specs.Placed.{buffer_at, count}
use Rattle.vg_frame.proofs.PendingLemmas.{pending_count-put}
use Rattle.vg_counters.specs.Tally.{Tally, IsWhole, drops_at}
use Rattle.vg_underway.specs.declared.underway.Work.{Work}
use Rattle.vg_model.specs.declared.fates.Fate.{Fate}
use Rattle.vg_journeys.specs.Ended.{Ended, ended_by, drop_visits}
use Rattle.vg_journeys.specs.Trips.{Arrival, Drawn, Taken, legs_before, last_generation, pieces_before}
use Rattle.vg_journeys.specs.Turns.{Settled, settled_noted, IsSoundArrival, ComesFrom, settled_pieces}
use Rattle.vg_journeys.specs.Accounts.{drawn_pieces}
use Rattle.vg_model.specs.PoolBook.{pieces_of}
use Rattle.vg_pool.proofs.BlockLemmas.{pieces_bound, pieces_long}
use Rattle.vg_underway.specs.SentEntries.{sent_by, AreWithin}
use Rattle.vg_underway.specs.Underway.{Setting, Weights, IsSetting, owed, contents_at, live_at, waiting, counts_from, arrival_owed, leg_here, nothing}
use Rattle.vg_underway.specs.Places.{same_one, times_waiting}
use Rattle.vg_underway.specs.Works.{total, EndsHere, IsHeld, HasRoom, Advances, Exchanges, TakesAll, ends_of, refused_visits, counted_end, outcome_of, by_bytes, by_visits, by_pieces, pieces_held}
use Rattle.vg_underway.specs.Draws.{CanEnter, CanDraw, DrawsLong, DrawsShort, Enters, IsReady, IsEntered, arrival_extent, arrivals_extent, with_visit, with_source}
use Rattle.vg_underway.proofs.SumLemmas.{sum_from_put, sum_from_none, sum_by_none, same_one_self, same_one_other, counts_from_more, counts_from_none, counts_from_at}
use Rattle.vg_underway.proofs.OwedLemmas.{target_within}
use Rattle.vg_underway.proofs.CountLemmas.{more_at_read, counted_nodes, counted_whole, counted_visits_of, counted_drops_at, counted_drops}
use Rattle.vg_underway.proofs.WorkLemmas.{HasLegs, waiting_kept, total_of, fates_grow, advances_none, advances_then, exchanges_none, exchanges_then, refused_most, refused_none, logged_most, logged_of, all_append, settled_pieces_most}
use Rattle.vg_underway.proofs.TraceLemmas.{not_live, traced_none}
use Rattle.vg_underway.proofs.EnterTraceLemmas.{traced_next, next_of, among_none, among_long, among_enters, traced_long, traced_enters}
use Rattle.vg_underway.proofs.KeptLemmas.{node_within, Arrives, arrives_drawn, arrives_owed, long_owed, came_visits_most, came_bytes_most, came_pieces_most}

-- where nothing is pending, nothing is owed
pub nothing_waiting : (s : Setting) (t : Weights) (memory : List (Option Contents)) (pending : List (List ℕ)) → ((n : ℕ) → pending_at pending n ≡ []) → waiting s t memory pending ≡ 0
nothing_waiting s t memory pending none = sum_from_none (λ node index. owed s t node (contents_at memory index)) 0 pending none

pub sum_lengths : (pending : List (List ℕ)) → ((n : ℕ) → pending_at pending n ≡ []) → pending_count pending ≡ 0
sum_lengths [] none = refl
sum_lengths (q ∷ qs) none =
    let here = ap length (none 0) in
    let rest = sum_lengths qs (λ n. none (suc n)) in
    omega (arith, here, rest, sum_by-cons length q qs)

nothing_sound : AreContents nothing
nothing_sound = record {
  packet = record { bytes = tt; sound = λ e. cc };
  some = omega arith;
  few = omega arith;
  room = omega arith;
  len = omega arith;
  fits = omega arith;
  few_legs = omega arith;
}

-- at first none came
pub entered_none : (s : Setting) (all : List Arrival) (w : Work) (cache : CacheBook) → IsReady all w cache → IsEntered s [] w cache w cache
entered_none s all w cache ready = record {
  held = record {
    nodes = ready.nodes;
    places = λ i.
        let none : times_waiting i w.pending ≡ 0 = sum_from_none (λ node. same_one i) 0 w.pending ready.none in
        let empty : live_at w.memory i ≡ 0 = ap (λ o. cond (is_some o) 1 0) (ready.empty i) in
        omega (arith, none, empty);
    count_is = (let none = sum_lengths w.pending ready.none in let empty = ready.no_buffer in omega (arith, none, empty));
    few = (let empty = ready.no_buffer in omega (arith, empty));
    targets = λ n some. (let none = ap length (ready.none n) in absurd (omega (arith, some, none)));
    steps = tt;
    sound = λ i. subst (λ o. AreContents (unwrap_or o nothing)) (sym (ready.empty i)) nothing_sound;
    legs = λ i live. absurd (not_live w.memory i (ready.empty i) live);
    visits = ready.visits;
    sends = ready.sends;
    whole = ready.whole;
    within = ready.within;
  };
  settled = [];
  advances = advances_none s 0 w [];
  exchanges = exchanges_none cache;
  sound = tt;
  from = tt;
  here = tt;
  traced = traced_none s [] w ready.is_notes ready.empty ready.none;
  nothing_refused = λ number leg. refl;
  among = among_none [] w ready.empty;
}

-- what is counted of each node so far
pub visits_so_far : (s : Setting) (m : ℕ) (arrivals : List Arrival) → IsSetting s → AllByRecursion IsSoundArrival arrivals → AllByRecursion (ComesFrom s.graph) arrivals → sum_by (arrival_owed s (by_visits m)) arrivals ≤ 66 * length arrivals
visits_so_far s m [] ok sound from = omega arith
visits_so_far s m (e ∷ es) ok sound from =
    let rest = visits_so_far s m es ok sound.1 from.1 in
    let one = came_visits_most s m e ok sound.0 from.0 in
    omega (arith, rest, one, sum_by-cons (arrival_owed s (by_visits m)) e es)

pub bytes_so_far : (s : Setting) (arrivals : List Arrival) → IsSetting s → AllByRecursion IsSoundArrival arrivals → AllByRecursion (ComesFrom s.graph) arrivals → sum_by (arrival_owed s by_bytes) arrivals ≤ arrivals_extent arrivals
bytes_so_far s [] ok sound from = omega arith
bytes_so_far s (e ∷ es) ok sound from =
    let rest = bytes_so_far s es ok sound.1 from.1 in
    let one = came_bytes_most s e ok sound.0 from.0 in
    omega (arith, rest, one, sum_by-cons (arrival_owed s by_bytes) e es, sum_by-cons arrival_extent e es)

pub visits_most : (s : Setting) (m : ℕ) (all arrivals : List Arrival) (old new : Work) (old_cache new_cache : CacheBook) → IsSetting s → IsReady all old old_cache → IsEntered s arrivals old old_cache new new_cache
    → total s (by_visits m) new [] + count new.memory ≤ slice_index old.counts.visits m + 67 * length arrivals
visits_most s m all arrivals old new old_cache new_cache ok ready entered =
    let t : Weights = by_visits m in
    let a = entered.advances in
    let same : total s t new (ends_of entered.settled) + 0 ≡ total s t old [] + 0 + sum_by (arrival_owed s t) arrivals + refused_visits t.visits entered.settled = a.same t in
    let t1 = total_of s t new (ends_of entered.settled) in let t2 = total_of s t old [] in let t3 = total_of s t new [] in
    let none = sum_by_none {X = Ended} (ends_of entered.settled) in
    let idle = nothing_waiting s t old.memory old.pending ready.none in
    let here : counts_from t.visits 0 old.counts.visits ≡ slice_index old.counts.visits m = counts_from_at m old.counts.visits in
    let most = visits_so_far s m arrivals ok entered.sound entered.from in
    let refused = refused_most m entered.settled in
    let live = a.live in
    let empty = ready.no_buffer in
    omega (arith, same, t1, t2, t3, none, idle, here, most, refused, live, empty)

pub visits_at_most : (s : Setting) (m : ℕ) (all arrivals : List Arrival) (old new : Work) (old_cache new_cache : CacheBook) → IsSetting s → IsReady all old old_cache → IsEntered s arrivals old old_cache new new_cache
    → slice_index new.counts.visits m ≤ slice_index old.counts.visits m + 67 * length arrivals
visits_at_most s m all arrivals old new old_cache new_cache ok ready entered =
    let t : Weights = by_visits m in
    let most = visits_most s m all arrivals old new old_cache new_cache ok ready entered in
    let t3 = total_of s t new [] in
    let here : counts_from t.visits 0 new.counts.visits ≡ slice_index new.counts.visits m = counts_from_at m new.counts.visits in
    omega (arith, most, t3, here)

-- of those that come, these came and this one is the next
length_next : {X : Type 0} (all so_far rest : List X) (x : X) → all ≡ so_far ++ x ∷ rest → length so_far < length all
length_next all so_far rest x is = let e = ap length is in let more = length-append so_far (x ∷ rest) in omega (arith, e, more)

-- there is room for one packet more
pub can_enter : (s : Setting) (first : ℕ) (all arrivals : List Arrival) (old new : Work) (old_cache new_cache : CacheBook) → IsSetting s → IsReady all old old_cache → IsEntered s arrivals old old_cache new new_cache → length arrivals < length all
    → first < length s.graph.nodes → CanEnter first new
can_enter s first all arrivals old new old_cache new_cache ok ready entered more within =
    let live = entered.advances.live in
    let empty = ready.no_buffer in
    let few = ready.few in
    let size = entered.held.visits in
    let few_nodes = ok.few_nodes in
    let factor : 67 * length arrivals ≤ 67 * length all = omega (arith, more) in
    record {
      source = (omega (arith, size, within, few_nodes), (let most = visits_at_most s first all arrivals old new old_cache new_cache ok ready entered in let h = ready.can_visit first in omega (arith, most, h, factor)));
      memory = omega (arith, live, empty, more, few);
      pending = (let all_of : pending_count new.pending + 0 ≡ count new.memory = entered.held.count_is in omega (arith, all_of, live, empty, more, few));
    }

pub drawn_pieces_most : (arrivals : List Arrival) → sum_by drawn_pieces arrivals ≤ 5 * length arrivals
drawn_pieces_most [] = omega arith
drawn_pieces_most (Drawn number bytes ∷ es) =
    let rest = drawn_pieces_most es in
    let one = pieces_bound (length bytes) in
    omega (arith, rest, one, sum_by-cons drawn_pieces (Drawn number bytes) es)
drawn_pieces_most (Taken worker node c ∷ es) = let rest = drawn_pieces_most es in omega (arith, rest, sum_by-cons drawn_pieces (Taken worker node c) es)

drawn_less : (arrivals : List Arrival) → sum_by drawn_pieces arrivals ≤ sum_by pieces_before arrivals
drawn_less [] = omega arith
drawn_less (Drawn number bytes ∷ es) = let rest = drawn_less es in omega (arith, rest, sum_by-cons drawn_pieces (Drawn number bytes) es, sum_by-cons pieces_before (Drawn number bytes) es)
drawn_less (Taken worker node c ∷ es) = let rest = drawn_less es in omega (arith, rest, sum_by-cons drawn_pieces (Taken worker node c) es, sum_by-cons pieces_before (Taken worker node c) es)

pieces_owed : (s : Setting) (arrivals : List Arrival) → sum_by (arrival_owed s by_pieces) arrivals ≤ sum_by pieces_before arrivals
pieces_owed s [] = omega arith
pieces_owed s (e ∷ es) =
    let rest = pieces_owed s es in
    let one = came_pieces_most s e in
    omega (arith, rest, one, sum_by-cons (arrival_owed s by_pieces) e es, sum_by-cons pieces_before e es)

-- what is under way and what came back are together no more than the chains of the packets that came
pub held_most : (s : Setting) (all arrivals : List Arrival) (settled : List Settled) (old new : Work) (old_cache : CacheBook) → IsReady all old old_cache → Advances s 0 arrivals settled old [] new []
    → pieces_held s 0 new [] + sum_by settled_pieces settled ≤ sum_by pieces_before arrivals
held_most s all arrivals settled old new old_cache ready advances =
    let same = advances.same by_pieces in
    let t1 = total_of s by_pieces new (ends_of settled) in
    let t2 = total_of s by_pieces old [] in
    let c1 = counts_from_none 0 new.counts.visits in
    let c2 = counts_from_none 0 old.counts.visits in
    let none = refused_none settled in
    let idle = nothing_waiting s by_pieces old.memory old.pending ready.none in
    let most = settled_pieces_most settled in
    let owed = pieces_owed s arrivals in
    omega (arith, same, t1, t2, c1, c2, none, idle, most, owed)

-- the cache can take back all buffers that are under way
pub takes_entered : (s : Setting) (all arrivals rest : List Arrival) (old new : Work) (old_cache new_cache : CacheBook) → IsReady all old old_cache → IsEntered s arrivals old old_cache new new_cache → all ≡ arrivals ++ rest
    → TakesAll s 0 new [] new_cache
takes_entered s all arrivals rest old new old_cache new_cache ready entered is =
    let e = entered.exchanges in
    let held = held_most s all arrivals entered.settled old new old_cache ready entered.advances in
    let few = ready.few in
    let drawn = ap (sum_by drawn_pieces) is ∙ sum_by-append drawn_pieces arrivals rest in
    let came = ap (sum_by pieces_before) is ∙ sum_by-append pieces_before arrivals rest in
    let less = drawn_less rest in
    let most = drawn_pieces_most all in
    let cached = ready.cached in
    record {
      len = (let x = e.len in omega (arith, cached, x, held, drawn, came, less));
      freed = (let h = ready.freed in let x = e.freed in omega (arith, h, x, held, cached, came, few, most));
    }

-- the cache's count of buffers that it gave out has room for one chain more
pub allocated_few : (s : Setting) (arrivals : List Arrival) (old new : Work) (old_cache new_cache : CacheBook) → IsReady arrivals old old_cache → IsEntered s arrivals old old_cache new new_cache → new_cache.allocated < 2 ^ 62
allocated_few s arrivals old new old_cache new_cache ready entered =
    let few = ready.few in
    let most = drawn_pieces_most arrivals in
    let h = ready.allocated in
    let x = entered.exchanges.allocated in
    omega (arith, few, most, h, x)

pub can_draw : (s : Setting) (all arrivals rest : List Arrival) (number : ℕ) (bytes : List ℕ) (old new : Work) (old_cache new_cache : CacheBook) → IsSetting s → IsReady all old old_cache → IsEntered s arrivals old old_cache new new_cache
    → all ≡ arrivals ++ Drawn number bytes ∷ rest → (taken : CacheBook) → taken.len + pieces_of (length bytes) ≡ new_cache.len → taken.freed ≡ new_cache.freed → CanDraw (pieces_of (length bytes)) new taken
can_draw s all arrivals rest number bytes old new old_cache new_cache ok ready entered is taken len same_freed =
    let a = entered.advances in
    let e = entered.exchanges in
    let live = a.live in
    let empty = ready.no_buffer in
    let few = ready.few in
    let size = entered.held.visits in
    let more = length_next all arrivals rest (Drawn number bytes) is in
    let factor : 67 * length arrivals ≤ 67 * length all = omega (arith, more) in
    let logged = logged_most entered.settled in
    let takes = takes_entered s all arrivals (Drawn number bytes ∷ rest) old new old_cache new_cache ready entered is in
    record {
      len = (let h = takes.len in omega (arith, h, len));
      freed = (let h = takes.freed in omega (arith, h, same_freed));
      fates = (let h = ready.fates in let grow = fates_grow s 0 arrivals entered.settled old new [] [] a in let cap = a.room.0 in omega (arith, h, grow, cap, live, empty, more, logged));
      counts =
          (let most = visits_at_most s error_drop all arrivals old new old_cache new_cache ok ready entered in
          let h = ready.can_visit error_drop in
          let len : length (with_source new.counts).visits ≡ length new.counts.visits = length-set new.counts.visits pg_input _ in
          let read : slice_index (with_source new.counts).visits error_drop ≡ slice_index new.counts.visits error_drop + 0 = more_at_read new.counts.visits pg_input 1 error_drop (omega (arith, size)) in
          let drops = a.drops_most pg_input (error_number TooLong) in
          let can_drop = ready.can_drop pg_input (error_number TooLong) in
          (omega (arith, len, size), omega (arith, drops, can_drop, live, empty, more), omega (arith, len, size), omega (arith, most, h, read, factor)));
      enter = can_enter s pg_input all arrivals old new old_cache new_cache ok ready entered more (node_within s.graph pg_input kinds.PgInput ok.valid.source);
    }

-- a packet that is too long
long_held : (s : Setting) (leg : Leg) (number : ℕ) (bytes : List ℕ) (w new : Work) (cache new_cache : CacheBook) → IsHeld s 0 w [] → CanDraw (pieces_of (length bytes)) w cache → DrawsLong leg number w new cache new_cache → IsHeld s 0 new []
long_held s leg number bytes w new cache new_cache held can long =
    let whole : IsWhole (with_source w.counts) = record { rows = held.whole.rows ∙ sym (length-set w.counts.visits pg_input _); errors = held.whole.errors } in
    subst (λ (x : Work). IsHeld s 0 x []) (sym long.rest) (record {
      nodes = held.nodes;
      places = held.places;
      count_is = held.count_is;
      few = held.few;
      targets = held.targets;
      steps = tt;
      sound = held.sound;
      legs = held.legs;
      visits = counted_nodes (ends.Dropped pg_input TooLong) (with_source w.counts) ∙ length-set w.counts.visits pg_input _ ∙ held.visits;
      sends = held.sends;
      whole = counted_whole (ends.Dropped pg_input TooLong) (with_source w.counts) can.counts whole;
      within = held.within;
    })

-- how it is settled
abbrev pub long_settled : Setting → ℕ → List ℕ → Settled
long_settled s number bytes = record { ended = ended_by (leg_here s ∷ []) (pieces_of (length bytes)) (ends_at pg_input (fresh number bytes) (Dropped pg_input TooLong)); refused = None }

source_counts : (f : ℕ → ℕ) (first : ℕ) (tally : Tally) → first < length tally.visits → counts_from f 0 (with_visit first tally).visits ≡ counts_from f 0 tally.visits + f first
source_counts f first tally inside = (let e = counts_from_more f 0 tally.visits first 1 inside in let same : f (0 + first) ≡ f first = ap f (zero-add first) in omega (arith, e, same))

long_advances : (s : Setting) (leg : Leg) (number : ℕ) (bytes : List ℕ) (w new : Work) (cache new_cache : CacheBook) → IsHeld s 0 w [] → CanDraw (pieces_of (length bytes)) w cache → leg ≡ leg_here s → longest_packet < length bytes
    → DrawsLong leg number w new cache new_cache → Advances s 0 (Drawn number bytes ∷ []) (long_settled s number bytes ∷ []) w [] new []
long_advances s leg number bytes w new cache new_cache held can is too_long long =
    let end : End = ends.Dropped pg_input TooLong in
    let last : Ended = ended_by (leg_here s ∷ []) (pieces_of (length bytes)) (ends_at pg_input (fresh number bytes) (Dropped pg_input TooLong)) in
    let whole : IsWhole (with_source w.counts) = record { rows = held.whole.rows ∙ sym (length-set w.counts.visits pg_input _); errors = held.whole.errors } in
    let counts : new.counts ≡ counted_end end (with_source w.counts) = ap (λ (x : Work). x.counts) long.rest in
    let memory : new.memory ≡ w.memory = ap (λ (x : Work). x.memory) long.rest in
    let pending : new.pending ≡ w.pending = ap (λ (x : Work). x.pending) long.rest in
    record {
      may_be = (refl, tt);
      same = λ t.
          let v1 : counts_from t.visits 0 new.counts.visits ≡ counts_from t.visits 0 (with_source w.counts).visits + sum_by t.visits (drop_visits (outcome_of end)) =
          ap (λ (x : Tally). counts_from t.visits 0 x.visits) counts ∙ counted_visits_of t.visits end (with_source w.counts) can.counts in
          let v2 = source_counts t.visits pg_input w.counts can.enter.source.0 in
          let w1 : waiting s t new.memory new.pending ≡ waiting s t w.memory w.pending = ap (λ (x : Work). waiting s t x.memory x.pending) long.rest in
          let owes = long_owed s t number bytes too_long in
          let t1 = total_of s t new (last ∷ []) in let t2 = total_of s t w [] in
          let one = sum_by-cons t.ends last [] in
          let drawn = sum_by-cons (arrival_owed s t) (Drawn number bytes) [] in
          omega (arith, v1, v2, w1, owes, t1, t2, one, drawn);
      live = ap (λ m. count m + 1) memory;
      fates = long.fates ∙ ap (λ ls. w.fates.items ++ record { number = number; legs = ls ∷ []; congested = None; end = end } ∷ []) is;
      sent = ap (λ (x : Work). sent_by x.entries.items x.bytes.items) long.rest ∙ sym (append-nil _);
      entries_most = (let e = ap (λ (x : Work). vec_len x.entries) long.rest in omega (arith, e));
      bytes = (let e = ap (λ (x : Work). vec_len x.bytes) long.rest in omega (arith, e));
      room = ((let e = long.room in omega (arith, e)), (let e = ap (λ (x : Work). vec_capacity x.entries) long.rest in omega (arith, e)), (let e = ap (λ (x : Work). vec_capacity x.bytes) long.rest in omega (arith, e)));
      size = record {
        nodes = ap (λ (x : Tally). length x.visits) counts ∙ counted_nodes end (with_source w.counts) ∙ length-set w.counts.visits pg_input _;
        interfaces = ap (λ (x : Tally). length x.sends) counts;
      };
      visited =
          (let v1 : counts_from (λ n. 1) 0 new.counts.visits ≡ counts_from (λ n. 1) 0 (with_source w.counts).visits + sum_by (λ n. 1) (drop_visits (outcome_of end)) =
          ap (λ (x : Tally). counts_from (λ n. 1) 0 x.visits) counts ∙ counted_visits_of (λ n. 1) end (with_source w.counts) can.counts in
          let v2 = source_counts (λ n. 1) pg_input w.counts can.enter.source.0 in
          omega (arith, v1, v2));
      drops = λ n error. (let d = ap (λ (x : Tally). drops_at n (error_number error) x.drops) counts ∙ counted_drops end (with_source w.counts) n error can.counts whole in omega (arith, d));
      drops_most = λ n x. (let same = ap (λ (y : Tally). drops_at n x y.drops) counts in let most = counted_drops_at end (with_source w.counts) n x can.counts whole in omega (arith, same, most));
      sends = λ i. (let d = ap (λ (x : Tally). slice_index x.sends i) counts in omega (arith, d));
    }

-- the generation of the last leg
last_pushed : (legs : List Leg) (leg : Leg) → last_generation (legs ++ leg ∷ []) ≡ leg.generation
last_pushed [] leg = refl
last_pushed (one ∷ []) leg = refl
last_pushed (one ∷ two ∷ legs) leg = last_pushed (two ∷ legs) leg

-- any other
enters_held : (s : Setting) (e : Arrival) (first via : ℕ) (c : Contents) (w new : Work) → IsSetting s → IsHeld s 0 w [] → CanEnter first w → Arrives s e first via c → Enters s.graph first via c w new → IsHeld s 0 new []
enters_held s e first via c w new ok held can arrives draws =
    let few = can.memory in
    let index = draws.index in
    let target : IsTarget (kind_at s.graph draws.to) = arc_target s.graph via draws.to ok.valid (first_slot, draws.leads) in
    let inside : draws.to < length w.pending = (let in_graph = target_within s.graph draws.to target in let few_nodes = ok.few_nodes in let size = held.nodes in omega (arith, in_graph, few_nodes, size)) in
    let pending : new.pending ≡ set w.pending draws.to (pending_at w.pending draws.to ++ index ∷ []) = ap (λ (x : Work). x.pending) draws.rest in
    let counts : new.counts ≡ with_visit first w.counts = ap (λ (x : Work). x.counts) draws.rest in
    record {
      nodes = ap length pending ∙ length-set w.pending draws.to _ ∙ held.nodes;
      places = λ i.
          let all : times_waiting i w.pending + 0 ≡ live_at w.memory i = held.places i in
          let more : times_waiting i new.pending ≡ times_waiting i w.pending + same_one i index = ap (times_waiting i) pending ∙ sum_from_put (λ n. same_one i) 0 w.pending draws.to index inside in
          elim (eqb_tells i index) [
            | inl here ↦
                let old : live_at w.memory i ≡ 0 = ap (live_at w.memory) here.1 ∙ ap (λ o. cond (is_some o) 1 0) draws.vacant in
                let now : live_at new.memory i ≡ 1 = ap (live_at new.memory) here.1 ∙ ap (λ o. cond (is_some o) 1 0) draws.placed.changed in
                let one : same_one i index ≡ 1 = ap (λ k. same_one k index) here.1 ∙ same_one_self index in
                omega (arith, all, more, old, now, one)
            | inr other ↦
                let kept : live_at new.memory i ≡ live_at w.memory i = ap (λ o. cond (is_some o) 1 0) (draws.placed.others i other.1) in
                let apart : same_one i index ≡ 0 = same_one_other i index (λ x. other.1 (sym x)) in
                omega (arith, all, more, kept, apart)
          ];
      count_is = (let all : pending_count w.pending + 0 ≡ count w.memory = held.count_is in let more = ap pending_count pending ∙ pending_count-put w.pending draws.to index inside in let one = draws.count_is in omega (arith, all, more, one));
      few = (let one = draws.count_is in omega (arith, few, one));
      targets = λ n some.
          let here : 0 < length (pending_at (set w.pending draws.to (pending_at w.pending draws.to ++ index ∷ [])) n) = subst (λ q. 0 < length (pending_at q n)) pending some in
          elim (eqb_tells n draws.to) [
            | inl same ↦ subst (λ k. IsTarget (kind_at s.graph k)) (sym same.1) target
            | inr other ↦ held.targets n (subst (λ q. 0 < length q) (get_or-set_other w.pending draws.to n (pending_at w.pending draws.to ++ index ∷ []) [] other.1) here)
          ];
      steps = tt;
      sound = λ i. elim (eqb_tells i index) [
        | inl here ↦
            subst (λ o. AreContents (unwrap_or o nothing)) (sym (ap (buffer_at new.memory) here.1 ∙ draws.placed.changed))
            arrives.contents
        | inr other ↦ subst (λ o. AreContents (unwrap_or o nothing)) (sym (draws.placed.others i other.1)) (held.sound i)
      ];
      legs = λ i. elim (eqb_tells i index) [
        | inl here ↦ subst (HasLegs s.generation) (sym (ap (buffer_at new.memory) here.1 ∙ draws.placed.changed))
            (λ live. ((let legs = ap length arrives.legs in let more = length_push (legs_before e) (leg_here s) in omega (arith, legs, more)), ap last_generation arrives.legs ∙ last_pushed (legs_before e) (leg_here s)))
        | inr other ↦ subst (HasLegs s.generation) (sym (draws.placed.others i other.1)) (held.legs i)
      ];
      visits = ap (λ (x : Tally). length x.visits) counts ∙ length-set w.counts.visits first _ ∙ held.visits;
      sends = ap (λ (x : Tally). length x.sends) counts ∙ held.sends;
      whole = subst IsWhole (sym counts) (record { rows = held.whole.rows ∙ sym (length-set w.counts.visits first _); errors = held.whole.errors });
      within = subst (λ (x : Work). AreWithin x.entries.items x.bytes.items) (sym draws.rest) held.within;
    }

enters_advances : (s : Setting) (e : Arrival) (first via : ℕ) (c : Contents) (w new : Work) → IsSetting s → IsHeld s 0 w [] → CanEnter first w → Arrives s e first via c → Enters s.graph first via c w new → Advances s 0 (e ∷ []) [] w [] new []
enters_advances s e first via c w new ok held can arrives draws =
    let index = draws.index in
    let target : IsTarget (kind_at s.graph draws.to) = arc_target s.graph via draws.to ok.valid (first_slot, draws.leads) in
    let inside : draws.to < length w.pending = (let in_graph = target_within s.graph draws.to target in let few_nodes = ok.few_nodes in let size = held.nodes in omega (arith, in_graph, few_nodes, size)) in
    let pending : new.pending ≡ set w.pending draws.to (pending_at w.pending draws.to ++ index ∷ []) = ap (λ (x : Work). x.pending) draws.rest in
    let counts : new.counts ≡ with_visit first w.counts = ap (λ (x : Work). x.counts) draws.rest in
    record {
      may_be = tt;
      same = λ t.
          let apart : (i : ℕ) → 0 < times_waiting i w.pending → buffer_at new.memory i ≡ buffer_at w.memory i =
          λ i some. draws.placed.others i (λ here.
          let all : times_waiting i w.pending + 0 ≡ live_at w.memory i = held.places i in
          let old : live_at w.memory i ≡ 0 = ap (live_at w.memory) here ∙ ap (λ o. cond (is_some o) 1 0) draws.vacant in
          absurd (omega (arith, some, all, old))) in
          let kept = waiting_kept s t w.memory new.memory w.pending apart in
          let put : waiting s t new.memory new.pending ≡ waiting s t new.memory w.pending + owed s t (0 + draws.to) (contents_at new.memory index) =
          ap (waiting s t new.memory) pending ∙ sum_from_put (λ n i. owed s t n (contents_at new.memory i)) 0 w.pending draws.to index inside in
          let there : owed s t (0 + draws.to) (contents_at new.memory index) ≡ owed s t draws.to c =
          ap (λ n. owed s t n (contents_at new.memory index)) (zero-add draws.to) ∙ ap (λ o. owed s t draws.to (unwrap_or o nothing)) draws.placed.changed in
          let owes = arrives_owed s t e first via draws.to c ok arrives draws.leads in
          let v1 = ap (λ (x : Tally). counts_from t.visits 0 x.visits) counts ∙ source_counts t.visits first w.counts can.source.0 in
          let t1 = total_of s t new [] in let t2 = total_of s t w [] in
          let drawn = sum_by-cons (arrival_owed s t) e [] in
          omega (arith, kept, put, there, owes, v1, t1, t2, drawn);
      live = (let one = draws.count_is in omega (arith, one));
      fates = ap (λ (x : Work). x.fates.items) draws.rest ∙ sym (append-nil w.fates.items);
      sent = ap (λ (x : Work). sent_by x.entries.items x.bytes.items) draws.rest ∙ sym (append-nil _);
      entries_most = (let e = ap (λ (x : Work). vec_len x.entries) draws.rest in omega (arith, e));
      bytes = (let e = ap (λ (x : Work). vec_len x.bytes) draws.rest in omega (arith, e));
      room = ((let e = ap (λ (x : Work). x.fates.room) draws.rest in omega (arith, e)), (let e = ap (λ (x : Work). vec_capacity x.entries) draws.rest in omega (arith, e)), (let e = ap (λ (x : Work). vec_capacity x.bytes) draws.rest in omega (arith, e)));
      size = record { nodes = ap (λ (x : Tally). length x.visits) counts ∙ length-set w.counts.visits first _; interfaces = ap (λ (x : Tally). length x.sends) counts };
      visited = (let v1 = ap (λ (x : Tally). counts_from (λ n. 1) 0 x.visits) counts ∙ source_counts (λ n. 1) first w.counts can.source.0 in omega (arith, v1));
      drops = λ n error. (let d = ap (λ (x : Tally). drops_at n (error_number error) x.drops) counts in omega (arith, d));
      drops_most = λ n x. (let d = ap (λ (y : Tally). drops_at n x y.drops) counts in omega (arith, d));
      sends = λ i. (let d = ap (λ (x : Tally). slice_index x.sends i) counts in omega (arith, d));
    }

all_push : {X : Type 0} (P : X → Type 0) (xs : List X) (x : X) → AllByRecursion P xs → P x → AllByRecursion P (xs ++ x ∷ [])
all_push P [] x all one = (one, tt)
all_push P (y ∷ ys) x all one = (all.0, all_push P ys x all.1 one)

none_either : (b : Bool) → ◌≡◌ {A = List ℕ} (cond b [] []) []
none_either true = refl
none_either false = refl

-- the chain of a packet was taken out of a cache
pub record IsTakenOut (bytes : List ℕ) (before cache : CacheBook) : Type 0 where
  pub len : cache.len + pieces_of (length bytes) ≡ before.len
  pub freed : cache.freed ≡ before.freed
  pub allocated : cache.allocated ≡ before.allocated + pieces_of (length bytes)
  pub taken : cache.taken ≡ before.taken
  pub given : cache.given ≡ before.given

-- one packet more: too long as it is drawn
pub long_entered : (s : Setting) (leg : Leg) (so_far : List Arrival) (number : ℕ) (bytes : List ℕ) (old w new : Work) (old_cache before cache new_cache : CacheBook) → IsTakenOut bytes before cache → CanDraw (pieces_of (length bytes)) w cache
    → leg ≡ leg_here s → AreBytes bytes → longest_packet < length bytes → DrawsLong leg number w new cache new_cache → IsEntered s so_far old old_cache w before
    → IsEntered s (so_far ++ Drawn number bytes ∷ []) old old_cache new new_cache
long_entered s leg so_far number bytes old w new old_cache before cache new_cache out can is sound too_long long entered =
    let all : List Arrival = so_far ++ Drawn number bytes ∷ [] in
    let next = next_of s old.trace all so_far [] (Drawn number bytes) refl in
    let exchange : Exchanges (Drawn number bytes ∷ []) (long_settled s number bytes ∷ []) before new_cache = record {
      len = (let e = ap (λ x. x.len) long.cache in let x = out.len in let one = pieces_long (length bytes) too_long in omega (arith, e, x, one));
      freed = (let e = ap (λ x. x.freed) long.cache in let x = out.freed in let one = pieces_long (length bytes) too_long in omega (arith, e, x, one));
      allocated = (let e = ap (λ x. x.allocated) long.cache in let x = out.allocated in omega (arith, e, x));
      taken = ap (λ x. x.taken) long.cache ∙ out.taken;
      given = ap (λ x. x.given) long.cache ∙ out.given;
    } in
    let step = long_advances s leg number bytes w new cache new_cache entered.held can is too_long long in
    record {
      held = long_held s leg number bytes w new cache new_cache entered.held can long;
      settled = entered.settled ++ long_settled s number bytes ∷ [];
      advances = advances_then s 0 so_far (Drawn number bytes ∷ []) entered.settled (long_settled s number bytes ∷ []) old w new [] [] [] entered.advances step;
      exchanges = exchanges_then so_far (Drawn number bytes ∷ []) entered.settled (long_settled s number bytes ∷ []) old_cache before new_cache entered.exchanges exchange;
      sound = all_push IsSoundArrival so_far (Drawn number bytes) entered.sound sound;
      from = all_push (ComesFrom s.graph) so_far (Drawn number bytes) entered.from tt;
      here = all_append EndsHere entered.settled (long_settled s number bytes ∷ []) entered.here ((tt, refl), tt);
      traced = traced_long s leg old.trace all so_far number bytes w new cache new_cache entered.held next entered.among too_long long (traced_next s old.trace so_far (Drawn number bytes) w entered.traced);
      nothing_refused = λ n l.
          flat_map-append (settled_noted n l) entered.settled (long_settled s number bytes ∷ [])
          ∙ ap (λ ns. ns ++ flat_map (settled_noted n l) (long_settled s number bytes ∷ [])) (entered.nothing_refused n l)
          ∙ append-nil _ ∙ none_either (number == n && 1 == suc l);
      among = among_long leg so_far number bytes w new cache new_cache long entered.among;
    }

-- and any other
pub more_entered : (s : Setting) (so_far : List Arrival) (e : Arrival) (first via : ℕ) (c : Contents) (old w new : Work) (old_cache cache new_cache : CacheBook) → IsSetting s → CanEnter first w → Arrives s e first via c
    → Enters s.graph first via c w new → Exchanges (e ∷ []) [] cache new_cache → IsEntered s so_far old old_cache w cache → IsEntered s (so_far ++ e ∷ []) old old_cache new new_cache
more_entered s so_far e first via c old w new old_cache cache new_cache ok can arrives enters exchange entered =
    let all : List Arrival = so_far ++ e ∷ [] in
    let next = next_of s old.trace all so_far [] e refl in
    let step = enters_advances s e first via c w new ok entered.held can arrives enters in
    record {
      held = enters_held s e first via c w new ok entered.held can arrives enters;
      settled = entered.settled ++ [];
      advances = advances_then s 0 so_far (e ∷ []) entered.settled [] old w new [] [] [] entered.advances step;
      exchanges = exchanges_then so_far (e ∷ []) entered.settled [] old_cache cache new_cache entered.exchanges exchange;
      sound = all_push IsSoundArrival so_far e entered.sound arrives.arrival;
      from = all_push (ComesFrom s.graph) so_far e entered.from arrives.from;
      here = all_append EndsHere entered.settled [] entered.here tt;
      traced = traced_enters s old.trace all so_far e first via c w new ok entered.held next entered.among arrives enters (traced_next s old.trace so_far e w entered.traced);
      nothing_refused = λ n l. flat_map-append (settled_noted n l) entered.settled [] ∙ append-nil _ ∙ entered.nothing_refused n l;
      among = among_enters s so_far e first via c w new arrives enters entered.among;
    }

pub short_entered : (s : Setting) (leg : Leg) (so_far : List Arrival) (number : ℕ) (bytes : List ℕ) (old w new : Work) (old_cache before cache new_cache : CacheBook) → IsSetting s → IsTakenOut bytes before cache
    → CanDraw (pieces_of (length bytes)) w cache → leg ≡ leg_here s → AreBytes bytes → length bytes ≤ longest_packet → DrawsShort s.graph leg number bytes w new cache new_cache
    → IsEntered s so_far old old_cache w before
    → IsEntered s (so_far ++ Drawn number bytes ∷ []) old old_cache new new_cache
short_entered s leg so_far number bytes old w new old_cache before cache new_cache ok out can is sound short draws entered =
    let c : Leg → Contents = λ l. record { packet = fresh number bytes; legs = l ∷ []; pieces = pieces_of (length bytes) } in
    let enters : Enters s.graph pg_input pg_input (c (leg_here s)) w new = subst (λ l. Enters s.graph pg_input pg_input (c l) w new) is draws.enters in
    let exchange : Exchanges (Drawn number bytes ∷ []) [] before new_cache = record {
      len = (let e = ap (λ x. x.len) draws.cache in let x = out.len in omega (arith, e, x));
      freed = (let e = ap (λ x. x.freed) draws.cache in let x = out.freed in omega (arith, e, x));
      allocated = (let e = ap (λ x. x.allocated) draws.cache in let x = out.allocated in omega (arith, e, x));
      taken = ap (λ x. x.taken) draws.cache ∙ out.taken;
      given = ap (λ x. x.given) draws.cache ∙ out.given;
    } in
    more_entered s so_far (Drawn number bytes) pg_input pg_input (c (leg_here s)) old w new old_cache before new_cache ok can.enter (arrives_drawn s number bytes ok sound short) enters exchange entered

-- when all came there is room for what is still to come
pub room_entered : (s : Setting) (arrivals : List Arrival) (old new : Work) (old_cache new_cache : CacheBook) → IsSetting s → IsReady arrivals old old_cache → IsEntered s arrivals old old_cache new new_cache → HasRoom s 0 new []
room_entered s arrivals old new old_cache new_cache ok ready entered =
    let a = entered.advances in
    let live = a.live in
    let empty = ready.no_buffer in
    let logged = logged_most entered.settled in
    record {
      fates = (let h = ready.fates in let grow = fates_grow s 0 arrivals entered.settled old new [] [] a in let cap = a.room.0 in omega (arith, h, grow, cap, live, empty, logged));
      entries = (let h = ready.entries_room in let grow = a.entries_most in let cap = a.room.1 in omega (arith, h, grow, cap, live, empty));
      bytes =
          (let h = ready.bytes in let grow = a.bytes in let cap = a.room.2 in
          let same : total s by_bytes new (ends_of entered.settled) + 0 ≡ total s by_bytes old [] + 0 + sum_by (arrival_owed s by_bytes) arrivals + refused_visits (λ n. 0) entered.settled = a.same by_bytes in
          let t1 = total_of s by_bytes new (ends_of entered.settled) in let t2 = total_of s by_bytes old [] in
          let c1 = counts_from_none 0 new.counts.visits in let c2 = counts_from_none 0 old.counts.visits in
          let idle = nothing_waiting s by_bytes old.memory old.pending ready.none in
          let most = bytes_so_far s arrivals ok entered.sound entered.from in
          let none = refused_none entered.settled in
          omega (arith, h, grow, cap, same, t1, t2, c1, c2, idle, most, none));
      visits = λ m. (let most = visits_most s m arrivals arrivals old new old_cache new_cache ok ready entered in let h = ready.can_visit m in omega (arith, most, h));
      drops = λ n error. (let h = ready.can_drop n error in let most = a.drops_most n error in omega (arith, h, most, live, empty));
      sends = λ i. (let h = ready.can_send i in let e = a.sends i in let few = logged_of (λ (f : Fate). is_sent_on i f.end) entered.settled in omega (arith, h, e, few, live, empty));
    }
