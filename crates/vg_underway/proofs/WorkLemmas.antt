-- For the clauses of `Work::{draw_own, take_frame, put_apart, group, hand_over, hand_groups, dispatch_next, dispatch_all}`, and of `Worker::round` in
-- vg_dispatch: what stays as a worker's buffers go from place to place.
use Rattle.std.proofs.Common.{◌≡◌, ℕ, suc, ◌+◌, ◌<◌, ◌≤◌, Bool, true, false, cond, List, [], ◌∷◌, ◌++◌, length, refl, sym, ap, ◌∙◌, arith, append_assoc, length-append}
use Rattle.std.specs.Prelude.{Option, Some, None, is_some, unwrap_or, ◌==◌, if◌then◌else◌}
use Rattle.std.specs.List.{sum_by, count_by, filter_map, cons_option, AllByRecursion}
use Rattle.std.proofs.lemmas.List.{append-nil, map-append}
use Rattle.std.proofs.lemmas.List.Elements.{filter_map-append}
use Rattle.std.proofs.lemmas.Option.{none-some}
use Rattle.std.proofs.lemmas.List.Sums.{sum_by-cons, sum_by-append, count_by-le-length}
use Rattle.vg_model.specs.declared.kinds.Step.{Step}
use Rattle.vg_model.specs.declared.fates.Fate.{Fate}
use Rattle.vg_model.specs.Graph.{error_drop}
use Rattle.vg_model.specs.Leg.{Outcome, Sent, Dropped, Handed}
use Rattle.vg_model.specs.Count.{is_drop, is_sent_on}
use Rattle.vg_model.specs.PoolBook.{CacheBook}
use Rattle.vg_pool.specs.Contents.{Contents}
use Rattle.vg_frame.specs.Placed.{buffer_at, count, IsLive}
use Rattle.vg_underway.specs.declared.underway.Work.{Work}
use Rattle.vg_journeys.specs.Ended.{Ended}
use Rattle.vg_journeys.specs.Trips.{Arrival, last_generation}
use Rattle.vg_journeys.specs.Turns.{Settled, settled_log, settled_sent, settled_pieces, settled_visits, refusal_visits}
use Rattle.vg_journeys.specs.Chains.{count_some}
use Rattle.vg_journeys.specs.Accounts.{drawn_pieces}
use Rattle.vg_underway.specs.SentEntries.{sent_by}
use Rattle.vg_underway.specs.Underway.{Setting, Weights, owed, moved, move_owed, contents_at, live_at, waiting, in_hand, arrival_owed, counts_from, nothing}
use Rattle.vg_underway.specs.Places.{same_one, times_waiting, times_in_hand}
use Rattle.vg_underway.specs.Works.{total, IsHeld, HasRoom, Advances, Exchanges, TakesAll, IsRightlyRefused, ends_of, refused_visits, logged_count, sent_len, by_bytes, by_pieces, by_visits, pieces_held}
use Rattle.vg_underway.proofs.SumLemmas.{sum_from_kept, sum_by_kept, sum_by_none, same_one_self, counts_from_none}

-- what is live, and how often at most
pub live_some : (o : Option Contents) → 0 < cond (is_some o) 1 0 → is_some o ≡ true
live_some None h = absurd (omega (arith, h))
live_some (Some c) h = refl

live_most : (o : Option Contents) → cond (is_some o) 1 0 ≤ 1
live_most None = omega arith
live_most (Some c) = omega arith

-- what has a buffer is not nothing, and has legs
pub none_live : (o : Option Contents) → o ≡ None → is_some o ≡ true → ⊥
none_live None none live = cc
none_live (Some c) none live = none-some c (sym none)

abbrev pub HasLegs : ℕ → Option Contents → Type 0
HasLegs generation o = is_some o ≡ true → (1 ≤ length (unwrap_or o nothing).legs) × (last_generation (unwrap_or o nothing).legs ≡ generation)

-- what is in hand has a buffer, and stands nowhere else
pub live_in_hand : (s : Setting) (node : ℕ) (w : Work) (p : ℕ × Step) (rest : List (ℕ × Step)) → IsHeld s node w (p ∷ rest) → IsLive w.memory p.0
live_in_hand s node w p rest held =
    let all : times_waiting p.0 w.pending + times_in_hand p.0 (p ∷ rest) ≡ live_at w.memory p.0 = held.places p.0 in
    live_some (buffer_at w.memory p.0) (omega (arith, all, same_one_self p.0, sum_by-cons (λ (q : ℕ × Step). same_one p.0 q.0) p rest))

pub waits_nowhere : (s : Setting) (node : ℕ) (w : Work) (p : ℕ × Step) (rest : List (ℕ × Step)) → IsHeld s node w (p ∷ rest) → (times_waiting p.0 w.pending ≡ 0) × (times_in_hand p.0 rest ≡ 0)
waits_nowhere s node w p rest held =
    let all : times_waiting p.0 w.pending + times_in_hand p.0 (p ∷ rest) ≡ live_at w.memory p.0 = held.places p.0 in
    let one = same_one_self p.0 in
    let cons = sum_by-cons (λ (q : ℕ × Step). same_one p.0 q.0) p rest in
    let most = live_most (buffer_at w.memory p.0) in
    (omega (arith, all, one, cons, most), omega (arith, all, one, cons, most))

-- packets that wait are as they were where their buffers are
pub waiting_kept : (s : Setting) (t : Weights) (old new : List (Option Contents)) (pending : List (List ℕ)) → ((i : ℕ) → 0 < times_waiting i pending → buffer_at new i ≡ buffer_at old i)
    → waiting s t new pending ≡ waiting s t old pending
waiting_kept s t old new pending same =
    sum_from_kept (λ n i. owed s t n (contents_at new i)) (λ n i. owed s t n (contents_at old i)) 0 pending
    (λ n i some. ap (λ o. owed s t n (unwrap_or o nothing)) (same i some))

pub in_hand_kept : (s : Setting) (t : Weights) (node : ℕ) (old new : List (Option Contents)) (hand : List (ℕ × Step)) → ((i : ℕ) → 0 < times_in_hand i hand → buffer_at new i ≡ buffer_at old i)
    → in_hand s t node new hand ≡ in_hand s t node old hand
in_hand_kept s t node old new hand same =
    sum_by_kept (λ (p : ℕ × Step). p.0)
    (λ (p : ℕ × Step). move_owed s t (contents_at new p.0) (moved s node (contents_at new p.0) p.1))
    (λ (p : ℕ × Step). move_owed s t (contents_at old p.0) (moved s node (contents_at old p.0) p.1)) hand
    (λ p some. ap (λ o. move_owed s t (unwrap_or o nothing) (moved s node (unwrap_or o nothing) p.1)) (same p.0 some))

-- ends that count nothing
total_without : (s : Setting) (n : ℕ) (w : Work) (ended : List Ended) → total s (by_visits n) w ended ≡ total s (by_visits n) w []
unfolding total
total_without s n w ended = let none = sum_by_none {X = Ended} ended in omega (arith, none)

-- a packet that a queue refused is visited once more at most
last_most : (b : Bool) → length (if b then [] else error_drop ∷ []) ≤ 1
last_most true = omega arith
last_most false = omega arith

pub refusal_most : (outcome : Outcome) (refused : Option ℕ) → length (refusal_visits outcome refused) ≤ 1
refusal_most (Handed node worker) (Some accepted) = last_most (node == error_drop)
refusal_most (Handed node worker) None = omega arith
refusal_most (Sent interface) refused = omega arith
refusal_most (Dropped node error) refused = omega arith

at_most_one : (b : Bool) → cond b 1 0 ≤ 1
at_most_one true = omega arith
at_most_one false = omega arith

pub visits_most : (m : ℕ) (visits : List ℕ) → sum_by (by_visits m).visits visits ≤ length visits
visits_most m [] = omega arith
visits_most m (n ∷ ns) = let rest = visits_most m ns in let one = at_most_one (n == m) in omega (arith, rest, one, sum_by-cons (by_visits m).visits n ns)

pub refused_most : (m : ℕ) (settled : List Settled) → refused_visits (by_visits m).visits settled ≤ length settled
refused_most m [] = omega arith
refused_most m (x ∷ xs) =
    let rest = refused_most m xs in
    let most = visits_most m (settled_visits x) in
    let one = refusal_most x.ended.outcome x.refused in
    omega (arith, rest, most, one, sum_by-cons (λ (x : Settled). sum_by (by_visits m).visits (settled_visits x)) x xs)

pub refused_none : (settled : List Settled) → refused_visits (λ n. 0) settled ≡ 0
refused_none [] = refl
refused_none (x ∷ xs) =
    let rest = refused_none xs in
    omega (arith, rest, sum_by_none (settled_visits x), sum_by-cons (λ (x : Settled). sum_by (λ n. 0) (settled_visits x)) x xs)

-- no more are logged than have ended
pub logged_most : (settled : List Settled) → logged_count settled ≤ length settled
logged_most [] = omega arith
logged_most (x ∷ xs) = one (settled_log x) (filter_map settled_log xs) (length xs) (logged_most xs)
  where
    one : (o : Option Fate) (fs : List Fate) (n : ℕ) → length fs ≤ n → length (cons_option o fs) ≤ suc n
    one None fs n h = omega (arith, h)
    one (Some f) fs n h = omega (arith, h)

-- of this kind are so many logged as there are ends at most
pub logged_of : (p : Fate → Bool) (settled : List Settled) → count_by p (filter_map settled_log settled) ≤ length settled
logged_of p settled = let one = count_by-le-length p (filter_map settled_log settled) in let two = logged_most settled in omega (arith, one, two)

pub total_of : (s : Setting) (t : Weights) (w : Work) (ended : List Ended) → total s t w ended ≡ sum_by t.ends ended + counts_from t.visits 0 w.counts.visits + waiting s t w.memory w.pending
unfolding total
total_of s t w ended = refl

-- what is kept grows by a fate for each that is logged
pub fates_grow : (s : Setting) (node : ℕ) (arrivals : List Arrival) (settled : List Settled) (old new : Work) (h1 h2 : List (ℕ × Step)) → Advances s node arrivals settled old h1 new h2 → length new.fates.items ≡ length old.fates.items + logged_count settled
fates_grow s node arrivals settled old new h1 h2 a =
    ap length a.fates ∙ length-append old.fates.items (filter_map settled_log settled)

-- there is room as there was
pub room_kept : (s : Setting) (node : ℕ) (settled : List Settled) (old new : Work) (h1 h2 : List (ℕ × Step)) → HasRoom s node old h1 → Advances s node [] settled old h1 new h2 → HasRoom s node new h2
room_kept s node settled old new h1 h2 room a =
    let live : count new.memory + length settled ≡ count old.memory + 0 = a.live in
    let most = logged_most settled in
    record {
      fates = (let r = room.fates in let cap = a.room.0 in let grow = fates_grow s node [] settled old new h1 h2 a in omega (arith, r, cap, grow, live, most));
      entries = (let r = room.entries in let cap = a.room.1 in let grow = a.entries_most in omega (arith, r, cap, grow, live));
      bytes =
          (let r = room.bytes in let cap = a.room.2 in let grow = a.bytes in
          let all : total s by_bytes new (ends_of settled) + in_hand s by_bytes node new.memory h2 ≡ total s by_bytes old [] + in_hand s by_bytes node old.memory h1 + 0 + refused_visits (λ n. 0) settled = a.same by_bytes in
          let e1 = total_of s by_bytes new (ends_of settled) in let e2 = total_of s by_bytes old [] in
          let c1 = counts_from_none 0 new.counts.visits in let c2 = counts_from_none 0 old.counts.visits in
          let none = refused_none settled in
          omega (arith, r, cap, grow, all, e1, e2, c1, c2, none));
      visits = λ n.
          (let r = room.visits n in
          let all : total s (by_visits n) new (ends_of settled) + in_hand s (by_visits n) node new.memory h2 ≡ total s (by_visits n) old [] + in_hand s (by_visits n) node old.memory h1 + 0 + refused_visits (by_visits n).visits settled =
          a.same (by_visits n) in
          let e = total_without s n new (ends_of settled) in
          let few = refused_most n settled in
          omega (arith, r, all, e, few, live));
      drops = λ n error. (let r = room.drops n error in let more = a.drops_most n error in omega (arith, r, more, live));
      sends = λ i. (let r = room.sends i in let e = a.sends i in let few = logged_of (λ (f : Fate). is_sent_on i f.end) settled in omega (arith, r, e, few, live));
    }

-- nothing done
pub advances_none : (s : Setting) (node : ℕ) (w : Work) (hand : List (ℕ × Step)) → Advances s node [] [] w hand w hand
advances_none s node w hand = record {
  same = λ t. omega arith;
  may_be = tt;
  live = refl;
  fates = sym (append-nil w.fates.items);
  sent = sym (append-nil (sent_by w.entries.items w.bytes.items));
  entries_most = omega arith;
  bytes = omega arith;
  room = (omega arith, omega arith, omega arith);
  size = record { nodes = refl; interfaces = refl };
  visited = omega arith;
  drops = λ n error. omega arith;
  drops_most = λ n error. omega arith;
  sends = λ i. omega arith;
}

count_append : (p : Fate → Bool) (xs ys : List Fate) → count_by p (xs ++ ys) ≡ count_by p xs + count_by p ys
count_append p xs ys = sum_by-append (λ x. cond (p x) 1 0) xs ys

pub all_append : {X : Type 0} (P : X → Type 0) (xs ys : List X) → AllByRecursion P xs → AllByRecursion P ys → AllByRecursion P (xs ++ ys)
all_append P [] ys one two = two
all_append P (x ∷ xs) ys one two = (one.0, all_append P xs ys one.1 two)

-- one stretch and then another
pub advances_then : (s : Setting) (node : ℕ) (p1 p2 : List Arrival) (s1 s2 : List Settled) (a b c : Work) (ha hb hc : List (ℕ × Step)) → Advances s node p1 s1 a ha b hb → Advances s node p2 s2 b hb c hc
    → Advances s node (p1 ++ p2) (s1 ++ s2) a ha c hc
advances_then s node p1 p2 s1 s2 a b c ha hb hc one two =
    let split : filter_map settled_log (s1 ++ s2) ≡ filter_map settled_log s1 ++ filter_map settled_log s2 = filter_map-append settled_log s1 s2 in
    let ends : ends_of (s1 ++ s2) ≡ ends_of s1 ++ ends_of s2 = map-append (λ (x : Settled). x.ended) s1 s2 in
    record {
      same = λ t.
          let e1 = one.same t in let e2 = two.same t in
          let t1 = total_of s t b (ends_of s1) in let t2 = total_of s t b [] in
          let t3 = total_of s t c (ends_of s2) in let t4 = total_of s t c (ends_of (s1 ++ s2)) in
          let e = ap (sum_by t.ends) ends in
          omega (
            arith,
            e1,
            e2,
            t1,
            t2,
            t3,
            t4,
            e,
            sum_by-append t.ends (ends_of s1) (ends_of s2),
            sum_by-append (arrival_owed s t) p1 p2,
            sum_by-append (λ (x : Settled). sum_by t.visits (settled_visits x)) s1 s2,
          );
      may_be = all_append IsRightlyRefused s1 s2 one.may_be two.may_be;
      live = (let e1 = one.live in let e2 = two.live in omega (arith, e1, e2, length-append s1 s2, length-append p1 p2));
      fates = two.fates ∙ ap (λ xs. xs ++ filter_map settled_log s2) one.fates ∙ append_assoc a.fates.items (filter_map settled_log s1) (filter_map settled_log s2)
          ∙ ap (λ xs. a.fates.items ++ xs) (sym split);
      sent = two.sent ∙ ap (λ xs. xs ++ filter_map settled_sent s2) one.sent ∙ append_assoc (sent_by a.entries.items a.bytes.items) (filter_map settled_sent s1) (filter_map settled_sent s2)
          ∙ ap (λ xs. sent_by a.entries.items a.bytes.items ++ xs) (sym (filter_map-append settled_sent s1 s2));
      entries_most = (let e1 = one.entries_most in let e2 = two.entries_most in omega (arith, e1, e2, length-append s1 s2));
      bytes = (let e1 = one.bytes in let e2 = two.bytes in let e = ap (sum_by sent_len) ends in omega (arith, e1, e2, e, sum_by-append sent_len (ends_of s1) (ends_of s2)));
      room = ((let e1 = one.room.0 in let e2 = two.room.0 in omega (arith, e1, e2)), (let e1 = one.room.1 in let e2 = two.room.1 in omega (arith, e1, e2)), (let e1 = one.room.2 in let e2 = two.room.2 in omega (arith, e1, e2)));
      size = record { nodes = two.size.nodes ∙ one.size.nodes; interfaces = two.size.interfaces ∙ one.size.interfaces };
      visited = (let e1 = one.visited in let e2 = two.visited in omega (arith, e1, e2, sum_by-append (λ (x : Settled). sum_by (λ n. 1) (settled_visits x)) s1 s2));
      drops = λ n error.
          let e1 = one.drops n error in let e2 = two.drops n error in
          let e = ap (count_by (λ (f : Fate). is_drop n error f.end)) split in
          omega (arith, e1, e2, e, count_append (λ (f : Fate). is_drop n error f.end) (filter_map settled_log s1) (filter_map settled_log s2));
      drops_most = λ n error. (let e1 = one.drops_most n error in let e2 = two.drops_most n error in omega (arith, e1, e2, length-append s1 s2));
      sends = λ i.
          let e1 = one.sends i in let e2 = two.sends i in
          let e = ap (count_by (λ (f : Fate). is_sent_on i f.end)) split in
          omega (arith, e1, e2, e, count_append (λ (f : Fate). is_sent_on i f.end) (filter_map settled_log s1) (filter_map settled_log s2));
    }

-- as many buffers are in the cache and with the worker together
pub exchanges_none : (cache : CacheBook) → Exchanges [] [] cache cache
exchanges_none cache = record { len = refl; freed = omega arith; allocated = omega arith; taken = refl; given = refl }

pub exchanges_then : (p1 p2 : List Arrival) (s1 s2 : List Settled) (x y z : CacheBook) → Exchanges p1 s1 x y → Exchanges p2 s2 y z → Exchanges (p1 ++ p2) (s1 ++ s2) x z
exchanges_then p1 p2 s1 s2 x y z one two =
    let drawn = sum_by-append drawn_pieces p1 p2 in
    let logged = sum_by-append settled_pieces s1 s2 in
    record {
      len = (let e1 = one.len in let e2 = two.len in omega (arith, e1, e2, drawn, logged));
      freed = (let e1 = one.freed in let e2 = two.freed in omega (arith, e1, e2, logged));
      allocated = (let e1 = one.allocated in let e2 = two.allocated in omega (arith, e1, e2, drawn));
      taken = two.taken ∙ one.taken;
      given = two.given ∙ one.given;
    }

-- no more buffers come back of packets that were settled than their chains have
pub settled_pieces_most : (settled : List Settled) → sum_by settled_pieces settled ≤ sum_by by_pieces.ends (ends_of settled)
settled_pieces_most [] = omega arith
settled_pieces_most (x ∷ xs) =
    let rest = settled_pieces_most xs in
    let one = some_or_none x.ended.contents.pieces (settled_log x) in
    omega (arith, rest, one, sum_by-cons settled_pieces x xs, sum_by-cons by_pieces.ends x.ended (ends_of xs))
  where
    some_or_none : (n : ℕ) (o : Option Fate) → count_some (λ (f : Fate). n) o ≤ n
    some_or_none n None = omega arith
    some_or_none n (Some f) = omega arith

-- what is under way and what came back are together no more than what was under way
pub pieces_kept : (s : Setting) (node : ℕ) (settled : List Settled) (a b : Work) (ha hb : List (ℕ × Step)) → Advances s node [] settled a ha b hb
    → pieces_held s node b hb + sum_by settled_pieces settled ≤ pieces_held s node a ha
pieces_kept s node settled a b ha hb advances =
    let same = advances.same by_pieces in
    let t1 = total_of s by_pieces b (ends_of settled) in
    let t2 = total_of s by_pieces a [] in
    let c1 = counts_from_none 0 b.counts.visits in
    let c2 = counts_from_none 0 a.counts.visits in
    let none = refused_none settled in
    let most = settled_pieces_most settled in
    omega (arith, same, t1, t2, c1, c2, none, most)

pub takes_kept : (s : Setting) (node : ℕ) (settled : List Settled) (a b : Work) (ha hb : List (ℕ × Step)) (x y : CacheBook) → TakesAll s node a ha x → Advances s node [] settled a ha b hb
    → Exchanges [] settled x y → TakesAll s node b hb y
takes_kept s node settled a b ha hb x y takes advances e =
    let less = pieces_kept s node settled a b ha hb advances in
    record {
      len = (let h = takes.len in let e1 = e.len in omega (arith, h, e1, less));
      freed = (let h = takes.freed in let e1 = e.freed in omega (arith, h, e1, less));
    }

-- by other words for the packets that came
pub advances_of : (s : Setting) (node : ℕ) (one other : List Arrival) (settled : List Settled) (old new : Work) → one ≡ other → Advances s node one settled old [] new [] → Advances s node other settled old [] new []
advances_of s node one other settled old new same a = record {
  same = λ t. (let e = a.same t in let k = ap (sum_by (arrival_owed s t)) same in omega (arith, e, k));
  may_be = a.may_be;
  live = (let e = a.live in let k = ap length same in omega (arith, e, k));
  fates = a.fates;
  sent = a.sent;
  entries_most = a.entries_most;
  bytes = a.bytes;
  room = a.room;
  size = a.size;
  visited = a.visited;
  drops = a.drops;
  drops_most = a.drops_most;
  sends = a.sends;
}
