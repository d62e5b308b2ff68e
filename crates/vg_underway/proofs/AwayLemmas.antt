-- For the clauses of `Work::{put_apart, group, dispatch_next, dispatch_all}` and `away` of `Work::put_away`: the packets of a dispatch are put away one by one.
use Rattle.std.proofs.Common.{◌≡◌, ℕ, suc, ◌+◌, ◌<◌, ◌≤◌, ◌^◌, List, [], ◌∷◌, ◌++◌, length, map, get_or, drop, set, refl, sym, ap, subst, ◌∙◌, arith, add-one, drop-cons, append_assoc}
use Rattle.std.specs.Prelude.{Bool, Option, Some, None, IfSome, slice_index, vec_len, vec_capacity}
use Rattle.std.specs.List.{sum_by}
use Rattle.std.proofs.lemmas.List.{drop_all, length-append, length-map, map-append}
use Rattle.std.proofs.lemmas.List.Sums.{sum_by-cons}
use Rattle.vg_model.specs.Errors.{error_number}
use Rattle.vg_model.specs.declared.kinds.Kind.{Kind}
use Rattle.vg_model.specs.declared.kinds.Step.{Step}
use Rattle.vg_model.specs.declared.kinds.Step.TheVariants.{Next, Tx, Hand}
use Rattle.vg_model.specs.declared.fates.End.{End}
use Rattle.vg_model.specs.declared.fates.End.TheVariants as ends
use Rattle.vg_model.specs.Graph.{Graph, kind_at, slots, arc, error_drop}
use Rattle.vg_model.specs.Valid.{IsTarget, IsStepOf}
use Rattle.vg_model.specs.Leg.{Onward, Over}
use Rattle.vg_model.specs.PoolBook.{CacheBook}
use Rattle.vg_model.proofs.LegEnds.{arc_target}
use Rattle.vg_pool.specs.Contents.{Contents}
use Rattle.vg_frame.specs.Pending.{pending_at, pending_count, TakesFrame}
use Rattle.vg_frame.proofs.PendingLemmas.{put_none, put_more}
use Rattle.vg_counters.specs.Notes.{Notes}
use Rattle.vg_counters.specs.Tally.{Tally, more_at}
use Rattle.vg_nodes.specs.declared.sorted.Sorted.{Sorted}
use Rattle.vg_nodes.specs.Dispatch.{IsSortedBy, IsVisitedBy}
use Rattle.vg_frame.specs.Placed.{count}
use Rattle.vg_journeys.specs.Chains.{count_some}
use Rattle.vg_model.specs.declared.fates.Fate.{Fate}
use Rattle.vg_nodes.specs.Runs.{over_slot}
use Rattle.vg_underway.specs.declared.underway.Work.{Work}
use Rattle.vg_journeys.specs.Ended.{Ended, drop_visits}
use Rattle.vg_journeys.specs.Accounts.{HandoffFrame}
use Rattle.vg_journeys.specs.Turns.{Settled, settled_pieces}
use Rattle.vg_underway.specs.Underway.{Setting, IsSetting, moved, move_owed, contents_at, waiting, in_hand, counts_from}
use Rattle.vg_underway.specs.Hands.{PutsAway, IsDispatched}
use Rattle.vg_underway.proofs.DeliverLemmas.{delivers_then, delivers_nothing}
use Rattle.vg_underway.specs.Traced.{Sight, IsTraced, with_refusals, noted_frame}
use Rattle.vg_underway.specs.Works.{total, next_step, IsHeld, IsSteady, Advances, Exchanges, TakesAll, IsPutAway, EndsHere, hand_of, visits_in_all, visits_left, ends_of, refused_visits, by_pieces}
use Rattle.vg_underway.specs.Works.{CanFinish, CanCount, Finishes, outcome_of, ended_with, settled_with, sent_len, by_bytes, by_visits, by_all_visits}
use Rattle.vg_underway.proofs.SumLemmas.{sum_by_none, counts_from_at}
use Rattle.vg_underway.proofs.OwedLemmas.{target_within, drop_within}
use Rattle.vg_underway.proofs.WorkLemmas.{live_in_hand, total_of, advances_none, advances_then, all_append, exchanges_none, exchanges_then, takes_kept}
use Rattle.vg_underway.proofs.PutLemmas.{with_waiting, to_within, put_steady, finish_steady, settled_logged, settled_here}
use Rattle.vg_underway.proofs.TraceLemmas.{traced_put, traced_finish, traced_at, traced_same, traced_then, traced_ended}
use Rattle.vg_underway.proofs.FrameLemmas.{steady_at, advances_at, with_visited, visited_steady, visited_more}
use Rattle.vg_underway.proofs.VisitedLemmas.{traced_visited}

-- the first of a list in hand
pub hand_first : {A B : Type 0} (step : A → B) (xs items : List A) (i : ℕ) (d : A) (others : List B) → items ≡ xs → i < length items
    → map step (drop i xs) ++ others ≡ step (get_or items i d) ∷ (map step (drop (i + 1) xs) ++ others)
hand_first step xs items i d others same inside =
    let here : i < length xs = subst (λ ys. i < length ys) same inside in
    ap (λ ys. map step ys ++ others) (drop-cons xs i d here)
    ∙ ap (λ ys. step (get_or ys i d) ∷ (map step (drop (suc i) xs) ++ others)) (sym same)
    ∙ ap (λ k. step (get_or items i d) ∷ (map step (drop k xs) ++ others)) (sym (add-one i))

pub hand_last : {A B : Type 0} (step : A → B) (xs items : List A) (i : ℕ) (others : List B) → items ≡ xs → length items ≤ i → map step (drop i xs) ++ others ≡ others
hand_last step xs items i others same past = ap (λ ys. map step ys ++ others) (drop_all i xs (subst (λ ys. length ys ≤ i) same past))

-- nothing is put away yet
pub away_none : (s : Setting) (node : ℕ) (w : Work) (cache : CacheBook) (hand : List (ℕ × Step)) → IsSteady s node w hand → TakesAll s node w hand cache → IsPutAway s node w cache hand w cache hand
away_none s node w cache hand steady takes = record {
  steady = steady;
  takes = takes;
  settled = [];
  advances = advances_none s node w hand;
  exchanges = exchanges_none cache;
  here = tt;
  traced = λ whole packets traced. traced_same s whole packets node w hand traced;
}

-- a packet that goes on
pub away_put : (s : Setting) (node : ℕ) (old : Work) (old_cache : CacheBook) (old_hand : List (ℕ × Step)) (w : Work) (cache : CacheBook) (p : ℕ × Step) (rest : List (ℕ × Step)) (slot to : ℕ) (pending : List (List ℕ))
    → IsSetting s → moved s node (contents_at w.memory p.0) p.1 ≡ Onward (arc s.graph node slot) → arc s.graph node slot ≡ Some to → pending ≡ set w.pending to (pending_at w.pending to ++ p.0 ∷ [])
    → IsPutAway s node old old_cache old_hand w cache (p ∷ rest) → IsPutAway s node old old_cache old_hand (record w { pending = pending }) cache rest
away_put s node old old_cache old_hand w cache p rest slot to pending ok goes leads is away =
    let target : IsTarget (kind_at s.graph to) = arc_target s.graph node to ok.valid (slot, leads) in
    let inside : to < length w.pending = to_within s node w (p ∷ rest) to ok away.steady.held target in
    let step = put_steady s node w p rest to ok away.steady target (goes ∙ ap Onward leads) in
    subst (λ q. IsPutAway s node old old_cache old_hand (record w { pending = q }) cache rest) (sym is) (record {
      steady = step.0;
      takes = takes_kept s node [] w (with_waiting to p.0 w) (p ∷ rest) rest cache cache away.takes step.1 (exchanges_none cache);
      settled = away.settled ++ [];
      advances = advances_then s node [] [] away.settled [] old w (with_waiting to p.0 w) old_hand (p ∷ rest) rest away.advances step.1;
      exchanges = exchanges_then [] [] away.settled [] old_cache cache cache away.exchanges (exchanges_none cache);
      here = all_append EndsHere away.settled [] away.here tt;
      traced = traced_then s node away.settled [] old old_hand w (p ∷ rest) (with_waiting to p.0 w) rest away.traced
          (λ whole packets traced. traced_same s whole packets node (with_waiting to p.0 w) rest (traced_put s whole packets node w p rest to inside (goes ∙ ap Onward leads) traced));
    })

-- and there is room for it
pub put_room : (s : Setting) (node : ℕ) (w : Work) (p : ℕ × Step) (rest : List (ℕ × Step)) → IsHeld s node w (p ∷ rest) → pending_count w.pending < 2304
put_room s node w p rest held = let all : pending_count w.pending + suc (length rest) ≡ count w.memory = held.count_is in let few = held.few in omega (arith, all, few)

-- packets that go on over one slot
pub away_put_each : (s : Setting) (node : ℕ) (old : Work) (old_cache : CacheBook) (old_hand : List (ℕ × Step)) (w : Work) (cache : CacheBook) (run : List ℕ) (rest : List (ℕ × Step)) (slot to : ℕ) (pending : List (List ℕ))
    → IsSetting s → arc s.graph node slot ≡ Some to → pending ≡ set w.pending to (pending_at w.pending to ++ run)
    → IsPutAway s node old old_cache old_hand w cache (map next_step (over_slot slot run) ++ rest) → IsPutAway s node old old_cache old_hand (record w { pending = pending }) cache rest
away_put_each s node old old_cache old_hand w cache [] rest slot to pending ok leads is away =
    let none : pending ≡ w.pending = is ∙ put_none w.pending to in
    subst (λ q. IsPutAway s node old old_cache old_hand (record w { pending = q }) cache rest) (sym none) away
away_put_each s node old old_cache old_hand w cache (index ∷ run) rest slot to pending ok leads is away =
    let target : IsTarget (kind_at s.graph to) = arc_target s.graph node to ok.valid (slot, leads) in
    let inside : to < length w.pending = to_within s node w (map next_step (over_slot slot (index ∷ run)) ++ rest) to ok away.steady.held target in
    let here : List ℕ = pending_at w.pending to ++ index ∷ [] in
    let first : IsPutAway s node old old_cache old_hand (with_waiting to index w) cache (map next_step (over_slot slot run) ++ rest) =
    away_put s node old old_cache old_hand w cache (next_step (index, slot)) (map next_step (over_slot slot run) ++ rest) slot to (set w.pending to here) ok refl leads refl away in
    away_put_each s node old old_cache old_hand (with_waiting to index w) cache run rest slot to pending ok leads
    (is ∙ sym (put_more w.pending to (index ∷ []) run inside)) first

-- and there is room for them
pub put_each_room : (s : Setting) (node : ℕ) (w : Work) (slot : ℕ) (run : List ℕ) (rest : List (ℕ × Step)) → IsHeld s node w (map next_step (over_slot slot run) ++ rest) → pending_count w.pending + length run ≤ 2304
put_each_room s node w slot run rest held =
    let all : pending_count w.pending + length (map next_step (over_slot slot run) ++ rest) ≡ count w.memory = held.count_is in
    let few = held.few in
    let same : length (over_slot slot run) ≡ length run = length-map run (λ (index : ℕ). (index, slot)) in
    omega (arith, all, few, length-append (map next_step (over_slot slot run)) rest, length-map (over_slot slot run) next_step, same)

-- the first of a run, where it has some
pub run_first : (slot : ℕ) (run : List ℕ) (rest : List (ℕ × Step)) → 1 ≤ length run → (index : ℕ) × (others : List (ℕ × Step)) × (map next_step (over_slot slot run) ++ rest ≡ (index, Next slot) ∷ others)
run_first slot [] rest some = absurd (omega (arith, some))
run_first slot (index ∷ run) rest some = (index, map next_step (over_slot slot run) ++ rest, refl)

-- a list in hand begins with a part of it
pub hand_parts : (xs front back : List (ℕ × ℕ)) (others : List (ℕ × Step)) → xs ≡ front ++ back → map next_step xs ++ others ≡ map next_step front ++ (map next_step back ++ others)
hand_parts xs front back others whole =
    ap (λ ys. map next_step ys ++ others) whole ∙ (ap (λ ys. ys ++ others) (map-append next_step front back) ∙ append_assoc (map next_step front) (map next_step back) others)

-- where it goes on to is one of the nodes
pub put_within : (s : Setting) (node : ℕ) (old : Work) (old_cache : CacheBook) (old_hand : List (ℕ × Step)) (w : Work) (cache : CacheBook) (hand : List (ℕ × Step)) (slot to : ℕ)
    → IsSetting s → arc s.graph node slot ≡ Some to → IsPutAway s node old old_cache old_hand w cache hand → to < length w.pending
put_within s node old old_cache old_hand w cache hand slot to ok leads away =
    let in_graph = target_within s.graph to (arc_target s.graph node to ok.valid (slot, leads)) in
    let few = ok.few_nodes in let size = away.steady.held.nodes in
    omega (arith, in_graph, few, size)

-- the end is one that a node of the graph gives
abbrev pub IsEndIn : Setting → End → Type 0
IsEndIn s (ends.Tx interface) = interface < length s.graph.interfaces
IsEndIn s (ends.Dropped node error) = node < length s.graph.nodes

pub some_in_hand : (s : Setting) (node : ℕ) (w : Work) (p : ℕ × Step) (rest : List (ℕ × Step)) → IsHeld s node w (p ∷ rest) → 1 ≤ count w.memory
some_in_hand s node w p rest held = let all : pending_count w.pending + suc (length rest) ≡ count w.memory = held.count_is in omega (arith, all)

pub can_count : (s : Setting) (node : ℕ) (w : Work) (p : ℕ × Step) (rest : List (ℕ × Step)) (end : End) → IsSetting s → IsSteady s node w (p ∷ rest) → IsEndIn s end → CanCount end w.counts
can_count s node w p rest (ends.Tx interface) ok steady within =
    let some = some_in_hand s node w p rest steady.held in
    let few = ok.few_interfaces in let size = steady.held.sends in let room = steady.room.sends interface in
    (omega (arith, within, few, size), omega (arith, some, room))
can_count s node w p rest (ends.Dropped n error) ok steady within =
    let some = some_in_hand s node w p rest steady.held in
    let few = ok.few_nodes in let size = steady.held.visits in let room = steady.room.drops n (error_number error) in
    let drop_node = drop_within s ok in
    let visits : total s (by_visits error_drop) w [] + in_hand s (by_visits error_drop) node w.memory (p ∷ rest) + count w.memory < 2 ^ 62 = steady.room.visits error_drop in
    let e = total_of s (by_visits error_drop) w [] in
    let here : counts_from (by_visits error_drop).visits 0 w.counts.visits ≡ slice_index w.counts.visits error_drop = counts_from_at error_drop w.counts.visits in
    (omega (arith, within, few, size), omega (arith, some, room), omega (arith, drop_node, few, size), omega (arith, visits, e, here))

-- a packet whose leg is over may be taken out
pub can_finish : (s : Setting) (node : ℕ) (old : Work) (old_cache : CacheBook) (old_hand : List (ℕ × Step)) (w : Work) (cache : CacheBook) (p : ℕ × Step) (rest : List (ℕ × Step)) (end : End)
    → IsSetting s → IsEndIn s end → moved s node (contents_at w.memory p.0) p.1 ≡ Over (outcome_of end) → IsPutAway s node old old_cache old_hand w cache (p ∷ rest) → CanFinish p.0 end w cache
can_finish s node old old_cache old_hand w cache p rest end ok within over away =
    let some = some_in_hand s node w p rest away.steady.held in
    let c : Contents = contents_at w.memory p.0 in
    record {
      live = live_in_hand s node w p rest away.steady.held;
      legs = ((away.steady.held.legs p.0 (live_in_hand s node w p rest away.steady.held)).0, (away.steady.held.sound p.0).few_legs);
      fates = (let room = away.steady.room.fates in omega (arith, some, room));
      entries = (let room = away.steady.room.entries in omega (arith, some, room));
      bytes =
          (let room : vec_len w.bytes + (waiting s by_bytes w.memory w.pending + in_hand s by_bytes node w.memory (p ∷ rest)) ≤ vec_capacity w.bytes = away.steady.room.bytes in
          let owes : move_owed s by_bytes c (moved s node c p.1) ≡ sum_by (λ n. 0) (drop_visits (outcome_of end)) + sent_len (ended_with end c) = ap (move_owed s by_bytes c) over in
          let cons : in_hand s by_bytes node w.memory (p ∷ rest) ≡ move_owed s by_bytes c (moved s node c p.1) + in_hand s by_bytes node w.memory rest =
          sum_by-cons (λ (q : ℕ × Step). move_owed s by_bytes (contents_at w.memory q.0) (moved s node (contents_at w.memory q.0) q.1)) p rest in
          omega (arith, room, owes, cons));
      within = away.steady.held.within;
      counts = can_count s node w p rest end ok away.steady within;
      len =
          (let room = away.takes.len in
          let owes : move_owed s by_pieces c (moved s node c p.1) ≡ sum_by (λ n. 0) (drop_visits (outcome_of end)) + c.pieces = ap (move_owed s by_pieces c) over in
          let cons : in_hand s by_pieces node w.memory (p ∷ rest) ≡ move_owed s by_pieces c (moved s node c p.1) + in_hand s by_pieces node w.memory rest =
          sum_by-cons (λ (q : ℕ × Step). move_owed s by_pieces (contents_at w.memory q.0) (moved s node (contents_at w.memory q.0) q.1)) p rest in
          omega (arith, room, owes, cons));
      freed = (let room = away.takes.freed in omega (arith, room));
    }

-- a packet whose leg is over is taken out
pub away_finish : (s : Setting) (node : ℕ) (old : Work) (old_cache : CacheBook) (old_hand : List (ℕ × Step)) (w : Work) (cache : CacheBook) (p : ℕ × Step) (rest : List (ℕ × Step)) (end : End) (new : Work) (new_cache : CacheBook)
    → IsSetting s → IsEndIn s end → moved s node (contents_at w.memory p.0) p.1 ≡ Over (outcome_of end) → Finishes p.0 end w new
    → new_cache ≡ record cache { len = cache.len + (contents_at w.memory p.0).pieces; freed = cache.freed + (contents_at w.memory p.0).pieces }
    → IsPutAway s node old old_cache old_hand w cache (p ∷ rest) → IsPutAway s node old old_cache old_hand new new_cache rest
away_finish s node old old_cache old_hand w cache p rest end new new_cache ok within over f is away =
    let can = can_count s node w p rest end ok away.steady within in
    let step = finish_steady s node w new p rest end away.steady can f over in
    let c : Contents = contents_at w.memory p.0 in
    let here = ap (count_some (λ (x : Fate). c.pieces)) (settled_logged end c) in
    let cons = sum_by-cons settled_pieces (settled_with end c) [] in
    let one : sum_by settled_pieces (settled_with end c ∷ []) ≡ c.pieces = omega (arith, here, cons) in
    let len : new_cache.len ≡ cache.len + c.pieces = ap (λ x. x.len) is in
    let freed : new_cache.freed ≡ cache.freed + c.pieces = ap (λ x. x.freed) is in
    let exchange : Exchanges [] (settled_with end c ∷ []) cache new_cache = record {
      len = omega (arith, one, len);
      freed = omega (arith, one, freed);
      allocated = ap (λ x. x.allocated) is ∙ (let e : cache.allocated ≡ cache.allocated + 0 = omega arith in e);
      taken = ap (λ x. x.taken) is;
      given = ap (λ x. x.given) is;
    } in
    record {
      steady = step.0;
      takes = takes_kept s node (settled_with end c ∷ []) w new (p ∷ rest) rest cache new_cache away.takes step.1 exchange;
      settled = away.settled ++ settled_with end c ∷ [];
      advances = advances_then s node [] [] away.settled (settled_with end c ∷ []) old w new old_hand (p ∷ rest) rest away.advances step.1;
      exchanges = exchanges_then [] [] away.settled (settled_with end c ∷ []) old_cache cache new_cache away.exchanges exchange;
      here = all_append EndsHere away.settled (settled_with end c ∷ []) away.here (settled_here end c, tt);
      traced = traced_then s node away.settled (settled_with end c ∷ []) old old_hand w (p ∷ rest) new rest away.traced
          (λ whole packets traced. traced_ended s whole packets node new rest end c (traced_finish s whole packets node w new p rest end away.steady.held f over traced));
    }

-- the slot of a step is one of the node's
slot_of : (g : Graph) (o : Option Kind) (slot : ℕ) → IsStepOf g o (Next slot) → IfSome o (λ kind. slot < length (slots kind))
slot_of g None slot h = tt
slot_of g (Some kind) slot h = h

pub next_slot : (s : Setting) (node index slot : ℕ) (w : Work) (rest : List (ℕ × Step)) → IsHeld s node w ((index, Next slot) ∷ rest) → IfSome (kind_at s.graph node) (λ kind. slot < length (slots kind))
next_slot s node index slot w rest held = slot_of s.graph (kind_at s.graph node) slot held.steps.0

resume_of : (g : Graph) (o : Option Kind) (hash : ℕ) → IsStepOf g o (Hand hash) → IfSome o (λ kind. 0 < length (slots kind))
resume_of g None hash h = tt
resume_of g (Some kind) hash h = subst (λ k. 0 < length (slots k)) (sym h.1) (omega arith)

pub hand_slot : (s : Setting) (node index hash : ℕ) (w : Work) (rest : List (ℕ × Step)) → IsHeld s node w ((index, Hand hash) ∷ rest) → IfSome (kind_at s.graph node) (λ kind. 0 < length (slots kind))
hand_slot s node index hash w rest held = resume_of s.graph (kind_at s.graph node) hash held.steps.0

-- the interface of a step is one of the graph's
interface_of : (g : Graph) (o : Option Kind) (interface : ℕ) → IsTarget o → IsStepOf g o (Tx interface) → interface < length g.interfaces
interface_of g None interface target h = absurd target
interface_of g (Some kind) interface target h = h

pub tx_interface : (s : Setting) (node index interface : ℕ) (w : Work) (rest : List (ℕ × Step)) → IsTarget (kind_at s.graph node) → IsHeld s node w ((index, Tx interface) ∷ rest) → interface < length s.graph.interfaces
tx_interface s node index interface w rest target held = interface_of s.graph (kind_at s.graph node) interface target held.steps.0

-- a frame that was taken, counted, noted and visited is in hand
pub record IsInHand (s : Setting) (w : Work) (node : ℕ) (mid : Work) (hand : List (ℕ × Step)) : Type 0 where
  pub steady : IsSteady s node mid hand
  pub advances : Advances s node [] [] w [] mid hand
  pub more : visits_in_all w.counts < visits_in_all mid.counts
  pub count_is : count mid.memory ≡ count w.memory
  pub traced : (whole : Sight) (packets : ℕ) → IsTraced s whole packets node w [] → IsTraced s whole packets node mid hand

pub dispatched : (s : Setting) (w : Work) (node : ℕ) (frame : List ℕ) (n : ℕ) (pending : List (List ℕ)) (memory : List (Option Contents)) (counts : Tally) (noted : Work) (sorted : Sorted) → IsSetting s → IsSteady s 0 w []
    → TakesFrame w.pending node frame pending → n ≡ length frame → counts ≡ record w.counts { visits = more_at node n w.counts.visits }
    → noted ≡ record w { pending = pending; counts = counts; trace = noted_frame w.memory node frame w.trace }
    → IsSortedBy (s.visit s.graph node) noted.memory frame sorted → IsVisitedBy (s.visit s.graph node) frame noted.memory memory → IsInHand s w node (record noted { memory = memory }) (hand_of sorted)
dispatched s w node frame n pending memory counts noted sorted ok steady takes size counted is_noted is v =
    let trace : Notes = noted_frame w.memory node frame w.trace in
    let same : counts ≡ record w.counts { visits = more_at node (length frame) w.counts.visits } = counted ∙ ap (λ k. record w.counts { visits = more_at node k w.counts.visits }) size in
    let memory_is : noted.memory ≡ w.memory = ap (λ (x : Work). x.memory) is_noted in
    let sorted_is : IsSortedBy (s.visit s.graph node) w.memory frame sorted = subst (λ m. IsSortedBy (s.visit s.graph node) m frame sorted) memory_is is in
    let visited : IsVisitedBy (s.visit s.graph node) frame w.memory memory = subst (λ m. IsVisitedBy (s.visit s.graph node) frame m memory) memory_is v in
    let mid : Work = with_visited node (length frame) pending memory trace w in
    let mid_is : mid ≡ record noted { memory = memory } =
    ap (λ (t : Tally). record w { pending = pending; memory = memory; counts = t; trace = trace }) (sym same) ∙ ap (λ (x : Work). record x { memory = memory }) (sym is_noted) in
    let all = visited_steady s w node frame pending memory trace sorted ok steady takes sorted_is visited in
    subst (λ (x : Work). IsInHand s w node x (hand_of sorted)) mid_is (record {
      steady = all.0;
      advances = all.1;
      more = visited_more s w node frame pending memory trace ok steady.held takes;
      count_is = visited.count;
      traced = λ whole packets traced. traced_visited s whole packets w node frame pending memory mid.counts sorted ok steady.held takes sorted_is visited (traced_at s whole packets node 0 w traced);
    })

pub put_away : {told : List Settled → Type 0} (s : Setting) (node slots : ℕ) (lossless : Bool) (w mid : Work) (cache : CacheBook) (put : List (List HandoffFrame)) (hand : List (ℕ × Step)) (new : Work) (new_cache : CacheBook) (new_put : List (List HandoffFrame)) → IsInHand s w node mid hand
    → PutsAway s node slots lossless told mid cache put hand new new_cache new_put [] → IsDispatched s slots lossless told w cache put new new_cache new_put
put_away s node slots lossless w mid cache put hand new new_cache new_put first away = record {
  steady = steady_at s node 0 new away.steady;
  takes = record { len = away.takes.len; freed = away.takes.freed };
  settled = away.settled;
  advances = advances_at s node 0 [] away.settled w new (advances_then s node [] [] [] away.settled w mid new [] hand [] first.advances away.advances);
  exchanges = away.exchanges;
  delivers = away.delivers;
  traced = λ whole packets traced. traced_at s (with_refusals away.settled whole) packets node 0 new (away.traced whole packets (first.traced whole packets (traced_at s whole packets 0 node w traced)));
  tells = away.tells;
}

-- one stretch and then another
pub away_then : (s : Setting) (node : ℕ) (a b c : Work) (xa xb xc : CacheBook) (ha hb hc : List (ℕ × Step)) → IsPutAway s node a xa ha b xb hb → IsPutAway s node b xb hb c xc hc → IsPutAway s node a xa ha c xc hc
away_then s node a b c xa xb xc ha hb hc one two = record {
  steady = two.steady;
  takes = two.takes;
  settled = one.settled ++ two.settled;
  advances = advances_then s node [] [] one.settled two.settled a b c ha hb hc one.advances two.advances;
  exchanges = exchanges_then [] [] one.settled two.settled xa xb xc one.exchanges two.exchanges;
  here = all_append EndsHere one.settled two.settled one.here two.here;
  traced = traced_then s node one.settled two.settled a ha b hb c hc one.traced two.traced;
}

-- none yet
pub dispatched_none : {told : List Settled → Type 0} (s : Setting) (slots : ℕ) (lossless : Bool) (w : Work) (cache : CacheBook) (put : List (List HandoffFrame)) → IsSteady s 0 w [] → TakesAll s 0 w [] cache → told [] → IsDispatched s slots lossless told w cache put w cache put
dispatched_none s slots lossless w cache put steady takes tells = record {
  steady = steady;
  takes = takes;
  settled = [];
  advances = advances_none s 0 w [];
  exchanges = exchanges_none cache;
  delivers = delivers_nothing s slots lossless [] put tt;
  traced = λ whole packets traced. traced_same s whole packets 0 w [] traced;
  tells = tells;
}

-- one frame more
pub dispatched_more : {first second told : List Settled → Type 0} (s : Setting) (slots : ℕ) (lossless : Bool) (old w new : Work) (old_cache cache new_cache : CacheBook) (old_put put new_put : List (List HandoffFrame)) → IsDispatched s slots lossless first old old_cache old_put w cache put
    → IsDispatched s slots lossless second w cache put new new_cache new_put → ((earlier later : List Settled) → first earlier → second later → told (earlier ++ later)) → IsDispatched s slots lossless told old old_cache old_put new new_cache new_put
dispatched_more s slots lossless old w new old_cache cache new_cache old_put put new_put all one tells = record {
  steady = one.steady;
  takes = one.takes;
  settled = all.settled ++ one.settled;
  advances = advances_then s 0 [] [] all.settled one.settled old w new [] [] [] all.advances one.advances;
  exchanges = exchanges_then [] [] all.settled one.settled old_cache cache new_cache all.exchanges one.exchanges;
  delivers = delivers_then s slots lossless all.settled one.settled old_put put new_put all.delivers one.delivers;
  traced = traced_then s 0 all.settled one.settled old [] w [] new [] all.traced one.traced;
  tells = tells all.settled one.settled all.tells one.tells;
}

-- fewer visits are still to come
pub visits_fall : (s : Setting) (node : ℕ) (settled : List Settled) (w mid new : Work) (hand : List (ℕ × Step)) → IsInHand s w node mid hand → Advances s node [] settled mid hand new [] → visits_left s new < visits_left s w
visits_fall s node settled w mid new hand first a =
    let all : Advances s node [] settled w [] new [] = advances_then s node [] [] [] settled w mid new [] hand [] first.advances a in
    let same : total s by_all_visits new (ends_of settled) + 0 ≡ total s by_all_visits w [] + 0 + 0 + refused_visits (λ n. 1) settled = all.same by_all_visits in
    let t1 = total_of s by_all_visits new (ends_of settled) in let t2 = total_of s by_all_visits w [] in
    let none = sum_by_none {X = Ended} (ends_of settled) in
    let grows = a.visited in
    let more = first.more in
    omega (arith, same, t1, t2, none, grows, more)
