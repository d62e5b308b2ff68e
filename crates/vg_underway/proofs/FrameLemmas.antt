-- For the clause `dispatched` of `Work::dispatch_next`, and for what its calls require: a frame is taken, visited and sorted.
use Rattle.std.proofs.Common.{◌≡◌, ℕ, zero, suc, ◌+◌, ◌*◌, ◌<◌, ◌≤◌, ◌^◌, true, cond, List, [], ◌∷◌, ◌++◌, length, set, drop, refl, sym, ap, subst, ◌∙◌, inl, inr, arith, zero-add}
use Rattle.std.specs.Prelude.{Option, Some, None, is_some, option_map, unwrap_or, slice_index, nat_eq}
use Rattle.std.specs.List.{sum_by, AllByRecursion, IsDistinct}
use Rattle.std.proofs.Math.ListN.{length-set}
use Rattle.std.proofs.lemmas.List.{append-nil, take-append-drop, length-take, get_or-set_other}
use Rattle.std.proofs.lemmas.List.Sums.{sum_by-cons}
use Rattle.std.proofs.lemmas.Option.{none-some, same_Some}
use Rattle.std.proofs.lemmas.Bool.{eq-eqb}
use Rattle.std.proofs.lemmas.Bool.Decides.{eqb_tells}
use Rattle.vg_model.specs.declared.kinds.Step.{Step}
use Rattle.vg_model.specs.Graph.{kind_at}
use Rattle.vg_model.specs.Valid.{IsTarget, IsVisitOf, IsStepOf}
use Rattle.vg_pool.specs.Contents.{Contents, AreContents}
use Rattle.vg_frame.specs.Pending.{frame_size, pending_at, pending_count, TakesFrame}
use Rattle.vg_frame.specs.Placed.{buffer_at, count, IsLive}
use Rattle.vg_counters.specs.Notes.{Notes}
use Rattle.vg_counters.specs.Tally.{Tally, more_at}
use Rattle.vg_nodes.specs.declared.sorted.Sorted.{Sorted}
use Rattle.vg_nodes.specs.Dispatch.{NodeVisit, after_visit, IsSortedBy, IsVisitedBy}
use Rattle.vg_underway.specs.declared.underway.Work.{Work}
use Rattle.vg_journeys.specs.Trips.{Arrival}
use Rattle.vg_journeys.specs.Turns.{Settled}
use Rattle.vg_underway.specs.Underway.{Setting, Weights, IsSetting, owed, after_at, moved, move_at, move_owed, contents_at, live_at, waiting, in_hand, counts_from, sum_from, nothing}
use Rattle.vg_underway.specs.Places.{same_one, times_waiting, times_in_hand}
use Rattle.vg_underway.specs.Works.{total, hand_of, IsHeld, IsSteady, IsStepIn, Advances, by_visits, visits_in_all}
use Rattle.vg_underway.proofs.SumLemmas.{sum_from_take, sum_by_at, counts_from_more, counts_from_at}
use Rattle.vg_underway.proofs.OwedLemmas.{owed_frame, laws_at, target_within}
use Rattle.vg_underway.proofs.SortedLemmas.{sum_hand, step_sum, all_hand, HoldsOfStep, not_among, among_holds, all_live, all_distinct}
use Rattle.vg_underway.proofs.WorkLemmas.{HasLegs, none_live, waiting_kept, total_of, room_kept}

-- where no packet is in hand, any node will do
pub steady_at : (s : Setting) (node other : ℕ) (w : Work) → IsSteady s node w [] → IsSteady s other w []
steady_at s node other w steady = record {
  held = record {
    nodes = steady.held.nodes;
    places = steady.held.places;
    count_is = steady.held.count_is;
    few = steady.held.few;
    targets = steady.held.targets;
    steps = tt;
    sound = steady.held.sound;
    legs = steady.held.legs;
    visits = steady.held.visits;
    sends = steady.held.sends;
    whole = steady.held.whole;
    within = steady.held.within;
  };
  room = record {
    fates = steady.room.fates;
    entries = steady.room.entries;
    bytes = steady.room.bytes;
    visits = steady.room.visits;
    drops = steady.room.drops;
    sends = steady.room.sends;
  };
}

pub advances_at : (s : Setting) (node other : ℕ) (arrivals : List Arrival) (settled : List Settled) (old new : Work) → Advances s node arrivals settled old [] new [] → Advances s other arrivals settled old [] new []
advances_at s node other arrivals settled old new a = record {
  same = a.same;
  may_be = a.may_be;
  live = a.live;
  fates = a.fates;
  sent = a.sent;
  entries_most = a.entries_most;
  bytes = a.bytes;
  room = a.room;
  size = a.size;
  visited = a.visited;
  drops = a.drops;
  drops_most = a.drops_most;
  sends = a.sends;
}

-- a sum over what waits is that over a frame and over what waits behind it
pub taken_sum : (f : ℕ → ℕ → ℕ) (old new : List (List ℕ)) (node : ℕ) (frame : List ℕ) → TakesFrame old node frame new → sum_from f 0 new + sum_by (f node) frame ≡ sum_from f 0 old
taken_sum f old new node frame takes =
    let queue = pending_at old node in
    let parts : queue ≡ frame ++ drop frame_size queue = sym (take-append-drop frame_size queue) ∙ ap (λ xs. xs ++ drop frame_size queue) (sym takes.oldest) in
    let all : sum_from f 0 (set old node (drop frame_size queue)) + sum_by (f (0 + node)) frame ≡ sum_from f 0 old = sum_from_take f 0 old node frame (drop frame_size queue) takes.within parts in
    let same : sum_from f 0 new ≡ sum_from f 0 (set old node (drop frame_size queue)) = ap (sum_from f 0) takes.rest in
    let here : sum_by (f (0 + node)) frame ≡ sum_by (f node) frame = ap (λ n. sum_by (f n) frame) (zero-add node) in
    omega (arith, all, same, here)

pub frame_some : (old new : List (List ℕ)) (node : ℕ) (frame : List ℕ) → TakesFrame old node frame new → 0 < length frame
frame_some old new node frame takes =
    let e = ap length takes.oldest in let some = takes.some in omega (arith, e, some, length-take frame_size (pending_at old node))

-- how often the indexes of a frame stand where
pub frame_places : (s : Setting) (w : Work) (node : ℕ) (frame : List ℕ) (pending : List (List ℕ)) → IsHeld s 0 w [] → TakesFrame w.pending node frame pending
    → (i : ℕ) → times_waiting i pending + sum_by (same_one i) frame ≡ live_at w.memory i
frame_places s w node frame pending held takes i =
    let all : times_waiting i w.pending + 0 ≡ live_at w.memory i = held.places i in
    let parts = taken_sum (λ n. same_one i) w.pending pending node frame takes in
    omega (arith, all, parts)

live_most : (o : Option Contents) → cond (is_some o) 1 0 ≤ 1
live_most None = omega arith
live_most (Some c) = omega arith

pub frame_live : (s : Setting) (w : Work) (node : ℕ) (frame : List ℕ) (pending : List (List ℕ)) → IsHeld s 0 w [] → TakesFrame w.pending node frame pending → AllByRecursion (IsLive w.memory) frame
frame_live s w node frame pending held takes = all_live w.memory frame (λ i. let e = frame_places s w node frame pending held takes i in omega (arith, e))

-- and where it was counted and noted
pub noted_live : (s : Setting) (w noted : Work) (node : ℕ) (frame : List ℕ) (pending : List (List ℕ)) (counts : Tally) (trace : Notes) → IsHeld s 0 w [] → TakesFrame w.pending node frame pending
    → noted ≡ record w { pending = pending; counts = counts; trace = trace } → AllByRecursion (IsLive noted.memory) frame
noted_live s w noted node frame pending counts trace held takes is = subst (λ (x : Work). AllByRecursion (IsLive x.memory) frame) (sym is) (frame_live s w node frame pending held takes)

legs_of_live : (s : Setting) (w : Work) (frame : List ℕ) → IsHeld s 0 w [] → AllByRecursion (IsLive w.memory) frame
    → AllByRecursion (λ i. (1 ≤ length (contents_at w.memory i).legs) × (length (contents_at w.memory i).legs ≤ 4)) frame
legs_of_live s w [] held live = tt
legs_of_live s w (i ∷ rest) held live = (((held.legs i live.0).0, (held.sound i).few_legs), legs_of_live s w rest held live.1)

pub frame_legs : (s : Setting) (w : Work) (node : ℕ) (frame : List ℕ) (pending : List (List ℕ)) → IsHeld s 0 w [] → TakesFrame w.pending node frame pending
    → AllByRecursion (λ i. (1 ≤ length (contents_at w.memory i).legs) × (length (contents_at w.memory i).legs ≤ 4)) frame
frame_legs s w node frame pending held takes = legs_of_live s w frame held (frame_live s w node frame pending held takes)

pub frame_distinct : (s : Setting) (w : Work) (node : ℕ) (frame : List ℕ) (pending : List (List ℕ)) → IsHeld s 0 w [] → TakesFrame w.pending node frame pending → IsDistinct nat_eq frame
frame_distinct s w node frame pending held takes =
    all_distinct frame (λ i. let e = frame_places s w node frame pending held takes i in let most = live_most (buffer_at w.memory i) in omega (arith, e, most))

pub frame_target : (s : Setting) (w : Work) (node : ℕ) (frame : List ℕ) (pending : List (List ℕ)) → IsHeld s 0 w [] → TakesFrame w.pending node frame pending → IsTarget (kind_at s.graph node)
frame_target s w node frame pending held takes = held.targets node takes.some

-- what a frame is owed, as its node visits it
frame_owed : (s : Setting) (t : Weights) (w : Work) (node : ℕ) (frame : List ℕ) (pending : List (List ℕ)) → IsSetting s → IsHeld s 0 w [] → TakesFrame w.pending node frame pending
    → waiting s t w.memory pending + (t.visits node * length frame + sum_by (λ i. move_owed s t (after_at s node (contents_at w.memory i)) (move_at s node (contents_at w.memory i))) frame)
    ≡ waiting s t w.memory w.pending
frame_owed s t w node frame pending ok held takes =
    let parts : sum_from (λ n i. owed s t n (contents_at w.memory i)) 0 pending + sum_by (λ i. owed s t node (contents_at w.memory i)) frame ≡ waiting s t w.memory w.pending =
    taken_sum (λ n i. owed s t n (contents_at w.memory i)) w.pending pending node frame takes in
    let all = owed_frame s t node (contents_at w.memory) frame ok (λ i. (held.sound i).packet) (frame_target s w node frame pending held takes) in
    omega (arith, parts, all)

node_within : (s : Setting) (w : Work) (node : ℕ) → IsSetting s → IsHeld s 0 w [] → IsTarget (kind_at s.graph node) → node < length w.counts.visits
node_within s w node ok held target =
    let in_graph = target_within s.graph node target in let few = ok.few_nodes in let size = held.visits in omega (arith, in_graph, few, size)

-- there is room to count the visits of a frame
one_time : (n : ℕ) → 1 * n ≡ n
one_time n = grind arith

pub frame_counts : (s : Setting) (w : Work) (node : ℕ) (frame : List ℕ) (pending : List (List ℕ)) → IsSetting s → IsSteady s 0 w [] → TakesFrame w.pending node frame pending
    → (node < length w.counts.visits) × (slice_index w.counts.visits node + length frame < 2 ^ 63)
frame_counts s w node frame pending ok steady takes =
    let t : Weights = by_visits node in
    let target = frame_target s w node frame pending steady.held takes in
    let yes : t.visits node ≡ 1 = ap (λ b. cond b 1 0) (eq-eqb node node refl) in
    let product : t.visits node * length frame ≡ length frame = ap (λ k. k * length frame) yes ∙ one_time (length frame) in
    let all = frame_owed s t w node frame pending ok steady.held takes in
    let room : total s t w [] + 0 + count w.memory < 2 ^ 62 = steady.room.visits node in
    let e = total_of s t w [] in
    let here : counts_from t.visits 0 w.counts.visits ≡ slice_index w.counts.visits node = counts_from_at node w.counts.visits in
    (node_within s w node ok steady.held target, omega (arith, product, all, room, e, here))

-- an index of the frame, and one that isn't
seen_live : (visit : NodeVisit) (o new : Option Contents) → new ≡ option_map (after_visit visit) o → is_some new ≡ is_some o
seen_live visit None new e = ap is_some e
seen_live visit (Some c) new e = ap is_some e

visited_live : (visit : NodeVisit) (frame : List ℕ) (old new : List (Option Contents)) → IsVisitedBy visit frame old new → (i : ℕ) → live_at new i ≡ live_at old i
visited_live visit frame old new v i = by (sum_by (same_one i) frame) refl
  where
    by : (n : ℕ) → sum_by (same_one i) frame ≡ n → live_at new i ≡ live_at old i
    by zero none = ap (λ o. cond (is_some o) 1 0) (v.others i (not_among i frame none))
    by (suc n) some =
        let here = among_holds (λ k. buffer_at new k ≡ option_map (after_visit visit) (buffer_at old k)) i frame v.visited (omega (arith, some)) in
        ap (λ b. cond b 1 0) (seen_live visit (buffer_at old i) (buffer_at new i) here)

sound_after : (s : Setting) (node : ℕ) (o new : Option Contents) → IsSetting s → IsTarget (kind_at s.graph node) → new ≡ option_map (after_visit (s.visit s.graph node)) o
    → AreContents (unwrap_or o nothing) → AreContents (unwrap_or new nothing)
sound_after s node None new ok target e sound = subst (λ x. AreContents (unwrap_or x nothing)) (sym e) sound
sound_after s node (Some c) new ok target e sound =
    let laws : IsVisitOf s.graph node c.packet (s.visit s.graph node c.packet) = laws_at s node c ok sound.packet target in
    subst (λ x. AreContents (unwrap_or x nothing)) (sym e) (record {
      packet = laws.packet;
      some = sound.some;
      few = sound.few;
      room = laws.room sound.room sound.len;
      len = (let less = laws.no_larger in let len = sound.len in omega (arith, less, len));
      fits = (let less = laws.no_larger in let fits = sound.fits in omega (arith, less, fits));
      few_legs = sound.few_legs;
    })

visited_sound : (s : Setting) (node : ℕ) (frame : List ℕ) (old new : List (Option Contents)) → IsSetting s → IsTarget (kind_at s.graph node) → IsVisitedBy (s.visit s.graph node) frame old new
    → ((i : ℕ) → AreContents (contents_at old i)) → (i : ℕ) → AreContents (contents_at new i)
visited_sound s node frame old new ok target v sound i = by (sum_by (same_one i) frame) refl
  where
    by : (n : ℕ) → sum_by (same_one i) frame ≡ n → AreContents (contents_at new i)
    by zero none = subst (λ o. AreContents (unwrap_or o nothing)) (sym (v.others i (not_among i frame none))) (sound i)
    by (suc n) some =
        let here = among_holds (λ k. buffer_at new k ≡ option_map (after_visit (s.visit s.graph node)) (buffer_at old k)) i frame v.visited (omega (arith, some)) in
        sound_after s node (buffer_at old i) (buffer_at new i) ok target here (sound i)

-- legs stay
legs_after : (g : ℕ) (visit : NodeVisit) (o new : Option Contents) → new ≡ option_map (after_visit visit) o → HasLegs g o → HasLegs g new
legs_after g visit None new e legs = λ live. absurd (none_live new e live)
legs_after g visit (Some c) new e legs = subst (HasLegs g) (sym e) (λ live. legs refl)

visited_legs : (g : ℕ) (visit : NodeVisit) (frame : List ℕ) (old new : List (Option Contents)) → IsVisitedBy visit frame old new → ((i : ℕ) → HasLegs g (buffer_at old i)) → (i : ℕ) → HasLegs g (buffer_at new i)
visited_legs g visit frame old new v legs i = by (sum_by (same_one i) frame) refl
  where
    by : (n : ℕ) → sum_by (same_one i) frame ≡ n → HasLegs g (buffer_at new i)
    by zero none = subst (HasLegs g) (sym (v.others i (not_among i frame none))) (legs i)
    by (suc n) some =
        let here = among_holds (λ k. buffer_at new k ≡ option_map (after_visit visit) (buffer_at old k)) i frame v.visited (omega (arith, some)) in
        legs_after g visit (buffer_at old i) (buffer_at new i) here (legs i)

-- the steps are the node's
step_in : (s : Setting) (node i : ℕ) (o : Option Contents) (step : Step) → IsSetting s → IsTarget (kind_at s.graph node) → AreContents (unwrap_or o nothing)
    → option_map (λ c. (s.visit s.graph node c.packet).0) o ≡ Some step → IsStepIn s node (i, step)
step_in s node i None step ok target sound e = absurd (none-some step e)
step_in s node i (Some c) step ok target sound e =
    subst (IsStepOf s.graph (kind_at s.graph node)) (same_Some _ step e) (laws_at s node c ok sound.packet target).step

steps_in : (s : Setting) (node : ℕ) (memory : List (Option Contents)) (frame : List ℕ) → IsSetting s → IsTarget (kind_at s.graph node) → ((i : ℕ) → AreContents (contents_at memory i))
    → AllByRecursion (HoldsOfStep (IsStepIn s node) (s.visit s.graph node) memory) frame
steps_in s node memory [] ok target sound = tt
steps_in s node memory (i ∷ rest) ok target sound = ((λ step e. step_in s node i (buffer_at memory i) step ok target (sound i) e), steps_in s node memory rest ok target sound)

-- what is in hand counts as it is owed
hand_owed_at : (s : Setting) (t : Weights) (node : ℕ) (o new : Option Contents) → is_some o ≡ true → new ≡ option_map (after_visit (s.visit s.graph node)) o
    → unwrap_or (option_map (λ step. move_owed s t (unwrap_or new nothing) (moved s node (unwrap_or new nothing) step)) (option_map (λ c. (s.visit s.graph node c.packet).0) o)) 0
    ≡ move_owed s t (after_at s node (unwrap_or o nothing)) (move_at s node (unwrap_or o nothing))
hand_owed_at s t node None new live e = cc
hand_owed_at s t node (Some c) new live e =
    ap (λ x. move_owed s t (unwrap_or x nothing) (moved s node (unwrap_or x nothing) (s.visit s.graph node c.packet).0)) e

all_both : {X : Type 0} (P Q : X → Type 0) (xs : List X) → AllByRecursion P xs → AllByRecursion Q xs → AllByRecursion (λ x. P x × Q x) xs
all_both P Q [] a b = tt
all_both P Q (x ∷ xs) a b = ((a.0, b.0), all_both P Q xs a.1 b.1)

hand_owed : (s : Setting) (t : Weights) (node : ℕ) (frame : List ℕ) (old new : List (Option Contents)) (sorted : Sorted) → AllByRecursion (IsLive old) frame
    → IsSortedBy (s.visit s.graph node) old frame sorted → IsVisitedBy (s.visit s.graph node) frame old new
    → in_hand s t node new (hand_of sorted) ≡ sum_by (λ i. move_owed s t (after_at s node (contents_at old i)) (move_at s node (contents_at old i))) frame
hand_owed s t node frame old new sorted live is v =
    let f : ℕ × Step → ℕ = λ p. move_owed s t (contents_at new p.0) (moved s node (contents_at new p.0) p.1) in
    sum_hand f (s.visit s.graph node) old frame sorted is
    ∙ sum_by_at (step_sum f (s.visit s.graph node) old) (λ i. move_owed s t (after_at s node (contents_at old i)) (move_at s node (contents_at old i)))
    (λ i. IsLive old i × (buffer_at new i ≡ option_map (after_visit (s.visit s.graph node)) (buffer_at old i))) frame
    (all_both (IsLive old) (λ i. buffer_at new i ≡ option_map (after_visit (s.visit s.graph node)) (buffer_at old i)) frame live v.visited)
    (λ i both. hand_owed_at s t node (buffer_at old i) (buffer_at new i) both.0 both.1)

-- each index of the frame is in hand once
hand_place_at : (o : Option Contents) (visit : NodeVisit) (n : ℕ) → is_some o ≡ true → unwrap_or (option_map {U = ℕ} (λ (step : Step). n) (option_map (λ (c : Contents). (visit c.packet).0) o)) 0 ≡ n
hand_place_at None visit n live = cc
hand_place_at (Some c) visit n live = refl

hand_places : (s : Setting) (node i : ℕ) (frame : List ℕ) (old : List (Option Contents)) (sorted : Sorted) → AllByRecursion (IsLive old) frame
    → IsSortedBy (s.visit s.graph node) old frame sorted → times_in_hand i (hand_of sorted) ≡ sum_by (same_one i) frame
hand_places s node i frame old sorted live is =
    let f : ℕ × Step → ℕ = λ p. same_one i p.0 in
    sum_hand f (s.visit s.graph node) old frame sorted is
    ∙ sum_by_at (step_sum f (s.visit s.graph node) old) (same_one i) (IsLive old) frame live (λ k there. hand_place_at (buffer_at old k) (s.visit s.graph node) (same_one i k) there)

sum_ones : {X : Type 0} (xs : List X) → sum_by (λ x. 1) xs ≡ length xs
sum_ones [] = refl
sum_ones {X} (x ∷ xs) = let e = sum_ones xs in omega (arith, e, sum_by-cons (λ (y : X). 1) x xs)

hand_count : (s : Setting) (node : ℕ) (frame : List ℕ) (old : List (Option Contents)) (sorted : Sorted) → AllByRecursion (IsLive old) frame
    → IsSortedBy (s.visit s.graph node) old frame sorted → length (hand_of sorted) ≡ length frame
hand_count s node frame old sorted live is =
    let f : ℕ × Step → ℕ = λ p. 1 in
    sym (sum_ones (hand_of sorted)) ∙ sum_hand f (s.visit s.graph node) old frame sorted is
    ∙ sum_by_at (step_sum f (s.visit s.graph node) old) (λ i. 1) (IsLive old) frame live (λ k there. hand_place_at (buffer_at old k) (s.visit s.graph node) 1 there)
    ∙ sum_ones frame

count_from : (first : ℕ) (pending : List (List ℕ)) → pending_count pending ≡ sum_from (λ n i. 1) first pending
count_from first [] = refl
count_from first (q ∷ qs) = let e = count_from (suc first) qs in let one = sum_ones q in omega (arith, e, one, sum_by-cons length q qs)

pub taken_count : (old new : List (List ℕ)) (node : ℕ) (frame : List ℕ) → TakesFrame old node frame new → pending_count new + length frame ≡ pending_count old
taken_count old new node frame takes =
    let parts = taken_sum (λ n i. 1) old new node frame takes in
    let a = count_from 0 old in let b = count_from 0 new in let c = sum_ones frame in
    omega (arith, parts, a, b, c)

taken_targets : (s : Setting) (w : Work) (node : ℕ) (frame : List ℕ) (pending : List (List ℕ)) → IsHeld s 0 w [] → TakesFrame w.pending node frame pending
    → (n : ℕ) → 0 < length (pending_at pending n) → IsTarget (kind_at s.graph n)
taken_targets s w node frame pending held takes n some = elim (eqb_tells n node) [
  | inl same ↦ subst (λ k. IsTarget (kind_at s.graph k)) (sym same.1) (frame_target s w node frame pending held takes)
  | inr other ↦
      held.targets n (subst (λ q. 0 < length q) (ap (λ p. pending_at p n) takes.rest ∙ get_or-set_other w.pending node n (drop frame_size (pending_at w.pending node)) [] other.1) some)
]

-- a work in which a frame of a node was visited
abbrev pub with_visited : ℕ → ℕ → List (List ℕ) → List (Option Contents) → Notes → Work → Work
with_visited node visits pending memory trace w = record w {
  pending = pending;
  memory = memory;
  trace = trace;
  counts = record w.counts { visits = more_at node visits w.counts.visits };
}

visited_held : (s : Setting) (w : Work) (node : ℕ) (frame : List ℕ) (pending : List (List ℕ)) (memory : List (Option Contents)) (trace : Notes) (sorted : Sorted) → IsSetting s → IsHeld s 0 w []
    → TakesFrame w.pending node frame pending → IsSortedBy (s.visit s.graph node) w.memory frame sorted → IsVisitedBy (s.visit s.graph node) frame w.memory memory
    → IsHeld s node (with_visited node (length frame) pending memory trace w) (hand_of sorted)
visited_held s w node frame pending memory trace sorted ok held takes is v =
    let live = frame_live s w node frame pending held takes in
    let target = frame_target s w node frame pending held takes in
    record {
      nodes = ap length takes.rest ∙ length-set w.pending node _ ∙ held.nodes;
      places = λ i.
          let all = frame_places s w node frame pending held takes i in
          let hand = hand_places s node i frame w.memory sorted live is in
          let same = visited_live (s.visit s.graph node) frame w.memory memory v i in
          omega (arith, all, hand, same);
      count_is =
          (let all : pending_count w.pending + 0 ≡ count w.memory = held.count_is in
          let taken = taken_count w.pending pending node frame takes in
          let hand = hand_count s node frame w.memory sorted live is in
          let same = v.count in
          omega (arith, all, taken, hand, same));
      few = (let few = held.few in let same = v.count in omega (arith, few, same));
      targets = taken_targets s w node frame pending held takes;
      steps = all_hand (IsStepIn s node) (s.visit s.graph node) w.memory frame sorted is (steps_in s node w.memory frame ok target held.sound);
      sound = visited_sound s node frame w.memory memory ok target v held.sound;
      legs = visited_legs s.generation (s.visit s.graph node) frame w.memory memory v held.legs;
      visits = length-set w.counts.visits node _ ∙ held.visits;
      sends = held.sends;
      whole = record { rows = held.whole.rows ∙ sym (length-set w.counts.visits node _); errors = held.whole.errors };
      within = held.within;
    }

visited_counts : (f : ℕ → ℕ) (w : Work) (node k : ℕ) → node < length w.counts.visits → counts_from f 0 (more_at node k w.counts.visits) ≡ counts_from f 0 w.counts.visits + f node * k
visited_counts f w node k within = counts_from_more f 0 w.counts.visits node k within ∙ ap (λ n. counts_from f 0 w.counts.visits + f n * k) (zero-add node)

visited_advances : (s : Setting) (w : Work) (node : ℕ) (frame : List ℕ) (pending : List (List ℕ)) (memory : List (Option Contents)) (trace : Notes) (sorted : Sorted) → IsSetting s → IsHeld s 0 w []
    → TakesFrame w.pending node frame pending → IsSortedBy (s.visit s.graph node) w.memory frame sorted → IsVisitedBy (s.visit s.graph node) frame w.memory memory
    → Advances s node [] [] w [] (with_visited node (length frame) pending memory trace w) (hand_of sorted)
visited_advances s w node frame pending memory trace sorted ok held takes is v =
    let live = frame_live s w node frame pending held takes in
    let target = frame_target s w node frame pending held takes in
    let inside = node_within s w node ok held target in
    record {
      may_be = tt;
      same = λ t.
          let counted = visited_counts t.visits w node (length frame) inside in
          let apart : (i : ℕ) → 0 < times_waiting i pending → buffer_at memory i ≡ buffer_at w.memory i =
          λ i some. v.others i (not_among i frame (let all = frame_places s w node frame pending held takes i in let most = live_most (buffer_at w.memory i) in omega (arith, all, most, some))) in
          let kept = waiting_kept s t w.memory memory pending apart in
          let owes = frame_owed s t w node frame pending ok held takes in
          let hand = hand_owed s t node frame w.memory memory sorted live is v in
          let t1 = total_of s t (with_visited node (length frame) pending memory trace w) [] in let t2 = total_of s t w [] in
          omega (arith, counted, kept, owes, hand, t1, t2);
      live = (let same = v.count in omega (arith, same));
      fates = sym (append-nil w.fates.items);
      sent = sym (append-nil _);
      entries_most = omega arith;
      bytes = omega arith;
      room = (omega arith, omega arith, omega arith);
      size = record { nodes = length-set w.counts.visits node _; interfaces = refl };
      visited = (let counted = visited_counts (λ n. 1) w node (length frame) inside in omega (arith, counted));
      drops = λ n error. omega arith;
      drops_most = λ n error. omega arith;
      sends = λ i. omega arith;
    }

-- a frame that was taken and visited is in hand
pub visited_steady : (s : Setting) (w : Work) (node : ℕ) (frame : List ℕ) (pending : List (List ℕ)) (memory : List (Option Contents)) (trace : Notes) (sorted : Sorted) → IsSetting s → IsSteady s 0 w []
    → TakesFrame w.pending node frame pending → IsSortedBy (s.visit s.graph node) w.memory frame sorted → IsVisitedBy (s.visit s.graph node) frame w.memory memory
    → IsSteady s node (with_visited node (length frame) pending memory trace w) (hand_of sorted) × Advances s node [] [] w [] (with_visited node (length frame) pending memory trace w) (hand_of sorted)
visited_steady s w node frame pending memory trace sorted ok steady takes is v =
    let a = visited_advances s w node frame pending memory trace sorted ok steady.held takes is v in (
      record {
        held = visited_held s w node frame pending memory trace sorted ok steady.held takes is v;
        room = room_kept s node [] w (with_visited node (length frame) pending memory trace w) [] (hand_of sorted) (steady_at s 0 node w steady).room a;
      },
      a,
    )

-- and so many visits more are counted
pub visited_more : (s : Setting) (w : Work) (node : ℕ) (frame : List ℕ) (pending : List (List ℕ)) (memory : List (Option Contents)) (trace : Notes) → IsSetting s → IsHeld s 0 w []
    → TakesFrame w.pending node frame pending → visits_in_all w.counts < visits_in_all (with_visited node (length frame) pending memory trace w).counts
visited_more s w node frame pending memory trace ok held takes =
    let counted = visited_counts (λ n. 1) w node (length frame) (node_within s w node ok held (frame_target s w node frame pending held takes)) in
    let some = frame_some w.pending pending node frame takes in
    omega (arith, counted, some)
