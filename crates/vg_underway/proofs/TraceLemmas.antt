-- For the clauses of `Work::{draw_own, take_frame, put_apart, group, hand_over, put_away, dispatch_all}`: packets stay traced as they are drawn, wait for nodes
-- and are taken out.
use Rattle.std.proofs.Common.{◌≡◌, ◌≢◌, ℕ, zero, suc, ◌+◌, ◌<◌, ◌≤◌, ◌&&◌, Bool, true, false, List, [], append_assoc, ◌∷◌, ◌++◌, length, set, refl, sym, ap, subst, ◌∙◌, inl, inr, ◌⊎◌, arith}
use Rattle.std.specs.Prelude.{Option, Some, None, is_some, unwrap_or, flat_map, ◌==◌, if◌then◌else◌}
use Rattle.std.specs.List.{sum_by, AllByRecursion}
use Rattle.std.proofs.lemmas.List.{append-nil, get_or-set_same, get_or-set_other}
use Rattle.std.proofs.lemmas.Grind.{flat_map-append}
use Rattle.std.proofs.lemmas.List.Sums.{sum_by-cons, sum_by_push}
use Rattle.std.proofs.lemmas.Bool.{cases_eq}
use Rattle.vg_model.specs.declared.kinds.Step.{Step}
use Rattle.vg_model.specs.declared.fates.End.{End}
use Rattle.vg_model.specs.Leg.{Onward, Over}
use Rattle.vg_pool.specs.Contents.{Contents}
use Rattle.vg_frame.specs.Pending.{pending_at, IsNothingPending}
use Rattle.vg_frame.specs.Placed.{buffer_at, Changes, IsLive}
use Rattle.vg_counters.specs.Notes.{Notes, nodes_of, most_noted}
use Rattle.vg_underway.specs.declared.underway.Work.{Work}
use Rattle.vg_journeys.specs.Ended.{drop_visits}
use Rattle.vg_journeys.specs.Trips.{Arrival}
use Rattle.vg_journeys.specs.Turns.{Settled, settled_visits, settled_noted}
use Rattle.vg_underway.specs.Underway.{Setting, moved, contents_at, live_at, sum_from, nothing}
use Rattle.vg_underway.specs.Places.{same_one, times_waiting, times_in_hand}
use Rattle.vg_underway.specs.Traced.{Sight, IsSeen, seen, with_refusals, StayTraced, leg_place, nodes_noted, visits_to_come, visits_after, IsOnWay, IsNotes, IsTraced, noted_end}
use Rattle.vg_underway.specs.Works.{IsHeld, Finishes, outcome_of, settled_with}
use Rattle.vg_underway.proofs.SumLemmas.{same_one_self, same_one_other}
use Rattle.vg_underway.proofs.WorkLemmas.{live_some, none_live, live_in_hand, waits_nowhere}
use Rattle.vg_underway.proofs.PutLemmas.{with_waiting, settled_unvisited}
use Rattle.vg_underway.proofs.NotedLemmas.{on_way_like, length-noted_end, IsNotes-noted_end, noted_end_other, noted_end_last}

-- an index that is the same
same_one_some : (i j : ℕ) → 0 < same_one i j → j ≡ i
same_one_some i j some = elim (cases_eq j i) [
  | inl same ↦ same
  | inr other ↦ absurd (omega (arith, some, same_one_other i j other))
]

-- what waits for one node waits
waits_at : (i n first : ℕ) (pending : List (List ℕ)) → sum_by (same_one i) (pending_at pending n) ≤ sum_from (λ node. same_one i) first pending
waits_at i n first [] = omega arith
waits_at i zero first (q ∷ qs) = omega arith
waits_at i (suc n) first (q ∷ qs) = let rest = waits_at i n (suc first) qs in omega (arith, rest)

-- and has a buffer
pub live_waiting : (s : Setting) (node : ℕ) (w : Work) (hand : List (ℕ × Step)) → IsHeld s node w hand → (n i : ℕ) → 0 < sum_by (same_one i) (pending_at w.pending n) → IsLive w.memory i
live_waiting s node w hand held n i some =
    let all : times_waiting i w.pending + times_in_hand i hand ≡ live_at w.memory i = held.places i in
    live_some (buffer_at w.memory i) (omega (arith, all, some, waits_at i n 0 w.pending))

-- an index with no buffer isn't live
pub not_live : (memory : List (Option Contents)) (i : ℕ) → buffer_at memory i ≡ None → IsLive memory i → ⊥
not_live memory i none live = none_live (buffer_at memory i) none live

-- behind those that wait for a node stands one more
pub put_waits : (pending : List (List ℕ)) (to index n i : ℕ) → to < length pending → 0 < sum_by (same_one i) (pending_at (set pending to (pending_at pending to ++ index ∷ [])) n)
    → (0 < sum_by (same_one i) (pending_at pending n)) ⊎ ((i ≡ index) × (n ≡ to))
put_waits pending to index n i inside some = elim (cases_eq n to) [
  | inl same ↦ there same
  | inr other ↦ inl (subst (λ q. 0 < sum_by (same_one i) q) (get_or-set_other pending to n (pending_at pending to ++ index ∷ []) [] other) some)
]
  where
    there : n ≡ to → (0 < sum_by (same_one i) (pending_at pending n)) ⊎ ((i ≡ index) × (n ≡ to))
    there same =
        let queue : pending_at (set pending to (pending_at pending to ++ index ∷ [])) n ≡ pending_at pending to ++ index ∷ [] =
        ap (pending_at (set pending to (pending_at pending to ++ index ∷ []))) same ∙ get_or-set_same pending to (pending_at pending to ++ index ∷ []) [] inside in
        let here : sum_by (same_one i) (pending_at pending n) ≡ sum_by (same_one i) (pending_at pending to) = ap (λ m. sum_by (same_one i) (pending_at pending m)) same in
        let all = ap (sum_by (same_one i)) queue ∙ sum_by_push (same_one i) (pending_at pending to) index in
        elim (cases_eq index i) [
          | inl one ↦ inr (sym one, same)
          | inr other ↦ inl (omega (arith, some, all, here, same_one_other i index other))
        ]

-- what holds of packets in hand by where they stand
all_in_hand : (P Q : ℕ × Step → Type 0) (hand : List (ℕ × Step)) → ((p : ℕ × Step) → 0 < times_in_hand p.0 hand → P p → Q p) → AllByRecursion P hand → AllByRecursion Q hand
all_in_hand P Q [] each all = tt
all_in_hand P Q (p ∷ rest) each all = (
  each p (omega (arith, same_one_self p.0, sum_by-cons (λ (q : ℕ × Step). same_one p.0 q.0) p rest)) all.0,
  all_in_hand P Q rest (λ r some. each r (omega (arith, some, sum_by-cons (λ (q : ℕ × Step). same_one r.0 q.0) p rest))) all.1,
)

few_legs : (s : Setting) (node : ℕ) (w : Work) (hand : List (ℕ × Step)) (i : ℕ) → IsHeld s node w hand → leg_place (contents_at w.memory i) < 4
few_legs s node w hand i held = let few = (held.sound i).few_legs in omega (arith, few)

-- where no packet is in hand, any node will do
pub traced_at : (s : Setting) (whole : Sight) (packets node other : ℕ) (w : Work) → IsTraced s whole packets node w [] → IsTraced s whole packets other w []
traced_at s whole packets node other w traced = record {
  size = traced.size;
  is_notes = traced.is_notes;
  apart = traced.apart;
  wait = traced.wait;
  in_hand = tt;
  over = traced.over;
}

-- the same, by other words
on_way_sight : (whole : Sight) (nodes : ℕ → ℕ → List ℕ) (notes : Notes) (c : Contents) (to_come : List ℕ) → ((number leg : ℕ) → whole.nodes number leg ≡ nodes number leg) → IsOnWay whole notes c to_come
    → IsOnWay (record { nodes = nodes; of = whole.of }) notes c to_come
on_way_sight whole nodes notes c to_come same way known seen =
    let all = way known seen in
    let e = same c.packet.number (leg_place c) in
    (all.0 ∙ e, subst (λ ns. length ns < most_noted) e all.1)

pub traced_sight : (s : Setting) (whole : Sight) (nodes : ℕ → ℕ → List ℕ) (packets node : ℕ) (w : Work) (hand : List (ℕ × Step)) → ((number leg : ℕ) → whole.nodes number leg ≡ nodes number leg)
    → IsTraced s whole packets node w hand → IsTraced s (record { nodes = nodes; of = whole.of }) packets node w hand
traced_sight s whole nodes packets node w hand same traced = record {
  size = traced.size;
  is_notes = traced.is_notes;
  apart = traced.apart;
  wait = λ n i some. on_way_sight whole nodes w.trace (contents_at w.memory i) (visits_to_come s n (contents_at w.memory i)) same (traced.wait n i some);
  in_hand =
      all_in_hand (λ (q : ℕ × Step). IsOnWay whole w.trace (contents_at w.memory q.0) (visits_after s (contents_at w.memory q.0) (moved s node (contents_at w.memory q.0) q.1)))
      (λ (q : ℕ × Step). IsOnWay (record { nodes = nodes; of = whole.of }) w.trace (contents_at w.memory q.0) (visits_after s (contents_at w.memory q.0) (moved s node (contents_at w.memory q.0) q.1)))
      hand (λ q some way. on_way_sight whole nodes w.trace (contents_at w.memory q.0) (visits_after s (contents_at w.memory q.0) (moved s node (contents_at w.memory q.0) q.1)) same way) traced.in_hand;
  over = λ number leg inside seen away. traced.over number leg inside seen away ∙ same number leg;
}

-- where no refusal is added
pub traced_same : (s : Setting) (whole : Sight) (packets node : ℕ) (w : Work) (hand : List (ℕ × Step)) → IsTraced s whole packets node w hand → IsTraced s (with_refusals [] whole) packets node w hand
traced_same s whole packets node w hand traced = traced_sight s whole (λ number leg. whole.nodes number leg ++ []) packets node w hand (λ number leg. sym (append-nil (whole.nodes number leg))) traced

-- one stretch and then another
pub traced_then : (s : Setting) (node : ℕ) (one two : List Settled) (a : Work) (ha : List (ℕ × Step)) (b : Work) (hb : List (ℕ × Step)) (c : Work) (hc : List (ℕ × Step))
    → StayTraced s node one a ha b hb → StayTraced s node two b hb c hc → StayTraced s node (one ++ two) a ha c hc
traced_then s node one two a ha b hb c hc first second whole packets traced =
    traced_sight s (with_refusals two (with_refusals one whole)) (λ number leg. whole.nodes number leg ++ flat_map (settled_noted number leg) (one ++ two)) packets node c hc
    (λ number leg. append_assoc (whole.nodes number leg) (flat_map (settled_noted number leg) one) (flat_map (settled_noted number leg) two)
    ∙ ap (λ ns. whole.nodes number leg ++ ns) (sym (flat_map-append (settled_noted number leg) one two)))
    (second (with_refusals one whole) packets (first whole packets traced))

none_either : (b : Bool) (visits : List ℕ) → visits ≡ [] → (if b then visits else []) ≡ []
none_either true visits none = none
none_either false visits none = refl

-- where the packet ended by itself
pub traced_ended : (s : Setting) (whole : Sight) (packets node : ℕ) (w : Work) (hand : List (ℕ × Step)) (end : End) (c : Contents) → IsTraced s whole packets node w hand
    → IsTraced s (with_refusals (settled_with end c ∷ []) whole) packets node w hand
traced_ended s whole packets node w hand end c traced =
    traced_sight s whole (λ number leg. whole.nodes number leg ++ flat_map (settled_noted number leg) (settled_with end c ∷ [])) packets node w hand
    (λ number leg. sym (ap (λ ns. whole.nodes number leg ++ (ns ++ [])) (none_either (c.packet.number == number && length c.legs == suc leg) (settled_visits (settled_with end c)) (settled_unvisited end c))
    ∙ append-nil (whole.nodes number leg))) traced

-- nothing is under way yet
pub traced_none : (s : Setting) (all : List Arrival) (w : Work) → IsNotes w.trace → ((index : ℕ) → buffer_at w.memory index ≡ None) → IsNothingPending w.pending → IsTraced s (seen s w.trace all []) (length w.trace) 0 w []
traced_none s all w ok empty none = record {
  size = refl;
  is_notes = ok;
  apart = λ i j live other seen numbers legs. absurd (not_live w.memory i (empty i) live);
  wait = λ n i some. (let queue = ap (sum_by (same_one i)) (none n) in absurd (omega (arith, some, queue)));
  in_hand = tt;
  over = λ number leg inside seen away. sym (append-nil (nodes_of number leg w.trace));
}

-- nothing is under way any more
pub traced_over : (s : Setting) (whole : Sight) (packets : ℕ) (w : Work) (number leg : ℕ) → ((index : ℕ) → buffer_at w.memory index ≡ None) → number < packets → whole.of number leg ≡ true → IsTraced s whole packets 0 w []
    → nodes_of number leg w.trace ≡ whole.nodes number leg
traced_over s whole packets w number leg empty inside seen traced = traced.over number leg inside seen (λ i live. absurd (not_live w.memory i (empty i) live))

-- a packet in hand goes on to a node
pub traced_put : (s : Setting) (whole : Sight) (packets node : ℕ) (w : Work) (p : ℕ × Step) (rest : List (ℕ × Step)) (to : ℕ) → to < length w.pending
    → moved s node (contents_at w.memory p.0) p.1 ≡ Onward (Some to) → IsTraced s whole packets node w (p ∷ rest) → IsTraced s whole packets node (with_waiting to p.0 w) rest
traced_put s whole packets node w p rest to inside goes traced = record {
  size = traced.size;
  is_notes = traced.is_notes;
  apart = traced.apart;
  wait = λ n i some. elim (put_waits w.pending to p.0 n i inside some) [
    | inl old ↦ traced.wait n i old
    | inr new ↦
        subst (λ m. IsOnWay whole w.trace (contents_at w.memory i) (visits_to_come s m (contents_at w.memory i))) (sym new.1)
        (subst (λ j. IsOnWay whole w.trace (contents_at w.memory j) (visits_to_come s to (contents_at w.memory j))) (sym new.0) way)
  ];
  in_hand = traced.in_hand.1;
  over = traced.over;
}
  where
    c : Contents
    c = contents_at w.memory p.0

    way : IsOnWay whole w.trace c (visits_to_come s to c)
    way = subst (λ move. IsOnWay whole w.trace c (visits_after s c move)) goes traced.in_hand.0

-- a packet in hand is taken out, since its leg is over
pub traced_finish : (s : Setting) (whole : Sight) (packets node : ℕ) (w new : Work) (p : ℕ × Step) (rest : List (ℕ × Step)) (end : End) → IsHeld s node w (p ∷ rest) → Finishes p.0 end w new
    → moved s node (contents_at w.memory p.0) p.1 ≡ Over (outcome_of end) → IsTraced s whole packets node w (p ∷ rest) → IsTraced s whole packets node new rest
traced_finish s whole packets node w new p rest end held f over traced = record {
  size = size ∙ traced.size;
  is_notes = subst IsNotes (sym f.trace) (IsNotes-noted_end c.packet.number (leg_place c) end w.trace traced.is_notes);
  apart = λ i j live other seen numbers legs.
      let one = stays i live in let two = stays j other in
      traced.apart i j (was_live i live) (was_live j other) (subst (IsSeen whole) (same i one) seen)
      (ap (λ (x : Contents). x.packet.number) (sym (same i one)) ∙ numbers ∙ ap (λ (x : Contents). x.packet.number) (same j two))
      (ap leg_place (sym (same i one)) ∙ legs ∙ ap leg_place (same j two));
  wait = λ n i some.
      let was : 0 < sum_by (same_one i) (pending_at w.pending n) = subst (λ q. 0 < sum_by (same_one i) (pending_at q n)) f.pending some in
      let apart : i ≢ p.0 = λ here. (let none : times_waiting i w.pending ≡ 0 = ap (λ k. times_waiting k w.pending) here ∙ nowhere.0 in absurd (omega (arith, was, none, waits_at i n 0 w.pending))) in
      subst (λ x. IsOnWay whole new.trace x (visits_to_come s n x)) (sym (same i apart))
      (still i apart (live_waiting s node w (p ∷ rest) held n i was) (visits_to_come s n (contents_at w.memory i)) (traced.wait n i was));
  in_hand = all_in_hand
      (λ (q : ℕ × Step). IsOnWay whole w.trace (contents_at w.memory q.0) (visits_after s (contents_at w.memory q.0) (moved s node (contents_at w.memory q.0) q.1)))
      (λ (q : ℕ × Step). IsOnWay whole new.trace (contents_at new.memory q.0) (visits_after s (contents_at new.memory q.0) (moved s node (contents_at new.memory q.0) q.1)))
      rest (λ q some way. in_rest q some way) traced.in_hand.1;
  over = λ number leg inside seen away. elim (cases_eq number c.packet.number) [
    | inl one ↦ elim (cases_eq leg (leg_place c)) [
      | inl two ↦ last number leg inside seen one two
      | inr other ↦ others number leg inside seen away (λ n l. other l)
    ]
    | inr other ↦ others number leg inside seen away (λ n l. other n)
  ];
}
  where
    c : Contents
    c = contents_at w.memory p.0

    nowhere : (times_waiting p.0 w.pending ≡ 0) × (times_in_hand p.0 rest ≡ 0)
    nowhere = waits_nowhere s node w p rest held

    size : length new.trace ≡ length w.trace
    size = ap length f.trace ∙ length-noted_end c.packet.number (leg_place c) end w.trace

    stays : (i : ℕ) → IsLive new.memory i → i ≢ p.0
    stays i live here = not_live new.memory i (ap (buffer_at new.memory) here ∙ f.memory.changed) live

    was_live : (i : ℕ) → IsLive new.memory i → IsLive w.memory i
    was_live i live = ap is_some (sym (f.memory.others i (stays i live))) ∙ live

    same : (i : ℕ) → i ≢ p.0 → contents_at new.memory i ≡ contents_at w.memory i
    same i apart = ap (λ o. unwrap_or o nothing) (f.memory.others i apart)

    kept : (n l : ℕ) → (n ≡ c.packet.number → l ≡ leg_place c → ⊥) → nodes_of n l new.trace ≡ nodes_of n l w.trace
    kept n l apart = ap (nodes_of n l) f.trace ∙ noted_end_other c.packet.number (leg_place c) end w.trace n l apart

    still : (i : ℕ) → i ≢ p.0 → IsLive w.memory i → (to_come : List ℕ) → IsOnWay whole w.trace (contents_at w.memory i) to_come → IsOnWay whole new.trace (contents_at w.memory i) to_come
    still i apart live to_come way =
        let x : Contents = contents_at w.memory i in
        on_way_like whole whole w.trace new.trace x to_come size
        (λ seen. kept x.packet.number (leg_place x) (λ number leg. apart (traced.apart i p.0 live (live_in_hand s node w p rest held) seen number leg))) refl (λ seen. seen) way

    in_rest : (q : ℕ × Step) → 0 < times_in_hand q.0 rest → IsOnWay whole w.trace (contents_at w.memory q.0) (visits_after s (contents_at w.memory q.0) (moved s node (contents_at w.memory q.0) q.1))
        → IsOnWay whole new.trace (contents_at new.memory q.0) (visits_after s (contents_at new.memory q.0) (moved s node (contents_at new.memory q.0) q.1))
    in_rest q some way =
        let apart : q.0 ≢ p.0 = λ here. (let none : times_in_hand q.0 rest ≡ 0 = ap (λ k. times_in_hand k rest) here ∙ nowhere.1 in absurd (omega (arith, some, none))) in
        let all : times_waiting q.0 w.pending + times_in_hand q.0 (p ∷ rest) ≡ live_at w.memory q.0 = held.places q.0 in
        let live : IsLive w.memory q.0 = live_some (buffer_at w.memory q.0) (omega (arith, all, some, sum_by-cons (λ (r : ℕ × Step). same_one q.0 r.0) p rest)) in
        subst (λ x. IsOnWay whole new.trace x (visits_after s x (moved s node x q.1))) (sym (same q.0 apart))
        (still q.0 apart live (visits_after s (contents_at w.memory q.0) (moved s node (contents_at w.memory q.0) q.1)) way)

    others : (number leg : ℕ) → number < packets → whole.of number leg ≡ true
        → ((i : ℕ) → IsLive new.memory i → (contents_at new.memory i).packet.number ≡ number → leg_place (contents_at new.memory i) ≢ leg)
        → (number ≡ c.packet.number → leg ≡ leg_place c → ⊥) → nodes_of number leg new.trace ≡ whole.nodes number leg
    others number leg inside seen away apart =
        kept number leg apart
        ∙ traced.over number leg inside seen (λ i live n l. elim (cases_eq i p.0) [
          | inl here ↦
              let is : contents_at w.memory i ≡ c = ap (contents_at w.memory) here in
              apart (sym n ∙ ap (λ (x : Contents). x.packet.number) is) (sym l ∙ ap leg_place is)
          | inr other ↦
              away i (ap is_some (f.memory.others i other) ∙ live) (ap (λ (x : Contents). x.packet.number) (same i other) ∙ n) (ap leg_place (same i other) ∙ l)
        ])

    last : (number leg : ℕ) → number < packets → whole.of number leg ≡ true → number ≡ c.packet.number → leg ≡ leg_place c → nodes_of number leg new.trace ≡ whole.nodes number leg
    last number leg inside seen n l =
        let way : IsOnWay whole w.trace c (drop_visits (outcome_of end)) = subst (λ move. IsOnWay whole w.trace c (visits_after s c move)) over traced.in_hand.0 in
        let known : c.packet.number < length w.trace = (let all = traced.size in omega (arith, inside, n, all)) in
        let seen_c : IsSeen whole c = ap (λ k. whole.of k (leg_place c)) (sym n) ∙ ap (whole.of number) (sym l) ∙ seen in
        let all = way known seen_c in
        ap (λ k. nodes_of k leg new.trace) n ∙ ap (λ k. nodes_of c.packet.number k new.trace) l ∙ ap (nodes_of c.packet.number (leg_place c)) f.trace
        ∙ noted_end_last c.packet.number (leg_place c) end w.trace (whole.nodes c.packet.number (leg_place c)) known (few_legs s node w (p ∷ rest) p.0 held) traced.is_notes (let most = all.1 in omega (arith, most)) all.0
        ∙ ap (λ k. whole.nodes k (leg_place c)) (sym n) ∙ ap (whole.nodes number) (sym l)

-- a packet is out of the memory, and what its end brings is noted
pub record IsOut (index : ℕ) (end : End) (old new : Work) : Type 0 where
  pub memory : Changes old.memory new.memory index None
  pub pending : new.pending ≡ old.pending
  pub trace : new.trace ≡ noted_end (contents_at old.memory index).packet.number (leg_place (contents_at old.memory index)) end old.trace

-- a packet in hand is taken out, and its nodes may be others than they were said to be
pub traced_out : (s : Setting) (base : Sight) (nodes : ℕ → ℕ → List ℕ) (packets node : ℕ) (w new : Work) (p : ℕ × Step) (rest : List (ℕ × Step)) (end : End) → IsHeld s node w (p ∷ rest) → IsOut p.0 end w new
    → ((number leg : ℕ) → (number ≡ (contents_at w.memory p.0).packet.number → leg ≡ leg_place (contents_at w.memory p.0) → ⊥) → base.nodes number leg ≡ nodes number leg)
    → ((contents_at w.memory p.0).packet.number < length w.trace → IsSeen base (contents_at w.memory p.0)
    → (nodes_noted w.trace (contents_at w.memory p.0) ++ drop_visits (outcome_of end) ≡ nodes (contents_at w.memory p.0).packet.number (leg_place (contents_at w.memory p.0)))
    × (length (nodes (contents_at w.memory p.0).packet.number (leg_place (contents_at w.memory p.0))) ≤ most_noted))
    → IsTraced s base packets node w (p ∷ rest) → IsTraced s (record { nodes = nodes; of = base.of }) packets node new rest
traced_out s base nodes packets node w new p rest end held f same_nodes last_way traced = record {
  size = size ∙ traced.size;
  is_notes = subst IsNotes (sym f.trace) (IsNotes-noted_end c.packet.number (leg_place c) end w.trace traced.is_notes);
  apart = λ i j live other seen numbers legs.
      let one = stays i live in let two = stays j other in
      traced.apart i j (was_live i live) (was_live j other) (subst (IsSeen whole) (same i one) seen)
      (ap (λ (x : Contents). x.packet.number) (sym (same i one)) ∙ numbers ∙ ap (λ (x : Contents). x.packet.number) (same j two))
      (ap leg_place (sym (same i one)) ∙ legs ∙ ap leg_place (same j two));
  wait = λ n i some.
      let was : 0 < sum_by (same_one i) (pending_at w.pending n) = subst (λ q. 0 < sum_by (same_one i) (pending_at q n)) f.pending some in
      let apart : i ≢ p.0 = λ here. (let none : times_waiting i w.pending ≡ 0 = ap (λ k. times_waiting k w.pending) here ∙ nowhere.0 in absurd (omega (arith, was, none, waits_at i n 0 w.pending))) in
      subst (λ x. IsOnWay whole new.trace x (visits_to_come s n x)) (sym (same i apart))
      (still i apart (live_waiting s node w (p ∷ rest) held n i was) (visits_to_come s n (contents_at w.memory i)) (traced.wait n i was));
  in_hand = all_in_hand
      (λ (q : ℕ × Step). IsOnWay base w.trace (contents_at w.memory q.0) (visits_after s (contents_at w.memory q.0) (moved s node (contents_at w.memory q.0) q.1)))
      (λ (q : ℕ × Step). IsOnWay whole new.trace (contents_at new.memory q.0) (visits_after s (contents_at new.memory q.0) (moved s node (contents_at new.memory q.0) q.1)))
      rest (λ q some way. in_rest q some way) traced.in_hand.1;
  over = λ number leg inside seen away. elim (cases_eq number c.packet.number) [
    | inl one ↦ elim (cases_eq leg (leg_place c)) [
      | inl two ↦ last number leg inside seen one two
      | inr other ↦ others number leg inside seen away (λ n l. other l)
    ]
    | inr other ↦ others number leg inside seen away (λ n l. other n)
  ];
}
  where
    whole : Sight
    whole = record { nodes = nodes; of = base.of }

    c : Contents
    c = contents_at w.memory p.0

    nowhere : (times_waiting p.0 w.pending ≡ 0) × (times_in_hand p.0 rest ≡ 0)
    nowhere = waits_nowhere s node w p rest held

    size : length new.trace ≡ length w.trace
    size = ap length f.trace ∙ length-noted_end c.packet.number (leg_place c) end w.trace

    stays : (i : ℕ) → IsLive new.memory i → i ≢ p.0
    stays i live here = not_live new.memory i (ap (buffer_at new.memory) here ∙ f.memory.changed) live

    was_live : (i : ℕ) → IsLive new.memory i → IsLive w.memory i
    was_live i live = ap is_some (sym (f.memory.others i (stays i live))) ∙ live

    same : (i : ℕ) → i ≢ p.0 → contents_at new.memory i ≡ contents_at w.memory i
    same i apart = ap (λ o. unwrap_or o nothing) (f.memory.others i apart)

    kept : (n l : ℕ) → (n ≡ c.packet.number → l ≡ leg_place c → ⊥) → nodes_of n l new.trace ≡ nodes_of n l w.trace
    kept n l apart = ap (nodes_of n l) f.trace ∙ noted_end_other c.packet.number (leg_place c) end w.trace n l apart

    still : (i : ℕ) → i ≢ p.0 → IsLive w.memory i → (to_come : List ℕ) → IsOnWay base w.trace (contents_at w.memory i) to_come → IsOnWay whole new.trace (contents_at w.memory i) to_come
    still i apart live to_come way known seen =
        let x : Contents = contents_at w.memory i in
        let away : x.packet.number ≡ c.packet.number → leg_place x ≡ leg_place c → ⊥ = λ number leg. apart (traced.apart i p.0 live (live_in_hand s node w p rest held) seen number leg) in
        let all = way (omega (arith, known, size)) seen in
        let e = same_nodes x.packet.number (leg_place x) away in
        (ap (λ ns. ns ++ to_come) (kept x.packet.number (leg_place x) away) ∙ all.0 ∙ e, subst (λ ns. length ns < most_noted) e all.1)

    in_rest : (q : ℕ × Step) → 0 < times_in_hand q.0 rest → IsOnWay base w.trace (contents_at w.memory q.0) (visits_after s (contents_at w.memory q.0) (moved s node (contents_at w.memory q.0) q.1))
        → IsOnWay whole new.trace (contents_at new.memory q.0) (visits_after s (contents_at new.memory q.0) (moved s node (contents_at new.memory q.0) q.1))
    in_rest q some way =
        let apart : q.0 ≢ p.0 = λ here. (let none : times_in_hand q.0 rest ≡ 0 = ap (λ k. times_in_hand k rest) here ∙ nowhere.1 in absurd (omega (arith, some, none))) in
        let all : times_waiting q.0 w.pending + times_in_hand q.0 (p ∷ rest) ≡ live_at w.memory q.0 = held.places q.0 in
        let live : IsLive w.memory q.0 = live_some (buffer_at w.memory q.0) (omega (arith, all, some, sum_by-cons (λ (r : ℕ × Step). same_one q.0 r.0) p rest)) in
        subst (λ x. IsOnWay whole new.trace x (visits_after s x (moved s node x q.1))) (sym (same q.0 apart))
        (still q.0 apart live (visits_after s (contents_at w.memory q.0) (moved s node (contents_at w.memory q.0) q.1)) way)

    others : (number leg : ℕ) → number < packets → whole.of number leg ≡ true
        → ((i : ℕ) → IsLive new.memory i → (contents_at new.memory i).packet.number ≡ number → leg_place (contents_at new.memory i) ≢ leg)
        → (number ≡ c.packet.number → leg ≡ leg_place c → ⊥) → nodes_of number leg new.trace ≡ whole.nodes number leg
    others number leg inside seen away apart =
        kept number leg apart ∙ (traced.over number leg inside seen (λ i live n l. elim (cases_eq i p.0) [
          | inl here ↦
              let is : contents_at w.memory i ≡ c = ap (contents_at w.memory) here in
              apart (sym n ∙ ap (λ (x : Contents). x.packet.number) is) (sym l ∙ ap leg_place is)
          | inr other ↦
              away i (ap is_some (f.memory.others i other) ∙ live) (ap (λ (x : Contents). x.packet.number) (same i other) ∙ n) (ap leg_place (same i other) ∙ l)
        ]) ∙ same_nodes number leg apart)

    last : (number leg : ℕ) → number < packets → whole.of number leg ≡ true → number ≡ c.packet.number → leg ≡ leg_place c → nodes_of number leg new.trace ≡ whole.nodes number leg
    last number leg inside seen n l =
        let known : c.packet.number < length w.trace = (let all = traced.size in omega (arith, inside, n, all)) in
        let seen_c : IsSeen base c = ap (λ k. base.of k (leg_place c)) (sym n) ∙ ap (base.of number) (sym l) ∙ seen in
        let all = last_way known seen_c in
        ap (λ k. nodes_of k leg new.trace) n ∙ ap (λ k. nodes_of c.packet.number k new.trace) l ∙ ap (nodes_of c.packet.number (leg_place c)) f.trace
        ∙ noted_end_last c.packet.number (leg_place c) end w.trace (nodes c.packet.number (leg_place c)) known (few_legs s node w (p ∷ rest) p.0 held) traced.is_notes all.1 all.0
        ∙ ap (λ k. nodes k (leg_place c)) (sym n) ∙ ap (nodes number) (sym l)
