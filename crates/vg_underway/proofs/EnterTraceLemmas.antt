-- For the clauses `drawn` of `Work::draw_own` and `taken` of `Work::take_frame`: packets stay traced as one more comes.
use Rattle.std.proofs.Common.{◌≡◌, ◌≢◌, ℕ, zero, suc, ◌+◌, ◌<◌, ◌≤◌, ◌&&◌, Bool, true, false, List, [], ◌∷◌, ◌++◌, length, refl, sym, ap, subst, ◌∙◌, inl, inr, arith}
use Rattle.std.specs.Prelude.{Option, Some, None, is_some, option_map, unwrap_or, flat_map, ◌==◌, if◌then◌else◌}
use Rattle.std.specs.List.{sum_by}
use Rattle.std.proofs.lemmas.List.{append-nil, length_push, flat_map_more}
use Rattle.std.proofs.lemmas.List.Sums.{sum_by-cons, sum_by-append, sum_by_push}
use Rattle.std.proofs.lemmas.Bool.{cond_both, and_parts, eqb-true, eq-eqb, cases_eq}
use Rattle.vg_model.specs.declared.kinds.DropError.TheVariants.{TooLong}
use Rattle.vg_model.specs.declared.fates.Leg.{Leg}
use Rattle.vg_model.specs.declared.fates.End.{End}
use Rattle.vg_model.specs.declared.fates.End.TheVariants as ends
use Rattle.vg_model.specs.Graph.{arc, kind_at, pg_input}
use Rattle.vg_model.specs.Leg.{Way, first_slot, after_visit}
use Rattle.vg_model.specs.Valid.{IsTarget}
use Rattle.vg_model.specs.Journey.{longest_packet}
use Rattle.vg_model.specs.PoolBook.{CacheBook}
use Rattle.vg_model.proofs.LegEnds.{leg_some, arc_target}
use Rattle.vg_pool.specs.Contents.{Contents}
use Rattle.vg_frame.specs.Placed.{buffer_at, IsLive}
use Rattle.vg_counters.specs.Notes.{Notes, nodes_of, noted, most_noted}
use Rattle.vg_underway.specs.declared.underway.Work.{Work}
use Rattle.vg_journeys.specs.Ended.{drop_visits, counted_visits}
use Rattle.vg_journeys.specs.Trips.{Arrival, Drawn, number_of, legs_before}
use Rattle.vg_journeys.specs.Turns.{arrival_is_of}
use Rattle.vg_underway.specs.Underway.{Setting, IsSetting, leg_of, leg_here, contents_at, nothing}
use Rattle.vg_underway.specs.Traced.{Sight, IsSeen, is_once, seen, leg_place, visits_to_come, arrival_nodes, arrival_notes, all_visits, IsOnWay, IsTraced, noted_end}
use Rattle.vg_underway.specs.Works.{IsHeld, outcome_of}
use Rattle.vg_underway.specs.Draws.{DrawsLong, Enters}
use Rattle.vg_underway.proofs.OwedLemmas.{target_within}
use Rattle.vg_underway.proofs.TraceLemmas.{not_live, live_waiting, put_waits}
use Rattle.vg_underway.proofs.KeptLemmas.{Arrives, long_leg, came_nodes_most}
use Rattle.vg_underway.proofs.NotedLemmas.{length-noted, IsNotes-noted, noted_other, noted_first, length-noted_end, IsNotes-noted_end, noted_end_other, noted_end_last}

-- spoken of are those of which there is at most one, with nothing before it
pub once_few : (n before : ℕ) → is_once n before ≡ true → n ≤ 1
once_few zero before met_here = omega arith
once_few (suc zero) zero met_here = omega arith
once_few (suc zero) (suc before) met_here = cc
once_few (suc (suc n)) before met_here = cc

pub once_first : (n before : ℕ) → is_once n before ≡ true → 0 < n → before ≡ 0
once_first zero before met_here some = absurd (omega (arith, some))
once_first (suc zero) zero met_here some = refl
once_first (suc zero) (suc before) met_here some = cc
once_first (suc (suc n)) before met_here some = cc

pub once_is : (n before : ℕ) → n ≤ 1 → (0 < n → before ≡ 0) → is_once n before ≡ true
once_is zero before few first = refl
once_is (suc zero) zero few first = refl
once_is (suc zero) (suc before) few first = absurd (let e = first (omega arith) in omega (arith, e))
once_is (suc (suc n)) before few first = absurd (omega (arith, few))

empty_of : {X : Type 0} (xs : List X) → length xs ≡ 0 → xs ≡ []
empty_of [] none = refl
empty_of (x ∷ xs) none = absurd (omega (arith, none))

-- what is of this number and leg
abbrev one_if : Bool → ℕ
one_if b = if b then 1 else 0

pub is_of_own : (e : Arrival) → arrival_is_of (number_of e) (length (legs_before e)) e ≡ 1
is_of_own e = ap (λ b. one_if (b && length (legs_before e) == length (legs_before e))) (eq-eqb (number_of e) (number_of e) refl) ∙ ap one_if (eq-eqb (length (legs_before e)) (length (legs_before e)) refl)

notes_own : (s : Setting) (e : Arrival) → arrival_notes s (number_of e) (length (legs_before e)) e ≡ arrival_nodes s e
notes_own s e =
    ap (λ b. if b && length (legs_before e) == length (legs_before e) then arrival_nodes s e else []) (eq-eqb (number_of e) (number_of e) refl)
    ∙ ap (λ b. if b then arrival_nodes s e else []) (eq-eqb (length (legs_before e)) (length (legs_before e)) refl)

notes_other : (s : Setting) (number leg : ℕ) (e : Arrival) → (number ≡ number_of e → leg ≡ length (legs_before e) → ⊥) → arrival_notes s number leg e ≡ []
notes_other s number leg e apart =
    cond_both (number_of e == number && length (legs_before e) == leg) (arrival_nodes s e) [] (λ (ns : List ℕ). ns ≡ [])
    (λ met_here. let both = and_parts (number_of e == number) (length (legs_before e) == leg) met_here in
    absurd (apart (sym (eqb-true (number_of e) number both.0)) (sym (eqb-true (length (legs_before e)) leg both.1)))) (λ no. refl)

pub notes_none : (s : Setting) (number leg : ℕ) (arrivals : List Arrival) → sum_by (arrival_is_of number leg) arrivals ≡ 0 → flat_map (arrival_notes s number leg) arrivals ≡ []
notes_none s number leg [] none = refl
notes_none s number leg (e ∷ es) none =
    let split = sum_by-cons (arrival_is_of number leg) e es in
    ap (λ ns. ns ++ flat_map (arrival_notes s number leg) es) (by (number_of e == number && length (legs_before e) == leg) (omega (arith, none, split)))
    ∙ notes_none s number leg es (omega (arith, none, split))
  where
    by : (b : Bool) → one_if b ≡ 0 → (if b then arrival_nodes s e else []) ≡ []
    by true z = absurd (let k : one_if true ≡ 0 = z in omega (arith, k))
    by false z = refl

visits_push : (s : Setting) (before : Notes) (so_far : List Arrival) (e : Arrival) (number leg : ℕ)
    → all_visits s before (so_far ++ e ∷ []) number leg ≡ all_visits s before so_far number leg ++ arrival_notes s number leg e
visits_push s before so_far e number leg = sym (flat_map_more (arrival_notes s number leg) (nodes_of number leg before) so_far e)

visits_other : (s : Setting) (before : Notes) (so_far : List Arrival) (e : Arrival) (number leg : ℕ) → (number ≡ number_of e → leg ≡ length (legs_before e) → ⊥)
    → all_visits s before (so_far ++ e ∷ []) number leg ≡ all_visits s before so_far number leg
visits_other s before so_far e number leg apart =
    visits_push s before so_far e number leg ∙ ap (λ ns. all_visits s before so_far number leg ++ ns) (notes_other s number leg e apart) ∙ append-nil (all_visits s before so_far number leg)

-- the packets under way are among those that came
abbrev pub AreAmong : List Arrival → Work → Type 0
AreAmong arrivals w = (index : ℕ) → IsLive w.memory index → 0 < sum_by (arrival_is_of (contents_at w.memory index).packet.number (leg_place (contents_at w.memory index))) arrivals

pub among_none : (arrivals : List Arrival) (w : Work) → ((index : ℕ) → buffer_at w.memory index ≡ None) → AreAmong arrivals w
among_none arrivals w empty i live = absurd (not_live w.memory i (empty i) live)

among_more : (number leg : ℕ) (so_far : List Arrival) (e : Arrival) → 0 < sum_by (arrival_is_of number leg) so_far → 0 < sum_by (arrival_is_of number leg) (so_far ++ e ∷ [])
among_more number leg so_far e some = let more = sum_by_push (arrival_is_of number leg) so_far e in omega (arith, some, more)

-- what holds where the next packet is spoken of: it is the only one of its number and leg, and nothing was noted for them
pub record IsNext (s : Setting) (before : Notes) (all so_far : List Arrival) (e : Arrival) : Type 0 where
  pub none_far : (seen s before all so_far).of (number_of e) (length (legs_before e)) ≡ true → sum_by (arrival_is_of (number_of e) (length (legs_before e))) so_far ≡ 0
  pub nothing : (seen s before all so_far).of (number_of e) (length (legs_before e)) ≡ true → all_visits s before so_far (number_of e) (length (legs_before e)) ≡ []

pub next_of : (s : Setting) (before : Notes) (all so_far rest : List Arrival) (e : Arrival) → all ≡ so_far ++ e ∷ rest → IsNext s before all so_far e
next_of s before all so_far rest e is = record {
  none_far = none;
  nothing = λ met_here. ap (λ ns. ns ++ flat_map (arrival_notes s n l) so_far)
      (empty_of (nodes_of n l before) (once_first (sum_by (arrival_is_of n l) all) (length (nodes_of n l before)) met_here some)) ∙ notes_none s n l so_far (none met_here);
}
  where
    n : ℕ
    n = number_of e

    l : ℕ
    l = length (legs_before e)

    split : sum_by (arrival_is_of n l) all ≡ sum_by (arrival_is_of n l) so_far + (1 + sum_by (arrival_is_of n l) rest)
    split =
        let one = ap (sum_by (arrival_is_of n l)) is in let two = sum_by-append (arrival_is_of n l) so_far (e ∷ rest) in let three = sum_by-cons (arrival_is_of n l) e rest in let own = is_of_own e in
        omega (arith, one, two, three, own)

    some : 0 < sum_by (arrival_is_of n l) all
    some = let e1 = split in omega (arith, e1)

    none : is_once (sum_by (arrival_is_of n l) all) (length (nodes_of n l before)) ≡ true → sum_by (arrival_is_of n l) so_far ≡ 0
    none met_here = let few = once_few (sum_by (arrival_is_of n l) all) (length (nodes_of n l before)) met_here in let e1 = split in omega (arith, few, e1)

-- a packet under way is none of that number and leg, where they are spoken of
not_same : (s : Setting) (before : Notes) (all so_far : List Arrival) (e : Arrival) (w : Work) → IsNext s before all so_far e → AreAmong so_far w → (i : ℕ) → IsLive w.memory i
    → IsSeen (seen s before all so_far) (contents_at w.memory i) → (contents_at w.memory i).packet.number ≡ number_of e → leg_place (contents_at w.memory i) ≡ length (legs_before e) → ⊥
not_same s before all so_far e w next among i live met_here same_number same_leg =
    let c : Contents = contents_at w.memory i in
    let of : ℕ → ℕ → Bool = (seen s before all so_far).of in
    let here : of (number_of e) (length (legs_before e)) ≡ true = ap (λ l. of (number_of e) l) (sym same_leg) ∙ ap (λ n. of n (leg_place c)) (sym same_number) ∙ met_here in
    let none = next.none_far here in
    let some = among i live in
    let is : sum_by (arrival_is_of c.packet.number (leg_place c)) so_far ≡ sum_by (arrival_is_of (number_of e) (length (legs_before e))) so_far =
    ap (λ n. sum_by (arrival_is_of n (leg_place c)) so_far) same_number ∙ ap (λ l. sum_by (arrival_is_of (number_of e) l) so_far) same_leg in
    absurd (omega (arith, none, some, is))

not_noted : (s : Setting) (before : Notes) (all so_far : List Arrival) (e : Arrival) (w : Work) → IsNext s before all so_far e → AreAmong so_far w → number_of e < length before
    → (seen s before all so_far).of (number_of e) (length (legs_before e)) ≡ true → IsTraced s (seen s before all so_far) (length before) 0 w [] → nodes_of (number_of e) (length (legs_before e)) w.trace ≡ []
not_noted s before all so_far e w next among inside met_here traced =
    let of : ℕ → ℕ → Bool = (seen s before all so_far).of in
    traced.over (number_of e) (length (legs_before e)) inside met_here (λ i live same_number same_leg.
    not_same s before all so_far e w next among i live (ap (λ l. of (contents_at w.memory i).packet.number l) same_leg ∙ ap (λ n. of n (length (legs_before e))) same_number ∙ met_here) same_number same_leg)
    ∙ next.nothing met_here

-- the packets under way stay on their ways as the next one comes, and its first visit is noted
still_on_way : (s : Setting) (before : Notes) (all so_far : List Arrival) (e : Arrival) (w : Work) (notes : Notes) (i : ℕ) (to_come : List ℕ) → IsNext s before all so_far e → AreAmong so_far w → IsLive w.memory i
    → length notes ≡ length w.trace → ((n l : ℕ) → (n ≡ number_of e → l ≡ length (legs_before e) → ⊥) → nodes_of n l notes ≡ nodes_of n l w.trace)
    → IsOnWay (seen s before all so_far) w.trace (contents_at w.memory i) to_come → IsOnWay (seen s before all (so_far ++ e ∷ [])) notes (contents_at w.memory i) to_come
still_on_way s before all so_far e w notes i to_come next among live size kept way known met_here =
    let c : Contents = contents_at w.memory i in
    let apart : c.packet.number ≡ number_of e → leg_place c ≡ length (legs_before e) → ⊥ = not_same s before all so_far e w next among i live met_here in
    let old = way (omega (arith, known, size)) met_here in
    let same = visits_other s before so_far e c.packet.number (leg_place c) apart in (
      ap (λ ns. ns ++ to_come) (kept c.packet.number (leg_place c) apart) ∙ old.0 ∙ sym same,
      subst (λ ns. length ns < most_noted) (sym same) old.1,
    )

-- a visit in front of a leg
some_nodes : (node : ℕ) (o : Option Way) (way : Way) → o ≡ Some way
    → unwrap_or (option_map counted_visits (option_map (after_visit node) o)) [] ≡ node ∷ unwrap_or (option_map counted_visits o) []
some_nodes node o way e = rw e refl

pub arrives_nodes : (s : Setting) (e : Arrival) (first via to : ℕ) (c : Contents) → IsSetting s → Arrives s e first via c → arc s.graph via first_slot ≡ Some to → arrival_nodes s e ≡ first ∷ visits_to_come s to c
arrives_nodes s e first via to c ok arrives leads =
    let target : IsTarget (kind_at s.graph to) = arc_target s.graph via to ok.valid (first_slot, leads) in
    let way = leg_some s.visit s.graph s.workers s.worker (length c.legs) to c.packet ok.kinds ok.valid arrives.contents.packet target in
    ap (λ o. unwrap_or (option_map counted_visits o) []) (arrives.way to leads) ∙ some_nodes first (leg_of s to c) way.0 way.1

-- a packet that is too long is drawn
pub traced_long : (s : Setting) (leg : Leg) (before : Notes) (all so_far : List Arrival) (number : ℕ) (bytes : List ℕ) (w new : Work) (cache new_cache : CacheBook) → IsHeld s 0 w [] → IsNext s before all so_far (Drawn number bytes)
    → AreAmong so_far w → longest_packet < length bytes → DrawsLong leg number w new cache new_cache → IsTraced s (seen s before all so_far) (length before) 0 w []
    → IsTraced s (seen s before all (so_far ++ Drawn number bytes ∷ [])) (length before) 0 new []
traced_long s leg before all so_far number bytes w new cache new_cache held next among long draws traced =
    subst (λ (x : Work). IsTraced s whole (length before) 0 x []) (sym draws.rest) (record {
      size = size ∙ traced.size;
      is_notes = IsNotes-noted_end number 0 end first (IsNotes-noted number 0 pg_input w.trace traced.is_notes);
      apart = traced.apart;
      wait = λ n i some.
          still_on_way s before all so_far e w notes i (visits_to_come s n (contents_at w.memory i)) next among (live_waiting s 0 w [] held n i some) size kept (traced.wait n i some);
      in_hand = tt;
      over = λ n l inside met_here away. elim (cases_eq n number) [
        | inl one ↦ elim (cases_eq l 0) [
          | inl two ↦ own n l inside met_here one two
          | inr other ↦ others n l inside met_here away (λ same none. other none)
        ]
        | inr other ↦ others n l inside met_here away (λ same none. other same)
      ];
    })
  where
    e : Arrival
    e = Drawn number bytes

    end : End
    end = ends.Dropped pg_input TooLong

    whole : Sight
    whole = seen s before all (so_far ++ e ∷ [])

    first : Notes
    first = noted number 0 pg_input w.trace

    notes : Notes
    notes = noted_end number 0 end first

    size : length notes ≡ length w.trace
    size = length-noted_end number 0 end first ∙ length-noted number 0 pg_input w.trace

    kept : (n l : ℕ) → (n ≡ number → l ≡ 0 → ⊥) → nodes_of n l notes ≡ nodes_of n l w.trace
    kept n l apart = noted_end_other number 0 end first n l apart ∙ noted_other number 0 pg_input w.trace n l apart

    others : (n l : ℕ) → n < length before → whole.of n l ≡ true
        → ((i : ℕ) → IsLive w.memory i → (contents_at w.memory i).packet.number ≡ n → leg_place (contents_at w.memory i) ≢ l)
        → (n ≡ number → l ≡ 0 → ⊥) → nodes_of n l notes ≡ whole.nodes n l
    others n l inside met_here away apart = kept n l apart ∙ traced.over n l inside met_here away ∙ sym (visits_other s before so_far e n l apart)

    long_nodes : arrival_nodes s e ≡ pg_input ∷ drop_visits (outcome_of end)
    long_nodes = ap (λ o. unwrap_or (option_map counted_visits o) []) (long_leg s number bytes long)

    own : (n l : ℕ) → n < length before → whole.of n l ≡ true → n ≡ number → l ≡ 0 → nodes_of n l notes ≡ whole.nodes n l
    own n l inside met_here one two =
        let rest : List ℕ = drop_visits (outcome_of end) in
        let here : number < length before = omega (arith, inside, one) in
        let known : number < length w.trace = (let all = traced.size in omega (arith, here, all)) in
        let known_first : number < length first = (let same = length-noted number 0 pg_input w.trace in omega (arith, known, same)) in
        let met : whole.of number 0 ≡ true = ap (λ k. whole.of k 0) (sym one) ∙ ap (whole.of n) (sym two) ∙ met_here in
        let none = not_noted s before all so_far e w next among here met traced in
        let start : nodes_of number 0 first ++ rest ≡ pg_input ∷ rest =
        noted_first number 0 pg_input w.trace rest (pg_input ∷ rest) known (omega arith) traced.is_notes (omega arith) (ap (λ ns. ns ++ pg_input ∷ rest) none) in
        let all_of : nodes_of number 0 notes ≡ pg_input ∷ rest =
        noted_end_last number 0 end first (pg_input ∷ rest) known_first (omega arith) (IsNotes-noted number 0 pg_input w.trace traced.is_notes) (omega arith) start in
        let last : whole.nodes number 0 ≡ pg_input ∷ rest = visits_push s before so_far e number 0 ∙ ap (λ ns. ns ++ arrival_notes s number 0 e) (next.nothing met) ∙ notes_own s e ∙ long_nodes in
        ap (λ k. nodes_of k l notes) one ∙ ap (λ k. nodes_of number k notes) two ∙ all_of ∙ sym last
        ∙ ap (λ k. whole.nodes k 0) (sym one) ∙ ap (whole.nodes n) (sym two)

pub among_long : (leg : Leg) (so_far : List Arrival) (number : ℕ) (bytes : List ℕ) (w new : Work) (cache new_cache : CacheBook) → DrawsLong leg number w new cache new_cache → AreAmong so_far w
    → AreAmong (so_far ++ Drawn number bytes ∷ []) new
among_long leg so_far number bytes w new cache new_cache draws among =
    subst (λ (x : Work). AreAmong (so_far ++ Drawn number bytes ∷ []) x) (sym draws.rest)
    (λ i live. among_more (contents_at w.memory i).packet.number (leg_place (contents_at w.memory i)) so_far (Drawn number bytes) (among i live))

-- the place of the leg among those of a packet that came
pub arrives_place : (s : Setting) (e : Arrival) (first via : ℕ) (c : Contents) → Arrives s e first via c → leg_place c ≡ length (legs_before e)
arrives_place s e first via c arrives = let is = ap length arrives.legs in let more = length_push (legs_before e) (leg_here s) in omega (arith, is, more)

pub among_enters : (s : Setting) (so_far : List Arrival) (e : Arrival) (first via : ℕ) (c : Contents) (w new : Work) → Arrives s e first via c → Enters s.graph first via c w new → AreAmong so_far w → AreAmong (so_far ++ e ∷ []) new
among_enters s so_far e first via c w new arrives enters among i live = elim (cases_eq i enters.index) [
  | inl here ↦
      let is : contents_at new.memory i ≡ c = ap (contents_at new.memory) here ∙ ap (λ o. unwrap_or o nothing) enters.placed.changed in
      let own : sum_by (arrival_is_of (contents_at new.memory i).packet.number (leg_place (contents_at new.memory i))) (so_far ++ e ∷ []) ≡ sum_by (arrival_is_of (number_of e) (length (legs_before e))) (so_far ++ e ∷ []) =
      ap (λ (x : Contents). sum_by (arrival_is_of x.packet.number (leg_place x)) (so_far ++ e ∷ [])) is
      ∙ ap (λ n. sum_by (arrival_is_of n (leg_place c)) (so_far ++ e ∷ [])) arrives.number ∙ ap (λ l. sum_by (arrival_is_of (number_of e) l) (so_far ++ e ∷ [])) (arrives_place s e first via c arrives) in
      let more = sum_by_push (arrival_is_of (number_of e) (length (legs_before e))) so_far e in
      let one = is_of_own e in
      omega (arith, own, more, one)
  | inr other ↦
      let same = enters.placed.others i other in
      let old = among_more (contents_at w.memory i).packet.number (leg_place (contents_at w.memory i)) so_far e (among i (ap is_some (sym same) ∙ live)) in
      subst (λ o. 0 < sum_by (arrival_is_of (unwrap_or o nothing).packet.number (leg_place (unwrap_or o nothing))) (so_far ++ e ∷ [])) (sym same) old
]

-- a packet comes
pub traced_enters : (s : Setting) (before : Notes) (all so_far : List Arrival) (e : Arrival) (first via : ℕ) (c : Contents) (w new : Work) → IsSetting s → IsHeld s 0 w [] → IsNext s before all so_far e → AreAmong so_far w
    → Arrives s e first via c → Enters s.graph first via c w new → IsTraced s (seen s before all so_far) (length before) 0 w [] → IsTraced s (seen s before all (so_far ++ e ∷ [])) (length before) 0 new []
traced_enters s before all so_far e first via c w new ok held next among arrives enters traced =
    subst (λ (x : Work). IsTraced s whole (length before) 0 x []) (sym enters.rest) (record {
      size = size ∙ traced.size;
      is_notes = IsNotes-noted c.packet.number (leg_place c) first w.trace traced.is_notes;
      apart = λ i j live other met_here numbers legs. elim (cases_eq i index) [
        | inl one ↦ elim (cases_eq j index) [
          | inl two ↦ one ∙ sym two
          | inr away ↦
              absurd (not_own j away other (ap (λ n. whole.of n (leg_place (contents_at new.memory j))) (sym numbers) ∙ ap (whole.of (contents_at new.memory i).packet.number) (sym legs) ∙ met_here)
              (sym numbers ∙ number_at i one) (sym legs ∙ place_at i one))
        ]
        | inr here ↦ elim (cases_eq j index) [
          | inl two ↦ absurd (not_own i here live met_here (numbers ∙ number_at j two) (legs ∙ place_at j two))
          | inr away ↦
              traced.apart i j (was_live i here live) (was_live j away other) (subst (IsSeen whole) (same i here) met_here)
              (ap (λ (x : Contents). x.packet.number) (sym (same i here)) ∙ numbers ∙ ap (λ (x : Contents). x.packet.number) (same j away))
              (ap leg_place (sym (same i here)) ∙ legs ∙ ap leg_place (same j away))
        ]
      ];
      wait = λ n i some. elim (put_waits w.pending enters.to index n i inside some) [
        | inl old ↦
            let live = live_waiting s 0 w [] held n i old in
            subst (λ x. IsOnWay whole notes x (visits_to_come s n x)) (sym (same i (occupied i live)))
            (still_on_way s before all so_far e w notes i (visits_to_come s n (contents_at w.memory i)) next among live size kept (traced.wait n i old))
        | inr fresh_one ↦
            subst (λ m. IsOnWay whole notes (contents_at new.memory i) (visits_to_come s m (contents_at new.memory i))) (sym fresh_one.1)
            (subst (λ x. IsOnWay whole notes x (visits_to_come s enters.to x)) (sym (ap (contents_at new.memory) fresh_one.0 ∙ there)) way)
      ];
      in_hand = tt;
      over = λ n l known met_here away. elim (cases_eq n (number_of e)) [
        | inl one ↦ elim (cases_eq l (length (legs_before e))) [
          | inl two ↦
              absurd (away index (ap is_some enters.placed.changed) (ap (λ (x : Contents). x.packet.number) there ∙ arrives.number ∙ sym one) (ap leg_place there ∙ place ∙ sym two))
          | inr other ↦ others n l known met_here away (λ same none. other none)
        ]
        | inr other ↦ others n l known met_here away (λ same none. other same)
      ];
    })
  where
    index : ℕ
    index = enters.index

    whole : Sight
    whole = seen s before all (so_far ++ e ∷ [])

    notes : Notes
    notes = noted c.packet.number (leg_place c) first w.trace

    place : leg_place c ≡ length (legs_before e)
    place = arrives_place s e first via c arrives

    size : length notes ≡ length w.trace
    size = length-noted c.packet.number (leg_place c) first w.trace

    kept : (n l : ℕ) → (n ≡ number_of e → l ≡ length (legs_before e) → ⊥) → nodes_of n l notes ≡ nodes_of n l w.trace
    kept n l apart = noted_other c.packet.number (leg_place c) first w.trace n l (λ n_is l_is. apart (n_is ∙ arrives.number) (l_is ∙ place))

    inside : enters.to < length w.pending
    inside =
        let target : IsTarget (kind_at s.graph enters.to) = arc_target s.graph via enters.to ok.valid (first_slot, enters.leads) in
        let in_graph = target_within s.graph enters.to target in let few = ok.few_nodes in let nodes = held.nodes in
        omega (arith, in_graph, few, nodes)

    there : contents_at new.memory index ≡ c
    there = ap (λ o. unwrap_or o nothing) enters.placed.changed

    same : (i : ℕ) → i ≢ index → contents_at new.memory i ≡ contents_at w.memory i
    same i away = ap (λ o. unwrap_or o nothing) (enters.placed.others i away)

    was_live : (i : ℕ) → i ≢ index → IsLive new.memory i → IsLive w.memory i
    was_live i away live = ap is_some (sym (enters.placed.others i away)) ∙ live

    occupied : (i : ℕ) → IsLive w.memory i → i ≢ index
    occupied i live here = not_live w.memory i (ap (buffer_at w.memory) here ∙ enters.vacant) live

    number_at : (i : ℕ) → i ≡ index → (contents_at new.memory i).packet.number ≡ number_of e
    number_at i here = ap (λ (x : Contents). x.packet.number) (ap (contents_at new.memory) here ∙ there) ∙ arrives.number

    place_at : (i : ℕ) → i ≡ index → leg_place (contents_at new.memory i) ≡ length (legs_before e)
    place_at i here = ap leg_place (ap (contents_at new.memory) here ∙ there) ∙ place

    not_own : (i : ℕ) → i ≢ index → IsLive new.memory i → IsSeen whole (contents_at new.memory i) → (contents_at new.memory i).packet.number ≡ number_of e → leg_place (contents_at new.memory i) ≡ length (legs_before e) → ⊥
    not_own i away live met_here n_is l_is =
        not_same s before all so_far e w next among i (was_live i away live) (subst (IsSeen whole) (same i away) met_here)
        (ap (λ (x : Contents). x.packet.number) (sym (same i away)) ∙ n_is) (ap leg_place (sym (same i away)) ∙ l_is)

    way : IsOnWay whole notes c (visits_to_come s enters.to c)
    way known met_here =
        let known_before : c.packet.number < length w.trace = (let all = size in omega (arith, known, all)) in
        let is_number = arrives.number in
        let here : number_of e < length before = (let all = traced.size in omega (arith, known_before, all, is_number)) in
        let met : whole.of (number_of e) (length (legs_before e)) ≡ true = ap (λ l. whole.of (number_of e) l) (sym place) ∙ ap (λ n. whole.of n (leg_place c)) (sym arrives.number) ∙ met_here in
        let none : nodes_of c.packet.number (leg_place c) w.trace ≡ [] =
        ap (λ n. nodes_of n (leg_place c) w.trace) arrives.number ∙ ap (λ l. nodes_of (number_of e) l w.trace) place ∙ not_noted s before all so_far e w next among here met traced in
        let own : whole.nodes c.packet.number (leg_place c) ≡ arrival_nodes s e =
        ap (λ n. whole.nodes n (leg_place c)) arrives.number ∙ ap (λ l. whole.nodes (number_of e) l) place
        ∙ visits_push s before so_far e (number_of e) (length (legs_before e)) ∙ ap (λ ns. ns ++ arrival_notes s (number_of e) (length (legs_before e)) e) (next.nothing met) ∙ notes_own s e in
        let nodes = arrives_nodes s e first via enters.to c ok arrives enters.leads in
        let most = came_nodes_most s e ok arrives.arrival arrives.from in
        let few : leg_place c < 4 = (let f = arrives.contents.few_legs in omega (arith, f)) in (
          noted_first c.packet.number (leg_place c) first w.trace (visits_to_come s enters.to c) (arrival_nodes s e) known_before few traced.is_notes (omega (arith, most))
              (ap (λ ns. ns ++ first ∷ visits_to_come s enters.to c) none ∙ sym nodes)
              ∙ sym own,
          subst (λ ns. length ns < most_noted) (sym own) most,
        )

    others : (n l : ℕ) → n < length before → whole.of n l ≡ true
        → ((i : ℕ) → IsLive new.memory i → (contents_at new.memory i).packet.number ≡ n → leg_place (contents_at new.memory i) ≢ l)
        → (n ≡ number_of e → l ≡ length (legs_before e) → ⊥) → nodes_of n l notes ≡ whole.nodes n l
    others n l known met_here away apart =
        kept n l apart
        ∙ traced.over n l known met_here (λ i live n_is l_is.
        let other = occupied i live in
        away i (ap is_some (enters.placed.others i other) ∙ live) (ap (λ (x : Contents). x.packet.number) (same i other) ∙ n_is) (ap leg_place (same i other) ∙ l_is))
        ∙ sym (visits_other s before so_far e n l apart)

-- those that are spoken of with one packet more were so without it
pub traced_next : (s : Setting) (before : Notes) (so_far : List Arrival) (e : Arrival) (w : Work) → IsTraced s (seen s before so_far so_far) (length before) 0 w []
    → IsTraced s (seen s before (so_far ++ e ∷ []) so_far) (length before) 0 w []
traced_next s before so_far e w traced =
    let fewer : (n l : ℕ) → (seen s before (so_far ++ e ∷ []) so_far).of n l ≡ true → (seen s before so_far so_far).of n l ≡ true =
    λ n l met_here.
    let more = sum_by_push (arrival_is_of n l) so_far e in
    let few = once_few (sum_by (arrival_is_of n l) (so_far ++ e ∷ [])) (length (nodes_of n l before)) met_here in
    let first = once_first (sum_by (arrival_is_of n l) (so_far ++ e ∷ [])) (length (nodes_of n l before)) met_here in
    once_is (sum_by (arrival_is_of n l) so_far) (length (nodes_of n l before)) (omega (arith, few, more)) (λ some. first (omega (arith, some, more))) in
    record {
      size = traced.size;
      is_notes = traced.is_notes;
      apart = λ i j live other met_here. traced.apart i j live other (fewer (contents_at w.memory i).packet.number (leg_place (contents_at w.memory i)) met_here);
      wait = λ n i some known met_here. traced.wait n i some known (fewer (contents_at w.memory i).packet.number (leg_place (contents_at w.memory i)) met_here);
      in_hand = tt;
      over = λ number leg inside met_here. traced.over number leg inside (fewer number leg met_here);
    }
