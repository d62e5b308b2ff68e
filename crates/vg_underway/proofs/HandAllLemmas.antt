-- For the clause `handed` of `Work::hand_over`: all packets of a frame are handed over, or dropped.
use Rattle.std.proofs.Common.{◌≡◌, ◌≢◌, ℕ, suc, ◌+◌, ◌<◌, ◌≤◌, List, [], ◌∷◌, ◌++◌, length, map, take, drop, get_or, drop-cons, add-one, refl, sym, ap, subst, ◌∙◌, inl, inr, arith, append_assoc, length-append}
use Rattle.std.specs.Prelude.{Bool, false, Option, Some, None, is_some, unwrap_or}
use Rattle.std.specs.List.{sum_by, AllByRecursion}
use Rattle.std.proofs.lemmas.List.{append-nil, map-append, length-map, take_more, take_all}
use Rattle.std.proofs.lemmas.List.Sums.{sum_by-cons, sum_by-append}
use Rattle.std.proofs.lemmas.Bool.{cases_eq}
use Rattle.vg_model.specs.declared.kinds.DropError.TheVariants.{Congestion}
use Rattle.vg_model.specs.declared.kinds.Step.{Step}
use Rattle.vg_model.specs.declared.kinds.Step.TheVariants.{Hand}
use Rattle.vg_model.specs.declared.fates.End.TheVariants as ends
use Rattle.vg_model.specs.Leg as legs
use Rattle.vg_model.specs.Graph.{kind_at}
use Rattle.vg_model.specs.Valid.{IsTarget}
use Rattle.vg_model.specs.PoolBook.{CacheBook}
use Rattle.vg_pool.specs.Contents.{Contents}
use Rattle.vg_frame.specs.Placed.{buffer_at, count, Changes, IsLive}
use Rattle.vg_journeys.specs.Chains.{count_some}
use Rattle.vg_journeys.specs.Trips.{Arrival, Taken, last_generation}
use Rattle.vg_journeys.specs.Accounts.{HandoffFrame, frame_arrivals, arrivals_in}
use Rattle.vg_journeys.specs.Turns.{Settled, settled_onward, settled_pieces}
use Rattle.vg_hands.specs.Handed.{IsHanded}
use Rattle.vg_underway.specs.declared.underway.Work.{Work}
use Rattle.vg_underway.specs.Underway.{Setting, IsSetting, moved, contents_at, nothing, move_owed}
use Rattle.vg_underway.specs.Works.{IsSteady, Exchanges, TakesAll, by_pieces}
use Rattle.vg_journeys.specs.Counts.{IsCountAt}
use Rattle.vg_underway.specs.Hands.{CanRefuse, Refuses, handed_to, HasFewLegs, HandsOver, all_chains}
use Rattle.vg_underway.proofs.OwedLemmas.{target_within}
use Rattle.vg_underway.proofs.WorkLemmas.{live_in_hand, advances_none, advances_then, takes_kept, pieces_kept}
use Rattle.vg_underway.proofs.TraceLemmas.{not_live, traced_same, traced_then}
use Rattle.vg_underway.proofs.AwayLemmas.{can_count, some_in_hand}
use Rattle.vg_underway.proofs.HandLemmas.{handed_settled, hands_to, Passes, accepted_passes, refused_passes}

-- one stretch and then another
passes_none : (s : Setting) (node : ℕ) (w : Work) (hand : List (ℕ × Step)) → IsSteady s node w hand → Passes s node [] w hand w hand
passes_none s node w hand steady = record { steady = steady; advances = advances_none s node w hand; traced = λ whole packets traced. traced_same s whole packets node w hand traced }

passes_then : (s : Setting) (node : ℕ) (s1 s2 : List Settled) (a b c : Work) (ha hb hc : List (ℕ × Step)) → Passes s node s1 a ha b hb → Passes s node s2 b hb c hc → Passes s node (s1 ++ s2) a ha c hc
passes_then s node s1 s2 a b c ha hb hc one two = record {
  steady = two.steady;
  advances = advances_then s node [] [] s1 s2 a b c ha hb hc one.advances two.advances;
  traced = traced_then s node s1 s2 a ha b hb c hc one.traced two.traced;
}

-- a memory with and without the packets of these indexes, which are these
abbrev pub Lifts : (memory : List (Option Contents)) (indexes : List ℕ) (packets : List Contents) (after : List (Option Contents)) → Type 0
Lifts m [] [] after = m ≡ after
Lifts m [] (c ∷ cs) after = ⊥
Lifts m (i ∷ is) [] after = ⊥
Lifts m (i ∷ is) (c ∷ cs) after = (next : List (Option Contents)) × Changes m next i None × (count next + 1 ≡ count m) × (buffer_at m i ≡ Some c) × Lifts next is cs after

pub lifts_more : (m : List (Option Contents)) (is : List ℕ) (cs : List Contents) (mid after : List (Option Contents)) (i : ℕ) (c : Contents) → Lifts m is cs mid → Changes mid after i None → count after + 1 ≡ count mid → buffer_at mid i ≡ Some c
    → Lifts m (is ++ i ∷ []) (cs ++ c ∷ []) after
lifts_more m [] [] mid after i c all changes less is_c =
    (after, subst (λ x. Changes x after i None) (sym all) changes, ap (λ k. k) less ∙ ap count (sym all), ap (λ x. buffer_at x i) all ∙ is_c, refl)
lifts_more m [] (d ∷ ds) mid after i c all changes less is_c = absurd all
lifts_more m (j ∷ js) [] mid after i c all changes less is_c = absurd all
lifts_more m (j ∷ js) (d ∷ ds) mid after i c all changes less is_c =
    (all.0, all.1, all.2, all.3, lifts_more all.0 js ds mid after i c all.4 changes less is_c)

pub lifts_length : (m : List (Option Contents)) (is : List ℕ) (cs : List Contents) (after : List (Option Contents)) → Lifts m is cs after → length cs ≡ length is
lifts_length m [] [] after all = refl
lifts_length m [] (c ∷ cs) after all = absurd all
lifts_length m (i ∷ is) [] after all = absurd all
lifts_length m (i ∷ is) (c ∷ cs) after all = ap suc (lifts_length all.0 is cs after all.4)

-- of the packets some first ones, and then the others
pub record AreSplit (m : List (Option Contents)) (is : List ℕ) (one two : List Contents) (after : List (Option Contents)) : Type 0 where
  pub front : List ℕ
  pub back : List ℕ
  pub mid : List (Option Contents)
  pub both : is ≡ front ++ back
  pub first : Lifts m front one mid
  pub second : Lifts mid back two after

pub lifts_split : (m : List (Option Contents)) (is : List ℕ) (one two : List Contents) (after : List (Option Contents)) → Lifts m is (one ++ two) after → AreSplit m is one two after
lifts_split m is [] two after all = record { front = []; back = is; mid = m; both = refl; first = refl; second = all }
lifts_split m [] (c ∷ cs) two after all = absurd all
lifts_split m (i ∷ is) (c ∷ cs) two after all =
    let rest = lifts_split all.0 is cs two after all.4 in
    record {
      front = i ∷ rest.front;
      back = rest.back;
      mid = rest.mid;
      both = ap (λ js. i ∷ js) rest.both;
      first = (all.0, all.1, all.2, all.3, rest.first);
      second = rest.second;
    }

-- legs are few where they were
pub few_kept : (m next : List (Option Contents)) (i : ℕ) → Changes m next i None → (is : List ℕ) → AllByRecursion (HasFewLegs m) is → AllByRecursion (HasFewLegs next) is
few_kept m next i changes [] few = tt
few_kept m next i changes (j ∷ js) few = (one, few_kept m next i changes js few.1)
  where
    one : HasFewLegs next j
    one live = elim (cases_eq j i) [
      | inl same ↦ absurd (not_live next j (ap (buffer_at next) same ∙ changes.changed) live)
      | inr other ↦
          let is : buffer_at next j ≡ buffer_at m j = changes.others j other in
          subst (λ o. length (unwrap_or o nothing).legs ≤ 3) (sym is) (few.0 (ap is_some (sym is) ∙ live))
    ]

-- all go on in a frame
pub accepted_all : (s : Setting) (node to : ℕ) (w : Work) (rest : List (ℕ × Step)) (m : List (Option Contents)) (is : List ℕ) (cs : List Contents) (after : List (Option Contents)) → to < s.workers → to ≢ s.worker → Lifts m is cs after
    → IsSteady s node (record w { memory = m }) (handed_to to is ++ rest) → AllByRecursion (HasFewLegs m) is
    → Passes s node (map (λ c. handed_settled node to c None) cs) (record w { memory = m }) (handed_to to is ++ rest) (record w { memory = after }) rest
accepted_all s node to w rest m [] [] after within other all steady few =
    subst (λ x. Passes s node [] (record w { memory = m }) rest (record w { memory = x }) rest) all (passes_none s node (record w { memory = m }) rest steady)
accepted_all s node to w rest m [] (c ∷ cs) after within other all steady few = absurd all
accepted_all s node to w rest m (i ∷ is) [] after within other all steady few = absurd all
accepted_all s node to w rest m (i ∷ is) (c ∷ cs) after within other all steady few =
    let next = all.0 in
    let is_c : contents_at m i ≡ c = ap (λ o. unwrap_or o nothing) all.3 in
    let live : IsLive m i = ap is_some all.3 in
    let step = accepted_passes s node to (record w { memory = m }) (record w { memory = next }) (i, Hand to) (handed_to to is ++ rest) steady (record { memory = all.1; count_is = all.2; pending = refl }) refl
    (hands_to s node to (contents_at m i) within other (few.0 live)) in
    let named : Passes s node (handed_settled node to c None ∷ []) (record w { memory = m }) (handed_to to (i ∷ is) ++ rest) (record w { memory = next }) (handed_to to is ++ rest) =
    subst (λ x. Passes s node (handed_settled node to x None ∷ []) (record w { memory = m }) (handed_to to (i ∷ is) ++ rest) (record w { memory = next }) (handed_to to is ++ rest)) is_c step in
    passes_then s node (handed_settled node to c None ∷ []) (map (λ c. handed_settled node to c None) cs) (record w { memory = m }) (record w { memory = next }) (record w { memory = after }) (handed_to to (i ∷ is) ++ rest) (handed_to to is ++ rest) rest
    named (accepted_all s node to w rest next is cs after within other all.4 step.steady (few_kept m next i all.1 is few.1))

-- all are dropped, one behind the other
abbrev pub RefusesAll : (node accepted : ℕ) → List Contents → Work → Work → Type 0
RefusesAll node accepted [] w new = w ≡ new
RefusesAll node accepted (c ∷ cs) w new = (next : Work) × Refuses node accepted c w next × RefusesAll node accepted cs next new

pub refuses_more : (node accepted : ℕ) (cs : List Contents) (c : Contents) (w mid new : Work) → RefusesAll node accepted cs w mid → Refuses node accepted c mid new → RefusesAll node accepted (cs ++ c ∷ []) w new
refuses_more node accepted [] c w mid new all one = (new, subst (λ x. Refuses node accepted c x new) (sym all) one, refl)
refuses_more node accepted (d ∷ ds) c w mid new all one = (all.0, all.1, refuses_more node accepted ds c all.0 mid new all.2 one)

pub refuses_memory : (node accepted : ℕ) (cs : List Contents) (w new : Work) → RefusesAll node accepted cs w new → new.memory ≡ w.memory
refuses_memory node accepted [] w new all = ap (λ (x : Work). x.memory) (sym all)
refuses_memory node accepted (c ∷ cs) w new all = refuses_memory node accepted cs all.0 new all.2 ∙ ap (λ (x : Work). x.memory) all.1.rest

pub refused_all : (s : Setting) (node to accepted : ℕ) (w new : Work) (rest : List (ℕ × Step)) (m : List (Option Contents)) (is : List ℕ) (cs : List Contents) (after : List (Option Contents)) → IsSetting s → IsTarget (kind_at s.graph node)
    → to < s.workers → to ≢ s.worker → Lifts m is cs after → RefusesAll node accepted cs w new → IsSteady s node (record w { memory = m }) (handed_to to is ++ rest) → AllByRecursion (HasFewLegs m) is
    → Passes s node (map (λ c. handed_settled node to c (Some accepted)) cs) (record w { memory = m }) (handed_to to is ++ rest) (record new { memory = after }) rest
refused_all s node to accepted w new rest m [] [] after ok target within other all refused steady few =
    subst (λ (x : Work). Passes s node [] (record w { memory = m }) rest (record x { memory = after }) rest) refused
    (subst (λ x. Passes s node [] (record w { memory = m }) rest (record w { memory = x }) rest) all (passes_none s node (record w { memory = m }) rest steady))
refused_all s node to accepted w new rest m [] (c ∷ cs) after ok target within other all refused steady few = absurd all
refused_all s node to accepted w new rest m (i ∷ is) [] after ok target within other all refused steady few = absurd all
refused_all s node to accepted w new rest m (i ∷ is) (c ∷ cs) after ok target within other all refused steady few =
    let next = all.0 in
    let w1 : Work = refused.0 in
    let is_c : contents_at m i ≡ c = ap (λ o. unwrap_or o nothing) all.3 in
    let live : IsLive m i = ap is_some all.3 in
    let one : Refuses node accepted c (record w { memory = next }) (record w1 { memory = next }) = record {
      fates = refused.1.fates;
      room = refused.1.room;
      rest = ap (λ (x : Work). record x { memory = next }) refused.1.rest;
    } in
    let there : Refuses node accepted (contents_at m i) (record w { memory = next }) (record w1 { memory = next }) =
    subst (λ x. Refuses node accepted x (record w { memory = next }) (record w1 { memory = next })) (sym is_c) one in
    let pending : w1.pending ≡ w.pending = ap (λ (x : Work). x.pending) refused.1.rest in
    let step = refused_passes s node to accepted (record w { memory = m }) (record w { memory = next }) (record w1 { memory = next }) (i, Hand to) (handed_to to is ++ rest) steady
    (record { memory = all.1; count_is = all.2; pending = pending }) refl there
    (can_count s node (record w { memory = m }) (i, Hand to) (handed_to to is ++ rest) (ends.Dropped node Congestion) ok steady (target_within s.graph node target))
    (steady.held.legs i live).0 (hands_to s node to (contents_at m i) within other (few.0 live)) in
    let named : Passes s node (handed_settled node to c (Some accepted) ∷ []) (record w { memory = m }) (handed_to to (i ∷ is) ++ rest) (record w1 { memory = next }) (handed_to to is ++ rest) =
    subst (λ x. Passes s node (handed_settled node to x (Some accepted) ∷ []) (record w { memory = m }) (handed_to to (i ∷ is) ++ rest) (record w1 { memory = next }) (handed_to to is ++ rest)) is_c step in
    passes_then s node (handed_settled node to c (Some accepted) ∷ []) (map (λ c. handed_settled node to c (Some accepted)) cs) (record w { memory = m }) (record w1 { memory = next }) (record new { memory = after })
    (handed_to to (i ∷ is) ++ rest) (handed_to to is ++ rest) rest
    named (refused_all s node to accepted w1 new rest next is cs after ok target within other all.4 refused.2 step.steady (few_kept m next i all.1 is few.1))

-- what frames and drops tell
sum_accepted : (node to : ℕ) (count : Arrival → ℕ) (cs : List Contents) → sum_by (λ x. count_some count (settled_onward x)) (map (λ c. handed_settled node to c None) cs) ≡ sum_by count (map (Taken to node) cs)
sum_accepted node to count [] = refl
sum_accepted node to count (c ∷ cs) =
    let rest = sum_accepted node to count cs in
    omega (arith, rest, sum_by-cons (λ x. count_some count (settled_onward x)) (handed_settled node to c None) (map (λ c. handed_settled node to c None) cs), sum_by-cons count (Taken to node c) (map (Taken to node) cs))

sum_refused : (node to accepted : ℕ) (count : Arrival → ℕ) (cs : List Contents) → sum_by (λ x. count_some count (settled_onward x)) (map (λ c. handed_settled node to c (Some accepted)) cs) ≡ 0
sum_refused node to accepted count [] = refl
sum_refused node to accepted count (c ∷ cs) =
    let rest = sum_refused node to accepted count cs in
    omega (arith, rest, sum_by-cons (λ x. count_some count (settled_onward x)) (handed_settled node to c (Some accepted)) (map (λ c. handed_settled node to c (Some accepted)) cs))

-- the buffers of packets that the queue accepted stay with them; those of packets that it refused come back
pieces_accepted : (node to : ℕ) (cs : List Contents) → sum_by settled_pieces (map (λ c. handed_settled node to c None) cs) ≡ 0
pieces_accepted node to [] = refl
pieces_accepted node to (c ∷ cs) =
    let rest = pieces_accepted node to cs in
    omega (arith, rest, sum_by-cons settled_pieces (handed_settled node to c None) (map (λ c. handed_settled node to c None) cs))

pieces_refused : (node to accepted : ℕ) (cs : List Contents) → sum_by settled_pieces (map (λ c. handed_settled node to c (Some accepted)) cs) ≡ all_chains cs
pieces_refused node to accepted [] = refl
pieces_refused node to accepted (c ∷ cs) =
    let rest = pieces_refused node to accepted cs in
    omega (arith, rest, sum_by-cons settled_pieces (handed_settled node to c (Some accepted)) (map (λ c. handed_settled node to c (Some accepted)) cs), sum_by-cons (λ (x : Contents). x.pieces) c cs)

all_to : (node to : ℕ) (refused : Option ℕ) (cs : List Contents) → AllByRecursion (λ x. x.ended.outcome ≡ legs.Handed node to) (map (λ c. handed_settled node to c refused) cs)
all_to node to refused [] = tt
all_to node to refused (c ∷ cs) = (refl, all_to node to refused cs)

all_refused : (node to : ℕ) (refused : Option ℕ) (P : ℕ → Type 0) (cs : List Contents) → ((count : ℕ) → refused ≡ Some count → P count)
    → AllByRecursion (λ x. (count : ℕ) → x.refused ≡ Some count → P count) (map (λ c. handed_settled node to c refused) cs)
all_refused node to refused P [] each = tt
all_refused node to refused P (c ∷ cs) each = (each, all_refused node to refused P cs each)

arrivals_more : (to : ℕ) (count : Arrival → ℕ) (frames : List HandoffFrame) (frame : HandoffFrame) → sum_by count (arrivals_in to (frames ++ frame ∷ [])) ≡ sum_by count (arrivals_in to frames) + sum_by count (frame_arrivals to frame)
arrivals_more to count [] frame = let one = sum_by-append count (frame_arrivals to frame) [] in omega (arith, one)
arrivals_more to count (f ∷ fs) frame =
    let rest = arrivals_more to count fs frame in
    let one = sum_by-append count (frame_arrivals to f) (arrivals_in to (fs ++ frame ∷ [])) in
    let two = sum_by-append count (frame_arrivals to f) (arrivals_in to fs) in
    omega (arith, rest, one, two)

-- lifted packets leave no other with a leg more
pub lifts_few : (m : List (Option Contents)) (is : List ℕ) (cs : List Contents) (after : List (Option Contents)) (i : ℕ) → Lifts m is cs after → HasFewLegs m i → HasFewLegs after i
lifts_few m [] [] after i all few = subst (λ x. HasFewLegs x i) all few
lifts_few m [] (c ∷ cs) after i all few = absurd all
lifts_few m (j ∷ js) [] after i all few = absurd all
lifts_few m (j ∷ js) (c ∷ cs) after i all few = lifts_few all.0 js cs after i all.4 (few_kept m all.0 j all.1 (i ∷ []) (few, tt)).0

-- as many are settled as were in hand
fewer_in_hand : (to : ℕ) (is : List ℕ) (settled : List Settled) (rest : List (ℕ × Step)) → length settled ≡ length is → length rest + length settled ≡ length (handed_to to is ++ rest)
fewer_in_hand to is settled rest size =
    let both = length-append (handed_to to is) rest in
    let pair : ℕ → ℕ × Step = λ index. (index, Hand to) in
    let one : length (map pair is) ≡ length is = length-map is pair in
    omega (arith, both, one, size)

-- the queue accepted the frame
pub handed_accepted : (s : Setting) (node to slots : ℕ) (lossless : Bool) (generation : ℕ) (w new : Work) (cache : CacheBook) (put : List HandoffFrame) (new_put : List HandoffFrame) (rest : List (ℕ × Step)) (is : List ℕ) (cs : List Contents) → to < s.workers → to ≢ s.worker
    → new ≡ record w { memory = new.memory } → Lifts w.memory is cs new.memory → IsSteady s node w (handed_to to is ++ rest) → AllByRecursion (HasFewLegs w.memory) is → TakesAll s node w (handed_to to is ++ rest) cache
    → new_put ≡ put ++ record { node = node; generation = generation; packets = cs } ∷ [] → 1 ≤ length is → HandsOver s node to slots lossless w cache put (handed_to to is ++ rest) new cache new_put rest
handed_accepted s node to slots lossless generation w new cache put new_put rest is cs within other same lifts steady few takes accepted some =
    let settled : List Settled = map (λ c. handed_settled node to c None) cs in
    let all : Passes s node settled w (handed_to to is ++ rest) new rest =
    subst (λ (x : Work). Passes s node settled w (handed_to to is ++ rest) x rest) (sym same) (accepted_all s node to w rest w.memory is cs new.memory within other lifts steady few) in
    let back = pieces_accepted node to cs in
    let exchange : Exchanges [] settled cache cache = record { len = omega (arith, back); freed = omega (arith, back); allocated = omega arith; taken = refl; given = refl } in
    let each = lifts_length w.memory is cs new.memory lifts in
    let size : length settled ≡ length is = length-map cs (λ c. handed_settled node to c None) ∙ each in
    record {
      steady = all.steady;
      takes = takes_kept s node settled w new (handed_to to is ++ rest) rest cache cache takes all.advances exchange;
      settled = settled;
      advances = all.advances;
      exchanges = exchange;
      to_it = all_to node to None cs;
      refusals = all_refused node to None (λ count. IsCountAt slots lossless count (length put) (length new_put)) cs (λ count e. cc);
      went = λ count.
          let e = sum_accepted node to count cs in
          let more = arrivals_more to count put (record { node = node; generation = generation; packets = cs }) in
          let is_put = ap (λ fs. sum_by count (arrivals_in to fs)) accepted in
          omega (arith, e, more, is_put);
      pushed = record { node = node; generation = generation; packets = cs } ∷ [];
      put_is = accepted;
      one = omega arith;
      full = (omega (arith, each, some), tt);
      fewer = fewer_in_hand to is settled rest size;
      legs = λ i few_legs. lifts_few w.memory is cs new.memory i lifts few_legs;
      traced = all.traced;
    }

-- it was full
pub handed_refused : (s : Setting) (node to slots accepted : ℕ) (lossless : Bool) (w mid new : Work) (cache new_cache : CacheBook) (put new_put : List HandoffFrame) (rest : List (ℕ × Step)) (is : List ℕ) (cs : List Contents) → IsSetting s → IsTarget (kind_at s.graph node)
    → to < s.workers → to ≢ s.worker → mid ≡ record w { memory = mid.memory } → Lifts w.memory is cs mid.memory → RefusesAll node accepted cs mid new → IsSteady s node w (handed_to to is ++ rest) → AllByRecursion (HasFewLegs w.memory) is
    → TakesAll s node w (handed_to to is ++ rest) cache → new_cache ≡ record cache { len = cache.len + all_chains cs; freed = cache.freed + all_chains cs } → new_put ≡ put → accepted ≡ length put → slots ≤ accepted → lossless ≡ false
    → HandsOver s node to slots lossless w cache put (handed_to to is ++ rest) new new_cache new_put rest
handed_refused s node to slots accepted lossless w mid new cache new_cache put new_put rest is cs ok target within other same lifts refused steady few takes moved same_put so_many most lossy =
    let settled : List Settled = map (λ c. handed_settled node to c (Some accepted)) cs in
    let back : w ≡ record mid { memory = w.memory } = ap (λ (x : Work). record x { memory = w.memory }) (sym same) in
    let begin : IsSteady s node (record mid { memory = w.memory }) (handed_to to is ++ rest) = subst (λ (x : Work). IsSteady s node x (handed_to to is ++ rest)) back steady in
    let passes = refused_all s node to accepted mid new rest w.memory is cs mid.memory ok target within other lifts refused begin few in
    let memory : new.memory ≡ mid.memory = refuses_memory node accepted cs mid new refused in
    let last : record new { memory = mid.memory } ≡ new = ap (λ m. record new { memory = m }) (sym memory) in
    let all : Passes s node settled w (handed_to to is ++ rest) new rest =
    subst (λ (x : Work). Passes s node settled x (handed_to to is ++ rest) new rest) (sym back) (subst (λ (x : Work). Passes s node settled (record mid { memory = w.memory }) (handed_to to is ++ rest) x rest) last passes) in
    let size : length settled ≡ length cs = length-map cs (λ c. handed_settled node to c (Some accepted)) in
    let chains = pieces_refused node to accepted cs in
    let len : new_cache.len ≡ cache.len + all_chains cs = ap (λ x. x.len) moved in
    let freed : new_cache.freed ≡ cache.freed + all_chains cs = ap (λ x. x.freed) moved in
    let allocated : new_cache.allocated ≡ cache.allocated = ap (λ x. x.allocated) moved in
    let exchange : Exchanges [] settled cache new_cache = record {
      len = omega (arith, chains, len);
      freed = omega (arith, chains, freed);
      allocated = omega (arith, allocated);
      taken = ap (λ x. x.taken) moved;
      given = ap (λ x. x.given) moved;
    } in
    record {
      steady = all.steady;
      takes = takes_kept s node settled w new (handed_to to is ++ rest) rest cache new_cache takes all.advances exchange;
      settled = settled;
      advances = all.advances;
      exchanges = exchange;
      to_it = all_to node to (Some accepted) cs;
      refusals = all_refused node to (Some accepted) (λ count. IsCountAt slots lossless count (length put) (length new_put)) cs
          (λ count e. let n : accepted ≡ count = cc in let puts = ap length same_put in record {
            slots_most = omega (arith, n, most);
            before_most = omega (arith, n, so_many);
            most = omega (arith, n, so_many, puts);
            lossy = lossy;
          });
      went = λ count. (let none = sum_refused node to accepted count cs in let e = ap (λ fs. sum_by count (arrivals_in to fs)) same_put in omega (arith, none, e));
      pushed = [];
      put_is = same_put ∙ sym (append-nil put);
      one = omega arith;
      full = tt;
      fewer = fewer_in_hand to is settled rest (size ∙ lifts_length w.memory is cs mid.memory lifts);
      legs = λ i few_legs. subst (λ m. HasFewLegs m i) (sym memory) (lifts_few w.memory is cs mid.memory i lifts few_legs);
      traced = all.traced;
    }

back_of : (P : ℕ → Type 0) (xs ys : List ℕ) → AllByRecursion P (xs ++ ys) → AllByRecursion P ys
back_of P [] ys all = all
back_of P (x ∷ xs) ys all = back_of P xs ys all.1

front_of : (P : ℕ → Type 0) (xs ys : List ℕ) → AllByRecursion P (xs ++ ys) → AllByRecursion P xs
front_of P [] ys all = tt
front_of P (x ∷ xs) ys all = (all.0, front_of P xs ys all.1)

-- while it is full, the next packet may be dropped
pub can_refuse : (s : Setting) (node to accepted : ℕ) (w mid new : Work) (cache : CacheBook) (now : CacheBook) (rest : List (ℕ × Step)) (is : List ℕ) (cs done left : List Contents) (c : Contents) → IsSetting s → IsTarget (kind_at s.graph node)
    → to < s.workers → to ≢ s.worker → mid ≡ record w { memory = mid.memory } → Lifts w.memory is cs mid.memory → cs ≡ done ++ c ∷ left → RefusesAll node accepted done mid new → IsSteady s node w (handed_to to is ++ rest)
    → AllByRecursion (HasFewLegs w.memory) is → TakesAll s node w (handed_to to is ++ rest) cache → now ≡ record cache { len = cache.len + all_chains done; freed = cache.freed + all_chains done } → CanRefuse node c new now
can_refuse s node to accepted w mid new cache now rest is cs done left c ok target within other same lifts split refused steady few takes now_is =
    by parts.back parts.second parts.both
  where
    parts : AreSplit w.memory is done (c ∷ left) mid.memory
    parts = lifts_split w.memory is done (c ∷ left) mid.memory (subst (λ xs. Lifts w.memory is xs mid.memory) split lifts)

    back_is : w ≡ record mid { memory = w.memory }
    back_is = ap (λ (x : Work). record x { memory = w.memory }) (sym same)

    by : (back : List ℕ) → Lifts parts.mid back (c ∷ left) mid.memory → is ≡ parts.front ++ back → CanRefuse node c new now
    by [] second both = absurd second
    by (i ∷ later) second both =
        let hand : handed_to to is ++ rest ≡ handed_to to parts.front ++ (handed_to to (i ∷ later) ++ rest) =
        ap (λ js. handed_to to js ++ rest) both ∙ ap (λ h. h ++ rest) (map-append (λ index. (index, Hand to)) parts.front (i ∷ later)) ∙ append_assoc (handed_to to parts.front) (handed_to to (i ∷ later)) rest in
        let begin : IsSteady s node (record mid { memory = w.memory }) (handed_to to parts.front ++ (handed_to to (i ∷ later) ++ rest)) =
        subst (λ h. IsSteady s node (record mid { memory = w.memory }) h) hand (subst (λ (x : Work). IsSteady s node x (handed_to to is ++ rest)) back_is steady) in
        let few_front : AllByRecursion (HasFewLegs w.memory) parts.front = front_of (HasFewLegs w.memory) parts.front (i ∷ later) (subst (AllByRecursion (HasFewLegs w.memory)) both few) in
        let passes = refused_all s node to accepted mid new (handed_to to (i ∷ later) ++ rest) w.memory parts.front done parts.mid ok target within other parts.first refused begin few_front in
        let v : Work = record new { memory = parts.mid } in
        let there : contents_at parts.mid i ≡ c = ap (λ o. unwrap_or o nothing) second.3 in
        let live : IsLive parts.mid i = ap is_some second.3 in
        let some = some_in_hand s node v (i, Hand to) (handed_to to later ++ rest) passes.steady.held in
        let legs_some = (passes.steady.held.legs i live).0 in
        let legs_few = (passes.steady.held.sound i).few_legs in
        let size = ap (λ (x : Contents). length x.legs) there in
        let few_back : AllByRecursion (HasFewLegs w.memory) (i ∷ later) = back_of (HasFewLegs w.memory) parts.front (i ∷ later) (subst (AllByRecursion (HasFewLegs w.memory)) both few) in
        let few_here : HasFewLegs parts.mid i = lifts_few w.memory parts.front done parts.mid i parts.first few_back.0 in
        let goes : moved s node (contents_at parts.mid i) (Hand to) ≡ legs.Over (legs.Handed node to) = hands_to s node to (contents_at parts.mid i) within other (few_here live) in
        let owes = ap (move_owed s by_pieces (contents_at parts.mid i)) goes in
        let chain = ap (λ (x : Contents). x.pieces) there in
        let front = sum_by-cons (λ (q : ℕ × Step). move_owed s by_pieces (contents_at parts.mid q.0) (moved s node (contents_at parts.mid q.0) q.1)) (i, Hand to) (handed_to to later ++ rest) in
        let held = pieces_kept s node (map (λ c. handed_settled node to c (Some accepted)) done) (record mid { memory = w.memory }) v (handed_to to parts.front ++ (handed_to to (i ∷ later) ++ rest)) (handed_to to (i ∷ later) ++ rest)
        passes.advances in
        let chains = pieces_refused node to accepted done in
        let begun : TakesAll s node (record mid { memory = w.memory }) (handed_to to parts.front ++ (handed_to to (i ∷ later) ++ rest)) cache =
        subst (λ h. TakesAll s node (record mid { memory = w.memory }) h cache) hand (subst (λ (x : Work). TakesAll s node x (handed_to to is ++ rest) cache) back_is takes) in
        record {
          legs = (omega (arith, legs_some, size), omega (arith, legs_few, size));
          fates = (let room = passes.steady.room.fates in omega (arith, room, some));
          counts = can_count s node v (i, Hand to) (handed_to to later ++ rest) (ends.Dropped node Congestion) ok passes.steady (target_within s.graph node target);
          len = (let h = begun.len in let e = ap (λ x. x.len) now_is in omega (arith, h, e, held, chains, owes, chain, front));
          freed = (let h = begun.freed in let e = ap (λ x. x.freed) now_is in omega (arith, h, e, held, chains));
        }

-- of these packets so many were lifted
pub record IsLifting (s : Setting) (node to : ℕ) (old : Work) (items : List ℕ) (k : ℕ) (packets : List Contents) (w : Work) : Type 0 where
  pub same : w ≡ record old { memory = w.memory }
  pub lifts : Lifts old.memory (take k items) packets w.memory
  pub size : length packets ≡ k
  pub each : AllByRecursion (IsHanded s.generation) packets
  pub few : AllByRecursion (HasFewLegs w.memory) (drop k items)
  pub steady : (rest : List (ℕ × Step)) → IsSteady s node old (handed_to to items ++ rest) → IsSteady s node w (handed_to to (drop k items) ++ rest)

pub lifting_none : (s : Setting) (node to : ℕ) (old : Work) (items : List ℕ) → AllByRecursion (HasFewLegs old.memory) items → IsLifting s node to old items 0 [] old
lifting_none s node to old items few = record { same = refl; lifts = refl; size = refl; each = tt; few = few; steady = λ rest steady. steady }

all_push : {X : Type 0} (P : X → Type 0) (xs : List X) (x : X) → AllByRecursion P xs → P x → AllByRecursion P (xs ++ x ∷ [])
all_push P [] x all one = (one, tt)
all_push P (y ∷ ys) x all one = (all.0, all_push P ys x all.1 one)

-- the next of them is in hand
pub lifting_first : (s : Setting) (node to : ℕ) (old : Work) (items : List ℕ) (k : ℕ) (packets : List Contents) (w : Work) (i : ℕ) (rest : List (ℕ × Step)) → k < length items → i ≡ get_or items k 0 → IsLifting s node to old items k packets w
    → IsSteady s node old (handed_to to items ++ rest) → IsSteady s node w ((i, Hand to) ∷ (handed_to to (drop (k + 1) items) ++ rest))
lifting_first s node to old items k packets w i rest inside at lifting steady =
    let first : drop k items ≡ i ∷ drop (k + 1) items = drop-cons items k 0 inside ∙ ap (λ j. j ∷ drop (suc k) items) (sym at) ∙ ap (λ n. i ∷ drop n items) (sym (add-one k)) in
    subst (λ js. IsSteady s node w (handed_to to js ++ rest)) first (lifting.steady rest steady)

pub lifting_live : (s : Setting) (node to : ℕ) (old : Work) (items : List ℕ) (k : ℕ) (packets : List Contents) (w : Work) (i : ℕ) (rest : List (ℕ × Step)) → k < length items → i ≡ get_or items k 0 → IsLifting s node to old items k packets w
    → IsSteady s node old (handed_to to items ++ rest) → IsLive w.memory i
lifting_live s node to old items k packets w i rest inside at lifting steady =
    live_in_hand s node w (i, Hand to) (handed_to to (drop (k + 1) items) ++ rest) (lifting_first s node to old items k packets w i rest inside at lifting steady).held

pub lifting_more : (s : Setting) (node to : ℕ) (old : Work) (items : List ℕ) (k : ℕ) (packets : List Contents) (w : Work) (i : ℕ) (c : Contents) (memory : List (Option Contents)) (more : List Contents) (some : List (ℕ × Step)) → to < s.workers
    → to ≢ s.worker → k < length items → i ≡ get_or items k 0 → IsLifting s node to old items k packets w → IsSteady s node old (handed_to to items ++ some) → buffer_at w.memory i ≡ Some c → Changes w.memory memory i None
    → count memory + 1 ≡ count w.memory → more ≡ packets ++ c ∷ [] → IsLifting s node to old items (k + 1) more (record w { memory = memory })
lifting_more s node to old items k packets w i c memory more some within other inside at lifting steady is_c changes less pushed = record {
  same = ap (λ (x : Work). record x { memory = memory }) lifting.same;
  lifts = subst (λ js. Lifts old.memory js more memory) (sym next)
      (subst (λ cs. Lifts old.memory (take k items ++ i ∷ []) cs memory) (sym pushed) (lifts_more old.memory (take k items) packets w.memory memory i c lifting.lifts changes less is_c));
  size = (let e = ap length pushed in let n = length-append packets (c ∷ []) in let so_far = lifting.size in omega (arith, e, n, so_far));
  each = subst (AllByRecursion (IsHanded s.generation)) (sym pushed) (all_push (IsHanded s.generation) packets c lifting.each handed);
  few = few_kept w.memory memory i changes (drop (k + 1) items) few.1;
  steady = λ rest begin.
      (accepted_passes s node to w (record w { memory = memory }) (i, Hand to) (handed_to to (drop (k + 1) items) ++ rest) (lifting_first s node to old items k packets w i rest inside at lifting begin)
      (record { memory = changes; count_is = less; pending = refl }) refl (hands_to s node to (contents_at w.memory i) within other (few.0 live))).steady;
}
  where
    there : contents_at w.memory i ≡ c
    there = ap (λ o. unwrap_or o nothing) is_c

    live : IsLive w.memory i
    live = ap is_some is_c

    next : take (k + 1) items ≡ take k items ++ i ∷ []
    next = take_more items k 0 inside ∙ ap (λ j. take k items ++ j ∷ []) (sym at)

    few : AllByRecursion (HasFewLegs w.memory) (i ∷ drop (k + 1) items)
    few =
        subst (AllByRecursion (HasFewLegs w.memory)) (drop-cons items k 0 inside ∙ ap (λ j. j ∷ drop (suc k) items) (sym at) ∙ ap (λ n. i ∷ drop n items) (sym (add-one k))) lifting.few

    handed : IsHanded s.generation c
    handed =
        let st = lifting_first s node to old items k packets w i some inside at lifting steady in
        let legs = st.held.legs i live in
        let one = legs.0 in
        let most = few.0 live in
        let size = ap (λ (x : Contents). length x.legs) there in
        record { some = omega (arith, one, size); few = omega (arith, most, size); last = ap (λ (x : Contents). last_generation x.legs) (sym there) ∙ legs.1 }

pub lifting_all : (s : Setting) (node to : ℕ) (old : Work) (items : List ℕ) (k : ℕ) (packets : List Contents) (w : Work) → length items ≤ k → IsLifting s node to old items k packets w → Lifts old.memory items packets w.memory
lifting_all s node to old items k packets w past lifting = subst (λ js. Lifts old.memory js packets w.memory) (take_all k items past) lifting.lifts

-- a cache with the buffers of one packet more
pub one_more : (cache : CacheBook) (n m : ℕ) → ◌≡◌ {A = CacheBook} (record cache { len = cache.len + n + m; freed = cache.freed + n + m }) (record cache { len = cache.len + (n + m); freed = cache.freed + (n + m) })
one_more cache n m =
    let make : ℕ → ℕ → CacheBook = λ l f. record cache { len = l; freed = f } in
    ap (λ l. make l (cache.freed + n + m)) (let e : cache.len + n + m ≡ cache.len + (n + m) = omega arith in e)
    ∙ ap (make (cache.len + (n + m))) (let e : cache.freed + n + m ≡ cache.freed + (n + m) = omega arith in e)

-- and with none
pub none_more : (cache : CacheBook) → ◌≡◌ {A = CacheBook} cache (record cache { len = cache.len + 0; freed = cache.freed + 0 })
none_more cache =
    let make : ℕ → ℕ → CacheBook = λ l f. record cache { len = l; freed = f } in
    ap (λ l. make l cache.freed) (let e : cache.len ≡ cache.len + 0 = omega arith in e) ∙ ap (make (cache.len + 0)) (let e : cache.freed ≡ cache.freed + 0 = omega arith in e)
