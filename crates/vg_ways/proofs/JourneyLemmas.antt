-- For `journeys_are_shown`: the packet after the visits of all legs of a journey is that of the journey.
use Rattle.std.proofs.Common.{◌≡◌, ℕ, suc, ◌+◌, ◌%◌, ◌≤◌, Bool, true, false, ◌==◌, cond, not, List, [], ◌∷◌, ◌++◌, length, take, drop, refl, sym, ap, ap₂, subst, ◌∙◌, inl, inr, append-nil, arith}
use Rattle.std.specs.Prelude.{Option, Some, None, nat_lt, slice_get, unwrap_or, if◌then◌else◌}
use Rattle.std.specs.List.{AllByRecursion, prefix_len}
use Rattle.std.proofs.lemmas.Bool.Decides.{nat_tests}
use Rattle.std.proofs.lemmas.List.Sums.{prefix_len-le-length}
use Rattle.std.proofs.lemmas.Option.{none-some, same_Some}
use Rattle.std.proofs.Math.Seq.{take-append_seam, drop-append_seam}
use Rattle.vg_model.specs.declared.fates.Leg.{Leg}
use Rattle.vg_model.specs.Graph.{Graph, pg_input, handoff_dequeue}
use Rattle.vg_model.specs.Journey.{Course, Journey, first_leg, then_course, handed_over, legs_from, started, finished, goes_together, longest_packet}
use Rattle.vg_model.specs.declared.kinds.DropError.TheVariants.{TooLong}
use Rattle.vg_model.specs.Leg.{Way, Dropped, ends_at}
use Rattle.vg_model.specs.Packet.{Packet, fresh}
use Rattle.vg_model.specs.Valid.{IsValid}
use Rattle.vg_model.specs.Visit.{Visit}
use Rattle.vg_model.proofs.Journeys.{map_some, then_some}
use Rattle.vg_model.proofs.LegEnds.{all_at}
use Rattle.vg_ways.specs.Stories.{leg_len}
use Rattle.vg_ways.specs.Legs.{after_legs, after_under, JourneysAreShown}
use Rattle.vg_ways.proofs.LegLemmas.{Seat, leg_at, NoneEnters, IsLeg, leg_is}

-- ---- where a leg ends among the visits of a journey

-- what may stand behind a leg: nothing, or a leg that begins where packets come from another worker
abbrev IsBehind : List ℕ → Type 0
IsBehind [] = Unit {0}
IsBehind (node ∷ nodes) = node ≡ handoff_dequeue

-- so many stand before it
prefix_before : (xs rest : List ℕ) → NoneEnters xs → IsBehind rest → prefix_len (λ n. not (n == handoff_dequeue)) (xs ++ rest) ≡ length xs
prefix_before [] [] none behind = refl
prefix_before [] (node ∷ rest) none behind = ap (λ n. cond (not (n == handoff_dequeue)) (1 + prefix_len (λ n. not (n == handoff_dequeue)) rest) 0) behind
prefix_before (x ∷ xs) rest none behind =
    ap (λ b. cond (not b) (1 + prefix_len (λ n. not (n == handoff_dequeue)) (xs ++ rest)) 0) none.0
    ∙ ap (λ k. 1 + k) (prefix_before xs rest none.1 behind)
    ∙ (let one : 1 + length xs ≡ suc (length xs) = omega arith in one)

-- a place that may be none
place_or_len : (a n : ℕ) → a ≤ n → unwrap_or (cond (nat_lt a n) (Some a) None) n ≡ a
place_or_len a n h =
    elim (nat_lt a n) as (λ b. nat_lt a n ≡ b → unwrap_or (cond b (Some a) None) n ≡ a) [ true ↦ λ e. refl | false ↦ λ e. grind (arith, nat_tests) ] refl

leg_len-append : {s : Seat} {first : ℕ} {p : Packet} {way : Way} → IsLeg s first p way → (rest : List ℕ) → IsBehind rest → leg_len (way.visits ++ rest) ≡ length way.visits
leg_len-append leg rest behind =
    let p = λ (n : ℕ). not (n == handoff_dequeue) in
    let whole : List ℕ = leg.others ++ rest in
    ap (λ vs. leg_len (vs ++ rest)) leg.are
    ∙ ap (λ k. 1 + k) (place_or_len (prefix_len p whole) (length whole) (prefix_len-le-length p whole) ∙ prefix_before leg.others rest leg.none behind)
    ∙ (let one : 1 + length leg.others ≡ suc (length leg.others) = omega arith in one)
    ∙ ap length (sym leg.are)

-- ---- the legs of a journey

-- so many workers, under these generations
record Run : Type 0 where
  visit : Visit
  graphs : List Graph
  workers : ℕ
  valid : AllByRecursion IsValid graphs

-- a worker of a run under a generation with this graph
abbrev seat_of : Run → Leg → (leg : ℕ) → Graph → Seat
seat_of r here leg g = record { visit = r.visit; graph = g; workers = r.workers; worker = here.worker; leg = leg }

-- a leg of a packet
record Made (r : Run) : Type 0 where
  here : Leg
  leg : ℕ
  graph : Graph
  is_graph : slice_get r.graphs here.generation ≡ Some graph
  first : ℕ
  packet : Packet
  way : Way
  is_leg : IsLeg (seat_of r here leg graph) first packet way

-- the journey from a leg on, under the generations of the legs behind
abbrev course_of : Run → Leg → (leg : ℕ) → (later : List ℕ) → Option Way → Option Course
course_of r here leg later way = legs_from r.visit r.graphs r.workers here.worker leg here.generation later way

-- its visits begin with those of the leg, and the packet comes out as the journey's
record IsShownFrom (r : Run) (m : Made r) (course : Course) : Type 0 where
  more : List ℕ
  are : course.visits ≡ m.way.visits ++ more
  packet : after_legs r.visit r.graphs course.legs course.visits m.packet ≡ course.packet

-- the packet is through a leg
through : (r : Run) (m : Made r) (legs : List Leg) (rest : List ℕ) → IsBehind rest
    → after_legs r.visit r.graphs (m.here ∷ legs) (m.way.visits ++ rest) m.packet ≡ after_legs r.visit r.graphs legs rest m.way.packet
through r m legs rest behind =
    let visits = m.way.visits in
    let n = leg_len-append m.is_leg rest behind in
    ap (λ k. after_legs r.visit r.graphs legs (drop k (visits ++ rest)) (after_under r.visit (slice_get r.graphs m.here.generation) (take k (visits ++ rest)) m.packet)) n
    ∙ ap₂ (λ later here. after_legs r.visit r.graphs legs later (after_under r.visit (slice_get r.graphs m.here.generation) here m.packet)) (drop-append_seam visits rest) (take-append_seam visits rest)
    ∙ ap (λ o. after_legs r.visit r.graphs legs rest (after_under r.visit o visits m.packet)) m.is_graph
    ∙ ap (after_legs r.visit r.graphs legs rest) m.is_leg.packet

-- only a leg that is there leads on
some_leg : (r : Run) (here : Leg) (leg : ℕ) (later : List ℕ) (o : Option Way) {course : Course} → course_of r here leg later o ≡ Some course → (way : Way) × (o ≡ Some way)
some_leg r here leg [] None {course = course} e = absurd (none-some course e)
some_leg r here leg (next ∷ later) None {course = course} e = absurd (none-some course e)
some_leg r here leg later (Some way) e = (way, refl)

legs_shown : (r : Run) (m : Made r) (later : List ℕ) {course : Course} → course_of r m.here m.leg later (Some m.way) ≡ Some course → IsShownFrom r m course
legs_shown r m [] e =
    subst (IsShownFrom r m) (same_Some _ _ e)
    (record {
      more = [];
      are = sym (append-nil m.way.visits);
      packet = ap (λ vs. after_legs r.visit r.graphs (m.here ∷ []) vs m.packet) (sym (append-nil m.way.visits)) ∙ through r m [] [] tt;
    })
legs_shown r m (next ∷ later) {course = course} e =
    let onward = map_some (then_course m.here m.way) _ course e in
    let rest : Course = onward.0 in
    let over = then_some _ (handed_over m.way.outcome) rest onward.1 in
    let from : ℕ × ℕ = over.0 in
    let under = then_some _ (slice_get r.graphs next) rest over.2 in
    let graph : Graph = under.0 in
    let here : Leg = record { worker = from.1; generation = next } in
    let seat : Seat = seat_of r here (suc m.leg) graph in
    let second = some_leg r here (suc m.leg) later (leg_at seat handoff_dequeue from.0 m.way.packet) {course = rest} under.2 in
    let made : Made r = record {
      here = here;
      leg = suc m.leg;
      graph = graph;
      is_graph = under.1;
      first = handoff_dequeue;
      packet = m.way.packet;
      way = second.0;
      is_leg = leg_is seat handoff_dequeue from.0 (all_at IsValid r.graphs next graph under.1 r.valid) (inr refl) second.1;
    } in
    let shown = legs_shown r made later {course = rest} (ap (course_of r here (suc m.leg) later) (sym second.1) ∙ under.2) in
    let behind : IsBehind rest.visits = subst IsBehind (sym (shown.are ∙ ap (λ vs. vs ++ shown.more) made.is_leg.are)) refl in
    subst (IsShownFrom r m) onward.2 (record { more = rest.visits; are = refl; packet = through r m rest.legs rest.visits behind ∙ shown.packet })

-- a journey that is started under these generations
started_shown : (r : Run) (number : ℕ) (bytes generations : List ℕ) {course : Course} → length bytes ≤ longest_packet
    → started r.visit r.graphs r.workers number bytes generations ≡ Some course → after_legs r.visit r.graphs course.legs course.visits (fresh number bytes) ≡ course.packet
started_shown r number bytes [] {course = course} short e = absurd (none-some course e)
started_shown r number bytes (g ∷ later) {course = course} short e =
    let p : Packet = fresh number bytes in
    let here : Leg = record { worker = number % r.workers; generation = g } in
    let under = then_some _ (slice_get r.graphs g) course e in
    let graph : Graph = under.0 in
    let seat : Seat = seat_of r here 1 graph in
    let fits : nat_lt longest_packet (length bytes) ≡ false = grind (arith, nat_tests) in
    let first : first_leg r.visit graph r.workers here.worker p ≡ leg_at seat pg_input pg_input p =
    ap (λ b. if b then Some (ends_at pg_input p (Dropped pg_input TooLong)) else leg_at seat pg_input pg_input p) fits in
    let begun = ap (course_of r here 1 later) (sym first) ∙ under.2 in
    let leg = some_leg r here 1 later (leg_at seat pg_input pg_input p) {course = course} begun in
    let made : Made r = record {
      here = here;
      leg = 1;
      graph = graph;
      is_graph = under.1;
      first = pg_input;
      packet = p;
      way = leg.0;
      is_leg = leg_is seat pg_input pg_input (all_at IsValid r.graphs g graph under.1 r.valid) (inl refl) leg.1;
    } in
    let shown = legs_shown r made later {course = course} (ap (course_of r here 1 later) (sym leg.1) ∙ begun) in
    shown.packet

-- the course of a finished journey
finished_course : (number : ℕ) (accepted : Option ℕ) (course : Course) (j : Journey) (b : Bool)
    → (if b then Some (record { number = number; accepted = accepted; course = course }) else None) ≡ Some j → course ≡ j.course
finished_course number accepted course j true e = ap (λ (j : Journey). j.course) (same_Some _ _ e)
finished_course number accepted course j false e = absurd (none-some j e)

pub journeys_are_shown : JourneysAreShown
journeys_are_shown visit graphs workers number bytes choice j valid short e =
    let r : Run = record { visit = visit; graphs = graphs; workers = workers; valid = valid } in
    let found = then_some (finished number choice.accepted) (started visit graphs workers number bytes choice.generations) j e in
    subst (λ (c : Course). after_legs visit graphs c.legs c.visits (fresh number bytes) ≡ c.packet)
    (finished_course number choice.accepted found.0 j (goes_together choice.accepted found.0.outcome) found.2)
    (started_shown r number bytes choice.generations {course = found.0} short found.1)
