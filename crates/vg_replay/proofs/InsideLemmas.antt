-- For the clauses of `go_on` and `Underway::take_on`, `replayed` of `replay`, and `verdict` of vg_check: what journeys are like, that is, on which workers
-- their legs are, where they end, and how many nodes they visit.
use Rattle.std.proofs.Common.{◌≡◌, ℕ, suc, ◌+◌, ◌*◌, ◌<◌, ◌≤◌, List, [], ◌∷◌, ◌++◌, length, refl, subst, ◌∙◌, arith, length-append}
use Rattle.std.specs.Prelude.{Option, Some, None, slice_get, ◌%◌, ◌==◌, if◌then◌else◌, Bool, true, false}
use Rattle.std.specs.List.{AllByRecursion}
use Rattle.std.proofs.Math.Nat.{mod-lt}
use Rattle.std.proofs.lemmas.Option.{none-some, same_Some, slice_get_within}
use Rattle.vg_model.specs.declared.fates.Leg.{Leg}
use Rattle.vg_model.specs.declared.fates.End.{End}
use Rattle.vg_model.specs.declared.fates.End.TheVariants as ends
use Rattle.vg_model.specs.Packet.{Packet, fresh}
use Rattle.vg_model.specs.Edit.{most_nodes}
use Rattle.vg_model.specs.Graph.{Graph, Node, handoff_dequeue, error_drop}
use Rattle.vg_model.specs.Visit.{Visit}
use Rattle.vg_model.specs.Leg.{Outcome, Sent, Dropped, Handed, Way}
use Rattle.vg_model.specs.Journey.{Journey, Choice, Course, journey, started, finished, goes_together, legs_from, leg_from, last_leg, then_course, handed_over, end_of}
use Rattle.vg_model.specs.Count.{drop_visit}
use Rattle.vg_model.specs.Valid.{IsValid, IsKindSet, IsPacket, AreBytes}
use Rattle.vg_model.proofs.Journeys.{map_some, then_some}
use Rattle.vg_journeys.specs.Ends.{IsOutcomeIn, IsWayIn}
use Rattle.vg_journeys.specs.LegFacts.{HandsOver, IsLegOf}
use Rattle.vg_journeys.proofs.LegFactLemmas.{leg_from_is, first_leg_is}
use Rattle.vg_journeys.proofs.LegInLemmas.{leg_from_in, first_leg_in}
use Rattle.vg_replay.specs.Counts.{IsEndWithin}
use Rattle.vg_replay.proofs.CourseLemmas.{handed_is}

-- an end at one of so many nodes, or on one of so many interfaces, or handed over to one of so many workers
abbrev pub IsOutcomeWithin : (nodes interfaces workers : ℕ) → Outcome → Type 0
IsOutcomeWithin nodes interfaces workers (Sent interface) = interface < interfaces
IsOutcomeWithin nodes interfaces workers (Dropped node error) = node < nodes
IsOutcomeWithin nodes interfaces workers (Handed node to) = (node < nodes) × (to < workers)

-- a course of so many legs
pub record IsInside (nodes interfaces workers number count : ℕ) (course : Course) : Type 0 where
  pub workers_are : AllByRecursion (λ (leg : Leg). leg.worker < workers) course.legs
  pub outcome : IsOutcomeWithin nodes interfaces workers course.outcome
  pub visits : AllByRecursion (λ node. node < nodes) course.visits
  pub few : length course.visits ≤ 65 * count
  pub number_is : course.packet.number ≡ number

-- a leg
record IsWayWithin (nodes interfaces workers number : ℕ) (way : Way) : Type 0 where
  outcome : IsOutcomeWithin nodes interfaces workers way.outcome
  visits : AllByRecursion (λ node. node < nodes) way.visits
  few : length way.visits ≤ 65
  sound : IsPacket way.packet
  number_is : way.packet.number ≡ number

-- a graph of at most so many nodes and interfaces
pub record IsBounded (nodes interfaces : ℕ) (g : Graph) : Type 0 where
  pub valid : IsValid g
  pub few : length g.nodes ≤ most_nodes
  pub nodes_are : length g.nodes ≤ nodes
  pub interfaces_are : length g.interfaces ≤ interfaces

all_below : (bound nodes : ℕ) (visits : List ℕ) → bound ≤ nodes → AllByRecursion (λ node. node < bound) visits → AllByRecursion (λ node. node < nodes) visits
all_below bound nodes [] le all = tt
all_below bound nodes (n ∷ ns) le all = (let h = all.0 in omega (arith, h, le), all_below bound nodes ns le all.1)

outcome_within : (nodes interfaces workers worker leg_number : ℕ) (g : Graph) (o : Outcome) → IsBounded nodes interfaces g → IsOutcomeIn g o → HandsOver g workers worker leg_number o
    → IsOutcomeWithin nodes interfaces workers o
outcome_within nodes interfaces workers worker leg_number g (Sent i) b inside over = let k = b.interfaces_are in omega (arith, inside, k)
outcome_within nodes interfaces workers worker leg_number g (Dropped n error) b inside over = let k = b.nodes_are in omega (arith, inside, k)
outcome_within nodes interfaces workers worker leg_number g (Handed n to) b inside over = (let k = b.nodes_are in omega (arith, inside, k), over.1)

way_within : (nodes interfaces workers worker leg_number number : ℕ) (g : Graph) (p : Packet) (way : Way) → IsBounded nodes interfaces g → p.number ≡ number → IsWayIn g (suc (length g.nodes)) p way
    → IsLegOf g workers worker leg_number p way → IsWayWithin nodes interfaces workers number way
way_within nodes interfaces workers worker leg_number number g p way b at inside is = record {
  outcome = outcome_within nodes interfaces workers worker leg_number g way.outcome b inside.inside is.over;
  visits = all_below (length g.nodes) nodes way.visits b.nodes_are inside.passes;
  few = (let h = inside.few in let k = b.few in omega (arith, h, k));
  sound = is.sound;
  number_is = inside.number ∙ at;
}

-- the end of the handoff queues is a node of the graph
dequeue_within : (g : Graph) → IsValid g → handoff_dequeue < length g.nodes
dequeue_within g valid =
    let found = map_some (λ (n : Node). n.kind) (slice_get g.nodes handoff_dequeue) _ valid.dequeue in
    slice_get_within g.nodes handoff_dequeue found.0 found.1

pub all_joined : {X : Type 0} (P : X → Type 0) (xs ys : List X) → AllByRecursion P xs → AllByRecursion P ys → AllByRecursion P (xs ++ ys)
all_joined P [] ys a b = b
all_joined P (x ∷ xs) ys a b = (a.0, all_joined P xs ys a.1 b)

module _ (visit : Visit) (kinds : IsKindSet visit) (graphs : List Graph) (nodes interfaces workers : ℕ) (some : 0 < workers)
    (bounded : (generation : ℕ) (g : Graph) → slice_get graphs generation ≡ Some g → IsBounded nodes interfaces g) where
  later_leg : (generation : ℕ) (g : Graph) (worker leg_number number : ℕ) (from : ℕ) (p : Packet) (way : Way) → slice_get graphs generation ≡ Some g → IsPacket p → p.number ≡ number
      → leg_from visit g workers worker leg_number handoff_dequeue from p ≡ Some way → IsWayWithin nodes interfaces workers number way
  later_leg generation g worker leg_number number from p way at sound is_number e =
      let b = bounded generation g at in
      way_within nodes interfaces workers worker leg_number number g p way b is_number
      (leg_from_in visit g workers worker leg_number handoff_dequeue from p way kinds b.valid sound (dequeue_within g b.valid) e)
      (leg_from_is visit g workers worker leg_number handoff_dequeue from p way kinds b.valid some sound e)

  handed_worker : (o : Outcome) (from : ℕ × ℕ) → handed_over o ≡ Some from → IsOutcomeWithin nodes interfaces workers o → from.1 < workers
  handed_worker o from e within =
      let here : IsOutcomeWithin nodes interfaces workers (Handed from.0 from.1) = subst (IsOutcomeWithin nodes interfaces workers) (handed_is o from e) within in
      here.1

  inside_from : (worker leg_number generation number : ℕ) (later : List ℕ) (o : Option Way) (course : Course) → worker < workers
      → ((way : Way) → o ≡ Some way → IsWayWithin nodes interfaces workers number way)
      → legs_from visit graphs workers worker leg_number generation later o ≡ Some course → IsInside nodes interfaces workers number (suc (length later)) course
  inside_from worker leg_number generation number [] None course below is e = absurd (none-some course e)
  inside_from worker leg_number generation number (g ∷ later) None course below is e = absurd (none-some course e)
  inside_from worker leg_number generation number [] (Some way) course below is e =
      let here = is way refl in
      let alone : IsInside nodes interfaces workers number 1 (last_leg (record { worker = worker; generation = generation }) way) = record {
        workers_are = (below, tt);
        outcome = here.outcome;
        visits = here.visits;
        few = (let few = here.few in omega (arith, few));
        number_is = here.number_is;
      } in
      subst (IsInside nodes interfaces workers number 1) (same_Some _ _ e) alone
  inside_from worker leg_number generation number (g ∷ later) (Some way) course below is e =
      let here = is way refl in
      let s1 = map_some (then_course (record { worker = worker; generation = generation }) way) _ course e in
      let s2 = then_some _ (handed_over way.outcome) s1.0 s1.1 in
      let s3 = then_some _ (slice_get graphs g) s1.0 s2.2 in
      let rest : IsInside nodes interfaces workers number (suc (length later)) s1.0 =
      inside_from s2.0.1 (suc leg_number) g number later (leg_from visit s3.0 workers s2.0.1 (suc leg_number) handoff_dequeue s2.0.0 way.packet) s1.0
      (handed_worker way.outcome s2.0 s2.1 here.outcome)
      (λ w f. later_leg g s3.0 s2.0.1 (suc leg_number) number s2.0.0 way.packet w s3.1 here.sound here.number_is f) s3.2 in
      let visits : length (way.visits ++ s1.0.visits) ≡ length way.visits + length s1.0.visits = length-append way.visits s1.0.visits in
      let few_here : length way.visits ≤ 65 = here.few in
      let few_rest : length s1.0.visits ≤ 65 * suc (length later) = rest.few in
      let whole : IsInside nodes interfaces workers number (suc (suc (length later))) (then_course (record { worker = worker; generation = generation }) way s1.0) = record {
        workers_are = (below, rest.workers_are);
        outcome = rest.outcome;
        visits = all_joined (λ node. node < nodes) way.visits s1.0.visits here.visits rest.visits;
        few = omega (arith, visits, few_here, few_rest);
        number_is = rest.number_is;
      } in
      subst (IsInside nodes interfaces workers number (suc (suc (length later)))) s1.2 whole

  pub course_inside : (number : ℕ) (bytes gs : List ℕ) (course : Course) → AreBytes bytes → started visit graphs workers number bytes gs ≡ Some course
      → IsInside nodes interfaces workers number (length gs) course
  course_inside number bytes [] course are e = absurd (none-some course e)
  course_inside number bytes (g ∷ later) course are e =
      let s = then_some _ (slice_get graphs g) course e in
      let b = bounded g s.0 s.1 in
      inside_from (number % workers) 1 g number later _ course (mod-lt number some)
      (λ w f. way_within nodes interfaces workers (number % workers) 1 number s.0 (fresh number bytes) w b refl
      (first_leg_in visit s.0 workers (number % workers) number bytes w kinds b.valid are f).0
      (first_leg_is visit s.0 workers (number % workers) number bytes w kinds b.valid some are f)) s.2

-- the end of a course
pub end_within : (nodes interfaces workers : ℕ) (o : Outcome) → IsOutcomeWithin nodes interfaces workers o → IsEndWithin nodes interfaces (end_of o)
end_within nodes interfaces workers (Sent interface) h = h
end_within nodes interfaces workers (Dropped node error) h = h
end_within nodes interfaces workers (Handed node to) h = h.0

-- the visit of `error-drop` behind a drop
pub drop_within : (nodes : ℕ) (end : End) → error_drop < nodes → AllByRecursion (λ node. node < nodes) (drop_visit end)
drop_within nodes (ends.Tx interface) h = tt
drop_within nodes (ends.Dropped node error) h = by (node == error_drop)
  where
    by : (b : Bool) → AllByRecursion (λ node. node < nodes) (if b then [] else error_drop ∷ [])
    by true = tt
    by false = (h, tt)

pub drop_few : (end : End) → length (drop_visit end) ≤ 1
drop_few (ends.Tx interface) = omega arith
drop_few (ends.Dropped node error) = by (node == error_drop)
  where
    by : (b : Bool) → length (if b then [] else error_drop ∷ []) ≤ 1
    by true = omega arith
    by false = omega arith

-- a journey has its number, its count and its course
pub record IsJourneyOf (visit : Visit) (graphs : List Graph) (workers number : ℕ) (bytes : List ℕ) (choice : Choice) (j : Journey) : Type 0 where
  pub number_is : j.number ≡ number
  pub accepted_is : j.accepted ≡ choice.accepted
  pub together : goes_together j.accepted j.course.outcome ≡ true
  pub course : started visit graphs workers number bytes choice.generations ≡ Some j.course

pub journey_has : (visit : Visit) (graphs : List Graph) (workers number : ℕ) (bytes : List ℕ) (choice : Choice) (j : Journey) → journey visit graphs workers number bytes choice ≡ Some j
    → IsJourneyOf visit graphs workers number bytes choice j
journey_has visit graphs workers number bytes choice j e =
    let s = then_some (finished number choice.accepted) (started visit graphs workers number bytes choice.generations) j e in
    by_test s.0 (goes_together choice.accepted s.0.outcome) refl s.2 s.1
  where
    by_test : (course : Course) (b : Bool) → goes_together choice.accepted course.outcome ≡ b
        → (if b then Some (record { number = number; accepted = choice.accepted; course = course }) else None) ≡ Some j → started visit graphs workers number bytes choice.generations ≡ Some course
        → IsJourneyOf visit graphs workers number bytes choice j
    by_test course true t f s =
        let here : IsJourneyOf visit graphs workers number bytes choice (record { number = number; accepted = choice.accepted; course = course }) = record {
          number_is = refl;
          accepted_is = refl;
          together = t;
          course = s;
        } in
        subst (IsJourneyOf visit graphs workers number bytes choice) (same_Some _ _ f) here
    by_test course false t f s = absurd (none-some j f)
