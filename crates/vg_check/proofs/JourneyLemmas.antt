-- For `verdict`, and for the laws of one generation and of lossless queues: what a journey has of its packet and its choice, and what it is like.
use Rattle.std.proofs.Common.{◌≡◌, ◌↔◌, ℕ, suc, ◌+◌, ◌*◌, ◌<◌, ◌≤◌, Bool, true, false, List, [], ◌∷◌, length, map, refl, sym, ap, subst, ◌∙◌, arith, length-append}
use Rattle.std.specs.Prelude.{Option, Some, None, option_map, IsSome, slice_get, ◌%◌, ◌==◌, ◌&&◌, ◌^◌, if◌then◌else◌}
use Rattle.std.specs.List.{AllByRecursion}
use Rattle.std.proofs.lemmas.Bool.{false≢true}
use Rattle.std.proofs.lemmas.List.Sums.{sum_by-cons}
use Rattle.std.proofs.lemmas.Option.{none-some, same_Some}
use Rattle.vg_model.specs.declared.kinds.DropError.TheVariants.{Congestion}
use Rattle.vg_model.specs.declared.fates.Leg.{Leg}
use Rattle.vg_model.specs.declared.fates.End.{End}
use Rattle.vg_model.specs.declared.fates.End.TheVariants as ends
use Rattle.vg_model.specs.Graph.{Graph, error_drop}
use Rattle.vg_model.specs.Visit.{Visit}
use Rattle.vg_model.specs.Leg.{Outcome, Sent, Dropped, Handed, Way}
use Rattle.vg_model.specs.Journey.{Journey, Choice, Course, journey, journeys, journeys_from, started, finished, goes_together, legs_from, handed_over, then_course, end_of}
use Rattle.vg_model.specs.Lawful.{AreLawful, StartsAt, NeverFall, IsRefusalLawful, hands, hands_in, last_worker}
use Rattle.vg_model.specs.Count.{trace, drop_visit}
use Rattle.vg_model.proofs.Journeys.{map_some, then_some}
use Rattle.vg_plan.specs.Plan.{IsGeneration}
use Rattle.vg_check.proofs.CourseLemmas.{course_of}

-- the generations of legs
abbrev pub generations : List Leg → List ℕ
generations legs = map (λ (leg : Leg). leg.generation) legs

-- the legs of a course are under the generations chosen
legs_generations : (visit : Visit) (graphs : List Graph) (workers worker leg_number generation : ℕ) (later : List ℕ) (o : Option Way) (course : Course)
    → legs_from visit graphs workers worker leg_number generation later o ≡ Some course → generations course.legs ≡ generation ∷ later
legs_generations visit graphs workers worker leg_number generation [] None course e = absurd (none-some course e)
legs_generations visit graphs workers worker leg_number generation [] (Some way) course e = ap (λ (c : Course). generations c.legs) (sym (same_Some _ _ e))
legs_generations visit graphs workers worker leg_number generation (g ∷ later) None course e = absurd (none-some course e)
legs_generations visit graphs workers worker leg_number generation (g ∷ later) (Some way) course e =
    let s1 = map_some (then_course (record { worker = worker; generation = generation }) way) _ course e in
    let s2 = then_some _ (handed_over way.outcome) s1.0 s1.1 in
    let s3 = then_some _ (slice_get graphs g) s1.0 s2.2 in
    let behind = legs_generations visit graphs workers s2.0.1 (suc leg_number) g later _ s1.0 s3.2 in
    ap (λ (c : Course). generations c.legs) (sym s1.2) ∙ ap (λ gs. generation ∷ gs) behind

course_generations : (visit : Visit) (graphs : List Graph) (workers number : ℕ) (bytes gs : List ℕ) (course : Course) → started visit graphs workers number bytes gs ≡ Some course
    → generations course.legs ≡ gs
course_generations visit graphs workers number bytes [] course e = absurd (none-some course e)
course_generations visit graphs workers number bytes (g ∷ later) course e =
    let s = then_some _ (slice_get graphs g) course e in
    legs_generations visit graphs workers (number % workers) 1 g later _ course s.2

-- what a journey has of its packet and its choice
pub record IsJourneyOf (visit : Visit) (graphs : List Graph) (workers number : ℕ) (bytes : List ℕ) (choice : Choice) (j : Journey) : Type 0 where
  pub number_is : j.number ≡ number
  pub accepted_is : j.accepted ≡ choice.accepted
  pub generations_are : generations j.course.legs ≡ choice.generations
  pub together : goes_together j.accepted j.course.outcome ≡ true
  pub course : started visit graphs workers number bytes choice.generations ≡ Some j.course

pub journey_has : (visit : Visit) (graphs : List Graph) (workers number : ℕ) (bytes : List ℕ) (choice : Choice) (j : Journey) → journey visit graphs workers number bytes choice ≡ Some j
    → IsJourneyOf visit graphs workers number bytes choice j
journey_has visit graphs workers number bytes choice j e =
    let s = then_some (finished number choice.accepted) (started visit graphs workers number bytes choice.generations) j e in
    by_test s.0 (goes_together choice.accepted s.0.outcome) refl s.2 s.1
  where
    by_test : (course : Course) (b : Bool) → goes_together choice.accepted course.outcome ≡ b
        → (if b then Some (record { number = number; accepted = choice.accepted; course = course }) else None) ≡ Some j → started visit graphs workers number bytes choice.generations ≡ Some course
        → IsJourneyOf visit graphs workers number bytes choice j
    by_test course true t f s =
        let here : IsJourneyOf visit graphs workers number bytes choice (record { number = number; accepted = choice.accepted; course = course }) = record {
          number_is = refl;
          accepted_is = refl;
          generations_are = course_generations visit graphs workers number bytes choice.generations course s;
          together = t;
          course = s;
        } in
        subst (IsJourneyOf visit graphs workers number bytes choice) (same_Some _ _ f) here
    by_test course false t f s = absurd (none-some j f)

-- the choice of a journey
abbrev pub chosen : Journey → Choice
chosen j = record { generations = generations j.course.legs; accepted = j.accepted }

-- journeys tell the choices that they were made by
chosen_from : (visit : Visit) (graphs : List Graph) (workers number : ℕ) (packets : List (List ℕ)) (choices : List Choice) (js : List Journey)
    → journeys_from visit graphs workers number packets choices ≡ Some js → map chosen js ≡ choices
chosen_from visit graphs workers number [] [] js e = ap (map chosen) (sym (same_Some _ _ e))
chosen_from visit graphs workers number [] (choice ∷ choices) js e = absurd (none-some js e)
chosen_from visit graphs workers number (bytes ∷ packets) [] js e = absurd (none-some js e)
chosen_from visit graphs workers number (bytes ∷ packets) (choice ∷ choices) js e =
    let first = then_some (λ j. option_map (λ js. j ∷ js) (journeys_from visit graphs workers (suc number) packets choices)) (journey visit graphs workers number bytes choice) js e in
    let others = map_some (λ js. first.0 ∷ js) (journeys_from visit graphs workers (suc number) packets choices) js first.2 in
    let has = journey_has visit graphs workers number bytes choice first.0 first.1 in
    let gs : generations first.0.course.legs ≡ choice.generations = has.generations_are in
    let accepted : first.0.accepted ≡ choice.accepted = has.accepted_is in
    let here : chosen first.0 ≡ choice = (λ i. record { generations = gs i; accepted = accepted i }) in
    let rest = chosen_from visit graphs workers (suc number) packets choices others.0 others.1 in
    sym (ap (map chosen) others.2) ∙ (λ i. here i ∷ rest i)

pub chosen_are : (visit : Visit) (graphs : List Graph) (workers : ℕ) (packets : List (List ℕ)) (choices : List Choice) (js : List Journey)
    → journeys visit graphs workers packets choices ≡ Some js → map chosen js ≡ choices
chosen_are visit graphs workers packets choices js e = chosen_from visit graphs workers 0 packets choices js e

-- ---- what a journey is like

-- a drop by congestion stands exactly with a count of a queue that was full
abbrev pub IsCountedEnd : Option ℕ → End → Type 0
IsCountedEnd accepted (ends.Tx interface) = accepted ≡ None
IsCountedEnd accepted (ends.Dropped node error) = IsSome accepted ↔ (error ≡ Congestion)

-- a count of a queue that was full stands only with a drop by congestion
abbrev pub IsCountAt : Option ℕ → End → Type 0
IsCountAt accepted (ends.Tx interface) = accepted ≡ None
IsCountAt accepted (ends.Dropped node error) = IsSome accepted → error ≡ Congestion

count_at : (accepted : Option ℕ) (o : Outcome) → goes_together accepted o ≡ true → IsCountAt accepted (end_of o)
count_at None (Sent interface) t = refl
count_at None (Dropped node error) t = λ some. absurd (false≢true some)
count_at None (Handed node worker) t = absurd (false≢true t)
count_at (Some count) (Sent interface) t = absurd (false≢true t)
count_at (Some count) (Dropped node error) t = absurd (false≢true t)
count_at (Some count) (Handed node worker) t = λ some. refl

-- a journey of one to four legs, on workers that are there, whose trace is not too long, with a count only at a drop by congestion
pub record IsOwn (workers most : ℕ) (j : Journey) : Type 0 where
  pub number : j.number < most
  pub some : 1 ≤ length j.course.legs
  pub few : length j.course.legs ≤ 4
  pub there : AllByRecursion (λ (leg : Leg). leg.worker < workers) j.course.legs
  pub visited : 1 ≤ length (trace j)
  pub few_visits : length (trace j) ≤ 272
  pub count : IsCountAt j.accepted (end_of j.course.outcome)

-- a drop adds one visit at most
one_visit : (end : End) → length (drop_visit end) ≤ 1
one_visit (ends.Tx interface) = omega arith
one_visit (ends.Dropped node error) = by_test (node == error_drop)
  where
    by_test : (own : Bool) → length (if own then [] else error_drop ∷ []) ≤ 1
    by_test true = omega arith
    by_test false = omega arith

module _ (visit : Visit) (workers : ℕ) (some : 0 < workers) (graphs : List Graph) (sound : AllByRecursion IsGeneration graphs) where
  own_journey : (most number : ℕ) (bytes : List ℕ) (choice : Choice) (j : Journey) → number < most → journey visit graphs workers number bytes choice ≡ Some j → IsOwn workers most j
  own_journey most number bytes choice j below e =
      let has = journey_has visit graphs workers number bytes choice j e in
      let course = course_of visit workers some graphs sound number bytes choice.generations j.course has.course in
      let number_is : j.number ≡ number = has.number_is in
      let few : 1 + length j.course.legs ≤ 5 = course.few in
      let visited : 1 ≤ length j.course.visits = course.visited in
      let few_visits : length j.course.visits ≤ 65 * length j.course.legs = course.few_visits in
      let last = one_visit (end_of j.course.outcome) in
      let whole : length (trace j) ≡ length j.course.visits + length (drop_visit (end_of j.course.outcome)) = length-append j.course.visits (drop_visit (end_of j.course.outcome)) in
      record {
        number = omega (arith, number_is, below);
        some = course.some;
        few = omega (arith, few);
        there = course.there;
        visited = omega (arith, whole, visited);
        few_visits = omega (arith, whole, few, few_visits, last);
        count = count_at j.accepted j.course.outcome has.together;
      }

  own_from : (most number : ℕ) (packets : List (List ℕ)) (choices : List Choice) (js : List Journey) → number + length packets ≤ most
      → journeys_from visit graphs workers number packets choices ≡ Some js → AllByRecursion (IsOwn workers most) js × (length js ≡ length packets)
  own_from most number [] [] js few e = subst (λ (l : List Journey). AllByRecursion (IsOwn workers most) l × (length l ≡ 0)) (same_Some _ _ e) (tt, refl)
  own_from most number [] (choice ∷ choices) js few e = absurd (none-some js e)
  own_from most number (bytes ∷ packets) [] js few e = absurd (none-some js e)
  own_from most number (bytes ∷ packets) (choice ∷ choices) js few e =
      let first = then_some (λ j. option_map (λ js. j ∷ js) (journeys_from visit graphs workers (suc number) packets choices)) (journey visit graphs workers number bytes choice) js e in
      let others = map_some (λ js. first.0 ∷ js) (journeys_from visit graphs workers (suc number) packets choices) js first.2 in
      let rest = own_from most (suc number) packets choices others.0 (omega (arith, few)) others.1 in
      subst (λ (l : List Journey). AllByRecursion (IsOwn workers most) l × (length l ≡ suc (length packets))) others.2
      ((own_journey most number bytes choice first.0 (omega (arith, few)) first.1, rest.0), ap suc rest.1)

  -- so is each journey, and each packet has one
  pub own_journeys : (packets : List (List ℕ)) (choices : List Choice) (js : List Journey) → journeys visit graphs workers packets choices ≡ Some js
      → AllByRecursion (IsOwn workers (length packets)) js × (length js ≡ length packets)
  own_journeys packets choices js e = own_from (length packets) 0 packets choices js (omega arith) e

-- ---- lawful choices

-- the generations of a journey's legs are below so many
below_all : (count least : ℕ) (legs : List Leg) → NeverFall count least (generations legs) → AllByRecursion (λ (leg : Leg). leg.generation < count) legs
below_all count least [] h = tt
below_all count least (leg ∷ legs) h = (h.1, below_all count leg.generation legs h.2)

starts_below : (count first : ℕ) (legs : List Leg) → StartsAt count first (generations legs) → AllByRecursion (λ (leg : Leg). leg.generation < count) legs
starts_below count first [] h = absurd h
starts_below count first (leg ∷ legs) h = below_all count first (leg ∷ legs) h.1

-- a packet of so many legs is handed over fewer times
hands_fewer : (from to : ℕ) (legs : List Leg) → hands_in from to legs ≤ length legs
hands_fewer from to [] = omega arith
hands_fewer from to (leg ∷ []) = omega arith
hands_fewer from to (leg ∷ next ∷ legs) = by_test ((leg.worker == from) && (next.worker == to)) (hands_fewer from to (next ∷ legs))
  where
    by_test : (b : Bool) → hands_in from to (next ∷ legs) ≤ length (next ∷ legs) → (if b then 1 else 0) + hands_in from to (next ∷ legs) ≤ length (leg ∷ next ∷ legs)
    by_test true h = omega (arith, h)
    by_test false h = omega (arith, h)

-- packets of at most four legs each are handed over at most four times each
pub few_hands : (workers most from to : ℕ) (js : List Journey) → AllByRecursion (IsOwn workers most) js → hands from to js ≤ 4 * length js
few_hands workers most from to [] own = omega arith
few_hands workers most from to (j ∷ js) own =
    let here = hands_fewer from to j.course.legs in
    let few : length j.course.legs ≤ 4 = own.0.few in
    let rest = few_hands workers most from to js own.1 in
    let sum : hands from to (j ∷ js) ≡ hands_in from to j.course.legs + hands from to js = sum_by-cons (λ (j : Journey). hands_in from to j.course.legs) j js in
    omega (arith, here, few, rest, sum)

-- so what a full queue had accepted is few
pub record IsChosen (count : ℕ) (j : Journey) : Type 0 where
  pub generations : AllByRecursion (λ (leg : Leg). leg.generation < count) j.course.legs
  pub accepted : (t : ℕ) → j.accepted ≡ Some t → t < 2 ^ 62

few_accepted : (slots packets : ℕ) (js : List Journey) (j : Journey) (accepted : Option ℕ) (o : Outcome) → ((from to : ℕ) → hands from to js ≤ 4 * packets) → packets ≤ 65536
    → IsRefusalLawful slots js j accepted o → (t : ℕ) → accepted ≡ Some t → t < 2 ^ 62
few_accepted slots packets js j None o few most h t e = absurd (none-some t e)
few_accepted slots packets js j (Some count) (Sent interface) few most h t e = absurd h
few_accepted slots packets js j (Some count) (Dropped node error) few most h t e = absurd h
few_accepted slots packets js j (Some count) (Handed node worker) few most h t e =
    let same : count ≡ t = same_Some _ _ e in
    let over = few (last_worker j.course.legs) worker in
    let least = h.1 in
    omega (arith, same, over, least, most)

pub chosen_lawfully : (workers most count slots : ℕ) (first : ℕ → ℕ) (js : List Journey) → AllByRecursion (IsOwn workers most) js → length js ≤ 65536 → AreLawful count slots first js
    → AllByRecursion (IsChosen count) js
chosen_lawfully workers most count slots first js own few lawful = each js lawful.generations lawful.refusals
  where
    each : (some : List Journey) → AllByRecursion (λ (j : Journey). StartsAt count (first j.number) (map (λ (l : Leg). l.generation) j.course.legs)) some
        → AllByRecursion (λ (j : Journey). IsRefusalLawful slots js j j.accepted j.course.outcome) some → AllByRecursion (IsChosen count) some
    each [] starts refusals = tt
    each (j ∷ some) starts refusals = (
      record {
        generations = starts_below count (first j.number) j.course.legs starts.0;
        accepted = few_accepted slots (length js) js j j.accepted j.course.outcome (λ from to. few_hands workers most from to js own) few refusals.0;
      },
      each some starts.1 refusals.1,
    )
