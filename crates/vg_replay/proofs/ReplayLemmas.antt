-- For the clauses `replayed` and `refused` of `replay`, and for `verdict`, `check` and `yes_is_exact` of vg_check: what comes of packets that are taken
-- through.
use Rattle.std.proofs.Common.{◌≡◌, ℕ, zero, suc, ◌+◌, ◌-◌, ◌<◌, ◌≤◌, List, [], ◌∷◌, length, map, take, refl, sym, ap, subst, ◌∙◌, inl, inr, arith}
use Rattle.std.specs.Prelude.{◌⊎◌, Option, Some, option_map, option_and_then, slice_get, ◌==◌, sum, if◌then◌else◌}
use Rattle.std.specs.List.{AllByRecursion, sum_by, flat_map}
use Rattle.std.proofs.lemmas.List.{take_all}
use Rattle.std.proofs.lemmas.List.Sums.{sum-map, sum_by-cons, sum_by-append}
use Rattle.std.proofs.lemmas.Option.{none-some, same_Some, slice_get_within}
use Rattle.vg_model.specs.declared.fates.Leg.{Leg}
use Rattle.vg_model.specs.Graph.{Graph}
use Rattle.vg_model.specs.Packet.{Packet}
use Rattle.vg_model.specs.Visit.{Visit}
use Rattle.vg_model.specs.Leg.{Outcome, Sent, Dropped, Handed}
use Rattle.vg_model.specs.Journey.{Journey, Choice, Course, journey, journeys, journeys_from, started}
use Rattle.vg_model.specs.Count.{trace, node_count}
use Rattle.vg_model.specs.Lawful.{StartsAt}
use Rattle.vg_model.specs.Valid.{AreBytes}
use Rattle.vg_model.proofs.Journeys.{map_some, then_some}
use Rattle.vg_model.proofs.LegEnds.{all_at}
use Rattle.vg_counters.specs.Tally.{Tally}
use Rattle.vg_journeys.specs.Outcomes.{AreCounts}
use Rattle.vg_replay.specs.Counts.{journey_at, counted, visits_of, drops_of, sends_of}
use Rattle.vg_replay.specs.Legs.{IsUnlessDropped}
use Rattle.vg_replay.specs.Replays.{sent_bytes, told, AreReplayed}
use Rattle.vg_replay.specs.Tasks.{Task, IsPacketOf, journey_under, IsInTime, IsTaken, IsFault, IsFirstFault, AreTaken}
use Rattle.vg_replay.specs.Trips.{IsKept}
use Rattle.vg_replay.specs.Underway.{IsUnderway, IsNeverDue, AreUnderway}
use Rattle.vg_replay.specs.declared.underway.Underway.{Underway}
use Rattle.vg_replay.specs.declared.replaying.Replayed.{Replayed}
use Rattle.vg_replay.proofs.CourseLemmas.{generations, course_legs, course_generations, journey_is}
use Rattle.vg_replay.proofs.CountLemmas.{through}
use Rattle.vg_replay.proofs.InsideLemmas.{IsJourneyOf, journey_has}
use Rattle.vg_replay.proofs.TimeLemmas.{has_first}
use Rattle.vg_replay.proofs.UnderwayLemmas.{journey_there}

-- ---- lists

-- lists with the same at each place are the same
same_by_get : {X : Type 0} (xs ys : List X) → ((k : ℕ) → slice_get xs k ≡ slice_get ys k) → xs ≡ ys
same_by_get [] [] f = refl
same_by_get [] (y ∷ ys) f = absurd (none-some y (f 0))
same_by_get (x ∷ xs) [] f = absurd (none-some x (sym (f 0)))
same_by_get (x ∷ xs) (y ∷ ys) f =
    let first : x ≡ y = same_Some x y (f 0) in
    let rest : xs ≡ ys = same_by_get xs ys (λ k. f (suc k)) in
    λ i. first i ∷ rest i

-- so are those with the same of each, where both end at one place
pub same_maps : {X Y Z : Type 0} (f : X → Z) (h : Y → Z) (xs : List X) (ys : List Y) → length xs ≡ length ys
    → ((k : ℕ) (x : X) (y : Y) → slice_get xs k ≡ Some x → slice_get ys k ≡ Some y → f x ≡ h y) → map f xs ≡ map h ys
same_maps f h [] [] count same = refl
same_maps f h [] (y ∷ ys) count same = absurd (omega (arith, count))
same_maps f h (x ∷ xs) [] count same = absurd (omega (arith, count))
same_maps f h (x ∷ xs) (y ∷ ys) count same =
    let first : f x ≡ h y = same 0 x y refl refl in
    let rest : map f xs ≡ map h ys = same_maps f h xs ys (omega (arith, count)) (λ k a b d e. same (suc k) a b d e) in
    λ i. first i ∷ rest i

pub all_by_get : {X : Type 0} (P : X → Type 0) (xs : List X) → ((k : ℕ) (x : X) → slice_get xs k ≡ Some x → P x) → AllByRecursion P xs
all_by_get P [] f = tt
all_by_get P (x ∷ xs) f = (f 0 x refl, all_by_get P xs (λ k y e. f (suc k) y e))

pub get_some : {X : Type 0} (xs : List X) (k : ℕ) → k < length xs → (x : X) × (slice_get xs k ≡ Some x)
get_some [] k h = absurd (omega (arith, h))
get_some (x ∷ xs) zero h = (x, refl)
get_some (x ∷ xs) (suc k) h = get_some xs k (omega (arith, h))

pub get_take : {X : Type 0} (n : ℕ) (xs : List X) (k : ℕ) (x : X) → slice_get (take n xs) k ≡ Some x → (k < n) × (slice_get xs k ≡ Some x)
get_take zero xs k x e = absurd (none-some x e)
get_take (suc n) [] k x e = absurd (none-some x e)
get_take (suc n) (y ∷ xs) zero x e = (omega arith, e)
get_take (suc n) (y ∷ xs) (suc k) x e = let rest = get_take n xs k x e in (let h = rest.0 in omega (arith, h), rest.1)

length_take_same : {X Y : Type 0} (n : ℕ) (xs : List X) (ys : List Y) → length xs ≡ length ys → length (take n xs) ≡ length (take n ys)
length_take_same zero xs ys e = refl
length_take_same (suc n) [] [] e = refl
length_take_same (suc n) [] (y ∷ ys) e = absurd (omega (arith, e))
length_take_same (suc n) (x ∷ xs) [] e = absurd (omega (arith, e))
length_take_same (suc n) (x ∷ xs) (y ∷ ys) e = ap suc (length_take_same n xs ys (omega (arith, e)))

-- ---- journeys of all packets

module _ (visit : Visit) (graphs : List Graph) (workers : ℕ) where
  at_place : (number : ℕ) → List (List ℕ) → List Choice → ℕ → Option Journey
  at_place number packets choices k = option_and_then (λ (bytes : List ℕ). option_and_then (journey visit graphs workers number bytes) (slice_get choices k)) (slice_get packets k)

  -- where each has one
  journeys_there : (number : ℕ) (packets : List (List ℕ)) (choices : List Choice) → length choices ≡ length packets
      → ((k : ℕ) → k < length packets → (j : Journey) × (option_and_then (λ (bytes : List ℕ). option_and_then (journey visit graphs workers (number + k) bytes) (slice_get choices k)) (slice_get packets k) ≡ Some j))
      → (js : List Journey) × (journeys_from visit graphs workers number packets choices ≡ Some js)
  journeys_there number [] [] count each = ([], refl)
  journeys_there number [] (choice ∷ choices) count each = absurd (omega (arith, count))
  journeys_there number (bytes ∷ packets) [] count each = absurd (omega (arith, count))
  journeys_there number (bytes ∷ packets) (choice ∷ choices) count each =
      let first = each 0 (omega arith) in
      let here : journey visit graphs workers number bytes choice ≡ Some first.0 =
      ap (λ n. journey visit graphs workers n bytes choice) (let z : number ≡ number + 0 = omega arith in z) ∙ first.1 in
      let rest = journeys_there (suc number) packets choices (omega (arith, count)) (λ k h.
      let next = each (suc k) (omega (arith, h)) in (
        next.0,
        ap (λ n. option_and_then (λ (bs : List ℕ). option_and_then (journey visit graphs workers n bs) (slice_get choices k)) (slice_get packets k))
            (let z : suc number + k ≡ number + suc k = omega arith in z) ∙ next.1,
      )) in (
        first.0 ∷ rest.0,
        ap (option_and_then (λ j. option_map (λ js. j ∷ js) (journeys_from visit graphs workers (suc number) packets choices))) here ∙ ap (option_map (λ js. first.0 ∷ js)) rest.1,
      )

  -- each of them
  journeys_get : (number : ℕ) (packets : List (List ℕ)) (choices : List Choice) (js : List Journey) → journeys_from visit graphs workers number packets choices ≡ Some js
      → (k : ℕ) (j : Journey) → slice_get js k ≡ Some j
      → option_and_then (λ (bytes : List ℕ). option_and_then (journey visit graphs workers (number + k) bytes) (slice_get choices k)) (slice_get packets k) ≡ Some j
  journeys_get number [] [] js e k j at = absurd (none-some j (ap (λ l. slice_get l k) (same_Some _ _ e) ∙ at))
  journeys_get number [] (choice ∷ choices) js e k j at = absurd (none-some js e)
  journeys_get number (bytes ∷ packets) [] js e k j at = absurd (none-some js e)
  journeys_get number (bytes ∷ packets) (choice ∷ choices) js e k j at =
      let first = then_some (λ j. option_map (λ js. j ∷ js) (journeys_from visit graphs workers (suc number) packets choices)) (journey visit graphs workers number bytes choice) js e in
      let others = map_some (λ js. first.0 ∷ js) (journeys_from visit graphs workers (suc number) packets choices) js first.2 in
      by k first.0 others.0 first.1 (λ i h. journeys_get (suc number) packets choices others.0 others.1 i j h) (ap (λ l. slice_get l k) others.2 ∙ at)
    where
      by : (k : ℕ) (first : Journey) (others : List Journey) → journey visit graphs workers number bytes choice ≡ Some first
          → ((i : ℕ) → slice_get others i ≡ Some j
          → option_and_then (λ (bs : List ℕ). option_and_then (journey visit graphs workers (suc number + i) bs) (slice_get choices i)) (slice_get packets i) ≡ Some j)
          → slice_get (first ∷ others) k ≡ Some j
          → option_and_then (λ (bs : List ℕ). option_and_then (journey visit graphs workers (number + k) bs) (slice_get (choice ∷ choices) k)) (slice_get (bytes ∷ packets) k) ≡ Some j
      by zero first others one rest f = ap (λ n. journey visit graphs workers n bytes choice) (let z : number + 0 ≡ number = omega arith in z) ∙ one ∙ f
      by (suc k) first others one rest f =
          ap (λ n. option_and_then (λ (bs : List ℕ). option_and_then (journey visit graphs workers n bs) (slice_get choices k)) (slice_get packets k))
          (let z : number + suc k ≡ suc number + k = omega arith in z)
          ∙ rest k f

  journeys_long : (number : ℕ) (packets : List (List ℕ)) (choices : List Choice) (js : List Journey) → journeys_from visit graphs workers number packets choices ≡ Some js → length js ≡ length packets
  journeys_long number [] [] js e = ap length (sym (same_Some _ _ e))
  journeys_long number [] (choice ∷ choices) js e = absurd (none-some js e)
  journeys_long number (bytes ∷ packets) [] js e = absurd (none-some js e)
  journeys_long number (bytes ∷ packets) (choice ∷ choices) js e =
      let first = then_some (λ j. option_map (λ js. j ∷ js) (journeys_from visit graphs workers (suc number) packets choices)) (journey visit graphs workers number bytes choice) js e in
      let others = map_some (λ js. first.0 ∷ js) (journeys_from visit graphs workers (suc number) packets choices) js first.2 in
      sym (ap length others.2) ∙ ap suc (journeys_long (suc number) packets choices others.0 others.1)

-- the journey of a packet, of all
pub journey_of_all : (task : Task) (js : List Journey) → journeys task.visit task.graphs task.workers task.packets task.choices ≡ Some js → (k : ℕ) (j : Journey) → slice_get js k ≡ Some j
    → journey_at task k ≡ Some j
journey_of_all task js e k j at =
    ap (λ n. option_and_then (λ (bs : List ℕ). option_and_then (journey task.visit task.graphs task.workers n bs) (slice_get task.choices k)) (slice_get task.packets k))
    (let z : k ≡ 0 + k = omega arith in z)
    ∙ journeys_get task.visit task.graphs task.workers 0 task.packets task.choices js e k j at

pub as_many_journeys : (task : Task) (js : List Journey) → journeys task.visit task.graphs task.workers task.packets task.choices ≡ Some js → length js ≡ length task.packets
as_many_journeys task js e = journeys_long task.visit task.graphs task.workers 0 task.packets task.choices js e

-- where all packets have their journeys, none is at fault
pub no_fault : (task : Task) (js : List Journey) (number : ℕ) → AreTaken task js → IsFault task number → ⊥
no_fault task js number taken is =
    let there = get_some js number (let h = slice_get_within task.packets number is.bytes is.packet.is_bytes in let e = as_many_journeys task js taken.are_journeys in omega (arith, h, e)) in
    let j : Journey = there.0 in
    let made : journey_under task number is.bytes is.choice ≡ Some j =
    sym (journey_there task number is.bytes is.choice is.packet) ∙ journey_of_all task js taken.are_journeys number j there.1 in
    let has : IsJourneyOf task.visit task.graphs task.workers number is.bytes is.choice j = journey_has task.visit task.graphs task.workers number is.bytes is.choice j made in
    let gs : generations j.course.legs ≡ is.choice.generations = course_generations task.visit task.graphs task.workers number is.bytes is.choice.generations j.course has.course in
    let starts = all_at (λ (j : Journey). StartsAt (length task.graphs) (task.first j.number) (map (λ (leg : Leg). leg.generation) j.course.legs)) js number j there.1 taken.generations in
    is.fault j made (subst (StartsAt (length task.graphs) (task.first number)) gs (subst (λ n. StartsAt (length task.graphs) (task.first n) (generations j.course.legs)) has.number_is starts))

-- ---- packets that are through

-- what is told of a packet that is the same unless it was dropped
sent_same : (o : Outcome) (p q : Packet) → IsUnlessDropped o p q → sent_bytes p.bytes o ≡ sent_bytes q.bytes o
sent_same (Sent interface) p q e = ap (λ (r : Packet). r.bytes) e
sent_same (Dropped node error) p q e = refl
sent_same (Handed node worker) p q e = refl

same_told : (trip course : Course) → trip.legs ≡ course.legs → trip.outcome ≡ course.outcome → IsUnlessDropped course.outcome trip.packet course.packet → told trip ≡ told course
same_told trip course legs outcome packet =
    let bytes : sent_bytes trip.packet.bytes trip.outcome ≡ sent_bytes course.packet.bytes course.outcome =
    ap (sent_bytes trip.packet.bytes) outcome ∙ sent_same course.outcome trip.packet course.packet packet in
    λ i. record { legs = legs i; outcome = outcome i; bytes = bytes i }

record IsThrough (task : Task) (traced number : ℕ) (trip : Course) : Type 0 where
  bytes : List ℕ
  choice : Choice
  packet : IsPacketOf task number bytes choice
  j : Journey
  is_journey : journey_under task number bytes choice ≡ Some j
  in_time : IsInTime task number choice
  is_told : told trip ≡ told j.course
  visits : number < traced → trip.visits ≡ j.course.visits
  counts : (f : Journey → ℕ) → counted task f trip ≡ f j

module _ (task : Task) (traced : ℕ) (u : Underway) (are : AreUnderway task traced IsNeverDue u) where
  trip_through : (number : ℕ) (trip : Course) → number < u.stuck → slice_get u.trips number ≡ Some trip → IsThrough task traced number trip
  trip_through number trip below at = by is.stands.so_far
    where
      is : IsUnderway task traced IsNeverDue u.trips number
      is = are.way.each number below

      same : is.trip ≡ trip
      same = same_Some is.trip trip (sym is.is_trip ∙ at)

      past : length is.choice.generations ≤ length is.trip.legs
      past =
          let never : length is.trip.legs < length is.choice.generations → ⊥ =
          λ less. (let next = get_some is.choice.generations (length is.trip.legs) less in is.is_due next.0 next.1) in
          omega (arith, never)

      by : (is.trip.legs ≡ []) ⊎ IsKept task traced number is.bytes is.choice is.trip → IsThrough task traced number trip
      by (inl none) =
          let first = has_first (length task.graphs) (task.first number) is.choice.generations is.in_time in
          let some = slice_get_within is.choice.generations 0 first.0 first.1 in
          absurd (omega (arith, ap length none, past, some))
      by (inr kept) =
          let all : take (length is.trip.legs) is.choice.generations ≡ is.choice.generations = take_all (length is.trip.legs) is.choice.generations past in
          let whole : started task.visit task.graphs task.workers number is.bytes is.choice.generations ≡ Some kept.course =
          ap (started task.visit task.graphs task.workers number is.bytes) (sym all) ∙ kept.is in
          let count : length is.trip.legs ≡ length is.choice.generations =
          ap length kept.legs ∙ course_legs task.visit task.graphs task.workers number is.bytes is.choice.generations kept.course whole in
          let made = journey_is task.visit task.graphs task.workers number is.bytes is.choice kept.course whole (kept.ends count) in
          let there : journey_at task number ≡ Some (record { number = number; accepted = is.choice.accepted; course = kept.course }) =
          journey_there task number is.bytes is.choice is.packet ∙ made in
          subst (IsThrough task traced number) same (record {
            bytes = is.bytes;
            choice = is.choice;
            packet = is.packet;
            j = record { number = number; accepted = is.choice.accepted; course = kept.course };
            is_journey = made;
            in_time = is.in_time;
            is_told = same_told is.trip kept.course kept.legs kept.outcome kept.packet;
            visits = λ h. kept.visits (inr h);
            counts = λ f. through task f number is.choice is.trip (record { number = number; accepted = is.choice.accepted; course = kept.course }) is.stands.number_is is.packet.is_choice count there;
          })

  -- a packet on its way is taken
  is_taken : (number : ℕ) → number < u.stuck → IsTaken task number
  is_taken number below =
      let is = are.way.each number below in
      let done = trip_through number is.trip below is.is_trip in
      record { bytes = done.bytes; choice = done.choice; packet = done.packet; j = done.j; is_journey = done.is_journey; in_time = done.in_time }

  -- the first packet that has no journey
  pub first_fault : u.stuck < length task.packets → IsFirstFault task u.stuck
  first_fault there = record { fault = are.fault there; before = λ k h. is_taken k h }

  -- all packets are through
  module _ (lines : length task.choices ≡ length task.packets) (all : length task.packets ≤ u.stuck) where
    long : length u.trips ≡ length task.packets
    long = (let few = are.way.few in let stuck = are.way.stuck in omega (arith, few, stuck, all))

    made : (js : List Journey) × (journeys task.visit task.graphs task.workers task.packets task.choices ≡ Some js)
    made = journeys_there task.visit task.graphs task.workers 0 task.packets task.choices lines (λ k h.
        let trip = get_some u.trips k (omega (arith, h, long)) in
        let done = trip_through k trip.0 (omega (arith, h, all)) trip.1 in (
          done.j,
          ap (λ n. option_and_then (λ (bs : List ℕ). option_and_then (journey task.visit task.graphs task.workers n bs) (slice_get task.choices k)) (slice_get task.packets k))
              (let z : 0 + k ≡ k = omega arith in z)
              ∙ journey_there task k done.bytes done.choice done.packet ∙ done.is_journey,
        ))

    pub all_js : List Journey
    all_js = made.0

    js_are : journeys task.visit task.graphs task.workers task.packets task.choices ≡ Some all_js
    unfolding all_js
    js_are = made.1

    many : length all_js ≡ length task.packets
    many = as_many_journeys task all_js js_are

    -- the journey of a trip
    journey_is_of : (k : ℕ) (trip : Course) (j : Journey) (at : slice_get u.trips k ≡ Some trip) → slice_get all_js k ≡ Some j
        → (done : IsThrough task traced k trip) × (done.j ≡ j)
    journey_is_of k trip j at at_j =
        let below = slice_get_within u.trips k trip at in
        let done = trip_through k trip (omega (arith, below, long, all)) at in
        (done, same_Some done.j j (sym (journey_there task k done.bytes done.choice done.packet ∙ done.is_journey) ∙ journey_of_all task all_js js_are k j at_j))

    all_counted : (f : Journey → ℕ) → sum_by (counted task f) u.trips ≡ sum_by f all_js
    all_counted f =
        sym (sum-map (counted task f) u.trips)
        ∙ ap sum (same_maps (counted task f) f u.trips all_js (long ∙ sym many) (λ k trip j at at_j.
        let is = journey_is_of k trip j at at_j in
        is.0.counts f ∙ ap f is.1))
        ∙ sum-map f all_js

    nodes_counted : (node : ℕ) (js : List Journey) → sum_by (visits_of node) js ≡ node_count node js
    nodes_counted node [] = refl
    nodes_counted node (j ∷ js) =
        sum_by-cons (visits_of node) j js ∙ ap (λ n. visits_of node j + n) (nodes_counted node js)
        ∙ sym (sum_by-append (λ n. if n == node then 1 else 0) (trace j) (flat_map trace js))

    pub all_taken : AreTaken task all_js
    all_taken = record {
      are_journeys = js_are;
      generations = all_by_get (λ (j : Journey). StartsAt (length task.graphs) (task.first j.number) (map (λ (leg : Leg). leg.generation) j.course.legs)) all_js (λ k j at_j.
          let below = slice_get_within all_js k j at_j in
          let trip = get_some u.trips k (omega (arith, below, long, many)) in
          let is = journey_is_of k trip.0 j trip.1 at_j in
          let done = is.0 in
          let has : IsJourneyOf task.visit task.graphs task.workers k done.bytes done.choice done.j = journey_has task.visit task.graphs task.workers k done.bytes done.choice done.j done.is_journey in
          let gs : generations done.j.course.legs ≡ done.choice.generations = course_generations task.visit task.graphs task.workers k done.bytes done.choice.generations done.j.course has.course in
          subst (λ (i : Journey). StartsAt (length task.graphs) (task.first i.number) (generations i.course.legs)) is.1
          (subst (λ n. StartsAt (length task.graphs) (task.first n) (generations done.j.course.legs)) (sym has.number_is)
          (subst (StartsAt (length task.graphs) (task.first k)) (sym gs) done.in_time)));
    }

    pub all_replayed : (replay : Replayed) → replay.trips ≡ u.trips → replay.counts ≡ u.counts → slice_get task.graphs (length task.graphs - 1) ≡ Some replay.last
        → AreReplayed task traced replay
    all_replayed replay trips counts last = record {
      js = all_js;
      taken = all_taken;
      possible = all_by_get AreBytes task.packets (λ k bytes at. are.way.bytes k bytes (let below = slice_get_within task.packets k bytes at in omega (arith, below, long)) at);
      trips = ap (map told) trips
          ∙ same_maps told (λ (j : Journey). told j.course) u.trips all_js (long ∙ sym many) (λ k trip j at at_j.
          let is = journey_is_of k trip j at at_j in
          is.0.is_told ∙ ap (λ (j : Journey). told j.course) is.1);
      visits = ap (λ ts. map (λ (c : Course). c.visits) (take traced ts)) trips
          ∙ same_maps (λ (c : Course). c.visits) (λ (j : Journey). j.course.visits) (take traced u.trips) (take traced all_js)
          (length_take_same traced u.trips all_js (long ∙ sym many)) (λ k trip j at at_j.
          let t = get_take traced u.trips k trip at in
          let s = get_take traced all_js k j at_j in
          let is = journey_is_of k trip j t.1 s.1 in
          is.0.visits t.0 ∙ ap (λ (j : Journey). j.course.visits) is.1);
      counts = subst (AreCounts all_js) (sym counts) (record {
        visits = λ node. are.way.counts.visits node ∙ all_counted (visits_of node) ∙ nodes_counted node all_js;
        drops = λ node error. are.way.counts.drops node error ∙ all_counted (drops_of node error);
        sends = λ interface. are.way.counts.sends interface ∙ all_counted (sends_of interface);
      });
      nodes = ap (λ (t : Tally). length t.visits) counts ∙ are.way.counts.nodes;
      interfaces = ap (λ (t : Tally). length t.sends) counts ∙ are.way.counts.interfaces;
      last = last;
    }
