-- For the clauses of `Underway::{begin, take_on, take_all}`, `pass` and `pass_all`: packets that are being taken through, generation by generation.
use Rattle.std.proofs.Common.{◌≡◌, ℕ, zero, suc, ◌+◌, ◌*◌, ◌<◌, ◌≤◌, Bool, true, false, List, [], ◌∷◌, ◌++◌, length, get_or, take, drop, refl, sym, ap, ap₂, subst, ◌∙◌, inl, inr, arith, length-append}
use Rattle.std.specs.Prelude.{◌⊎◌, Option, Some, None, option_map, option_and_then, unwrap_or, ◌==◌, slice_get, slice_set, slice_index_or, All, if◌then◌else◌}
use Rattle.std.specs.List.{AllByRecursion, sum_by}
use Rattle.std.proofs.lemmas.List.{length-replicate, length-set, length-take, length_push, drop_more}
use Rattle.std.proofs.lemmas.List.Sums.{count_by-le-length, sum_by-le}
use Rattle.std.proofs.lemmas.Option.{none-some, same_Some, slice_get_within, slice_get-get_or}
use Rattle.vg_model.specs.Edit.{most_nodes, most_interfaces}
use Rattle.vg_model.specs.Journey.{Journey, Choice, Course, end_of}
use Rattle.vg_model.specs.Count.{trace, drop_visit, is_drop, is_sent_on}
use Rattle.vg_model.proofs.Journeys.{then_some}
use Rattle.vg_model.specs.Valid.{AreBytes}
use Rattle.vg_journeys.proofs.JoinLemmas.{same_or_not}
use Rattle.vg_replay.specs.Counts.{generations_at, journey_at, counted, visits_of, drops_of, sends_of, AreCountsOf, CanCount, Adds}
use Rattle.vg_replay.specs.Courses.{in_hand}
use Rattle.vg_replay.specs.Tasks.{Task, IsPacketOf, journey_under, IsInTime, IsFault}
use Rattle.vg_replay.specs.Times.{IsIn}
use Rattle.vg_replay.specs.Trips.{begun, IsKept, StandsAt, next_generation}
use Rattle.vg_replay.specs.Underway.{IsUnderway, IsScheduled, IsDue, IsNeverDue, IsNew, AreOnTheWay, AreUnderway, IsPutBack, Keeps}
use Rattle.vg_replay.specs.Walks.{IsHere, IsLost, IsGoneOn}
use Rattle.vg_replay.specs.declared.underway.Underway.{Underway}
use Rattle.vg_replay.proofs.CountLemmas.{not_through, through, counts_wait, counts_add, counts_none, counts_begin, end_sized}
use Rattle.vg_replay.proofs.CourseLemmas.{course_legs}
use Rattle.vg_replay.proofs.InsideLemmas.{IsJourneyOf, course_inside, journey_has, end_within, drop_few}
use Rattle.vg_replay.proofs.TimeLemmas.{in_front, put, in_put, put_is_in, in_taken, starts_below, starts_rise, has_first}
use Rattle.vg_replay.proofs.WalkLemmas.{IsSound, bounded_by}

-- ---- lists

-- what stands at a place of a list with one more
pub get_pushed : {X : Type 0} (xs : List X) (x : X) (k : ℕ) → k < length xs → slice_get (xs ++ x ∷ []) k ≡ slice_get xs k
get_pushed [] x k h = absurd (omega (arith, h))
get_pushed (y ∷ xs) x zero h = refl
get_pushed (y ∷ xs) x (suc k) h = get_pushed xs x k (omega (arith, h))

pub get_last : {X : Type 0} (xs : List X) (x : X) → slice_get (xs ++ x ∷ []) (length xs) ≡ Some x
get_last [] x = refl
get_last (y ∷ xs) x = get_last xs x

-- and of one in which a place was written
pub get_set_same : {X : Type 0} (xs : List X) (k : ℕ) (x : X) → k < length xs → slice_get (slice_set xs k x) k ≡ Some x
get_set_same [] k x h = absurd (omega (arith, h))
get_set_same (y ∷ xs) zero x h = refl
get_set_same (y ∷ xs) (suc k) x h = get_set_same xs k x (omega (arith, h))

pub get_set_other : {X : Type 0} (xs : List X) (i k : ℕ) (x : X) → (k ≡ i → ⊥) → slice_get (slice_set xs i x) k ≡ slice_get xs k
get_set_other [] i k x apart = refl
get_set_other (y ∷ xs) zero zero x apart = absurd (apart refl)
get_set_other (y ∷ xs) zero (suc k) x apart = refl
get_set_other (y ∷ xs) (suc i) zero x apart = refl
get_set_other (y ∷ xs) (suc i) (suc k) x apart = get_set_other xs i k x (λ e. apart (ap suc e))

-- ---- how packets are due

-- a packet stays underway where it is due otherwise
pub due_so : (task : Task) (traced : ℕ) (due other : ℕ → ℕ → Type 0) (trips : List Course) (number : ℕ) (is : IsUnderway task traced due trips number)
    → ((generation : ℕ) → next_generation is.choice is.trip ≡ Some generation → due generation number → other generation number) → IsUnderway task traced other trips number
due_so task traced due other trips number is f = record {
  bytes = is.bytes;
  choice = is.choice;
  packet = is.packet;
  trip = is.trip;
  is_trip = is.is_trip;
  in_time = is.in_time;
  stands = is.stands;
  is_due = λ generation e. f generation e (is.is_due generation e);
}

-- and where other packets have gone on
trips_so : (task : Task) (traced : ℕ) (due : ℕ → ℕ → Type 0) (trips others : List Course) (number : ℕ) → slice_get others number ≡ slice_get trips number → IsUnderway task traced due trips number
    → IsUnderway task traced due others number
trips_so task traced due trips others number same is = record {
  bytes = is.bytes;
  choice = is.choice;
  packet = is.packet;
  trip = is.trip;
  is_trip = same ∙ is.is_trip;
  in_time = is.in_time;
  stands = is.stands;
  is_due = is.is_due;
}

-- all of them, due otherwise
pub all_due_so : (task : Task) (traced : ℕ) (due other : ℕ → ℕ → Type 0) (u : Underway) → AreUnderway task traced due u
    → ((number generation : ℕ) → due generation number → other generation number) → AreUnderway task traced other u
all_due_so task traced due other u are f = record {
  way = record {
    size = are.way.size;
    few = are.way.few;
    stuck = are.way.stuck;
    each = λ number below. due_so task traced due other u.trips number (are.way.each number below) (λ generation e d. f number generation d);
    numbers = are.way.numbers;
    bytes = are.way.bytes;
    legs = are.way.legs;
    counts = are.way.counts;
  };
  fault = are.fault;
}

-- ---- the beginning

-- nothing is begun
pub none_underway : (task : Task) (traced : ℕ) (u : Underway) → IsNew (length task.graphs) u → AreOnTheWay task traced (IsScheduled 0 u.schedule) u
none_underway task traced u new =
    let no_trip : length u.trips ≡ 0 = ap length new.trips in
    let size : length u.schedule ≡ length task.graphs = ap length new.schedule ∙ length-replicate (length task.graphs) [] in
    let stuck : u.stuck ≡ 0 = new.stuck in
    record {
      size = size;
      few = omega (arith, no_trip);
      stuck = omega (arith, stuck);
      each = λ number below. absurd (omega (arith, below, stuck));
      numbers = λ number trip e. absurd (none-some trip (ap (λ ts. slice_get ts number) (sym new.trips) ∙ e));
      bytes = λ number bytes below e. absurd (omega (arith, below, no_trip));
      legs = λ number choice below e. absurd (omega (arith, below, no_trip));
      counts = subst (λ ts. AreCountsOf task ts u.counts) (sym new.trips) (subst (AreCountsOf task []) (sym new.counts) (counts_none task));
    }

-- a packet that has done no leg stands so
stands_begun : (task : Task) (traced number : ℕ) (bytes : List ℕ) (choice : Choice) → StandsAt task traced number bytes choice (begun number)
stands_begun task traced number bytes choice = record { number_is = refl; so_far = inl refl }

-- it is not through
begun_counts : (task : Task) (f : Journey → ℕ) (number : ℕ) (choice : Choice) → slice_get task.choices number ≡ Some choice → IsInTime task number choice → counted task f (begun number) ≡ 0
begun_counts task f number choice at in_time =
    let first = has_first (length task.graphs) (task.first number) choice.generations in_time in
    let some = slice_get_within choice.generations 0 first.0 first.1 in
    not_through task f number choice (begun number) refl at (λ e. omega (arith, e, some))

-- one packet more
pub one_underway : (task : Task) (traced number generation : ℕ) (bytes : List ℕ) (choice : Choice) (old new : Underway) → AreOnTheWay task traced (IsScheduled 0 old.schedule) old
    → old.stuck ≡ number → length old.trips ≡ number → number < length task.packets → IsPacketOf task number bytes choice → IsInTime task number choice → AreBytes bytes → length choice.generations ≤ 4
    → slice_get choice.generations 0 ≡ Some generation → new.schedule ≡ put old.schedule generation number → new.trips ≡ old.trips ++ begun number ∷ [] → new.counts ≡ old.counts → new.stuck ≡ number + 1
    → AreOnTheWay task traced (IsScheduled 0 new.schedule) new
one_underway task traced number generation bytes choice old new are stuck count within packet in_time are_bytes few first schedule trips counts stuck_new =
    let below : generation < length old.schedule =
    (let g = starts_below (length task.graphs) (task.first number) choice.generations in_time 0 generation first in let s = are.size in omega (arith, g, s)) in
    let long : length new.trips ≡ number + 1 = ap length trips ∙ length_push old.trips (begun number) ∙ ap (λ n. n + 1) count in
    let size : length new.schedule ≡ length old.schedule =
    ap length schedule ∙ length-set old.schedule generation (slice_index_or old.schedule generation [] ++ number ∷ []) in
    let last : slice_get new.trips number ≡ Some (begun number) =
    ap (λ ts. slice_get ts number) trips ∙ ap (slice_get (old.trips ++ begun number ∷ [])) (sym count) ∙ get_last old.trips (begun number) in
    let before : (k : ℕ) → k < number → slice_get new.trips k ≡ slice_get old.trips k =
    λ k h. ap (λ ts. slice_get ts k) trips ∙ get_pushed old.trips (begun number) k (omega (arith, h, count)) in
    let stays : (h k : ℕ) → IsScheduled 0 old.schedule h k → IsScheduled 0 new.schedule h k =
    λ h k s. (s.0, subst (λ (ss : List (List ℕ)). IsIn k (slice_index_or ss h [])) (sym schedule) (in_put old.schedule generation number h k below s.1)) in
    record {
      size = size ∙ are.size;
      few = omega (arith, long, within);
      stuck = omega (arith, stuck_new, long);
      each = λ k h. elim (same_or_not k number) [
        | inl same ↦ subst (IsUnderway task traced (IsScheduled 0 new.schedule) new.trips) (sym same) (record {
          bytes = bytes;
          choice = choice;
          packet = packet;
          trip = begun number;
          is_trip = last;
          in_time = in_time;
          stands = stands_begun task traced number bytes choice;
          is_due = λ h e.
              let is : generation ≡ h = same_Some generation h (sym first ∙ e) in (
                omega arith,
                subst (λ g. IsIn number (slice_index_or new.schedule g [])) is
                    (subst (λ (ss : List (List ℕ)). IsIn number (slice_index_or ss generation [])) (sym schedule) (put_is_in old.schedule generation number below)),
              );
        })
        | inr other ↦
            let less : k < number = (let apart : k ≡ number → ⊥ = other in omega (arith, h, stuck_new, apart)) in
            let is = are.each k (omega (arith, less, stuck)) in
            due_so task traced (IsScheduled 0 old.schedule) (IsScheduled 0 new.schedule) new.trips k
            (trips_so task traced (IsScheduled 0 old.schedule) old.trips new.trips k (before k less) is) (λ g e d. stays g k d)
      ];
      numbers = λ k trip e. elim (same_or_not k number) [
        | inl same ↦
            let is : begun number ≡ trip = same_Some (begun number) trip (sym last ∙ ap (slice_get new.trips) (sym same) ∙ e) in
            ap (λ (t : Course). t.packet.number) (sym is) ∙ sym same
        | inr other ↦
            let less : k < number = (let apart : k ≡ number → ⊥ = other in let h = slice_get_within new.trips k trip e in omega (arith, h, long, apart)) in
            are.numbers k trip (sym (before k less) ∙ e)
      ];
      bytes = λ k bs h e. elim (same_or_not k number) [
        | inl same ↦ subst AreBytes (same_Some bytes bs (sym packet.is_bytes ∙ ap (slice_get task.packets) (sym same) ∙ e)) are_bytes
        | inr other ↦ are.bytes k bs (let apart : k ≡ number → ⊥ = other in omega (arith, h, long, apart, count)) e
      ];
      legs = λ k c h e. elim (same_or_not k number) [
        | inl same ↦ subst (λ (c : Choice). length c.generations ≤ 4) (same_Some choice c (sym packet.is_choice ∙ ap (slice_get task.choices) (sym same) ∙ e)) few
        | inr other ↦ are.legs k c (let apart : k ≡ number → ⊥ = other in omega (arith, h, long, apart, count)) e
      ];
      counts = subst (λ ts. AreCountsOf task ts new.counts) (sym trips) (subst (AreCountsOf task (old.trips ++ begun number ∷ [])) (sym counts)
          (counts_begin task old.trips (begun number) old.counts are.counts (λ f. begun_counts task f number choice packet.is_choice in_time)));
    }

-- a packet whose generations aren't as they should be has no journey that is taken
pub not_in_time : (task : Task) (number : ℕ) (bytes : List ℕ) (choice : Choice) → IsPacketOf task number bytes choice → (IsInTime task number choice → ⊥) → IsFault task number
not_in_time task number bytes choice packet apart = record { bytes = bytes; choice = choice; packet = packet; fault = λ j e in_time. apart in_time }

-- nor has one whose choice fits no journey
pub lost_is_fault : (task : Task) (number : ℕ) → IsLost task number → IsFault task number
lost_is_fault task number lost = record {
  bytes = lost.bytes;
  choice = lost.choice;
  packet = lost.packet;
  fault = λ j e in_time. none-some j (sym lost.none ∙ e);
}

-- ---- how much is counted

-- of a packet that is there, no more than its journey has visits
record IsFew (j : Journey) : Type 0 where
  few : length (trace j) ≤ 261

trace_few : (task : Task) (sound : IsSound task) (number : ℕ) (bytes : List ℕ) (choice : Choice) (j : Journey) → AreBytes bytes → length choice.generations ≤ 4
    → journey_under task number bytes choice ≡ Some j → length (trace j) ≤ 261
trace_few task sound number bytes choice j are four e =
    let has : IsJourneyOf task.visit task.graphs task.workers number bytes choice j = journey_has task.visit task.graphs task.workers number bytes choice j e in
    let inside = course_inside task.visit sound.kinds task.graphs most_nodes most_interfaces task.workers sound.workers (bounded_by task.graphs sound.graphs) number bytes
    choice.generations j.course are has.course in
    let few : length j.course.visits ≤ 65 * length choice.generations = inside.few in
    let one = drop_few (end_of j.course.outcome) in
    let both : length (trace j) ≡ length j.course.visits + length (drop_visit (end_of j.course.outcome)) = length-append j.course.visits (drop_visit (end_of j.course.outcome)) in
    omega (arith, few, one, both, four)

counted_few : (task : Task) (f : Journey → ℕ) (number : ℕ) (trip : Course) → trip.packet.number ≡ number → ((j : Journey) → journey_at task number ≡ Some j → f j ≤ 261) → counted task f trip ≤ 261
counted_few task f number trip is_number few = by (length trip.legs == length (generations_at task trip.packet.number)) (journey_at task trip.packet.number) (ap (journey_at task) is_number)
  where
    by : (whole : Bool) (o : Option Journey) → o ≡ journey_at task number → (if whole then unwrap_or (option_map f o) 0 else 0) ≤ 261
    by false o e = omega arith
    by true None e = omega arith
    by true (Some j) e = few j (sym e)

-- the journey of a packet, by its bytes and its choice
pub journey_there : (task : Task) (number : ℕ) (bytes : List ℕ) (choice : Choice) → IsPacketOf task number bytes choice → journey_at task number ≡ journey_under task number bytes choice
journey_there task number bytes choice packet =
    ap (option_and_then (λ (bs : List ℕ). option_and_then (journey_under task number bs) (slice_get task.choices number))) packet.is_bytes
    ∙ ap (option_and_then (journey_under task number bytes)) packet.is_choice

module _ (task : Task) (sound : IsSound task) (traced : ℕ) (due : ℕ → ℕ → Type 0) (u : Underway) (way : AreOnTheWay task traced due u) (short : length task.packets ≤ 65536) where
  all_few : (f : Journey → ℕ) → ((j : Journey) → f j ≤ length (trace j) + 1) → ((j : Journey) → length (trace j) ≤ 261 → f j ≤ 261) → sum_by (counted task f) u.trips ≤ 65536 * 261
  all_few f le few =
      let each : All (λ (t : Course). counted task f t ≤ 261) u.trips = λ k d below.
      let at : slice_get u.trips k ≡ Some (get_or u.trips k d) = slice_get-get_or u.trips k d below in
      counted_few task f k (get_or u.trips k d) (way.numbers k (get_or u.trips k d) at) (λ j e.
      let s = then_some (λ bytes. option_and_then (journey_under task k bytes) (slice_get task.choices k)) (slice_get task.packets k) j e in
      let t = then_some (journey_under task k s.0) (slice_get task.choices k) j s.2 in
      few j (trace_few task sound k s.0 t.0 j (way.bytes k s.0 below s.1) (way.legs k t.0 below t.1) t.2)) in
      let sum = sum_by-le (counted task f) 261 u.trips each in
      let many = way.few in
      omega (arith, sum, many, short)

  -- one packet more can be counted
  pub can_count : (number : ℕ) (bytes : List ℕ) (choice : Choice) (j : Journey) → number < length u.trips → IsPacketOf task number bytes choice → journey_under task number bytes choice ≡ Some j
      → CanCount j.course.visits (end_of j.course.outcome) u.counts
  can_count number bytes choice j below packet e =
      let are : AreBytes bytes = way.bytes number bytes below packet.is_bytes in
      let four : length choice.generations ≤ 4 = way.legs number choice below packet.is_choice in
      let has : IsJourneyOf task.visit task.graphs task.workers number bytes choice j = journey_has task.visit task.graphs task.workers number bytes choice j e in
      let inside = course_inside task.visit sound.kinds task.graphs most_nodes most_interfaces task.workers sound.workers (bounded_by task.graphs sound.graphs) number bytes
      choice.generations j.course are has.course in
      let nodes = way.counts.nodes in
      let interfaces = way.counts.interfaces in
      let few : length j.course.visits ≤ 65 * length choice.generations = inside.few in
      record {
        nodes = subst (λ n. AllByRecursion (λ node. node < n) j.course.visits) (sym nodes) inside.visits;
        within = end_sized (end_of j.course.outcome) most_nodes most_interfaces (length u.counts.visits) (length u.counts.sends) nodes interfaces
            (end_within most_nodes most_interfaces task.workers j.course.outcome inside.outcome);
        drop = omega (arith, nodes);
        few = λ node.
            let sum = all_few (visits_of node) (λ i. (let h = count_by-le-length (λ n. n == node) (trace i) in omega (arith, h)))
            (λ i h. (let le = count_by-le-length (λ n. n == node) (trace i) in omega (arith, le, h))) in
            let is = way.counts.visits node in
            omega (arith, sum, is, few, four);
        few_drops = λ node error.
            let sum = all_few (drops_of node error) (λ i. one_le (is_drop node error (end_of i.course.outcome)) (length (trace i))) (λ i h. one_few (is_drop node error (end_of i.course.outcome))) in
            let is = way.counts.drops node error in
            omega (arith, sum, is);
        few_sends = λ interface.
            let sum = all_few (sends_of interface) (λ i. one_le (is_sent_on interface (end_of i.course.outcome)) (length (trace i))) (λ i h. one_few (is_sent_on interface (end_of i.course.outcome))) in
            let is = way.counts.sends interface in
            omega (arith, sum, is);
      }
    where
      one_le : (b : Bool) (n : ℕ) → (if b then 1 else 0) ≤ n + 1
      one_le true n = omega arith
      one_le false n = omega arith

      one_few : (b : Bool) → (if b then 1 else 0) ≤ 261
      one_few true = omega arith
      one_few false = omega arith

-- ---- one packet of those that are due

-- the others are due as before
next_due : (now h k number : ℕ) (numbers : List ℕ) (schedule : List (List ℕ)) → (k ≡ number → h ≡ now → ⊥) → IsDue now (number ∷ numbers) schedule h k → IsDue now numbers schedule h k
next_due now h k number numbers schedule apart (inl due) = by (in_front k number numbers due.1)
  where
    by : (k ≡ number) ⊎ IsIn k numbers → IsDue now numbers schedule h k
    by (inl same) = absurd (apart same due.0)
    by (inr rest) = inl (due.0, rest)
next_due now h k number numbers schedule apart (inr due) = inr due

-- the numbers from a place on
pub cut_numbers : (numbers : List ℕ) (place number : ℕ) → place < length numbers → number ≡ get_or numbers place number → drop place numbers ≡ number ∷ drop (place + 1) numbers
cut_numbers numbers place number within at = drop_more numbers place number within ∙ ap (λ n. n ∷ drop (place + 1) numbers) (sym at)

module _ (task : Task) (traced now number : ℕ) (numbers : List ℕ) where
  -- a packet that isn't on its way, or isn't due, is passed over
  pub passed_over : (u : Underway) → AreUnderway task traced (IsDue now (number ∷ numbers) u.schedule) u
      → ((choice : Choice) (trip : Course) → number < u.stuck → slice_get task.choices number ≡ Some choice → slice_get u.trips number ≡ Some trip → next_generation choice trip ≡ Some now → ⊥)
      → AreUnderway task traced (IsDue now numbers u.schedule) u
  passed_over u are apart = record {
    way = record {
      size = are.way.size;
      few = are.way.few;
      stuck = are.way.stuck;
      each = λ k below.
          let is = are.way.each k below in
          due_so task traced (IsDue now (number ∷ numbers) u.schedule) (IsDue now numbers u.schedule) u.trips k is (λ h e d.
          next_due now h k number numbers u.schedule (λ same at.
          apart is.choice is.trip (subst (λ n. n < u.stuck) same below) (ap (slice_get task.choices) (sym same) ∙ is.packet.is_choice) (ap (slice_get u.trips) (sym same) ∙ is.is_trip)
          (e ∙ ap Some at)) d);
      numbers = are.way.numbers;
      bytes = are.way.bytes;
      legs = are.way.legs;
      counts = are.way.counts;
    };
    fault = are.fault;
  }

  -- a packet that has no journey
  pub got_stuck : (old new : Underway) → AreUnderway task traced (IsDue now (number ∷ numbers) old.schedule) old → number < old.stuck → IsLost task number
      → new.trips ≡ old.trips → new.schedule ≡ old.schedule → new.counts ≡ old.counts → new.stuck ≡ number → AreUnderway task traced (IsDue now numbers new.schedule) new
  got_stuck old new are below lost trips schedule counts stuck = record {
    way = record {
      size = ap length schedule ∙ are.way.size;
      few = (let e = ap length trips in let few = are.way.few in omega (arith, e, few));
      stuck = (let e = ap length trips in let h = are.way.stuck in omega (arith, e, h, stuck, below));
      each = λ k less.
          let is = are.way.each k (omega (arith, less, stuck, below)) in
          let apart : k ≡ number → ⊥ = λ e. omega (arith, e, less, stuck) in
          trips_so task traced (IsDue now numbers new.schedule) old.trips new.trips k (ap (λ ts. slice_get ts k) trips)
          (due_so task traced (IsDue now (number ∷ numbers) old.schedule) (IsDue now numbers new.schedule) old.trips k is (λ h e d.
          subst (λ ss. IsDue now numbers ss h k) (sym schedule) (next_due now h k number numbers old.schedule (λ same at. apart same) d)));
      numbers = λ k trip e. are.way.numbers k trip (ap (λ ts. slice_get ts k) (sym trips) ∙ e);
      bytes = λ k bs h e. are.way.bytes k bs (let l = ap length trips in omega (arith, h, l)) e;
      legs = λ k c h e. are.way.legs k c (let l = ap length trips in omega (arith, h, l)) e;
      counts = subst (AreCountsOf task new.trips) (sym counts) (subst (λ ts. AreCountsOf task ts old.counts) (sym trips) are.way.counts);
    };
    fault = λ h. subst (IsFault task) (sym stuck) (lost_is_fault task number lost);
  }

  -- what is due, of a packet that is on its way
  pub is_here : (u : Underway) (choice : Choice) (trip : Course) → AreUnderway task traced (IsDue now (number ∷ numbers) u.schedule) u → number < u.stuck
      → slice_get task.choices number ≡ Some choice → slice_get u.trips number ≡ Some trip → next_generation choice trip ≡ Some now → IsHere task traced now number trip
  is_here u choice trip are below at at_trip due =
      let is = are.way.each number below in
      let same_trip : is.trip ≡ trip = same_Some is.trip trip (sym is.is_trip ∙ at_trip) in
      let same_choice : is.choice ≡ choice = same_Some is.choice choice (sym is.packet.is_choice ∙ at) in
      record {
        bytes = is.bytes;
        choice = is.choice;
        packet = is.packet;
        stands = subst (StandsAt task traced number is.bytes is.choice) same_trip is.stands;
        due = subst (λ (c : Choice). next_generation c trip ≡ Some now) (sym same_choice) due;
      }

  module _ (old : Underway) (are : AreUnderway task traced (IsDue now (number ∷ numbers) old.schedule) old) (below : number < old.stuck) (before walked trip : Course)
      (at : slice_get old.trips number ≡ Some before) (gone : IsGoneOn task traced now number before walked trip) where
    within : number < length old.trips
    within = slice_get_within old.trips number before at

    pub is : IsUnderway task traced (IsDue now (number ∷ numbers) old.schedule) old.trips number
    is = are.way.each number below

    same : is.choice ≡ gone.choice
    same = same_Some is.choice gone.choice (sym is.packet.is_choice ∙ gone.packet.is_choice)

    in_time : IsInTime task number gone.choice
    in_time = subst (IsInTime task number) same is.in_time

    before_number : before.packet.number ≡ number
    before_number = are.way.numbers number before at

    -- it was not through before
    before_counts : (f : Journey → ℕ) → length trip.legs ≤ length gone.choice.generations → counted task f before ≡ 0
    before_counts f few = not_through task f number gone.choice before before_number gone.packet.is_choice (λ e. (let more = gone.more in omega (arith, e, few, more)))

    -- the next generation, if there is one, is a later one
    rises : (h : ℕ) → next_generation is.choice before ≡ Some now → next_generation gone.choice trip ≡ Some h → now < h
    rises h due e =
        let here : slice_get gone.choice.generations (length before.legs) ≡ Some now = subst (λ (c : Choice). slice_get c.generations (length before.legs) ≡ Some now) same due in
        let le = starts_rise (length task.graphs) (task.first number) gone.choice.generations in_time (length before.legs) (length trip.legs) now h gone.more here e in
        let apart : h ≡ now → ⊥ = λ k. gone.past (e ∙ ap Some k) in
        omega (arith, le, apart)

    -- all packets, where this one has gone on
    gone_on : (new : Underway) → (due : next_generation is.choice before ≡ Some now) → new.trips ≡ slice_set old.trips number trip → new.stuck ≡ old.stuck
        → length new.schedule ≡ length old.schedule
        → ((h k : ℕ) → IsIn k (slice_index_or old.schedule h []) → IsIn k (slice_index_or new.schedule h []))
        → ((h : ℕ) → next_generation gone.choice trip ≡ Some h → IsIn number (slice_index_or new.schedule h []))
        → AreCountsOf task new.trips new.counts → AreUnderway task traced (IsDue now numbers new.schedule) new
    gone_on new due trips stuck size stays put_there counts = record {
      way = record {
        size = size ∙ are.way.size;
        few = (let e = long in let few = are.way.few in omega (arith, e, few));
        stuck = (let e = long in let h = are.way.stuck in omega (arith, e, h, stuck));
        each = λ k less. elim (same_or_not k number) [
          | inl same_number ↦ subst (IsUnderway task traced (IsDue now numbers new.schedule) new.trips) (sym same_number) (record {
            bytes = gone.bytes;
            choice = gone.choice;
            packet = gone.packet;
            trip = trip;
            is_trip = ap (λ ts. slice_get ts number) trips ∙ get_set_same old.trips number trip within;
            in_time = in_time;
            stands = gone.stands;
            is_due = λ h e. inr (rises h due e, put_there h e);
          })
          | inr other ↦
              let others : slice_get new.trips k ≡ slice_get old.trips k = ap (λ ts. slice_get ts k) trips ∙ get_set_other old.trips number k trip other in
              let was = are.way.each k (omega (arith, less, stuck)) in
              trips_so task traced (IsDue now numbers new.schedule) old.trips new.trips k others
              (due_so task traced (IsDue now (number ∷ numbers) old.schedule) (IsDue now numbers new.schedule) old.trips k was (λ h e d.
              scheduled h k (next_due now h k number numbers old.schedule (λ s n. other s) d)))
        ];
        numbers = λ k t e. elim (same_or_not k number) [
          | inl same_number ↦
              let is_trip : trip ≡ t = same_Some trip t (sym (get_set_same old.trips number trip within) ∙ ap (λ ts. slice_get ts number) (sym trips) ∙ ap (slice_get new.trips) (sym same_number) ∙ e) in
              ap (λ (t : Course). t.packet.number) (sym is_trip) ∙ gone.stands.number_is ∙ sym same_number
          | inr other ↦ are.way.numbers k t (sym (ap (λ ts. slice_get ts k) trips ∙ get_set_other old.trips number k trip other) ∙ e)
        ];
        bytes = λ k bs h e. are.way.bytes k bs (let l = long in omega (arith, h, l)) e;
        legs = λ k c h e. are.way.legs k c (let l = long in omega (arith, h, l)) e;
        counts = counts;
      };
      fault = λ h. subst (IsFault task) (sym stuck) (are.fault (omega (arith, h, stuck)));
    }
      where
        long : length new.trips ≡ length old.trips
        long = ap length trips ∙ length-set old.trips number trip

        scheduled : (h k : ℕ) → IsDue now numbers old.schedule h k → IsDue now numbers new.schedule h k
        scheduled h k (inl d) = inl d
        scheduled h k (inr d) = inr (d.0, stays h k d.1)

    -- a packet has no more legs than its choice
    pub stands_few : length trip.legs ≤ length gone.choice.generations
    stands_few = by gone.stands.so_far
      where
        by : (trip.legs ≡ []) ⊎ IsKept task traced number gone.bytes gone.choice trip → length trip.legs ≤ length gone.choice.generations
        by (inl none) = (let e = ap length none in omega (arith, e))
        by (inr kept) =
            let count : length trip.legs ≡ length (take (length trip.legs) gone.choice.generations) =
            ap length kept.legs ∙ course_legs task.visit task.graphs task.workers number gone.bytes (take (length trip.legs) gone.choice.generations) kept.course kept.is in
            let cut = length-take (length trip.legs) gone.choice.generations in
            omega (arith, count, cut)

    -- it is put back
    pub put_back : (mid new : Underway) → next_generation is.choice before ≡ Some now → mid.trips ≡ old.trips → mid.schedule ≡ old.schedule → mid.counts ≡ old.counts → mid.stuck ≡ old.stuck
        → in_hand mid.walker ≡ walked → Keeps (next_generation gone.choice trip) number trip mid new → AreUnderway task traced (IsDue now numbers new.schedule) new
    put_back mid new due trips schedule counts stuck hand keeps = by (next_generation gone.choice trip) refl keeps.put
      where
        made : new.trips ≡ slice_set old.trips number trip
        made = keeps.trips ∙ ap (λ ts. slice_set ts number trip) trips

        by : (o : Option ℕ) → next_generation gone.choice trip ≡ o → IsPutBack o number (in_hand mid.walker).visits (in_hand mid.walker) mid new → AreUnderway task traced (IsDue now numbers new.schedule) new
        by (Some h) e put_is =
            let below : h < length old.schedule = (let b = starts_below (length task.graphs) (task.first number) gone.choice.generations in_time (length trip.legs) h e in let s = are.way.size in omega (arith, b, s)) in
            let scheduled : new.schedule ≡ put old.schedule h number = put_is.1 ∙ ap (λ ss. put ss h number) schedule in
            let less = slice_get_within gone.choice.generations (length trip.legs) h e in
            gone_on new due made (keeps.stuck ∙ stuck) (ap length scheduled ∙ length-set old.schedule h (slice_index_or old.schedule h [] ++ number ∷ []))
            (λ g k i. subst (λ (ss : List (List ℕ)). IsIn k (slice_index_or ss g [])) (sym scheduled) (in_put old.schedule h number g k below i))
            (λ g f. subst (λ n. IsIn number (slice_index_or new.schedule n [])) (same_Some h g (sym e ∙ f))
            (subst (λ (ss : List (List ℕ)). IsIn number (slice_index_or ss h [])) (sym scheduled) (put_is_in old.schedule h number below)))
            (subst (λ ts. AreCountsOf task ts new.counts) (sym made) (subst (AreCountsOf task (slice_set old.trips number trip)) (sym (put_is.0 ∙ counts))
            (counts_wait task old.trips old.counts number before trip are.way.counts at (λ f. before_counts f stands_few)
            (λ f. not_through task f number gone.choice trip gone.stands.number_is gone.packet.is_choice (λ k. omega (arith, k, less))))))
        by None e put_is =
            let whole : length trip.legs ≡ length gone.choice.generations = through_all e in
            let j = gone.through whole in
            let trace_is : (in_hand mid.walker).visits ++ drop_visit (end_of (in_hand mid.walker).outcome) ≡ trace j.0 =
            ap (λ (c : Course). c.visits ++ drop_visit (end_of c.outcome)) hand ∙ ap₂ (λ vs o. vs ++ drop_visit (end_of o)) j.2 j.3 in
            let end_is : end_of (in_hand mid.walker).outcome ≡ end_of j.0.course.outcome = ap (λ (c : Course). end_of c.outcome) hand ∙ ap end_of j.3 in
            let adds : Adds (trace j.0) (end_of j.0.course.outcome) old.counts new.counts =
            subst (λ t. Adds (trace j.0) (end_of j.0.course.outcome) t new.counts) counts
            (subst (λ vs. Adds vs (end_of j.0.course.outcome) mid.counts new.counts) trace_is
            (subst (λ o. Adds ((in_hand mid.walker).visits ++ drop_visit (end_of (in_hand mid.walker).outcome)) o mid.counts new.counts) end_is put_is.1)) in
            let there : journey_at task number ≡ Some j.0 = journey_there task number gone.bytes gone.choice gone.packet ∙ j.1 in
            let same_schedule : new.schedule ≡ old.schedule = put_is.0 ∙ schedule in
            gone_on new due made (keeps.stuck ∙ stuck) (ap length same_schedule)
            (λ g k i. subst (λ (ss : List (List ℕ)). IsIn k (slice_index_or ss g [])) (sym same_schedule) i)
            (λ g f. absurd (none-some g (sym e ∙ f)))
            (subst (λ ts. AreCountsOf task ts new.counts) (sym made)
            (counts_add task old.trips old.counts new.counts number before trip j.0 are.way.counts at (λ f. before_counts f stands_few)
            (λ f. through task f number gone.choice trip j.0 gone.stands.number_is gone.packet.is_choice whole there) adds))
          where
            through_all : next_generation gone.choice trip ≡ None → length trip.legs ≡ length gone.choice.generations
            through_all e =
                let past : length trip.legs < length gone.choice.generations → ⊥ =
                λ less. none-some _ (sym e ∙ slice_get-get_or gone.choice.generations (length trip.legs) 0 less) in
                let few = stands_few in
                omega (arith, past, few)

-- ---- all packets of a generation

-- none of them is left
pub none_left : (task : Task) (traced now : ℕ) (u : Underway) (numbers : List ℕ) → length numbers ≡ 0 → AreUnderway task traced (IsDue now numbers u.schedule) u
    → AreUnderway task traced (IsScheduled (now + 1) u.schedule) u
none_left task traced now u numbers none are = all_due_so task traced (IsDue now numbers u.schedule) (IsScheduled (now + 1) u.schedule) u are (λ k h d. by k h d)
  where
    by : (k h : ℕ) → IsDue now numbers u.schedule h k → IsScheduled (now + 1) u.schedule h k
    by k h (inl d) = absurd (omega (arith, slice_get_within numbers d.1.0 k d.1.1, none))
    by k h (inr d) = (let less = d.0 in omega (arith, less), d.1)

-- those that are taken out of the schedule are due now
pub taken_out : (task : Task) (traced now : ℕ) (old new : Underway) (numbers : List ℕ) → AreUnderway task traced (IsScheduled now old.schedule) old → numbers ≡ slice_index_or old.schedule now []
    → new.schedule ≡ slice_set old.schedule now [] → new.trips ≡ old.trips → new.counts ≡ old.counts → new.stuck ≡ old.stuck → AreUnderway task traced (IsDue now numbers new.schedule) new
taken_out task traced now old new numbers are is schedule trips counts stuck = record {
  way = record {
    size = ap length schedule ∙ length-set old.schedule now [] ∙ are.way.size;
    few = (let e = ap length trips in let h = are.way.few in omega (arith, e, h));
    stuck = (let e = ap length trips in let h = are.way.stuck in omega (arith, e, h, stuck));
    each = λ k less.
        trips_so task traced (IsDue now numbers new.schedule) old.trips new.trips k (ap (λ ts. slice_get ts k) trips)
        (due_so task traced (IsScheduled now old.schedule) (IsDue now numbers new.schedule) old.trips k (are.way.each k (omega (arith, less, stuck))) (λ h e d. by h k d (same_or_not h now)));
    numbers = λ k t e. are.way.numbers k t (ap (λ ts. slice_get ts k) (sym trips) ∙ e);
    bytes = λ k bs h e. are.way.bytes k bs (let l = ap length trips in omega (arith, h, l)) e;
    legs = λ k c h e. are.way.legs k c (let l = ap length trips in omega (arith, h, l)) e;
    counts = subst (AreCountsOf task new.trips) (sym counts) (subst (λ ts. AreCountsOf task ts old.counts) (sym trips) are.way.counts);
  };
  fault = λ h. subst (IsFault task) (sym stuck) (are.fault (omega (arith, h, stuck)));
}
  where
    by : (h k : ℕ) → IsScheduled now old.schedule h k → (h ≡ now) ⊎ (h ≡ now → ⊥) → IsDue now numbers new.schedule h k
    by h k d (inl same) = inl (same, subst (IsIn k) (ap (λ g. slice_index_or old.schedule g []) same ∙ sym is) d.1)
    by h k d (inr apart) =
        let later : now < h = (let le = d.0 in omega (arith, le, apart)) in
        inr (later, subst (λ (ss : List (List ℕ)). IsIn k (slice_index_or ss h [])) (sym schedule) (in_taken old.schedule now h k later d.1))

-- behind the last generation none is due any more
pub never_due : (task : Task) (traced least : ℕ) (u : Underway) → length task.graphs ≤ least → AreUnderway task traced (IsScheduled least u.schedule) u → AreUnderway task traced IsNeverDue u
never_due task traced least u past are = record {
  way = record {
    size = are.way.size;
    few = are.way.few;
    stuck = are.way.stuck;
    each = λ k below.
        let is = are.way.each k below in
        due_so task traced (IsScheduled least u.schedule) IsNeverDue u.trips k is (λ h e d.
        let there = starts_below (length task.graphs) (task.first k) is.choice.generations is.in_time (length is.trip.legs) h e in
        let le = d.0 in
        omega (arith, there, le, past));
    numbers = are.way.numbers;
    bytes = are.way.bytes;
    legs = are.way.legs;
    counts = are.way.counts;
  };
  fault = are.fault;
}
