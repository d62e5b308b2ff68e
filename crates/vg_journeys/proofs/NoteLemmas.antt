-- For `laws::trips_are_journeys`: the nodes noted by all workers for a packet are the trace of its journey. And for `laws::turns_add_trips`: lists that count
-- the same give the same.
use Rattle.std.proofs.Common.{◌≡◌, ℕ, zero, suc, ◌+◌, ◌<◌, ◌≤◌, ◌⊎◌, inl, inr, Bool, true, false, List, [], ◌∷◌, ◌++◌, length, get_or, map, refl, sym, ap, subst, ◌∙◌, arith, append-nil, length-append}
use Rattle.std.specs.Prelude.{Some, ◌==◌, ◌&&◌, if◌then◌else◌}
use Rattle.std.specs.List.{sum_by, AllByRecursion, flat_map}
use Rattle.std.proofs.lemmas.Bool.{eq-eqb, ne_eqb}
use Rattle.std.proofs.lemmas.List.{ext_get_or}
use Rattle.std.proofs.lemmas.List.Sums.{sum_by-cons}
use Rattle.vg_model.specs.Count.{trace}
use Rattle.vg_journeys.specs.Chains.{AreChains}
use Rattle.vg_journeys.specs.Trips.{is_of, Run, Drawn, number_of, legs_before, Trip, legs_of, onward, trip_visits, noted_of, IsHandover, IsTrip}
use Rattle.vg_journeys.specs.Treks.{IsTrek, journey_of, drawn_from, journeys_of}
use Rattle.vg_journeys.proofs.TrekLemmas.{behind, later, legs_more}
use Rattle.vg_journeys.proofs.RunLemmas.{trace_is}
use Rattle.vg_journeys.proofs.JoinLemmas.{same_or_not}

abbrev one_if : Bool → ℕ
one_if b = if b then 1 else 0

-- lists that elements give, where at most one gives any
flat_length : {X : Type 0} (f : X → List ℕ) (xs : List X) → length (flat_map f xs) ≡ sum_by (λ x. length (f x)) xs
flat_length f [] = refl
flat_length f (x ∷ xs) = let rest = flat_length f xs in omega (arith, rest, length-append (f x) (flat_map f xs), sum_by-cons (λ x. length (f x)) x xs)

pub none_gives : {X : Type 0} (f : X → List ℕ) (is : X → ℕ) → ((x : X) → is x ≡ 0 → f x ≡ []) → (xs : List X) → sum_by is xs ≡ 0
    → (flat_map f xs ≡ []) × ((c : X → ℕ) → ((x : X) → is x ≡ 0 → c x ≡ 0) → sum_by c xs ≡ 0)
none_gives f is only [] none = (refl, λ c zeros. refl)
none_gives f is only (x ∷ xs) none =
    let split = sum_by-cons is x xs in
    let here : is x ≡ 0 = omega (arith, none, split) in
    let rest = none_gives f is only xs (omega (arith, none, split)) in
    (ap (λ l. l ++ flat_map f xs) (only x here) ∙ rest.0, λ c zeros. (let one = zeros x here in let more = rest.1 c zeros in omega (arith, one, more, sum_by-cons c x xs)))

one_gives : {X : Type 0} (f : X → List ℕ) (is : X → ℕ) → ((x : X) → is x ≡ 0 → f x ≡ []) → (p : ℕ) (xs : List X) → sum_by is xs ≤ 1
    → get_or (flat_map f xs) p 0 ≡ sum_by (λ x. get_or (f x) p 0) xs
one_gives f is only p [] few = refl
one_gives {X} f is only p (x ∷ xs) few = here (is x) refl (one_gives f is only p xs (omega (arith, few, sum_by-cons is x xs)))
  where
    split : sum_by is (x ∷ xs) ≡ is x + sum_by is xs
    split = sum_by-cons is x xs

    here : (n : ℕ) → is x ≡ n → get_or (flat_map f xs) p 0 ≡ sum_by (λ x. get_or (f x) p 0) xs → get_or (flat_map f (x ∷ xs)) p 0 ≡ sum_by (λ x. get_or (f x) p 0) (x ∷ xs)
    here zero e rest =
        let none = ap (λ l. get_or l p 0) (only x e) in
        let flat = ap (λ l. get_or (l ++ flat_map f xs) p 0) (only x e) in
        omega (arith, rest, none, flat, sum_by-cons (λ x. get_or (f x) p 0) x xs)
    here (suc n) e later =
        let rest = none_gives f is only xs (omega (arith, few, split, e)) in
        let none = rest.1 (λ x. get_or (f x) p 0) (λ y z. ap (λ l. get_or l p 0) (only y z)) in
        let flat = ap (λ l. get_or (f x ++ l) p 0) rest.0 in
        let nil = ap (λ l. get_or l p 0) (append-nil (f x)) in
        omega (arith, none, flat, nil, sum_by-cons (λ x. get_or (f x) p 0) x xs)

-- so two lists of elements that count the same give the same
pub same_given : {X : Type 0} (f : X → List ℕ) (is : X → ℕ) → ((x : X) → is x ≡ 0 → f x ≡ []) → (xs ys : List X) → sum_by is xs ≤ 1
    → ((c : X → ℕ) → ((x : X) → is x ≡ 0 → c x ≡ 0) → sum_by c xs ≡ sum_by c ys) → flat_map f xs ≡ flat_map f ys
same_given f is only xs ys few same =
    let few_too : sum_by is ys ≤ 1 = (let e = same is (λ x z. z) in omega (arith, e, few)) in
    let lengths = same (λ x. length (f x)) (λ x z. ap length (only x z)) in
    ext_get_or 0 (flat_map f xs) (flat_map f ys) (omega (arith, lengths, flat_length f xs, flat_length f ys))
    (λ i h. one_gives f is only i xs few ∙ same (λ x. get_or (f x) i 0) (λ x z. ap (λ l. get_or l i 0) (only x z)) ∙ sym (one_gives f is only i ys few_too))

-- nothing is noted of a trip of another number or another leg
pub noted_none : (number leg : ℕ) (t : Trip) → is_of number leg t ≡ 0 → noted_of number leg t ≡ []
noted_none number leg t z = here (number_of t.arrival == number && length (legs_before t.arrival) == leg) z
  where
    here : (b : Bool) → one_if b ≡ 0 → (if b then trip_visits t else []) ≡ []
    here true z = absurd (let e : 1 ≡ 0 = z in omega (arith, e))
    here false z = refl

of_other_number : (number leg : ℕ) (t : Trip) → (number_of t.arrival ≡ number → ⊥) → is_of number leg t ≡ 0
of_other_number number leg t not = ap (λ (b : Bool). if b && length (legs_before t.arrival) == leg then 1 else 0) (ne_eqb (number_of t.arrival) number not)

of_other_leg : (number leg : ℕ) (t : Trip) → (length (legs_before t.arrival) ≡ leg → ⊥) → is_of number leg t ≡ 0
of_other_leg number leg t not = ap (λ (b : Bool). if number_of t.arrival == number && b then 1 else 0) (ne_eqb (length (legs_before t.arrival)) leg not) ∙ here (number_of t.arrival == number)
  where
    here : (b : Bool) → one_if (b && false) ≡ 0
    here true = refl
    here false = refl

at_most_one : (number leg : ℕ) (t : Trip) → is_of number leg t ≤ 1
at_most_one number leg t = here (number_of t.arrival == number && length (legs_before t.arrival) == leg)
  where
    here : (b : Bool) → one_if b ≤ 1
    here true = omega arith
    here false = omega arith

-- all trips of a trek have its number
pub one_number : (run : Run) (number : ℕ) (t : Trip) (ts : List Trip) → number_of t.arrival ≡ number → IsTrek (onward t) ts → AllByRecursion (IsTrip run) (t ∷ ts)
    → AllByRecursion (λ t. number_of t.arrival ≡ number) (t ∷ ts)
one_number run number t [] same is all = (same, tt)
one_number run number t (u ∷ us) same is all =
    let next = behind t u us is in
    (same, one_number run number u us (ap number_of (sym next.arrival) ∙ all.0.number ∙ same) (later t u us is) all.1)

-- the legs of a trek rise one by one, from this number on
later_legs : (run : Run) (leg : ℕ) (t : Trip) (ts : List Trip) → leg ≤ length (legs_before t.arrival) → IsTrek (onward t) ts
    → AllByRecursion (λ t. leg ≤ length (legs_before t.arrival)) (t ∷ ts)
later_legs run leg t [] low is = (low, tt)
later_legs run leg t (u ∷ us) low is =
    let next = behind t u us is in
    let same : length (legs_of t) ≡ length (legs_before u.arrival) = ap (λ e. length (legs_before e)) next.arrival in
    (low, later_legs run leg u us (omega (arith, low, same, legs_more t)) (later t u us is))

none_of : (number leg : ℕ) (ts : List Trip) → AllByRecursion (λ t. suc leg ≤ length (legs_before t.arrival)) ts → sum_by (is_of number leg) ts ≡ 0
none_of number leg [] all = refl
none_of number leg (t ∷ ts) all =
    let high = all.0 in
    let one = of_other_leg number leg t (λ e. omega (arith, e, high)) in
    let rest = none_of number leg ts all.1 in
    omega (arith, one, rest, sum_by-cons (is_of number leg) t ts)

-- behind a trip, legs are higher
higher : (run : Run) (t : Trip) (ts : List Trip) → IsTrek (onward t) ts → AllByRecursion (λ u. suc (length (legs_before t.arrival)) ≤ length (legs_before u.arrival)) ts
higher run t [] is = tt
higher run t (u ∷ us) is =
    let next = behind t u us is in
    let same : length (legs_of t) ≡ length (legs_before u.arrival) = ap (λ e. length (legs_before e)) next.arrival in
    later_legs run (suc (length (legs_before t.arrival))) u us (omega (arith, same, legs_more t)) (later t u us is)

-- a trek has at most one trip of each leg
one_a_leg : (run : Run) (number leg : ℕ) (t : Trip) (ts : List Trip) → IsTrek (onward t) ts → sum_by (is_of number leg) (t ∷ ts) ≤ 1
one_a_leg run number leg t [] is = omega (arith, at_most_one number leg t, sum_by-cons (is_of number leg) t [])
one_a_leg run number leg t (u ∷ us) is = here (same_or_not (length (legs_before t.arrival)) leg) (one_a_leg run number leg u us (later t u us is))
  where
    here : (length (legs_before t.arrival) ≡ leg) ⊎ (length (legs_before t.arrival) ≡ leg → ⊥) → sum_by (is_of number leg) (u ∷ us) ≤ 1 → sum_by (is_of number leg) (t ∷ u ∷ us) ≤ 1
    here (inl same) rest =
        let none = none_of number leg (u ∷ us) (subst (λ k. AllByRecursion (λ u. suc k ≤ length (legs_before u.arrival)) (u ∷ us)) same (higher run t (u ∷ us) is)) in
        omega (arith, none, at_most_one number leg t, sum_by-cons (is_of number leg) t (u ∷ us))
    here (inr not) rest =
        let none = of_other_leg number leg t not in
        omega (arith, none, rest, sum_by-cons (is_of number leg) t (u ∷ us))

-- a trek has at most four trips
pub few_trips : (run : Run) (t : Trip) (ts : List Trip) → length (legs_before t.arrival) ≤ 3 → IsTrek (onward t) ts → AllByRecursion (IsTrip run) (t ∷ ts)
    → length (legs_before t.arrival) + length (t ∷ ts) ≤ 4
few_trips run t [] few is all = omega (arith, few)
few_trips run t (u ∷ us) few is all =
    let next = behind t u us is in
    let over = subst (λ o. IsHandover all.0.graph run.workers t.worker (length (legs_before t.arrival)) o t.refused) next.outcome all.0.handover in
    let low = over.2 in
    let same : length (legs_of t) ≡ length (legs_before u.arrival) = ap (λ e. length (legs_before e)) next.arrival in
    let rest = few_trips run u us (omega (arith, same, legs_more t, low)) (later t u us is) all.1 in
    omega (arith, rest, same, legs_more t)

-- so many numbers from one on
numbers : ℕ → ℕ → List ℕ
numbers from zero = []
numbers from (suc n) = from ∷ numbers (suc from) n

none_noted : (number leg : ℕ) (ts : List Trip) → sum_by (is_of number leg) ts ≡ 0 → flat_map (noted_of number leg) ts ≡ []
none_noted number leg ts none = (none_gives (noted_of number leg) (is_of number leg) (noted_none number leg) ts none).0

-- leg by leg, a trek notes all that it visits
no_more : (number from n : ℕ) (ts : List Trip) → AllByRecursion (λ t. length (legs_before t.arrival) < from) ts
    → flat_map (λ leg. flat_map (noted_of number leg) ts) (numbers from n) ≡ []
unfolding numbers
no_more number from zero ts low = refl
no_more number from (suc n) ts low =
    ap (λ l. l ++ flat_map (λ leg. flat_map (noted_of number leg) ts) (numbers (suc from) n)) (none_noted number from ts (none ts low))
    ∙ no_more number (suc from) n ts (raise ts low)
  where
    none : (ts : List Trip) → AllByRecursion (λ t. length (legs_before t.arrival) < from) ts → sum_by (is_of number from) ts ≡ 0
    none [] low = refl
    none (t ∷ ts) low =
        let h = low.0 in
        let one = of_other_leg number from t (λ e. omega (arith, e, h)) in
        let rest = none ts low.1 in
        omega (arith, one, rest, sum_by-cons (is_of number from) t ts)

    raise : (ts : List Trip) → AllByRecursion (λ t. length (legs_before t.arrival) < from) ts → AllByRecursion (λ t. length (legs_before t.arrival) < suc from) ts
    raise [] low = tt
    raise (t ∷ ts) low = ((let h = low.0 in omega (arith, h)), raise ts low.1)

-- legs above that of a trip note nothing of it
without : (number from n k : ℕ) (t : Trip) (us : List Trip) → length (legs_before t.arrival) ≡ from → from < k
    → flat_map (λ leg. flat_map (noted_of number leg) (t ∷ us)) (numbers k n) ≡ flat_map (λ leg. flat_map (noted_of number leg) us) (numbers k n)
unfolding numbers
without number from zero k t us at h = refl
without number from (suc n) k t us at h =
    ap (λ l. (l ++ flat_map (noted_of number k) us) ++ flat_map (λ leg. flat_map (noted_of number leg) (t ∷ us)) (numbers (suc k) n))
    (noted_none number k t (of_other_leg number k t (λ e. omega (arith, e, at, h))))
    ∙ ap (λ l. flat_map (noted_of number k) us ++ l) (without number from n (suc k) t us at (omega (arith, h)))

own_leg_noted : (run : Run) (number from : ℕ) (t : Trip) (ts : List Trip) → length (legs_before t.arrival) ≡ from → number_of t.arrival ≡ number → IsTrek (onward t) ts
    → flat_map (noted_of number from) (t ∷ ts) ≡ trip_visits t
own_leg_noted run number from t ts at same is =
    let own : noted_of number from t ≡ trip_visits t = rw (eq-eqb (number_of t.arrival) number same, eq-eqb (length (legs_before t.arrival)) from at) refl in
    let high = subst (λ k. AllByRecursion (λ u. suc k ≤ length (legs_before u.arrival)) ts) at (higher run t ts is) in
    ap (λ l. l ++ flat_map (noted_of number from) ts) own ∙ ap (λ l. trip_visits t ++ l) (none_noted number from ts (none_of number from ts high)) ∙ append-nil (trip_visits t)

leg_by_leg : (run : Run) (number from n : ℕ) (t : Trip) (ts : List Trip) → length (legs_before t.arrival) ≡ from → length (t ∷ ts) ≤ n → IsTrek (onward t) ts
    → AllByRecursion (λ t. number_of t.arrival ≡ number) (t ∷ ts)
    → flat_map (λ leg. flat_map (noted_of number leg) (t ∷ ts)) (numbers from n) ≡ flat_map trip_visits (t ∷ ts)
unfolding numbers
leg_by_leg run number from zero t ts at few is all = absurd (omega (arith, few))
leg_by_leg run number from (suc n) t [] at few is all =
    ap (λ l. l ++ flat_map (λ leg. flat_map (noted_of number leg) (t ∷ [])) (numbers (suc from) n)) (own_leg_noted run number from t [] at all.0 is)
    ∙ ap (λ l. trip_visits t ++ l) (without number from n (suc from) t [] at (omega arith) ∙ no_more number (suc from) n [] tt)
leg_by_leg run number from (suc n) t (u ∷ us) at few is all =
    let next = behind t u us is in
    let same : length (legs_of t) ≡ length (legs_before u.arrival) = ap (λ e. length (legs_before e)) next.arrival in
    ap (λ l. l ++ flat_map (λ leg. flat_map (noted_of number leg) (t ∷ u ∷ us)) (numbers (suc from) n)) (own_leg_noted run number from t (u ∷ us) at all.0 is)
    ∙ ap (λ l. trip_visits t ++ l)
    (without number from n (suc from) t (u ∷ us) at (omega arith) ∙ leg_by_leg run number (suc from) n u us (omega (arith, same, legs_more t, at)) (omega (arith, few)) (later t u us is) all.1)

-- what is noted of a trek, leg by leg, is the trace of its journey
pub noted_trek : (run : Run) (number : ℕ) (bytes : List ℕ) (trek : List Trip) → IsTrek (Some (Drawn number bytes)) trek → AllByRecursion (IsTrip run) trek
    → flat_map (λ leg. flat_map (noted_of number leg) trek) (0 ∷ 1 ∷ 2 ∷ 3 ∷ []) ≡ trace (journey_of number trek)
unfolding numbers
noted_trek run number bytes [] is all = absurd is
noted_trek run number bytes (t ∷ ts) is all =
    let none : length (legs_before t.arrival) ≡ 0 = ap (λ e. length (legs_before e)) is.0 in
    let few = few_trips run t ts (omega (arith, none)) is.1 all in
    leg_by_leg run number 0 4 t ts none (omega (arith, few, none)) is.1 (one_number run number t ts (ap number_of is.0) is.1 all) ∙ trace_is number bytes (t ∷ ts) is

-- trips of other numbers count nothing
other_trek : (run : Run) (number leg other : ℕ) (bytes : List ℕ) (trek : List Trip) (c : Trip → ℕ) → (other ≡ number → ⊥) → ((t : Trip) → is_of number leg t ≡ 0 → c t ≡ 0)
    → IsTrek (Some (Drawn other bytes)) trek → AllByRecursion (IsTrip run) trek → sum_by c trek ≡ 0
other_trek run number leg other bytes [] c not zeros is all = absurd is
other_trek run number leg other bytes (t ∷ ts) c not zeros is all = none (t ∷ ts) (one_number run other t ts (ap number_of is.0) is.1 all)
  where
    none : (us : List Trip) → AllByRecursion (λ t. number_of t.arrival ≡ other) us → sum_by c us ≡ 0
    none [] same = refl
    none (u ∷ us) same =
        let one = zeros u (of_other_number number leg u (λ e. not (sym same.0 ∙ e))) in
        let rest = none us same.1 in
        omega (arith, one, rest, sum_by-cons c u us)

other_treks : (run : Run) (number leg from : ℕ) (packets : List (List ℕ)) (treks : List (List Trip)) (c : Trip → ℕ) → number < from → ((t : Trip) → is_of number leg t ≡ 0 → c t ≡ 0)
    → AreChains (λ (t : Trip). t.arrival) onward (drawn_from from packets) treks → AllByRecursion (AllByRecursion (IsTrip run)) treks → sum_by (λ trek. sum_by c trek) treks ≡ 0
other_treks run number leg from [] [] c low zeros are all = refl
other_treks run number leg from (bytes ∷ packets) (trek ∷ treks) c low zeros are all =
    let one = other_trek run number leg from bytes trek c (λ e. omega (arith, e, low)) zeros are.0 all.0 in
    let rest = other_treks run number leg (from + 1) packets treks c (omega (arith, low)) zeros are.1 all.1 in
    omega (arith, one, rest, sum_by-cons (λ trek. sum_by c trek) trek treks)
other_treks run number leg from [] (trek ∷ treks) c low zeros are all = absurd are
other_treks run number leg from (bytes ∷ packets) [] c low zeros are all = absurd are

-- the trek at a place
pub record IsPlaced (run : Run) (number from place : ℕ) (packets : List (List ℕ)) (treks : List (List Trip)) : Type 0 where
  pub bytes : List ℕ
  pub trek : List Trip
  pub is : IsTrek (Some (Drawn number bytes)) trek
  pub all : AllByRecursion (IsTrip run) trek
  pub at : get_or (map trace (journeys_of from treks)) place [] ≡ trace (journey_of number trek)
  pub same : (leg : ℕ) (c : Trip → ℕ) → ((t : Trip) → is_of number leg t ≡ 0 → c t ≡ 0) → sum_by (λ trek. sum_by c trek) treks ≡ sum_by c trek

pub placed : (run : Run) (from place : ℕ) (packets : List (List ℕ)) (treks : List (List Trip)) → place < length packets
    → AreChains (λ (t : Trip). t.arrival) onward (drawn_from from packets) treks → AllByRecursion (AllByRecursion (IsTrip run)) treks → IsPlaced run (from + place) from place packets treks
placed run from place [] treks h are all = absurd (omega (arith, h))
placed run from place (bytes ∷ packets) [] h are all = absurd are
placed run from zero (bytes ∷ packets) (trek ∷ treks) h are all =
    let same : from ≡ from + 0 = omega arith in
    record {
      bytes = bytes;
      trek = trek;
      is = subst (λ n. IsTrek (Some (Drawn n bytes)) trek) same are.0;
      all = all.0;
      at = ap (λ n. trace (journey_of n trek)) same;
      same = λ leg c zeros.
          let rest = other_treks run (from + 0) leg (from + 1) packets treks c (omega arith) zeros are.1 all.1 in
          omega (arith, rest, sum_by-cons (λ trek. sum_by c trek) trek treks);
    }
placed run from (suc place) (bytes ∷ packets) (trek ∷ treks) h are all =
    let rest = placed run (from + 1) place packets treks (omega (arith, h)) are.1 all.1 in
    let same : from + 1 + place ≡ from + suc place = omega arith in
    let moved : IsPlaced run (from + suc place) (from + 1) place packets treks = subst (λ n. IsPlaced run n (from + 1) place packets treks) same rest in
    record {
      bytes = moved.bytes;
      trek = moved.trek;
      is = moved.is;
      all = moved.all;
      at = moved.at;
      same = λ leg c zeros.
          let here = other_trek run (from + suc place) leg from bytes trek c (λ e. omega (arith, e)) zeros are.0 all.0 in
          let more = moved.same leg c zeros in
          omega (arith, here, more, sum_by-cons (λ trek. sum_by c trek) trek treks);
    }

-- at most one trip has this number and this leg
pub one_trip : (run : Run) (number leg : ℕ) (bytes : List ℕ) (trek : List Trip) → IsTrek (Some (Drawn number bytes)) trek → sum_by (is_of number leg) trek ≤ 1
one_trip run number leg bytes [] is = absurd is
one_trip run number leg bytes (t ∷ ts) is = one_a_leg run number leg t ts is.1
