-- For `Trips::begin` and `Trips::keep`: parts of lists that grow, and what is kept of packets in them.
use Rattle.std.proofs.Common.{◌≡◌, ℕ, ◌+◌, ◌≤◌, Bool, false, List, [], ◌∷◌, ◌++◌, length, map, take, drop, refl, sym, ap, subst, ◌∙◌, arith, length-append, length-drop}
use Rattle.std.specs.Prelude.{slice_set, All}
use Rattle.std.proofs.lemmas.Bool.{false≢true}
use Rattle.std.proofs.lemmas.List.{take-append-le, drop-append-le, map-set}
use Rattle.std.proofs.lemmas.List.Elements.{All-tail, All-push, All-set}
use Rattle.vg_model.specs.Leg.{Outcome, Sent, Dropped, Handed}
use Rattle.vg_model.specs.Journey.{Course}
use Rattle.vg_model.specs.Valid.{AreBytes, IsPacket}
use Rattle.vg_replay.specs.Legs.{outcome_of, IsUnlessDropped}
use Rattle.vg_replay.specs.Parts.{part_of, course_in, IsLonger, IsTripIn, HasGrown}
use Rattle.vg_replay.specs.Trips.{IsKeptOf}
use Rattle.vg_replay.specs.declared.trips.Part.{Part}
use Rattle.vg_replay.specs.declared.trips.Kept.{Kept}
use Rattle.vg_replay.specs.declared.trips.Lists.{Lists}

-- a part stays where more is behind the list
pub part_stays : {X : Type 0} (old new : List X) (place : Part) → IsLonger old new → place.at + place.len ≤ length old → part_of place new ≡ part_of place old
part_stays old new place longer within =
    ap (λ xs. take place.len (drop place.at xs)) longer.1
    ∙ ap (take place.len) (drop-append-le place.at old longer.0 (omega (arith, within)))
    ∙ take-append-le place.len (drop place.at old) longer.0 (let cut = length-drop place.at old in omega (arith, cut, within))

longer_within : {X : Type 0} (old new : List X) (n : ℕ) → IsLonger old new → n ≤ length old → n ≤ length new
longer_within old new n longer within = (let long = ap length longer.1 ∙ length-append old longer.0 in omega (arith, long, within))

-- what is kept of a packet stays
course_stays : (old new : Lists) (kept : Kept) → HasGrown old new → IsTripIn old kept → course_in new kept ≡ course_in old kept
course_stays old new kept grown trip =
    let legs = part_stays old.legs.items new.legs.items kept.legs grown.legs trip.legs in
    let bytes = part_stays old.bytes.items new.bytes.items kept.bytes grown.bytes trip.bytes in
    let visits = part_stays old.visits.items new.visits.items kept.visits grown.visits trip.visits in
    λ i. record {
      legs = legs i;
      outcome = outcome_of kept.outcome;
      packet = record {
        number = kept.number;
        bytes = bytes i;
        room = kept.room;
        checked = kept.checked;
        adjacency = kept.adjacency;
        interface = kept.interface;
      };
      visits = visits i;
    }

trip_stays : (old new : Lists) (kept : Kept) → HasGrown old new → IsTripIn old kept → IsTripIn new kept
trip_stays old new kept grown trip = record {
  legs = longer_within old.legs.items new.legs.items (kept.legs.at + kept.legs.len) grown.legs trip.legs;
  bytes = longer_within old.bytes.items new.bytes.items (kept.bytes.at + kept.bytes.len) grown.bytes trip.bytes;
  visits = longer_within old.visits.items new.visits.items (kept.visits.at + kept.visits.len) grown.visits trip.visits;
  few = trip.few;
  room = trip.room;
  short = trip.short;
  possible = subst (λ (c : Course). IsPacket c.packet) (sym (course_stays old new kept grown trip)) trip.possible;
}

-- what is kept of all packets stays
pub courses_stay : (old new : Lists) (kept : List Kept) → HasGrown old new → All (IsTripIn old) kept → map (course_in new) kept ≡ map (course_in old) kept
courses_stay old new [] grown all = refl
courses_stay old new (one ∷ kept) grown all =
    let first = course_stays old new one grown (all 0 one (omega arith)) in
    let others = courses_stay old new kept grown (All-tail (IsTripIn old) one kept all) in
    λ i. first i ∷ others i

pub trips_stay : (old new : Lists) (kept : List Kept) → HasGrown old new → All (IsTripIn old) kept → All (IsTripIn new) kept
trips_stay old new kept grown all = λ k d h. trip_stays old new _ grown (all k d h)

-- a packet is kept at its place
pub kept_at : (old new : Lists) (kept : List Kept) (before : List Course) (number : ℕ) (one : Kept) → HasGrown old new → All (IsTripIn old) kept → map (course_in old) kept ≡ before
    → map (course_in new) (slice_set kept number one) ≡ slice_set before number (course_in new one)
kept_at old new kept before number one grown all seen =
    map-set (course_in new) kept number one ∙ ap (λ cs. slice_set cs number (course_in new one)) (courses_stay old new kept grown all ∙ seen)

-- the packet that is walked, under its number
abbrev pub as_walked : (number : ℕ) → Course → Course
as_walked number now = record now { packet = record now.packet { number = number } }

pub walked_is_kept : (with_visits : Bool) (number : ℕ) (now : Course) → IsKeptOf with_visits number now (as_walked number now)
walked_is_kept with_visits number now = record { legs = refl; outcome = refl; packet = by now.outcome; number_is = refl; visits = λ h. refl }
  where
    by : (o : Outcome) → IsUnlessDropped o (record now.packet { number = number }) (record now.packet { number = number })
    by (Sent interface) = refl
    by (Dropped node error) = tt
    by (Handed node worker) = refl

-- one packet more is kept
pub one_kept : (lists : Lists) (kept more : List Kept) (one : Kept) → All (IsTripIn lists) kept → more ≡ kept ++ one ∷ [] → IsTripIn lists one → All (IsTripIn lists) more
one_kept lists kept more one all is trip = subst (All (IsTripIn lists)) (sym is) (All-push (IsTripIn lists) kept one all trip)

-- one that has done no leg
pub none_within : (lists : Lists) (kept : Kept) → kept.legs.at + kept.legs.len ≡ 0 → kept.bytes.at + kept.bytes.len ≡ 0 → kept.visits.at + kept.visits.len ≡ 0 → kept.room ≡ 64 → kept.checked ≡ false
    → IsTripIn lists kept
none_within lists kept legs bytes visits fresh unchecked =
    let none : part_of kept.bytes lists.bytes.items ≡ [] = ap (λ n. take n (drop kept.bytes.at lists.bytes.items)) (let e : kept.bytes.len ≡ 0 = omega (arith, bytes) in e) in
    record {
      legs = omega (arith, legs);
      bytes = omega (arith, bytes);
      visits = omega (arith, visits);
      few = omega (arith, legs);
      room = omega (arith, fresh);
      short = omega (arith, bytes, fresh);
      possible = record {
        bytes = subst AreBytes (sym none) tt;
        sound = λ h. absurd (false≢true (sym unchecked ∙ h));
      };
    }

-- a packet is written over another
pub kept_within : (old new : Lists) (kept : List Kept) (number : ℕ) (one : Kept) → HasGrown old new → All (IsTripIn old) kept → IsTripIn new one → All (IsTripIn new) (slice_set kept number one)
kept_within old new kept number one grown all trip = All-set (IsTripIn new) kept number one trip (trips_stay old new kept grown all)
