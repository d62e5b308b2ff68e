-- For `went_of`: a packet went as its journey says.
use Rattle.std.proofs.Common.{◌≡◌, ℕ, List, map, sym, ap, subst, ◌∙◌, arith}
use Rattle.std.specs.Prelude.{Some, slice_get, option_map}
use Rattle.std.specs.List.{AllByRecursion}
use Rattle.std.proofs.lemmas.Option.{same_Some, slice_get-map, slice_get_within}
use Rattle.vg_model.specs.declared.fates.Leg.{Leg}
use Rattle.vg_model.specs.Journey.{Course, Journey, end_of}
use Rattle.vg_model.proofs.LegEnds.{all_at}
use Rattle.vg_capture.specs.declared.captures.Captured.{Captured}
use Rattle.vg_report.specs.declared.reports.PacketLine.{PacketLine}
use Rattle.vg_replay.specs.Replays.{Told, told}
use Rattle.vg_replay.proofs.ReplayLemmas.{all_by_get, get_some}
use Rattle.vg_check.proofs.ToldLemmas.{told_of, as_many, told_at}
use Rattle.vg_model.specs.Packet.{fresh}
use Rattle.vg_ways.specs.declared.stories.Went.{Went}
use Rattle.vg_ways.specs.Legs.{after_legs}
use Rattle.vg_why.specs.Journeys.{Gone, IsGone}
use Rattle.vg_why.specs.Trips.{AreTrips, AreLegsUnder, AreUnder}

-- what two lists have at a place
record AreAt {X Y : Type 0} (xs : List X) (ys : List Y) (k : ℕ) (x : X) (y : Y) : Type 0 where
  one : slice_get xs k ≡ Some x
  other : slice_get ys k ≡ Some y

-- it comes to the same where the lists do
same_at : {X Y Z : Type 0} (f : X → Z) (g : Y → Z) {xs : List X} {ys : List Y} {k : ℕ} {x : X} {y : Y} → AreAt xs ys k x y → map f xs ≡ map g ys → f x ≡ g y
same_at f g {xs = xs} {ys = ys} {k = k} {x = x} {y = y} at same =
    same_Some (f x) (g y) (ap (option_map f) (sym at.one) ∙ sym (slice_get-map f xs k) ∙ ap (λ l. slice_get l k) same ∙ slice_get-map g ys k ∙ ap (option_map g) at.other)

-- what a replay and a line have of a packet
pub record IsSeen (lines : List PacketLine) (trips : List Course) (number : ℕ) (went : Went) : Type 0 where
  pub trip : Course
  pub line : PacketLine
  pub is_trip : slice_get trips number ≡ Some trip
  pub is_line : slice_get lines number ≡ Some line
  pub number_is : went.number ≡ number
  pub legs : went.legs.now ≡ trip.legs
  pub visits : went.visits.now ≡ trip.visits
  pub end : went.end ≡ end_of trip.outcome
  pub accepted : went.accepted ≡ line.congested

pub gone_is : (gone : Gone) {lines : List PacketLine} {trips : List Course} (number : ℕ) (went : Went) → AreTrips gone lines trips → IsSeen lines trips number went
    → option_map (λ (packet : Captured). packet.bytes) (slice_get gone.capture.packets number) ≡ Some went.bytes.now → IsGone gone number went
gone_is gone {lines = lines} {trips = trips} number went are seen bytes =
    let many = as_many trips gone.js are.told_is in
    let within = slice_get_within trips number seen.trip seen.is_trip in
    let j = get_some gone.js number (omega (arith, many, within)) in
    let trip_at : AreAt trips gone.js number seen.trip j.0 = record { one = seen.is_trip; other = j.1 } in
    let line_at : AreAt lines gone.js number seen.line j.0 = record { one = seen.is_line; other = j.1 } in
    let same : told seen.trip ≡ told_of j.0 = told_at trips gone.js are.told_is number seen.trip j.0 seen.is_trip j.1 in
    let legs : went.legs.now ≡ j.0.course.legs = seen.legs ∙ ap (λ (t : Told). t.legs) same in
    let visits : went.visits.now ≡ j.0.course.visits =
    seen.visits ∙ same_at (λ (trip : Course). trip.visits) (λ (j : Journey). j.course.visits) trip_at are.visits in
    record {
      number_is = seen.number_is;
      bytes = bytes;
      j = j.0;
      is_journey = j.1;
      legs = legs;
      visits = visits;
      end = seen.end ∙ ap (λ (t : Told). end_of t.outcome) same;
      accepted = seen.accepted ∙ same_at (λ (line : PacketLine). line.congested) (λ (j : Journey). j.accepted) line_at are.accepted;
      out = λ short. (λ i. after_legs gone.visit gone.plan.graphs (legs i) (visits i) (fresh number went.bytes.now)) ∙ are.out number went.bytes.now j.0 bytes j.1 short;
    }

-- the legs of a packet are under generations that there are
pub legs_under : (n : ℕ) (trips : List Course) (number : ℕ) {trip : Course} {legs : List Leg} → AreUnder n trips → slice_get trips number ≡ Some trip → legs ≡ trip.legs → AreLegsUnder n legs
legs_under n trips number {trip = trip} under at same =
    subst (AreLegsUnder n) (sym same) (all_at (λ (trip : Course). AreLegsUnder n trip.legs) trips number trip at under)

-- so are those of trips, where those of their journeys are
pub trips_under : (n : ℕ) (trips : List Course) (js : List Journey) → map told trips ≡ map (λ (j : Journey). told j.course) js
    → AllByRecursion (λ (j : Journey). AreLegsUnder n j.course.legs) js → AreUnder n trips
trips_under n trips js same under = all_by_get (λ (trip : Course). AreLegsUnder n trip.legs) trips (λ k t at.
    let many = as_many trips js same in
    let j = get_some js k (let h = slice_get_within trips k t at in omega (arith, h, many)) in
    let both : told t ≡ told_of j.0 = told_at trips js same k t j.0 at j.1 in
    subst (AreLegsUnder n) (sym (ap (λ (t : Told). t.legs) both)) (all_at (λ (j : Journey). AreLegsUnder n j.course.legs) js k j.0 j.1 under))
