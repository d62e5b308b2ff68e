-- For `laws::turns_add_up`, and for the other laws that put turns together: what a worker does in turns, one behind the other.
use Rattle.std.proofs.Common.{◌≡◌, ℕ, ◌+◌, ◌≤◌, ◌&&◌, Bool, true, false, cond, List, [], ◌∷◌, ◌++◌, length, refl, sym, ap, ◌∙◌, arith, append_assoc, append-nil}
use Rattle.std.specs.Prelude.{Option, Some, None, ◌==◌, if◌then◌else◌}
use Rattle.std.specs.List.{sum_by, count_by, AllByRecursion, filter_map, flat_map}
use Rattle.std.proofs.lemmas.List.Sums.{sum_by-cons, sum_by-append}
use Rattle.std.proofs.lemmas.List.Elements.{filter_map-append}
use Rattle.std.proofs.lemmas.Grind.{flat_map-append}
use Rattle.vg_model.specs.declared.fates.Fate.{Fate}
use Rattle.vg_model.specs.Leg.{Outcome, Sent, Dropped, Handed}
use Rattle.vg_model.specs.Count.{is_drop, is_sent_on}
use Rattle.vg_counters.specs.Notes.{nodes_of}
use Rattle.vg_journeys.specs.Chains.{count_some}
use Rattle.vg_journeys.specs.Trips.{is_of, Run, Trip, number_of, legs_before, onward, logged, sent_by_trip, trip_visits, noted_of, IsTrip}
use Rattle.vg_journeys.specs.Treks.{IsRefusal}
use Rattle.vg_journeys.specs.Accounts.{Account, frames_with, drawn_pieces, freed_pieces, Adds}

pub all_append : {X : Type 0} (P : X → Type 0) (xs ys : List X) → AllByRecursion P xs → AllByRecursion P ys → AllByRecursion P (xs ++ ys)
all_append P [] ys one two = two
all_append P (x ∷ xs) ys one two = (one.0, all_append P xs ys one.1 two)

pub all_mono : {X : Type 0} (P Q : X → Type 0) → ((x : X) → P x → Q x) → (xs : List X) → AllByRecursion P xs → AllByRecursion Q xs
all_mono P Q each [] all = tt
all_mono P Q each (x ∷ xs) all = (each x all.0, all_mono P Q each xs all.1)

-- a refusal names no more than a queue accepts later
pub refusal_later : (slots : ℕ) (less more : ℕ → ℕ → ℕ) (worker : ℕ) (outcome : Outcome) (refused : Option ℕ) → ((to : ℕ) → less worker to ≤ more worker to)
    → IsRefusal slots less worker outcome refused → IsRefusal slots more worker outcome refused
refusal_later slots less more worker (Handed node to) (Some count) grows is = (is.0, let h = is.1 in let k = grows to in omega (arith, h, k))
refusal_later slots less more worker (Handed node to) None grows is = tt
refusal_later slots less more worker (Sent interface) refused grows is = tt
refusal_later slots less more worker (Dropped node error) refused grows is = tt

count_append : {X : Type 0} (p : X → Bool) (xs ys : List X) → count_by p (xs ++ ys) ≡ count_by p xs + count_by p ys
count_append p xs ys = sum_by-append (λ x. cond (p x) 1 0) xs ys

-- nothing is done
pub adds_nothing : (run : Run) (a : Account) → Adds run a a []
adds_nothing run a = record {
  each = tt;
  own = tt;
  refusals = tt;
  same_worker = refl;
  entered = λ count. omega arith;
  went = λ count. omega arith;
  queues = λ to. omega arith;
  log = sym (append-nil a.log);
  sent = sym (append-nil a.sent);
  size = record { nodes = refl; interfaces = refl };
  visits = λ node. omega arith;
  drops = λ node error. omega arith;
  sends = λ interface. omega arith;
  traced = refl;
  notes = λ number leg h few first. sym (append-nil (nodes_of number leg a.trace));
  allocated = omega arith;
  freed = omega arith;
}

abbrev one_if : Bool → ℕ
one_if b = if b then 1 else 0

-- trips of other numbers and legs note nothing for these
noted_for_others : (number leg : ℕ) (ts : List Trip) → sum_by (is_of number leg) ts ≡ 0 → flat_map (noted_of number leg) ts ≡ []
noted_for_others number leg [] none = refl
noted_for_others number leg (t ∷ ts) none =
    let split = sum_by-cons (is_of number leg) t ts in
    ap (λ ns. ns ++ flat_map (noted_of number leg) ts) (by (number_of t.arrival == number && length (legs_before t.arrival) == leg) (omega (arith, none, split)))
    ∙ noted_for_others number leg ts (omega (arith, none, split))
  where
    by : (b : Bool) → one_if b ≡ 0 → (if b then trip_visits t else []) ≡ []
    by true z = absurd (let e : one_if true ≡ 0 = z in omega (arith, e))
    by false z = refl

-- a turn behind others: the trips of all of them
pub adds_more : (run : Run) (a b c : Account) (trips more : List Trip) → Adds run a b trips → Adds run b c more → Adds run a c (trips ++ more)
adds_more run a b c trips more one two =
    let split : filter_map logged (trips ++ more) ≡ filter_map logged trips ++ filter_map logged more = filter_map-append logged trips more in
    record {
      each = all_append (IsTrip run) trips more one.each two.each;
      own = all_append (λ t. t.worker ≡ c.worker) trips more (all_mono (λ t. t.worker ≡ b.worker) (λ t. t.worker ≡ c.worker) (λ t is. is ∙ sym two.same_worker) trips one.own) two.own;
      refusals = all_append (λ t. IsRefusal run.slots (λ from to. length (frames_with to c.put)) t.worker t.way.outcome t.refused) trips more
          (all_mono (λ t. IsRefusal run.slots (λ from to. length (frames_with to b.put)) t.worker t.way.outcome t.refused)
          (λ t. IsRefusal run.slots (λ from to. length (frames_with to c.put)) t.worker t.way.outcome t.refused)
          (λ t is. refusal_later run.slots (λ from to. length (frames_with to b.put)) (λ from to. length (frames_with to c.put)) t.worker t.way.outcome t.refused two.queues is) trips one.refusals)
          two.refusals;
      same_worker = two.same_worker ∙ one.same_worker;
      entered = λ count. let h = one.entered count in let k = two.entered count in omega (arith, h, k, sum_by-append (λ t. count t.arrival) trips more);
      went = λ count. let h = one.went count in let k = two.went count in omega (arith, h, k, sum_by-append (λ t. count_some count (onward t)) trips more);
      queues = λ to. let h = one.queues to in let k = two.queues to in omega (arith, h, k);
      log = two.log ∙ ap (λ l. l ++ filter_map logged more) one.log ∙ append_assoc a.log (filter_map logged trips) (filter_map logged more) ∙ ap (λ l. a.log ++ l) (sym split);
      sent = two.sent ∙ ap (λ l. l ++ filter_map sent_by_trip more) one.sent ∙ append_assoc a.sent (filter_map sent_by_trip trips) (filter_map sent_by_trip more)
          ∙ ap (λ l. a.sent ++ l) (sym (filter_map-append sent_by_trip trips more));
      size = record { nodes = two.size.nodes ∙ one.size.nodes; interfaces = two.size.interfaces ∙ one.size.interfaces };
      visits = λ node. let h = one.visits node in let k = two.visits node in omega (arith, h, k, sum_by-append (λ t. count_by (λ n. n == node) (trip_visits t)) trips more);
      drops = λ node error.
          let h = one.drops node error in
          let k = two.drops node error in
          let e = ap (count_by (λ (f : Fate). is_drop node error f.end)) split in
          omega (arith, h, k, e, count_append (λ (f : Fate). is_drop node error f.end) (filter_map logged trips) (filter_map logged more));
      sends = λ interface.
          let h = one.sends interface in
          let k = two.sends interface in
          let e = ap (count_by (λ (f : Fate). is_sent_on interface f.end)) split in
          omega (arith, h, k, e, count_append (λ (f : Fate). is_sent_on interface f.end) (filter_map logged trips) (filter_map logged more));
      traced = two.traced ∙ one.traced;
      notes = λ number leg h few first.
          let both = sum_by-append (is_of number leg) trips more in
          let same = one.traced in
          let begin : nodes_of number leg b.trace ≡ nodes_of number leg a.trace ++ flat_map (noted_of number leg) trips =
          one.notes number leg h (omega (arith, few, both)) (λ some. first (omega (arith, some, both))) in
          two.notes number leg (omega (arith, h, same)) (omega (arith, few, both))
          (λ some. begin ∙ ap (λ ns. ns ++ flat_map (noted_of number leg) trips) (first (omega (arith, some, both))) ∙ noted_for_others number leg trips (omega (arith, few, both, some)))
          ∙ ap (λ ns. ns ++ flat_map (noted_of number leg) more) begin
          ∙ append_assoc (nodes_of number leg a.trace) (flat_map (noted_of number leg) trips) (flat_map (noted_of number leg) more)
          ∙ ap (λ ns. nodes_of number leg a.trace ++ ns) (sym (flat_map-append (noted_of number leg) trips more));
      allocated = (let h = one.allocated in let k = two.allocated in omega (arith, h, k, sum_by-append (λ t. drawn_pieces t.arrival) trips more));
      freed = (let h = one.freed in let k = two.freed in omega (arith, h, k, sum_by-append freed_pieces trips more));
    }
