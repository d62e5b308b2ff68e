-- For `all_hands`, `first_unlawful` and what they call: how often packets were handed over, and the pushes that were refused.
use Rattle.std.proofs.Common.{◌≡◌, ℕ, zero, suc, ◌+◌, ◌-◌, ◌*◌, ◌<◌, ◌≤◌, Bool, true, false, ◌==◌, ◌&&◌, List, [], ◌∷◌, ◌++◌, length, get_or, take, drop, refl, sym, ap, subst, ◌∙◌, inl, inr, arith}
use Rattle.std.specs.Prelude.{Option, Some, slice_get, slice_index, slice_set, replicate, if◌then◌else◌}
use Rattle.std.specs.List.{AllByRecursion}
use Rattle.std.proofs.lemmas.Bool.{eqb-true, eqb-false}
use Rattle.std.proofs.lemmas.List.{take_more, take_all, drop_more, get_or-set_same, get_or-set_other}
use Rattle.std.proofs.lemmas.List.Sums.{sum_by-cons, sum_by-append}
use Rattle.vg_model.specs.declared.fates.Leg.{Leg}
use Rattle.vg_model.specs.Leg.{Outcome, Handed}
use Rattle.vg_model.specs.Journey.{Course}
use Rattle.vg_model.specs.Lawful.{hands_in, last_worker}
use Rattle.vg_report.specs.declared.reports.PacketLine.{PacketLine}
use Rattle.vg_journeys.proofs.JoinLemmas.{same_or_not}
use Rattle.vg_check.specs.Hands.{handed, AreHands, IsRefusalOf, IsRefusalAt, AreRefusalsBelow, IsFirstUnlawful}

-- the legs from one before a place on are counted
pub record IsCounted (from to : ℕ) (legs : List Leg) (count k : ℕ) : Type 0 where
  pub is : count ≡ hands_in from to (drop (k - 1) legs)
  pub few : count + k ≤ length legs
  pub within : k ≤ length legs

-- nothing is counted of the last leg
last_alone : (from to : ℕ) (legs : List Leg) (n : ℕ) → n ≡ length legs - 1 → hands_in from to (drop n legs) ≡ 0
last_alone from to [] zero e = refl
last_alone from to [] (suc n) e = absurd (omega arith)
last_alone from to (a ∷ []) zero e = refl
last_alone from to (a ∷ []) (suc n) e = absurd (omega arith)
last_alone from to (a ∷ b ∷ legs) zero e = absurd (omega arith)
last_alone from to (a ∷ b ∷ legs) (suc n) e = last_alone from to (b ∷ legs) n (omega arith)

pub count_starts : (from to : ℕ) (legs : List Leg) → IsCounted from to legs 0 (length legs)
count_starts from to legs = record { is = sym (last_alone from to legs (length legs - 1) refl); few = omega arith; within = omega arith }

-- one place more, from the end
pub count_next : (from to : ℕ) (legs : List Leg) (count k one : ℕ) (d : Leg) → IsCounted from to legs count k → 1 < k
    → one ≡ (if (get_or legs (k - 1 - 1) d).worker == from && (get_or legs (k - 1) d).worker == to then 1 else 0) → one ≤ 1 → IsCounted from to legs (count + one) (k - 1)
count_next from to legs count k one d so_far some is few =
    let within = so_far.within in
    let before = so_far.few in
    let a : Leg = get_or legs (k - 1 - 1) d in
    let b : Leg = get_or legs (k - 1) d in
    let place : k - 1 - 1 + 1 ≡ k - 1 = omega arith in
    let first : drop (k - 1 - 1) legs ≡ a ∷ drop (k - 1 - 1 + 1) legs = drop_more legs (k - 1 - 1) d (omega (arith, within, some)) in
    let second : drop (k - 1) legs ≡ b ∷ drop (k - 1 + 1) legs = drop_more legs (k - 1) d (omega (arith, within, some)) in
    let both : drop (k - 1 - 1) legs ≡ a ∷ b ∷ drop (k - 1 + 1) legs = first ∙ ap (λ n. a ∷ drop n legs) place ∙ ap (λ l. a ∷ l) second in
    let count_is : count ≡ hands_in from to (b ∷ drop (k - 1 + 1) legs) = so_far.is ∙ ap (hands_in from to) second in
    let sum : hands_in from to (drop (k - 1 - 1) legs) ≡ one + count =
    ap (hands_in from to) both ∙ (λ i. sym is i + sym count_is i) in
    record {
      is = (let both_ways : count + one ≡ one + count = omega arith in both_ways ∙ sym sum);
      few = omega (arith, before, some, few);
      within = omega (arith, within);
    }

pub count_done : (from to : ℕ) (legs : List Leg) (count k : ℕ) → IsCounted from to legs count k → k ≤ 1 → count ≡ hands_in from to legs
count_done from to legs count k so_far low =
    let none : k - 1 ≡ 0 = omega (arith, low) in
    so_far.is ∙ ap (λ n. hands_in from to (drop n legs)) none

-- a hand more at the place of its workers
pub hand_at : (from to f t : ℕ) (counts after : List ℕ) → from < 8 → to < 8 → f < 8 → t < 8 → length counts ≡ 64
    → after ≡ slice_set counts (from * 8 + to) (slice_index counts (from * 8 + to) + 1) → slice_index after (f * 8 + t) ≡ slice_index counts (f * 8 + t) + (if from == f && to == t then 1 else 0)
hand_at from to f t counts after from_few to_few f_few t_few size put = by (from == f) (to == t) refl refl
  where
    value : ℕ
    value = slice_index counts (from * 8 + to) + 1

    other : (f * 8 + t ≡ from * 8 + to → ⊥) → slice_index after (f * 8 + t) ≡ slice_index counts (f * 8 + t) + 0
    other apart =
        let kept : get_or (slice_set counts (from * 8 + to) value) (f * 8 + t) 0 ≡ get_or counts (f * 8 + t) 0 = get_or-set_other counts (from * 8 + to) (f * 8 + t) value 0 apart in
        ap (λ l. slice_index l (f * 8 + t)) put ∙ kept ∙ omega arith

    by : (x y : Bool) → (from == f) ≡ x → (to == t) ≡ y → slice_index after (f * 8 + t) ≡ slice_index counts (f * 8 + t) + (if x && y then 1 else 0)
    by true true e g =
        let first = eqb-true from f e in
        let second = eqb-true to t g in
        let place : f * 8 + t ≡ from * 8 + to = omega (arith, first, second) in
        let set_is : get_or (slice_set counts (from * 8 + to) value) (from * 8 + to) 0 ≡ value = get_or-set_same counts (from * 8 + to) value 0 (omega (arith, size, from_few, to_few)) in
        ap (λ l. slice_index l (f * 8 + t)) put ∙ ap (λ n. slice_index (slice_set counts (from * 8 + to) value) n) place ∙ set_is ∙ ap (λ n. slice_index counts n + 1) (sym place)
    by true false e g = other (λ place. eqb-false to t g (omega (arith, place, to_few, t_few)))
    by false y e g = other (λ place. eqb-false from f e (omega (arith, place, to_few, t_few)))

-- so far each pair of workers has been counted from one before a place on
pub record AreAdded (legs : List Leg) (old new : List ℕ) (k : ℕ) : Type 0 where
  pub within : k ≤ length legs
  pub each : (from to : ℕ) → from < 8 → to < 8 → (count : ℕ) × (slice_index new (from * 8 + to) ≡ slice_index old (from * 8 + to) + count) × IsCounted from to legs count k

pub added_none : (legs : List Leg) (counts : List ℕ) → AreAdded legs counts counts (length legs)
added_none legs counts = record { within = omega arith; each = λ from to f t. (0, omega arith, count_starts from to legs) }

pub added_more : (legs : List Leg) (old new after : List ℕ) (k : ℕ) (d : Leg) → AreAdded legs old new k → 1 < k
    → ((f t : ℕ) → f < 8 → t < 8 → slice_index after (f * 8 + t) ≡ slice_index new (f * 8 + t) + (if (get_or legs (k - 1 - 1) d).worker == f && (get_or legs (k - 1) d).worker == t then 1 else 0))
    → AreAdded legs old after (k - 1)
added_more legs old new after k d so_far some more = record {
  within = (let w = so_far.within in omega (arith, w));
  each = λ from to f t.
      let before = so_far.each from to f t in
      let one : ℕ = if (get_or legs (k - 1 - 1) d).worker == from && (get_or legs (k - 1) d).worker == to then 1 else 0 in
      let is : slice_index after (from * 8 + to) ≡ slice_index new (from * 8 + to) + one = more from to f t in
      let at : slice_index new (from * 8 + to) ≡ slice_index old (from * 8 + to) + before.0 = before.1 in
      let sum : slice_index after (from * 8 + to) ≡ slice_index old (from * 8 + to) + (before.0 + one) = omega (arith, is, at) in
      (before.0 + one, sum, count_next from to legs before.0 k one d before.2 some refl (at_most_one ((get_or legs (k - 1 - 1) d).worker == from && (get_or legs (k - 1) d).worker == to)));
}
  where
    at_most_one : (b : Bool) → (if b then 1 else 0) ≤ 1
    at_most_one true = omega arith
    at_most_one false = omega arith

pub added_all : (legs : List Leg) (old new : List ℕ) (k : ℕ) → AreAdded legs old new k → k ≤ 1 → (from to : ℕ) → from < 8 → to < 8
    → slice_index new (from * 8 + to) ≡ slice_index old (from * 8 + to) + hands_in from to legs
added_all legs old new k so_far low from to f t =
    let each = so_far.each from to f t in
    each.1 ∙ ap (λ n. slice_index old (from * 8 + to) + n) (count_done from to legs each.0 k each.2 low)

-- the counts are few so far
pub added_few : (legs : List Leg) (old new : List ℕ) (k from to : ℕ) → AreAdded legs old new k → length legs ≤ 4 → from < 8 → to < 8 → slice_index old (from * 8 + to) ≤ 262140
    → slice_index new (from * 8 + to) ≤ 262144
added_few legs old new k from to so_far short f t few =
    let each = so_far.each from to f t in
    let is = each.1 in
    let most = each.2.few in
    omega (arith, is, most, short, few)

-- the worker at a place
pub worker_at : (legs : List Leg) (k : ℕ) (d : Leg) → k < length legs → AllByRecursion (λ (leg : Leg). leg.worker < 8) legs → (get_or legs k d).worker < 8
worker_at [] k d h all = absurd (omega (arith, h))
worker_at (leg ∷ legs) zero d h all = all.0
worker_at (leg ∷ legs) (suc k) d h all = worker_at legs k d (omega (arith, h)) all.1

-- one packet more
hands_more : (from to : ℕ) (ts : List Course) (t : Course) → handed (ts ++ t ∷ []) from to ≡ handed ts from to + hands_in from to t.legs
hands_more from to ts t =
    let value : Course → ℕ = λ t. hands_in from to t.legs in
    sum_by-append value ts (t ∷ []) ∙ ap (λ n. handed ts from to + n) (sum_by-cons value t [] ∙ omega arith)

hands_few : (from to : ℕ) (legs : List Leg) → hands_in from to legs ≤ length legs
hands_few from to [] = omega arith
hands_few from to (a ∷ []) = omega arith
hands_few from to (a ∷ b ∷ legs) = by (a.worker == from && b.worker == to) (hands_few from to (b ∷ legs))
  where
    by : (test : Bool) → hands_in from to (b ∷ legs) ≤ suc (length legs) → (if test then 1 else 0) + hands_in from to (b ∷ legs) ≤ suc (suc (length legs))
    by true h = omega (arith, h)
    by false h = omega (arith, h)

-- the counts of the first packets
pub record AreHandsOf (ts : List Course) (counts : List ℕ) (n : ℕ) : Type 0 where
  pub size : length counts ≡ 64
  pub are : (from to : ℕ) → from < 8 → to < 8 → slice_index counts (from * 8 + to) ≡ handed (take n ts) from to
  pub few : (from to : ℕ) → from < 8 → to < 8 → slice_index counts (from * 8 + to) ≤ 4 * n

zeros_long : (n : ℕ) → length {A = ℕ} (replicate n 0) ≡ n
zeros_long zero = refl
zeros_long (suc n) = ap suc (zeros_long n)

zero_at : (n k : ℕ) → slice_index (replicate n 0) k ≡ 0
zero_at zero zero = refl
zero_at zero (suc k) = refl
zero_at (suc n) zero = refl
zero_at (suc n) (suc k) = zero_at n k

pub hands_none : (ts : List Course) → AreHandsOf ts (replicate 64 0) 0
hands_none ts =
    let zeros : (k : ℕ) → slice_index (replicate 64 0) k ≡ 0 = zero_at 64 in
    record { size = zeros_long 64; are = λ from to f t. zeros (from * 8 + to); few = λ from to f t. (let z = zeros (from * 8 + to) in omega (arith, z)) }

pub hands_next : (ts : List Course) (counts after : List ℕ) (n : ℕ) (t : Course) (legs : List Leg) → AreHandsOf ts counts n → n < length ts → t ≡ get_or ts n t → legs ≡ t.legs → length legs ≤ 4
    → length after ≡ 64 → ((from to : ℕ) → from < 8 → to < 8 → slice_index after (from * 8 + to) ≡ slice_index counts (from * 8 + to) + hands_in from to legs) → AreHandsOf ts after (n + 1)
hands_next ts counts after n t legs so_far within read same short size more = record {
  size = size;
  are = λ from to f g.
      more from to f g ∙ (λ i. so_far.are from to f g i + hands_in from to (same i))
      ∙ sym (ap (λ l. handed l from to) (take_more ts n t within ∙ ap (λ x. take n ts ++ x ∷ []) (sym read)) ∙ hands_more from to (take n ts) t);
  few = λ from to f g. (let e = more from to f g in let b = so_far.few from to f g in let h = hands_few from to legs in omega (arith, e, b, h, short));
}

pub hands_all : (ts : List Course) (counts : List ℕ) (n : ℕ) → AreHandsOf ts counts n → length ts ≤ n → AreHands ts counts
hands_all ts counts n so_far all =
    record { size = so_far.size; are = λ from to f t. so_far.are from to f t ∙ ap (λ l. handed l from to) (take_all n ts all) }

-- the worker of the last leg
pub last_is : (legs : List Leg) (n : ℕ) (d : Leg) → 1 ≤ length legs → n ≡ length legs - 1 → (get_or legs n d).worker ≡ last_worker legs
last_is [] n d some e = absurd (omega (arith, some))
last_is (a ∷ []) zero d some e = refl
last_is (a ∷ []) (suc n) d some e = absurd (omega arith)
last_is (a ∷ b ∷ legs) zero d some e = absurd (omega arith)
last_is (a ∷ b ∷ legs) (suc n) d some e = last_is (b ∷ legs) n d (omega arith) (omega arith)

pub last_below : (legs : List Leg) → AllByRecursion (λ (leg : Leg). leg.worker < 8) legs → last_worker legs < 8
last_below [] all = omega arith
last_below (a ∷ []) all = all.0
last_below (a ∷ b ∷ legs) all = last_below (b ∷ legs) all.1

-- what a refused push says
module _ (slots : ℕ) (hands : ℕ → ℕ → ℕ) (legs : List Leg) (congested : Option ℕ) (o : Outcome) (accepted node worker : ℕ) (is_accepted : congested ≡ Some accepted) (is_handed : o ≡ Handed node worker) where
  pub push_to : (slots ≤ accepted) × (accepted ≤ hands (last_worker legs) worker) → IsRefusalOf slots hands legs congested o
  push_to h = subst (λ a. IsRefusalOf slots hands legs a o) (sym is_accepted) (subst (IsRefusalOf slots hands legs (Some accepted)) (sym is_handed) h)

  pub push_from : IsRefusalOf slots hands legs congested o → (slots ≤ accepted) × (accepted ≤ hands (last_worker legs) worker)
  push_from h = subst (IsRefusalOf slots hands legs (Some accepted)) is_handed (subst (λ a. IsRefusalOf slots hands legs a o) is_accepted h)

-- those so far are lawful
pub below_more : (slots k : ℕ) (lines : List PacketLine) (ts : List Course) (line : PacketLine) (t : Course) → AreRefusalsBelow slots lines ts k → slice_get lines k ≡ Some line → slice_get ts k ≡ Some t
    → IsRefusalOf slots (handed ts) t.legs line.congested t.outcome → AreRefusalsBelow slots lines ts (k + 1)
below_more slots k lines ts line t so_far is_line is_trip may = λ n h. elim (same_or_not n k) [
  | inl same ↦ subst (IsRefusalAt slots lines ts) (sym same) (record { line = line; trip = t; is_line = is_line; is_trip = is_trip; may = may })
  | inr other ↦ so_far n (let apart : n ≡ k → ⊥ = other in omega (arith, h, apart))
]

pub none_below : (slots : ℕ) (lines : List PacketLine) (ts : List Course) → AreRefusalsBelow slots lines ts 0
none_below slots lines ts k h = absurd (omega (arith, h))

pub below_all : (slots k : ℕ) (lines : List PacketLine) (ts : List Course) → AreRefusalsBelow slots lines ts k → length ts ≤ k → AreRefusalsBelow slots lines ts (length ts)
below_all slots k lines ts so_far all n h = so_far n (omega (arith, h, all))

pub first_below : (slots k : ℕ) (lines : List PacketLine) (ts : List Course) (line : PacketLine) (t : Course) → AreRefusalsBelow slots lines ts k → slice_get lines k ≡ Some line → slice_get ts k ≡ Some t
    → (IsRefusalOf slots (handed ts) t.legs line.congested t.outcome → ⊥) → IsFirstUnlawful slots lines ts k
first_below slots k lines ts line t so_far is_line is_trip unlawful = record { line = line; trip = t; is_line = is_line; is_trip = is_trip; unlawful = unlawful; before = so_far }
