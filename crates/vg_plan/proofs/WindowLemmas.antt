-- For the clauses of `Plan::{generation_of, limit, limits}`, and for `limits_are_fronts`: the packets of each generation.
use Rattle.std.proofs.Common.{◌≡◌, ℕ, zero, suc, ◌+◌, ◌<◌, ◌≤◌, ◌⊎◌, ◌↔◌, inl, inr, Bool, true, false, List, [], ◌∷◌, length, get_or, refl, sym, ap, subst, ◌∙◌, arith, true≢false}
use Rattle.std.specs.Prelude.{Option, Some, None, count_by, nat_le, slice_get}
use Rattle.std.specs.List.{enumerate_from}
use Rattle.std.specs.List.Sorted.{IsPartitionedBy, IsPartitionPoint}
use Rattle.std.proofs.lemmas.Bool.{leb-true, le-leb}
use Rattle.std.proofs.lemmas.Bool.Decides.{leb_tells}
use Rattle.std.proofs.lemmas.List.FromFn.{get_or-enumerate_from, length-enumerate_from}
use Rattle.std.proofs.lemmas.List.Sums.{count_by-le-length}
use Rattle.std.proofs.lemmas.List.Sorted.{IsPartitionedBy-leb}
use Rattle.std.proofs.lemmas.Option.{slice_get_within, get_or_from_slice_get}
use Rattle.vg_capture.specs.declared.captures.Capture.{Capture}
use Rattle.vg_capture.specs.declared.captures.Captured.{Captured}
use Rattle.vg_capture.specs.Time.{stamp_at, latest, time}
use Rattle.vg_capture.proofs.TimeLemmas.{latest-ge-first, time-le-suc}
use Rattle.vg_script.specs.declared.scripts.Script.{Script}
use Rattle.vg_script.specs.Events.{Event, events, generation_at}
use Rattle.vg_plan.specs.Plan.{first_generation, limit_of, LimitsAreFronts}
use Rattle.vg_plan.specs.Times.{AreTimes}
use Rattle.vg_plan.specs.Front.{IsFront}
use Rattle.vg_plan.proofs.CountLemmas.{count_by-map, count_by-le, count_of_front, passes_below, count_at_point}

-- the generation at a time, by the times of the events
pub generation_by : (script : Script) (times : List ℕ) (t : ℕ) → AreTimes script times → generation_at (events script) t ≡ count_by (λ time. nat_le time t) times
generation_by script times t are = sym (ap (count_by (λ time. nat_le time t)) are.are ∙ count_by-map (λ (e : Event). e.time) (λ time. nat_le time t) (events script))

-- the events up to a time are the first ones
pub parted : (script : Script) (times : List ℕ) (t : ℕ) → AreTimes script times → IsPartitionedBy (λ time. nat_le time t) times
parted script times t are = IsPartitionedBy-leb (λ time. time) times t are.rising

-- the place behind the events up to a time is the generation
pub generation_at_point : (script : Script) (times : List ℕ) (t n : ℕ) → AreTimes script times → n ≤ length times
    → IsPartitionPoint (λ time. nat_le time t ≡ true) (λ time. nat_le time t ≡ false) times n
    → n ≡ generation_at (events script) t
generation_at_point script times t n are few point =
    count_at_point (λ time. nat_le time t) times n few point ∙ sym (generation_by script times t are)

-- a time is of a generation or an earlier one exactly where it is before the next event
early_generation : (script : Script) (times : List ℕ) (t g event : ℕ) → AreTimes script times → slice_get times g ≡ Some event
    → ((nat_le (generation_at (events script) t) g ≡ true) × (t < event)) ⊎ ((nat_le (generation_at (events script) t) g ≡ false) × (event ≤ t))
early_generation script times t g event are at =
    let below : g < length times = slice_get_within times g event at in
    let read : get_or times g 0 ≡ event = get_or_from_slice_get times g event 0 at in
    let count = generation_by script times t are in
    elim (passes_below (λ time. nat_le time t) times (parted script times t are) g 0 below) [
      | inl passes ↦ inr (by_test (leb_tells (generation_at (events script) t) g) count passes.1, leb-true event t (subst (λ e. nat_le e t ≡ true) read passes.0))
      | inr fails ↦ inl (le-leb (generation_at (events script) t) g (omega (arith, count, fails.1)), later (leb_tells event t) (subst (λ e. nat_le e t ≡ false) read fails.0))
    ]
  where
    by_test : ((nat_le (generation_at (events script) t) g ≡ true) × (generation_at (events script) t ≤ g)) ⊎ ((nat_le (generation_at (events script) t) g ≡ false) × (g < generation_at (events script) t))
        → generation_at (events script) t ≡ count_by (λ time. nat_le time t) times → g < count_by (λ time. nat_le time t) times → nat_le (generation_at (events script) t) g ≡ false
    by_test (inl le) count more = absurd (omega (arith, le.1))
    by_test (inr lt) count more = lt.0

    later : ((nat_le event t ≡ true) × (event ≤ t)) ⊎ ((nat_le event t ≡ false) × (t < event)) → nat_le event t ≡ false → t < event
    later (inl le) fails = absurd (true≢false (sym le.0 ∙ fails))
    later (inr lt) fails = lt.1

-- the latest time stamp so far is before a time where all are
latest_early : (capture : Capture) (due front : ℕ) → ((i : ℕ) → i < front → stamp_at capture i < due) → (i : ℕ) → i < front → latest capture i < due
latest_early capture due front early zero h = early 0 h
latest_early capture due front early (suc i) h =
    let before : latest capture i < due = latest_early capture due front early i (omega arith) in
    let this : stamp_at capture (suc i) < due = early (suc i) h in
    let n = latest capture i in let m = stamp_at capture (suc i) in
    omega arith

last : (i j : ℕ) → i ≤ suc j → (i ≤ j) ⊎ (i ≡ suc j)
last i j h = grind arith

-- no time stamp so far is behind the latest
stamp_le_latest : (capture : Capture) (j i : ℕ) → j ≤ i → stamp_at capture j ≤ latest capture i
stamp_le_latest capture zero zero h = omega arith
stamp_le_latest capture (suc j) zero h = absurd (omega arith)
stamp_le_latest capture j (suc i) h = elim (last j i h) [
  | inl le ↦ (let before : stamp_at capture j ≤ latest capture i = stamp_le_latest capture j i le in let n = latest capture i in let m = stamp_at capture (suc i) in omega arith)
  | inr is ↦ (let same : stamp_at capture j ≡ stamp_at capture (suc i) = ap (stamp_at capture) is in let n = latest capture i in let m = stamp_at capture (suc i) in omega arith)
]

-- the packets in front of the first that is captured when an event is due are those of the generations before it
pub limit_by_front : (script : Script) (times : List ℕ) (capture : Capture) (g event front : ℕ) → AreTimes script times → slice_get times g ≡ Some event
    → IsFront capture.nanos capture.packets (stamp_at capture 0 + event) front → front ≡ limit_of script capture g
limit_by_front script times capture g event front are at is =
    sym (count_of_front (λ packet. nat_le (first_generation script capture packet.0) g) (enumerate_from 0 capture.packets) front
    (subst (λ n. front ≤ n) (sym (length-enumerate_from 0 capture.packets)) is.within)
    (λ i d below. by_number i d (omega (arith, is.within)) true (early i below))
    (λ i d from below. by_number i d (omega (arith, length-enumerate_from 0 capture.packets)) false (late i from (omega (arith, length-enumerate_from 0 capture.packets)))))
  where
    by_number : (i : ℕ) (d : ℕ × Captured) → i < length capture.packets → (b : Bool) → nat_le (first_generation script capture i) g ≡ b
        → nat_le (first_generation script capture (get_or (enumerate_from 0 capture.packets) i d).0) g ≡ b
    by_number i d below b e =
        let number : (get_or (enumerate_from 0 capture.packets) i d).0 ≡ i = ap (λ (p : ℕ × Captured). p.0) (get_or-enumerate_from 0 capture.packets i d below) ∙ omega arith in
        ap (λ n. nat_le (first_generation script capture n) g) number ∙ e

    early : (i : ℕ) → i < front → nat_le (first_generation script capture i) g ≡ true
    early i below =
        let before : latest capture i < stamp_at capture 0 + event = latest_early capture (stamp_at capture 0 + event) front is.early i below in
        let first : stamp_at capture 0 ≤ latest capture i = latest-ge-first capture i in
        elim (early_generation script times (time capture i) g event are at) [
          | inl passes ↦ passes.0
          | inr fails ↦ absurd (omega (arith, fails.1))
        ]

    late : (i : ℕ) → front ≤ i → i < length capture.packets → nat_le (first_generation script capture i) g ≡ false
    late i from below =
        let reached : stamp_at capture 0 + event ≤ stamp_at capture front = is.late (omega arith) in
        let rises : stamp_at capture front ≤ latest capture i = stamp_le_latest capture front i from in
        elim (early_generation script times (time capture i) g event are at) [
          | inl passes ↦ absurd (omega (arith, passes.1))
          | inr fails ↦ fails.0
        ]

-- all packets are of the last generation or an earlier one
pub limit_of_last : (script : Script) (times : List ℕ) (capture : Capture) (g : ℕ) → AreTimes script times → length times ≤ g → length capture.packets ≡ limit_of script capture g
limit_of_last script times capture g are last =
    sym (count_of_front (λ packet. nat_le (first_generation script capture packet.0) g) (enumerate_from 0 capture.packets) (length capture.packets)
    (omega (arith, length-enumerate_from 0 capture.packets))
    (λ i d below. le-leb (first_generation script capture (get_or (enumerate_from 0 capture.packets) i d).0) g (few (get_or (enumerate_from 0 capture.packets) i d).0))
    (λ i d from below. absurd (omega (arith, length-enumerate_from 0 capture.packets))))
  where
    few : (i : ℕ) → first_generation script capture i ≤ g
    few i =
        let count = generation_by script times (time capture i) are in
        let le = count_by-le-length (λ event. nat_le event (time capture i)) times in
        omega arith

-- times never fall
time_rises : (capture : Capture) (i j : ℕ) → i ≤ j → time capture i ≤ time capture j
time_rises capture i zero h = let at : i ≡ 0 = omega arith in omega (arith, ap (time capture) at)
time_rises capture i (suc j) h = by_last (last i j h) (time_rises capture i j)
  where
    by_last : (i ≤ j) ⊎ (i ≡ suc j) → (i ≤ j → time capture i ≤ time capture j) → time capture i ≤ time capture (suc j)
    by_last (inl le) earlier = let before : time capture i ≤ time capture j = earlier le in let step : time capture j ≤ time capture (suc j) = time-le-suc capture j in omega arith
    by_last (inr is) earlier = omega (arith, ap (time capture) is)

-- later times have later generations
generation_rises : (es : List Event) (t u : ℕ) → t ≤ u → generation_at es t ≤ generation_at es u
generation_rises es t u h = count_by-le (λ (e : Event). nat_le e.time t) (λ (e : Event). nat_le e.time u) es (λ e passes. le-leb e.time u (let le = leb-true e.time t passes in omega arith))

-- whether a packet is of a generation or an earlier one
abbrev is_early : Script → Capture → ℕ → ℕ × Captured → Bool
is_early script capture generation packet = nat_le (first_generation script capture packet.0) generation

early_at : (script : Script) (capture : Capture) (generation i : ℕ) (d : ℕ × Captured) → i < length capture.packets
    → is_early script capture generation (get_or (enumerate_from 0 capture.packets) i d) ≡ nat_le (first_generation script capture i) generation
early_at script capture generation i d below =
    ap (λ n. nat_le (first_generation script capture n) generation) (ap (λ (p : ℕ × Captured). p.0) (get_or-enumerate_from 0 capture.packets i d below) ∙ omega arith)

-- they are the first ones
early_first : (script : Script) (capture : Capture) (generation : ℕ) → IsPartitionedBy (is_early script capture generation) (enumerate_from 0 capture.packets)
early_first script capture generation i j d le below passes =
    let within : j < length capture.packets = omega (arith, length-enumerate_from 0 capture.packets) in
    let later : first_generation script capture j ≤ generation = leb-true (first_generation script capture j) generation (sym (early_at script capture generation j d within) ∙ passes) in
    let rises : first_generation script capture i ≤ first_generation script capture j = generation_rises (events script) (time capture i) (time capture j) (time_rises capture i j le) in
    early_at script capture generation i d (omega arith) ∙ le-leb (first_generation script capture i) generation (omega arith)

-- the packets of a generation or an earlier one are those below its limit
front_by : (script : Script) (capture : Capture) (generation i : ℕ) (d : ℕ × Captured) → i < length capture.packets
    → (first_generation script capture i ≤ generation) ↔ (i < limit_of script capture generation)
front_by script capture generation i d below =
    let at = early_at script capture generation i d below in
    elim (passes_below (is_early script capture generation) (enumerate_from 0 capture.packets) (early_first script capture generation) i d (omega (arith, length-enumerate_from 0 capture.packets))) [
      | inl passes ↦ (λ h. passes.1, λ h. leb-true (first_generation script capture i) generation (sym at ∙ passes.0))
      | inr fails ↦ (λ h. absurd (true≢false (sym (le-leb (first_generation script capture i) generation h) ∙ (sym at ∙ fails.0))), λ h. absurd (omega (arith, fails.1)))
    ]

none_within : {X : Type 0} (xs : List X) (i : ℕ) → i < length xs → slice_get xs i ≡ None → ⊥
none_within [] i below none = omega arith
none_within (x ∷ xs) zero below none = cc
none_within (x ∷ xs) (suc i) below none = none_within xs i (omega arith) none

pub limits_are_fronts : LimitsAreFronts
limits_are_fronts script capture generation i below = by_packets (slice_get capture.packets i) refl
  where
    by_packets : (o : Option Captured) → slice_get capture.packets i ≡ o → (first_generation script capture i ≤ generation) ↔ (i < limit_of script capture generation)
    by_packets (Some p) at = front_by script capture generation i (i, p) below
    by_packets None at = absurd (none_within capture.packets i below at)
