-- For the clause `times` of `make_all`, and for `Worker::turn` of vg_dispatch: the times of a script's events.
use Rattle.std.proofs.Common.{◌≡◌, ℕ, ◌≤◌, false, List, [], ◌∷◌, length, map, get_or, sym, ap, subst, arith}
use Rattle.std.specs.List.{AllByRecursion}
use Rattle.std.specs.List.Sorted.{IsSortedBy, IsNonDecreasing}
use Rattle.std.proofs.lemmas.Bool.Decides.{nat_tests}
use Rattle.std.proofs.lemmas.List.Elements.{recursion_from_All}
use Rattle.std.proofs.lemmas.List.Sorted.{sorted_far}
use Rattle.std.proofs.lemmas.List.{length-map, get_or-map}
use Rattle.vg_script.specs.declared.scripts.Script.{Script}
use Rattle.vg_script.specs.Events.{Event, comes_before, events}
use Rattle.vg_script.specs.Lawful.{IsLawful}
use Rattle.vg_script.proofs.EventLemmas.{order, events_are_in_order, events_are_few, events_are_soon}
use Rattle.vg_plan.specs.Times.{AreTimes, latest_event}

-- an event that another doesn't come before is no later
no_later : (a b : Event) → comes_before b a ≡ false → a.time ≤ b.time
no_later a b h = grind (arith, nat_tests, h)

-- the times of events in order never fall
times_rise : (es : List Event) → IsSortedBy comes_before es → IsNonDecreasing (map (λ (e : Event). e.time) es)
times_rise [] sorted i j d le below = absurd (omega arith)
times_rise (e ∷ es) sorted i j d le below =
    let long : length (map (λ (e : Event). e.time) (e ∷ es)) ≡ length (e ∷ es) = length-map (e ∷ es) (λ (e : Event). e.time) in
    let first = get_or-map (λ (e : Event). e.time) (e ∷ es) i e d (omega arith) in
    let second = get_or-map (λ (e : Event). e.time) (e ∷ es) j e d (omega arith) in
    let rises : (get_or (e ∷ es) i e).time ≤ (get_or (e ∷ es) j e).time =
    no_later (get_or (e ∷ es) i e) (get_or (e ∷ es) j e) (sorted_far comes_before order (e ∷ es) sorted i j e le (omega arith)) in
    omega arith

-- what holds of all events' times holds of all times
all_times : (P : ℕ → Type 0) (es : List Event) → AllByRecursion (λ (e : Event). P e.time) es → AllByRecursion P (map (λ (e : Event). e.time) es)
all_times P [] all = tt
all_times P (e ∷ es) all = (all.0, all_times P es all.1)

-- the times of a lawful script's events
pub times_are : (script : Script) (times : List ℕ) → IsLawful script → times ≡ map (λ (e : Event). e.time) (events script) → AreTimes script times
times_are script times lawful are = record {
  are = are;
  rising = subst IsNonDecreasing (sym are) (times_rise (events script) (events_are_in_order script));
  small = subst (AllByRecursion (λ time. time ≤ latest_event)) (sym are)
      (all_times (λ time. time ≤ latest_event) (events script) (recursion_from_All (λ (e : Event). e.time ≤ latest_event) (events script) (events_are_soon script lawful)));
  few = omega (arith, ap length are, length-map (events script) (λ (e : Event). e.time), events_are_few script lawful);
}
