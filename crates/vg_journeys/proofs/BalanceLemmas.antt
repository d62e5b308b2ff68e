-- For `laws::workers_lose_nothing`: what came to a worker is what it has logged, and what it has handed over.
use Rattle.std.proofs.Common.{◌≡◌, ℕ, suc, ◌+◌, ◌⊎◌, inl, inr, cond, List, [], ◌∷◌, length, sym, ap, ◌∙◌, arith, length-append}
use Rattle.std.specs.Prelude.{Option, Some, None, ◌==◌, ◌&&◌}
use Rattle.std.specs.List.{sum_by}
use Rattle.std.proofs.lemmas.Bool.{eq-eqb, ne_eqb}
use Rattle.vg_model.specs.declared.fates.Fate.{Fate}
use Rattle.vg_model.specs.Leg.{Outcome, Sent, Dropped, Handed}
use Rattle.vg_pool.specs.Contents.{Contents}
use Rattle.vg_journeys.specs.Chains.{count_some}
use Rattle.vg_journeys.specs.Trips.{Run, Arrival, Taken, number_of, legs_before, Trip, here, legs_of, contents_after, onward_by, onward, fate_by, logged_by, logged, IsTrip}
use Rattle.vg_journeys.specs.Accounts.{Account, came, gone}
use Rattle.vg_journeys.specs.Moments.{StandsFor}
use Rattle.vg_journeys.specs.Turns.{arrival_is_of}
use Rattle.vg_journeys.specs.Balance.{IsBalanced}
use Rattle.vg_journeys.proofs.JoinLemmas.{sum_at, sum_both, same_or_not, came_none, gone_none}
use Rattle.vg_journeys.proofs.RunLemmas.{sum_filter_map}

-- a packet behind its leg counts the same, whether it is logged or goes on
counted_once : (f : Fate → ℕ) (h : Arrival → ℕ) (n : ℕ) (c : Contents) → ((outcome : Outcome) (refused : Option ℕ) → f (fate_by c outcome refused) ≡ n)
    → ((worker node : ℕ) → h (Taken worker node c) ≡ n) → (outcome : Outcome) (refused : Option ℕ)
    → count_some f (logged_by c outcome refused) + count_some h (onward_by c outcome refused) ≡ n
counted_once f h n c fate next (Handed node to) None = let e = next to node in omega (arith, e)
counted_once f h n c fate next (Handed node to) (Some accepted) = let e = fate (Handed node to) (Some accepted) in omega (arith, e)
counted_once f h n c fate next (Sent interface) refused = let e = fate (Sent interface) refused in omega (arith, e)
counted_once f h n c fate next (Dropped node error) refused = let e = fate (Dropped node error) refused in omega (arith, e)

-- where each trip counts as its arrival does, so do all
balance : (run : Run) (traced worker : ℕ) (a : Account) (f : Fate → ℕ) (h g : Arrival → ℕ) → ((t : Trip) → IsTrip run t → count_some f (logged t) + count_some h (onward t) ≡ g t.arrival)
    → StandsFor run traced worker a → sum_by f a.log + gone run h a ≡ came run g a
balance run traced worker a f h g each stand =
    let trips : List Trip = stand.trips in
    let entered = stand.adds.entered g in
    let went = stand.adds.went h in
    let none_came = came_none run traced worker g stand.within in
    let none_gone = gone_none run traced worker h in
    let logs : sum_by f a.log ≡ sum_by (λ t. count_some f (logged t)) trips = ap (sum_by f) stand.adds.log ∙ sum_filter_map f logged trips in
    let both = sum_both (λ t. count_some f (logged t)) (λ t. count_some h (onward t)) trips in
    let all = sum_at (λ t. count_some f (logged t) + count_some h (onward t)) (λ t. g t.arrival) (IsTrip run) trips stand.adds.each each in
    omega (arith, entered, went, none_came, none_gone, logs, both, all)

one_more_leg : (legs more leg : ℕ) → more ≡ suc legs → (more == suc leg) ≡ (legs == leg)
one_more_leg legs more leg is = by (same_or_not legs leg)
  where
    by : (legs ≡ leg) ⊎ (legs ≡ leg → ⊥) → (more == suc leg) ≡ (legs == leg)
    by (inl same) = eq-eqb more (suc leg) (is ∙ ap suc same) ∙ sym (eq-eqb legs leg same)
    by (inr not) = ne_eqb more (suc leg) (λ e. not (omega (arith, e, is))) ∙ sym (ne_eqb legs leg not)

-- a worker that stands for a run
pub balanced : (run : Run) (traced worker : ℕ) (a : Account) → StandsFor run traced worker a → IsBalanced run a
balanced run traced worker a stand = record {
  numbers = λ count. balance run traced worker a (λ (f : Fate). count f.number) (λ e. count (number_of e)) (λ e. count (number_of e)) (by_number count) stand;
  legs = λ number leg. balance run traced worker a (λ (f : Fate). cond (f.number == number && length f.legs == suc leg) 1 0) (arrival_is_of number (suc leg)) (arrival_is_of number leg)
      (by_leg number leg) stand;
}
  where
    by_number : (count : ℕ → ℕ) (t : Trip) → IsTrip run t → count_some (λ (f : Fate). count f.number) (logged t) + count_some (λ e. count (number_of e)) (onward t) ≡ count (number_of t.arrival)
    by_number count t is =
        counted_once (λ (f : Fate). count f.number) (λ e. count (number_of e)) (count (number_of t.arrival)) (contents_after t) (λ outcome refused. ap count is.number) (λ to node. ap count is.number) t.way.outcome t.refused

    by_leg : (number leg : ℕ) (t : Trip) → IsTrip run t
        → count_some (λ (f : Fate). cond (f.number == number && length f.legs == suc leg) 1 0) (logged t) + count_some (arrival_is_of number (suc leg)) (onward t) ≡ arrival_is_of number leg t.arrival
    by_leg number leg t is =
        let legs : length (legs_of t) ≡ suc (length (legs_before t.arrival)) = omega (arith, length-append (legs_before t.arrival) (here t ∷ [])) in
        let same : cond (t.way.packet.number == number && length (legs_of t) == suc leg) 1 0 ≡ arrival_is_of number leg t.arrival =
        ap (λ n. cond (n == number && length (legs_of t) == suc leg) 1 0) is.number
        ∙ ap (λ b. cond (number_of t.arrival == number && b) 1 0) (one_more_leg (length (legs_before t.arrival)) (length (legs_of t)) leg legs) in
        counted_once (λ (f : Fate). cond (f.number == number && length f.legs == suc leg) 1 0) (arrival_is_of number (suc leg)) (arrival_is_of number leg t.arrival) (contents_after t)
        (λ outcome refused. same) (λ to node. same) t.way.outcome t.refused
