-- For `laws::runs_have_outcomes`, and clause `outcome` of `conclude` in vg_engine: what comes of a run, put in order, is what the journeys say.
use Rattle.std.proofs.Common.{◌≡◌, ℕ, zero, suc, ◌<◌, ◌≤◌, List, [], ◌∷◌, ◌++◌, length, map, take, get_or, refl, sym, ap, subst, ◌∙◌, arith}
use Rattle.std.specs.Prelude.{All, Bool, true, false, Some, None, slice_index, if◌then◌else◌}
use Rattle.std.specs.List.{sum_by, AllByRecursion, flat_map, cons_option}
use Rattle.std.proofs.lemmas.List.{length-map, length-take-le, get_or-take, take-map, ext_get_or}
use Rattle.std.proofs.lemmas.List.Sums.{sum_by-cons}
use Rattle.std.proofs.lemmas.List.Sorted.{sum_by-IsPermutation}
use Rattle.std.proofs.lemmas.Option.{none-some, same_Some}
use Rattle.vg_model.specs.declared.fates.Fate.{Fate}
use Rattle.vg_model.specs.Errors.{error_number}
use Rattle.vg_model.specs.Graph.{Graph}
use Rattle.vg_model.specs.Visit.{Visit}
use Rattle.vg_model.specs.Leg.{Outcome, Sent, Dropped, Handed}
use Rattle.vg_model.specs.Journey as model
use Rattle.vg_model.specs.Journey.{Journey, Choice, Course, journey, journeys_from, finished, goes_together, sent_as}
use Rattle.vg_model.specs.Count.{trace}
use Rattle.vg_model.proofs.Journeys.{map_some, then_some}
use Rattle.vg_counters.specs.Tally.{Tally, drops_at}
use Rattle.vg_counters.specs.Notes.{Notes}
use Rattle.vg_journeys.specs.Trips.{Run}
use Rattle.vg_journeys.specs.Accounts.{Account, HandoffFrame, below}
use Rattle.vg_journeys.specs.Moments.{StandsFor, IsMoment, IsOver}
use Rattle.vg_journeys.proofs.KeptLemmas.{kept_in_the_end, noted_length}
use Rattle.vg_journeys.specs.Kept.{AreKept}
use Rattle.vg_journeys.specs.Outcomes.{IsOutcome, IsGathered}
use Rattle.vg_journeys.proofs.SortLemmas.{AreRising, rising_from_lower, in_order_is, never_fall_from}
use Rattle.vg_journeys.proofs.SameFates.{same_fate, same_fate_decides, same_sent, same_sent_decides}
use Rattle.vg_journeys.proofs.RunLemmas.{sum_flat_map}

-- journeys have the numbers of their packets
abbrev AreInOrder : ℕ → List Journey → Type 0
AreInOrder number [] = Unit {0}
AreInOrder number (j ∷ js) = (j.number ≡ number) × AreInOrder (suc number) js

journey_number : (visit : Visit) (graphs : List Graph) (workers number : ℕ) (bytes : List ℕ) (choice : Choice) (j : Journey) → journey visit graphs workers number bytes choice ≡ Some j → j.number ≡ number
journey_number visit graphs workers number bytes choice j e =
    let found = then_some (finished number choice.accepted) _ j e in
    by found.0 (goes_together choice.accepted found.0.outcome) found.2
  where
    by : (course : Course) (b : Bool) → (if b then Some (record { number = number; accepted = choice.accepted; course = course }) else None) ≡ Some j → j.number ≡ number
    by course true e = ap (λ (j : Journey). j.number) (sym (same_Some _ j e))
    by course false e = absurd (none-some j e)

in_order : (visit : Visit) (graphs : List Graph) (workers number : ℕ) (packets : List (List ℕ)) (choices : List Choice) (js : List Journey)
    → journeys_from visit graphs workers number packets choices ≡ Some js → AreInOrder number js
in_order visit graphs workers number [] [] js e = subst (AreInOrder number) (same_Some [] js e) tt
in_order visit graphs workers number (bytes ∷ packets) (choice ∷ choices) js e =
    let first = then_some _ (journey visit graphs workers number bytes choice) js e in
    let rest = map_some (λ js. first.0 ∷ js) (journeys_from visit graphs workers (suc number) packets choices) js first.2 in
    subst (AreInOrder number) rest.2
    (journey_number visit graphs workers number bytes choice first.0 first.1, in_order visit graphs workers (suc number) packets choices rest.0 rest.1)
in_order visit graphs workers number [] (choice ∷ choices) js e = absurd (none-some js e)
in_order visit graphs workers number (bytes ∷ packets) [] js e = absurd (none-some js e)

-- so their fates rise by number, and what they send
fates_rise : (number : ℕ) (js : List Journey) → AreInOrder number js → AreRising (λ (f : Fate). f.number) number (model.fates js)
fates_rise number [] is = tt
fates_rise number (j ∷ js) is =
    let at = is.0 in
    (omega (arith, at), rising_from_lower (λ (f : Fate). f.number) (suc j.number) (suc number) (model.fates js) (omega (arith, at)) (fates_rise (suc number) js is.1))

sent_rise : (number : ℕ) (js : List Journey) → AreInOrder number js → AreRising (λ (s : ℕ × List ℕ). s.0) number (model.sent js)
sent_rise number [] is = tt
sent_rise number (j ∷ js) is = by j.number j.course.packet.bytes j.course.outcome is.0 (sent_rise (suc number) js is.1)
  where
    by : (n : ℕ) (bytes : List ℕ) (outcome : Outcome) → n ≡ number → AreRising (λ (s : ℕ × List ℕ). s.0) (suc number) (model.sent js)
        → AreRising (λ (s : ℕ × List ℕ). s.0) number (cons_option (sent_as n bytes outcome) (model.sent js))
    by n bytes (Sent interface) at rest = (omega (arith, at), rising_from_lower (λ (s : ℕ × List ℕ). s.0) (suc n) (suc number) (model.sent js) (omega (arith, at)) rest)
    by n bytes (Dropped node error) at rest = rising_from_lower (λ (s : ℕ × List ℕ). s.0) number (suc number) (model.sent js) (omega arith) rest
    by n bytes (Handed node worker) at rest = rising_from_lower (λ (s : ℕ × List ℕ). s.0) number (suc number) (model.sent js) (omega arith) rest

at_least_none : {X : Type 0} (number : X → ℕ) (xs : List X) → AllByRecursion (λ x. 0 ≤ number x) xs
at_least_none number [] = tt
at_least_none number (x ∷ xs) = (omega arith, at_least_none number xs)

sum_map : {X Y : Type 0} (f : Y → ℕ) (h : X → Y) (xs : List X) → sum_by f (map h xs) ≡ sum_by (λ x. f (h x)) xs
sum_map f h [] = refl
sum_map f h (x ∷ xs) = let rest = sum_map f h xs in omega (arith, rest, sum_by-cons f (h x) (map h xs), sum_by-cons (λ x. f (h x)) x xs)

-- the first worker is worker 0
below_head : (n : ℕ) → (rest : List ℕ) × (below (suc n) ≡ 0 ∷ rest)
below_head zero = ([], refl)
below_head (suc n) = let found = below_head n in (found.0 ++ suc n ∷ [], ap (λ l. l ++ suc n ∷ []) found.1)

first_worker : (n : ℕ) → 0 < n → (rest : List ℕ) × (below n ≡ 0 ∷ rest)
first_worker zero some = absurd (omega (arith, some))
first_worker (suc n) some = below_head n

notes_length : (run : Run) (at : ℕ → Account) (traces : List (List ℕ)) → 0 < run.workers → All (λ (part : Notes). length traces ≡ length part) (map (λ w. (at w).trace) (below run.workers))
    → length traces ≡ length (at 0).trace
notes_length run at traces some all =
    let first = first_worker run.workers some in
    (subst (λ ws. All (λ (part : Notes). length traces ≡ length part) (map (λ w. (at w).trace) ws)) first.1 all) 0 (at 0).trace (omega arith)

-- what workers have kept, put in order
pub outcome_is : (run : Run) (traced : ℕ) (at : ℕ → Account) (fates_by_number : List Fate) (sent_by_number : List (ℕ × List ℕ)) (counts : Tally) (traces : List (List ℕ))
    → AreKept run traced at → 0 < run.workers → traced ≤ length run.packets → length (at 0).trace ≡ traced → IsGathered run at fates_by_number sent_by_number counts traces
    → IsOutcome run traced fates_by_number sent_by_number counts traces
outcome_is run traced at fates_by_number sent_by_number counts traces kept some few noted gathered =
    let ws : List ℕ = below run.workers in
    let js : List Journey = kept.js in
    let ordered : AreInOrder 0 js = in_order run.visit run.graphs run.workers 0 run.packets kept.choices js kept.lawful.are_journeys in
    let total = gathered.total in
    let long : length traces ≡ traced = notes_length run at traces some gathered.merged.packets ∙ noted in
    record {
      choices = kept.choices;
      js = js;
      lawful = kept.lawful;
      inside = kept.inside;
      are_fates =
          in_order_is (λ (f : Fate). f.number) same_fate same_fate_decides 0 0 fates_by_number (model.fates js)
          (never_fall_from (λ (f : Fate). f.number) 0 fates_by_number (at_least_none (λ (f : Fate). f.number) fates_by_number) gathered.fates_rise) (fates_rise 0 js ordered)
          (λ f. sum_by-IsPermutation f (flat_map (λ w. (at w).log) ws) fates_by_number gathered.fates ∙ sum_flat_map f (λ w. (at w).log) ws ∙ kept.logs f);
      are_sent =
          in_order_is (λ (s : ℕ × List ℕ). s.0) same_sent same_sent_decides 0 0 sent_by_number (model.sent js)
          (never_fall_from (λ (s : ℕ × List ℕ). s.0) 0 sent_by_number (at_least_none (λ (s : ℕ × List ℕ). s.0) sent_by_number) gathered.sent_rise) (sent_rise 0 js ordered)
          (λ f. sum_by-IsPermutation f (flat_map (λ w. (at w).sent) ws) sent_by_number gathered.sent ∙ sum_flat_map f (λ w. (at w).sent) ws ∙ kept.sents f);
      are_counts = record {
        visits = λ node. total.visits node ∙ sum_map (λ part. slice_index part.visits node) (λ w. (at w).counts) ws ∙ kept.visits node;
        drops = λ node error. total.drops node (error_number error) ∙ sum_map (λ part. drops_at node (error_number error) part.drops) (λ w. (at w).counts) ws ∙ kept.drops node error;
        sends = λ interface. total.sends interface ∙ sum_map (λ part. slice_index part.sends interface) (λ w. (at w).counts) ws ∙ kept.sends interface;
      };
      are_traces =
          (let many = kept.as_many in
          ext_get_or [] traces (map trace (take traced js)) (omega (arith, long, many, few, length-map (take traced js) trace, length-take-le traced js (omega (arith, few, many))))
          (λ i h.
          let low : i < traced = omega (arith, h, long) in
          gathered.merged.nodes i ∙ kept.traces few i low ∙ sym (get_or-take traced (map trace js) i [] low) ∙ ap (λ ts. get_or ts i []) (take-map trace traced js)));
    }

-- it is of the same journeys
pub outcome_js : (run : Run) (traced : ℕ) (at : ℕ → Account) (fates_by_number : List Fate) (sent_by_number : List (ℕ × List ℕ)) (counts : Tally) (traces : List (List ℕ))
    (kept : AreKept run traced at) (some : 0 < run.workers) (few : traced ≤ length run.packets) (noted : length (at 0).trace ≡ traced)
    (gathered : IsGathered run at fates_by_number sent_by_number counts traces)
    → (outcome_is run traced at fates_by_number sent_by_number counts traces kept some few noted gathered).js ≡ kept.js
unfolding outcome_is
outcome_js run traced at fates_by_number sent_by_number counts traces kept some few noted gathered = refl

-- the theorem
pub run_outcome : (run : Run) (traced : ℕ) (at : ℕ → Account) (rest : ℕ → ℕ → List HandoffFrame) (fates_by_number : List Fate) (sent_by_number : List (ℕ × List ℕ)) (counts : Tally) (traces : List (List ℕ))
    → IsMoment run traced at rest → 0 < run.workers → IsOver run at rest → traced ≤ length run.packets → IsGathered run at fates_by_number sent_by_number counts traces
    → IsOutcome run traced fates_by_number sent_by_number counts traces
run_outcome run traced at rest fates_by_number sent_by_number counts traces moment some over few gathered =
    let first = first_worker run.workers some in
    let stand : StandsFor run traced 0 (at 0) = (subst (AllByRecursion (λ w. StandsFor run traced w (at w))) first.1 moment.stand).0 in
    outcome_is run traced at fates_by_number sent_by_number counts traces (kept_in_the_end run traced at rest moment some over) some few (stand.adds.traced ∙ noted_length traced) gathered
