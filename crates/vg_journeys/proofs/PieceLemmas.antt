-- For the fields `chains` and `freed_are` of `AreJourneys`: the chain of a packet stays what it was when the packet was drawn.
use Rattle.std.proofs.Common.{◌≡◌, ℕ, ◌+◌, List, [], ◌∷◌, ◌++◌, length, refl, sym, ap, ◌∙◌, arith, append_assoc, length-append}
use Rattle.std.specs.Prelude.{Some, slice_index_or}
use Rattle.std.specs.List.{sum_by, AllByRecursion}
use Rattle.std.proofs.lemmas.List.Sums.{sum_by-cons}
use Rattle.vg_model.specs.declared.fates.Fate.{Fate}
use Rattle.vg_model.specs.Journey as model
use Rattle.vg_model.specs.PoolBook.{IsChainOf, pieces_of}
use Rattle.vg_journeys.specs.Chains.{count_some, AreChains}
use Rattle.vg_journeys.specs.Trips.{Run, Drawn, pieces_before, Trip, contents_after, onward, logged, IsTrip}
use Rattle.vg_journeys.specs.Treks.{IsTrek, journey_of, drawn_from, journeys_of}
use Rattle.vg_journeys.specs.Runs.{chain_of, KeepChains}
use Rattle.vg_journeys.proofs.AccountLemmas.{all_mono}
use Rattle.vg_journeys.proofs.JoinLemmas.{sum_at}
use Rattle.vg_journeys.proofs.TrekLemmas.{behind, later}
use Rattle.vg_journeys.proofs.RunLemmas.{sum_filter_map, fate_once}

-- all trips of a trek have the chain of the first
same_pieces : (t : Trip) (ts : List Trip) → IsTrek (onward t) ts → AllByRecursion (λ u. pieces_before u.arrival ≡ pieces_before t.arrival) (t ∷ ts)
same_pieces t [] is = (refl, tt)
same_pieces t (u ∷ us) is =
    let next = behind t u us is in
    let step : pieces_before u.arrival ≡ pieces_before t.arrival = sym (ap pieces_before next.arrival) in (
      refl,
      all_mono (λ (v : Trip). pieces_before v.arrival ≡ pieces_before u.arrival) (λ (v : Trip). pieces_before v.arrival ≡ pieces_before t.arrival) (λ v e. e ∙ step) (u ∷ us)
          (same_pieces u us (later t u us is)),
    )

-- which is that of the packet that was drawn
drawn_chain : (number : ℕ) (bytes : List ℕ) (trek : List Trip) → IsTrek (Some (Drawn number bytes)) trek → AllByRecursion (λ t. IsChainOf (length bytes) (contents_after t).pieces) trek
drawn_chain number bytes [] is = absurd is
drawn_chain number bytes (t ∷ ts) is =
    all_mono (λ (u : Trip). pieces_before u.arrival ≡ pieces_before t.arrival) (λ (u : Trip). pieces_before u.arrival ≡ pieces_of (length bytes)) (λ u e. e ∙ ap pieces_before is.0) (t ∷ ts)
    (same_pieces t ts is.1)

pub chains_kept : (number : ℕ) (packets : List (List ℕ)) (treks : List (List Trip)) → AreChains (λ (t : Trip). t.arrival) onward (drawn_from number packets) treks → KeepChains packets treks
chains_kept number [] [] are = tt
chains_kept number (bytes ∷ packets) (trek ∷ treks) are = (drawn_chain number bytes trek are.0, chains_kept (number + 1) packets treks are.1)
chains_kept number [] (trek ∷ treks) are = absurd are
chains_kept number (bytes ∷ packets) [] are = absurd are

-- what the fate that a trek logs counts with its chain
abbrev freed_by : (Fate → ℕ → ℕ) → Trip → ℕ
freed_by count t = count_some (λ (f : Fate). count f (pieces_before t.arrival)) (logged t)

freed_trek : (run : Run) (count : Fate → ℕ → ℕ) (number : ℕ) (bytes : List ℕ) (trek : List Trip) → IsTrek (Some (Drawn number bytes)) trek → AllByRecursion (IsTrip run) trek
    → sum_by (freed_by count) trek ≡ count (model.fate_of (journey_of number trek)) (pieces_of (length bytes))
freed_trek run count number bytes [] is all = absurd is
freed_trek run count number bytes (t ∷ ts) is all =
    let pieces : ℕ = pieces_of (length bytes) in
    let one : Fate → ℕ = λ f. count f pieces in
    sum_at (freed_by count) (λ (u : Trip). count_some one (logged u)) (λ (u : Trip). pieces_before u.arrival ≡ pieces) (t ∷ ts) (drawn_chain number bytes (t ∷ ts) is)
    (λ u e. ap (λ n. count_some (λ (f : Fate). count f n) (logged u)) e)
    ∙ sym (sum_filter_map one logged (t ∷ ts)) ∙ ap (sum_by one) (fate_once run number bytes (t ∷ ts) is all)
    ∙ (let e : sum_by one (model.fate_of (journey_of number (t ∷ ts)) ∷ []) ≡ one (model.fate_of (journey_of number (t ∷ ts))) =
    omega (arith, sum_by-cons one (model.fate_of (journey_of number (t ∷ ts))) []) in e)

-- the packet behind others
at_place : (before : List (List ℕ)) (bytes : List ℕ) (packets : List (List ℕ)) → slice_index_or (before ++ bytes ∷ packets) (length before) [] ≡ bytes
at_place [] bytes packets = refl
at_place (first ∷ before) bytes packets = at_place before bytes packets

pub freed_treks : (run : Run) (count : Fate → ℕ → ℕ) (all before packets : List (List ℕ)) (treks : List (List Trip)) (number : ℕ) → all ≡ before ++ packets → number ≡ length before
    → AreChains (λ (t : Trip). t.arrival) onward (drawn_from number packets) treks → AllByRecursion (AllByRecursion (IsTrip run)) treks
    → sum_by (λ trek. sum_by (freed_by count) trek) treks ≡ sum_by (λ j. count (model.fate_of j) (chain_of all j.number)) (journeys_of number treks)
freed_treks run count all before [] [] number is place are good = refl
freed_treks run count all before (bytes ∷ packets) (trek ∷ treks) number is place are good =
    let each : model.Journey → ℕ = λ j. count (model.fate_of j) (chain_of all j.number) in
    let here : slice_index_or all number [] ≡ bytes = ap (λ xs. slice_index_or xs number []) is ∙ ap (λ n. slice_index_or (before ++ bytes ∷ packets) n []) place ∙ at_place before bytes packets in
    let one : sum_by (freed_by count) trek ≡ each (journey_of number trek) =
    freed_trek run count number bytes trek are.0 good.0 ∙ ap (λ (b : List ℕ). count (model.fate_of (journey_of number trek)) (pieces_of (length b))) (sym here) in
    let rest = freed_treks run count all (before ++ bytes ∷ []) packets treks (number + 1) (is ∙ sym (append_assoc before (bytes ∷ []) packets))
    (let size = length-append before (bytes ∷ []) in omega (arith, size, place)) are.1 good.1 in
    omega (arith, one, rest, sum_by-cons (λ trek. sum_by (freed_by count) trek) trek treks, sum_by-cons each (journey_of number trek) (journeys_of (number + 1) treks))
freed_treks run count all before [] (trek ∷ treks) number is place are good = absurd are
freed_treks run count all before (bytes ∷ packets) [] number is place are good = absurd are
