-- For `laws::buffers_are_counted`: where buffers are, at any moment.
use Rattle.std.proofs.Common.{◌≡◌, ℕ, ◌+◌, ◌%◌, Bool, true, false, List, [], ◌∷◌, ◌++◌, length, refl, ap, arith, length-append, sym}
use Rattle.std.specs.Prelude.{◌==◌, ◌&&◌, nat_lt, if◌then◌else◌}
use Rattle.std.specs.List.{sum_by}
use Rattle.std.proofs.lemmas.List.Sums.{sum_by-cons}
use Rattle.vg_journeys.specs.Chains.{count_some}
use Rattle.vg_journeys.specs.Trips.{Run, Drawn, pieces_before, Trip, contents_after, onward}
use Rattle.vg_journeys.specs.Accounts.{HandoffFrame, Account, arrivals_in, draws_from, below, drawn_pieces, freed_pieces}
use Rattle.vg_journeys.specs.Moments.{trips_of, IsMoment, drawn_by_all, on_the_way}
use Rattle.vg_journeys.proofs.FlowLemmas.{sum_same}
use Rattle.vg_journeys.proofs.JoinLemmas.{sum_made, sum_none, sum_both, conserved}
use Rattle.vg_journeys.proofs.WorkerLemmas.{none_drawn_in, log_or_onward}
use Rattle.vg_journeys.proofs.KeptLemmas.{not_drawn}

-- packets that were drawn have the chains that they took
all_drawn_are : (number workers worker mark : ℕ) (packets : List (List ℕ)) → sum_by drawn_pieces (draws_from number workers worker mark packets) ≡ sum_by pieces_before (draws_from number workers worker mark packets)
all_drawn_are number workers worker mark [] = refl
all_drawn_are number workers worker mark (bytes ∷ packets) = by (number % workers == worker && nat_lt number mark) (all_drawn_are (number + 1) workers worker mark packets)
  where
    by : (b : Bool) → sum_by drawn_pieces (draws_from (number + 1) workers worker mark packets) ≡ sum_by pieces_before (draws_from (number + 1) workers worker mark packets)
        → sum_by drawn_pieces (if b then Drawn number bytes ∷ draws_from (number + 1) workers worker mark packets else draws_from (number + 1) workers worker mark packets)
        ≡ sum_by pieces_before (if b then Drawn number bytes ∷ draws_from (number + 1) workers worker mark packets else draws_from (number + 1) workers worker mark packets)
    by true rest = omega (arith, rest, sum_by-cons drawn_pieces (Drawn number bytes) (draws_from (number + 1) workers worker mark packets), sum_by-cons pieces_before (Drawn number bytes) (draws_from (number + 1) workers worker mark packets))
    by false rest = rest

-- the buffers that caches gave out came back to caches, or are in frames on their way
pub buffers_counted : (run : Run) (traced : ℕ) (at : ℕ → Account) (rest : ℕ → ℕ → List HandoffFrame) → IsMoment run traced at rest
    → sum_by (λ w. (at w).allocated) (below run.workers) ≡ sum_by (λ w. (at w).freed) (below run.workers) + on_the_way run rest pieces_before
buffers_counted run traced at rest moment =
    let ws : List ℕ = below run.workers in
    let trips : List Trip = trips_of run traced at ws moment.stand in
    let given = sum_made run traced at (λ t. drawn_pieces t.arrival) (λ w. (at w).allocated) (λ w stand. let e = stand.adds.allocated in omega (arith, e)) ws moment.stand in
    let back = sum_made run traced at freed_pieces (λ w. (at w).freed) (λ w stand. let e = stand.adds.freed in omega (arith, e)) ws moment.stand in
    let drawn = conserved run traced at rest moment drawn_pieces in
    let each = conserved run traced at rest moment pieces_before in
    let none : sum_by (λ t. count_some drawn_pieces (onward t)) trips ≡ 0 = sum_none (λ t. count_some drawn_pieces (onward t)) (λ t. not_drawn (contents_after t) t.way.outcome t.refused) trips in
    let away : on_the_way run rest drawn_pieces ≡ 0 =
    sum_none (λ from. sum_by (λ to. sum_by drawn_pieces (arrivals_in to (rest from to))) ws) (λ from. sum_none (λ to. sum_by drawn_pieces (arrivals_in to (rest from to))) (λ to. none_drawn_in to (rest from to)) ws) ws in
    let same : drawn_by_all run at drawn_pieces ≡ drawn_by_all run at pieces_before =
    sum_same (λ w. sum_by drawn_pieces (draws_from 0 run.workers w (at w).mark run.packets)) (λ w. sum_by pieces_before (draws_from 0 run.workers w (at w).mark run.packets))
    (λ w. all_drawn_are 0 run.workers w (at w).mark run.packets) ws in
    let split = sum_both freed_pieces (λ t. count_some pieces_before (onward t)) trips in
    let ones : sum_by (λ (t : Trip). pieces_before t.arrival) trips ≡ sum_by (λ t. freed_pieces t + count_some pieces_before (onward t)) trips =
    sum_same (λ (t : Trip). pieces_before t.arrival) (λ t. freed_pieces t + count_some pieces_before (onward t)) (λ t. sym (log_or_onward (contents_after t) t.way.outcome t.refused)) trips in
    omega (arith, given, back, drawn, each, none, away, same, split, ones)

-- a queue of which as many frames were taken as it accepted has nothing left
pub nothing_left : (put taken rest : List HandoffFrame) → put ≡ taken ++ rest → length put ≡ length taken → rest ≡ []
nothing_left put taken [] is same = refl
nothing_left put taken (frame ∷ frames) is same =
    absurd (let e = ap length is in omega (arith, e, same, length-append taken (frame ∷ frames)))
