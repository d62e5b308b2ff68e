-- For the law `chains_stay`: the chain of a packet stays what it was when the packet was drawn.
use Rattle.std.proofs.Common.{◌≡◌, ℕ, zero, suc, ◌+◌, ◌-◌, ◌%◌, ◌<◌, ◌≤◌, ◌⊎◌, inl, inr, Bool, true, false, List, [], ◌∷◌, length, map, refl, ap, ◌∙◌, arith}
use Rattle.std.specs.Prelude.{Option, Some, None, ◌==◌, ◌&&◌, nat_lt, slice_get, if◌then◌else◌}
use Rattle.std.specs.List.{sum_by, AllByRecursion}
use Rattle.std.proofs.lemmas.Bool.{eq-eqb, ne_eqb}
use Rattle.std.proofs.lemmas.List.Sums.{sum_by-cons, sum_by-append}
use Rattle.vg_model.specs.PoolBook.{pieces_of}
use Rattle.vg_model.specs.Leg.{Outcome, Sent, Dropped, Handed}
use Rattle.vg_pool.specs.Contents.{Contents}
use Rattle.vg_journeys.specs.Chains.{count_some}
use Rattle.vg_journeys.specs.Trips.{Run, Arrival, Drawn, Taken, number_of, legs_before, pieces_before, Trip, legs_of, contents_after, onward_by, onward, IsTrip}
use Rattle.vg_journeys.specs.Accounts.{HandoffFrame, Account, frames_with, frame_arrivals, arrivals_in, draws_from, below, gone}
use Rattle.vg_journeys.specs.Moments.{trips_of, IsMoment, drawn_by_all}
use Rattle.vg_journeys.specs.Stays.{HasItsChain, ChainsStay}
use Rattle.vg_journeys.proofs.JoinLemmas.{sum_none, sum_made, all_made, at_most_sum, same_or_not, split_queue, gone_none, conserved}
use Rattle.vg_journeys.proofs.TrekLemmas.{legs_more}

-- whether a chain isn't the one that this packet took when it was drawn
abbrev is_other : Option (List ℕ) → (pieces : ℕ) → Bool
is_other None pieces = true
is_other (Some bytes) pieces = if pieces == pieces_of (length bytes) then false else true

-- a packet of this number counts where its chain is another one: the more, the fewer legs it has behind it
abbrev counted : List (List ℕ) → (most number pieces legs : ℕ) → ℕ
counted packets most number pieces legs = if is_other (slice_get packets number) pieces then most - legs else 0

abbrev others : List (List ℕ) → (most : ℕ) → Arrival → ℕ
others packets most e = counted packets most (number_of e) (pieces_before e) (length (legs_before e))

-- no packet that is drawn counts
none_drawn_other : (run : Run) (packets : List (List ℕ)) (number : ℕ) → ((k : ℕ) (bytes : List ℕ) → slice_get packets k ≡ Some bytes → slice_get run.packets (k + number) ≡ Some bytes)
    → (most worker mark : ℕ) → sum_by (others run.packets most) (draws_from number run.workers worker mark packets) ≡ 0
none_drawn_other run [] number found most worker mark = refl
none_drawn_other run (bytes ∷ packets) number found most worker mark =
    let place : number ≡ 0 + number = omega arith in
    let here : slice_get run.packets number ≡ Some bytes = ap (slice_get run.packets) place ∙ found 0 bytes refl in
    let own : others run.packets most (Drawn number bytes) ≡ 0 =
    ap (λ o. if is_other o (pieces_of (length bytes)) then most - 0 else 0) here
    ∙ ap (λ (b : Bool). if (if b then false else true) then most - 0 else 0) (eq-eqb (pieces_of (length bytes)) (pieces_of (length bytes)) refl) in
    let next : (k : ℕ) → k + (number + 1) ≡ suc k + number = λ k. omega arith in
    let rest = none_drawn_other run packets (number + 1) (λ k other is. ap (slice_get run.packets) (next k) ∙ found (suc k) other is) most worker mark in
    by own rest (number % run.workers == worker && nat_lt number mark)
  where
    by : others run.packets most (Drawn number bytes) ≡ 0 → sum_by (others run.packets most) (draws_from (number + 1) run.workers worker mark packets) ≡ 0
        → (b : Bool) → sum_by (others run.packets most)
        (if b then Drawn number bytes ∷ draws_from (number + 1) run.workers worker mark packets else draws_from (number + 1) run.workers worker mark packets) ≡ 0
    by own rest true = omega (arith, own, rest, sum_by-cons (others run.packets most) (Drawn number bytes) (draws_from (number + 1) run.workers worker mark packets))
    by own rest false = rest

-- a packet that goes on has a leg more, and counts one less
one_leg_more : (packets : List (List ℕ)) (most : ℕ) (t : Trip) → t.way.packet.number ≡ number_of t.arrival
    → count_some (others packets (suc most)) (onward t) ≤ others packets most t.arrival
one_leg_more packets most t number = by t.way.outcome t.refused
  where
    less : (b : Bool) (legs : ℕ) → (if b then suc most - suc legs else 0) ≡ (if b then most - legs else 0)
    less true legs = omega arith
    less false legs = refl

    by : (outcome : Outcome) (refused : Option ℕ) → count_some (others packets (suc most)) (onward_by (contents_after t) outcome refused) ≤ others packets most t.arrival
    by (Handed node to) None =
        let same = ap (λ n. counted packets (suc most) n (pieces_before t.arrival) (length (legs_of t))) number in
        let more = ap (counted packets (suc most) (number_of t.arrival) (pieces_before t.arrival)) (legs_more t) in
        let fewer = less (is_other (slice_get packets (number_of t.arrival)) (pieces_before t.arrival)) (length (legs_before t.arrival)) in
        omega (arith, same, more, fewer)
    by (Handed node to) (Some accepted) = omega arith
    by (Sent interface) refused = omega arith
    by (Dropped node error) refused = omega arith

go_on_less : (run : Run) (most : ℕ) (ts : List Trip) → AllByRecursion (IsTrip run) ts
    → sum_by (λ t. count_some (others run.packets (suc most)) (onward t)) ts ≤ sum_by (λ t. others run.packets most t.arrival) ts
go_on_less run most [] all = omega arith
go_on_less run most (t ∷ ts) all =
    let rest = go_on_less run most ts all.1 in
    let one = one_leg_more run.packets most t all.0.number in
    omega (arith, rest, one, sum_by-cons (λ t. count_some (others run.packets (suc most)) (onward t)) t ts, sum_by-cons (λ (t : Trip). others run.packets most t.arrival) t ts)

-- so no trip counts: what counts at one went on from another, where it had a leg less
no_trip_counts : {run : Run} {traced : ℕ} {at : ℕ → Account} {rest : ℕ → ℕ → List HandoffFrame} → (moment : IsMoment run traced at rest) → (most : ℕ)
    → sum_by (λ t. others run.packets most t.arrival) (trips_of run traced at (below run.workers) moment.stand) ≡ 0
no_trip_counts {run} {traced} {at} {rest} moment zero =
    sum_none (λ (t : Trip). others run.packets 0 t.arrival) (λ t. none (is_other (slice_get run.packets (number_of t.arrival)) (pieces_before t.arrival)) (length (legs_before t.arrival)))
    (trips_of run traced at (below run.workers) moment.stand)
  where
    none : (b : Bool) (legs : ℕ) → (if b then 0 - legs else 0) ≡ 0
    none true legs = omega arith
    none false legs = refl
no_trip_counts {run} {traced} {at} {rest} moment (suc most) =
    let ws : List ℕ = below run.workers in
    let trips : List Trip = trips_of run traced at ws moment.stand in
    let count : Arrival → ℕ = others run.packets (suc most) in
    let flow = conserved run traced at rest moment count in
    let place : (k : ℕ) → k + 0 ≡ k = λ k. omega arith in
    let drawn : drawn_by_all run at count ≡ 0 =
    sum_none (λ w. sum_by count (draws_from 0 run.workers w (at w).mark run.packets)) (λ w. none_drawn_other run run.packets 0 (λ k bytes is. ap (slice_get run.packets) (place k) ∙ is) (suc most) w (at w).mark) ws in
    let less = go_on_less run most trips (all_made run traced at (IsTrip run) (λ w stand. stand.adds.each) ws moment.stand) in
    let before = no_trip_counts moment most in
    omega (arith, flow, drawn, less, before)

-- nor any packet that a queue accepted, whether it was taken or is on its way
none_away : {run : Run} {traced : ℕ} {at : ℕ → Account} {rest : ℕ → ℕ → List HandoffFrame} → (moment : IsMoment run traced at rest) → (most from to : ℕ) → from < run.workers → to < run.workers
    → sum_by (others run.packets (suc most)) (arrivals_in to (rest from to)) ≡ 0
none_away {run} {traced} {at} {rest} moment most from to hf ht =
    let ws : List ℕ = below run.workers in
    let trips : List Trip = trips_of run traced at ws moment.stand in
    let count : Arrival → ℕ = others run.packets (suc most) in
    let went = sum_made run traced at (λ t. count_some count (onward t)) (λ w. gone run count (at w))
    (λ w stand. let e = stand.adds.went count in let z = gone_none run traced w count in omega (arith, e, z)) ws moment.stand in
    let less = go_on_less run most trips (all_made run traced at (IsTrip run) (λ w stand. stand.adds.each) ws moment.stand) in
    let none = no_trip_counts moment most in
    let worker = at_most_sum (λ w. gone run count (at w)) run.workers from hf in
    let queue = at_most_sum (λ v. sum_by count (arrivals_in v (frames_with v (at from).put))) run.workers to ht in
    let split = split_queue count to (frames_with to (at from).put) (frames_with from (at to).taken) (rest from to) (moment.queues from to hf ht) in
    omega (arith, went, less, none, worker, queue, split)

-- a packet that doesn't count has its chain
not_other : (packets : List (List ℕ)) (legs : ℕ) (c : Contents) → counted packets (suc legs) c.packet.number c.pieces legs ≡ 0 → HasItsChain packets c
not_other packets legs c none = by (slice_get packets c.packet.number) refl none
  where
    by : (o : Option (List ℕ)) → slice_get packets c.packet.number ≡ o → (if is_other o c.pieces then suc legs - legs else 0) ≡ 0 → HasItsChain packets c
    by None is zero_then = absurd (omega (arith, zero_then))
    by (Some bytes) is zero_then = record { bytes = bytes; drawn = is; chain = chain (same_or_not c.pieces (pieces_of (length bytes))) }
      where
        chain : (c.pieces ≡ pieces_of (length bytes)) ⊎ (c.pieces ≡ pieces_of (length bytes) → ⊥) → c.pieces ≡ pieces_of (length bytes)
        chain (inl same) = same
        chain (inr not) =
            absurd (let e = ap (λ (b : Bool). if (if b then false else true) then suc legs - legs else 0) (ne_eqb c.pieces (pieces_of (length bytes)) not) in omega (arith, e, zero_then))

-- all packets of frames in which none counts
all_in : (packets : List (List ℕ)) (to : ℕ) (frames : List HandoffFrame) → ((most : ℕ) → sum_by (others packets (suc most)) (arrivals_in to frames) ≡ 0)
    → AllByRecursion (λ frame. AllByRecursion (HasItsChain packets) frame.packets) frames
all_in packets to [] none = tt
all_in packets to (frame ∷ frames) none = (
  packets_of frame.packets (λ most. let all = none most in omega (arith, all, sum_by-append (others packets (suc most)) (frame_arrivals to frame) (arrivals_in to frames))),
  all_in packets to frames (λ most. let all = none most in omega (arith, all, sum_by-append (others packets (suc most)) (frame_arrivals to frame) (arrivals_in to frames))),
)
  where
    packets_of : (cs : List Contents) → ((most : ℕ) → sum_by (others packets (suc most)) (map (Taken to frame.node) cs) ≡ 0) → AllByRecursion (HasItsChain packets) cs
    packets_of [] none = tt
    packets_of (c ∷ cs) none =
        let legs : ℕ = length c.legs in
        let rest : List Arrival = map (Taken to frame.node) cs in
        let here = none legs in (
          not_other packets legs c (omega (arith, here, sum_by-cons (others packets (suc legs)) (Taken to frame.node c) rest)),
          packets_of cs (λ most. let all = none most in omega (arith, all, sum_by-cons (others packets (suc most)) (Taken to frame.node c) rest)),
        )

-- all trips of which none counts
all_behind : (run : Run) (ts : List Trip) → AllByRecursion (IsTrip run) ts → ((most : ℕ) → sum_by (λ t. others run.packets most t.arrival) ts ≡ 0)
    → AllByRecursion (λ t. HasItsChain run.packets (contents_after t)) ts
all_behind run [] all none = tt
all_behind run (t ∷ ts) all none =
    let legs : ℕ = length (legs_before t.arrival) in
    let here = none (suc legs) in
    let number = ap (λ n. counted run.packets (suc legs) n (pieces_before t.arrival) legs) all.0.number in (
      not_other run.packets legs (contents_after t) (omega (arith, here, number, sum_by-cons (λ (u : Trip). others run.packets (suc legs) u.arrival) t ts)),
      all_behind run ts all.1 (λ most. let sum = none most in omega (arith, sum, sum_by-cons (λ (u : Trip). others run.packets most u.arrival) t ts)),
    )

-- the law
pub chains_stay : (run : Run) (traced : ℕ) (at : ℕ → Account) (rest : ℕ → ℕ → List HandoffFrame) (moment : IsMoment run traced at rest)
    → ChainsStay run rest (trips_of run traced at (below run.workers) moment.stand)
chains_stay run traced at rest moment = record {
  behind = all_behind run (trips_of run traced at (below run.workers) moment.stand) (all_made run traced at (IsTrip run) (λ w stand. stand.adds.each) (below run.workers) moment.stand)
      (no_trip_counts moment);
  away = λ from to hf ht. all_in run.packets to (rest from to) (λ most. none_away moment most from to hf ht);
}
