-- For `laws::kept_in_the_end`, the fields `allocated_by` and `freed_by` of `AreKept`: what the cache of each worker gave out and took in once a run is over.
use Rattle.std.proofs.Common.{◌≡◌, ℕ, zero, suc, ◌+◌, ◌*◌, ◌%◌, ◌<◌, ◌≤◌, ◌⊎◌, inl, inr, Bool, true, false, cond, List, [], ◌∷◌, ◌++◌, length, map, refl, sym, ap, subst, ◌∙◌, arith}
use Rattle.std.specs.Prelude.{Option, Some, None, ◌==◌, ◌&&◌, if◌then◌else◌}
use Rattle.std.specs.List.{sum_by, AllByRecursion}
use Rattle.std.proofs.lemmas.Bool.{eq-eqb, ne_eqb, lt-ltb}
use Rattle.std.proofs.lemmas.List.Sums.{sum_by-cons, sum_by-append}
use Rattle.vg_model.specs.declared.fates.Leg.{Leg}
use Rattle.vg_model.specs.declared.fates.Fate.{Fate}
use Rattle.vg_model.specs.Leg.{Outcome, Sent, Dropped, Handed}
use Rattle.vg_model.specs.Journey.{Journey, fate_of}
use Rattle.vg_model.specs.Lawful.{last_worker}
use Rattle.vg_pool.specs.Contents.{Contents}
use Rattle.vg_journeys.specs.Chains.{count_some}
use Rattle.vg_journeys.specs.Trips.{Run, Arrival, Drawn, Taken, Trip, legs_before, pieces_before, here, contents_after, onward_by, logged_by, logged}
use Rattle.vg_journeys.specs.Accounts.{HandoffFrame, Account, frames_with, frame_arrivals, arrivals_in, draws_from, below, drawn_pieces, freed_pieces}
use Rattle.vg_journeys.specs.Moments.{StandsFor, trips_of, IsMoment, IsOver}
use Rattle.vg_journeys.specs.Runs.{chain_of}
use Rattle.vg_journeys.specs.Kept.{own_pieces, ended_pieces}
use Rattle.vg_journeys.proofs.AccountLemmas.{all_mono}
use Rattle.vg_journeys.proofs.FlowLemmas.{sum_same}
use Rattle.vg_journeys.proofs.JoinLemmas.{sum_made, sum_none, same_or_not, only_one, came_none}

pub none_drawn_in : (to : ℕ) (frames : List HandoffFrame) → sum_by drawn_pieces (arrivals_in to frames) ≡ 0
none_drawn_in to [] = refl
none_drawn_in to (frame ∷ frames) =
    let rest = none_drawn_in to frames in
    let here = packets_of frame.packets in
    omega (arith, rest, here, sum_by-append drawn_pieces (frame_arrivals to frame) (arrivals_in to frames))
  where
    packets_of : (cs : List Contents) → sum_by drawn_pieces (map (Taken to frame.node) cs) ≡ 0
    packets_of [] = refl
    packets_of (c ∷ cs) = let more = packets_of cs in omega (arith, more, sum_by-cons drawn_pieces (Taken to frame.node c) (map (Taken to frame.node) cs))

-- what holds of the numbers below another holds of each
in_below : (P : ℕ → Type 0) (n w : ℕ) → AllByRecursion P (below n) → w < n → P w
in_below P zero w all h = absurd (omega (arith, h))
in_below P (suc n) w all h = here (same_or_not w n) (λ low. in_below P n w (split (below n) (n ∷ []) all).0 low)
  where
    split : (xs ys : List ℕ) → AllByRecursion P (xs ++ ys) → AllByRecursion P xs × AllByRecursion P ys
    split [] ys both = (tt, both)
    split (x ∷ xs) ys both = let rest = split xs ys both.1 in ((both.0, rest.0), rest.1)

    here : (w ≡ n) ⊎ (w ≡ n → ⊥) → (w < n → P w) → P w
    here (inl is) front = subst P (sym is) (split (below n) (n ∷ []) all).1.0
    here (inr not) front = front (omega (arith, h, not))

-- once a worker has drawn all packets from a number on, how far it has drawn makes no difference
drawn_all : (number workers worker mark last : ℕ) (packets : List (List ℕ)) → number + length packets ≤ mark → number + length packets ≤ last
    → draws_from number workers worker mark packets ≡ draws_from number workers worker last packets
drawn_all number workers worker mark last [] far end = refl
drawn_all number workers worker mark last (bytes ∷ packets) far end =
    let first : List Arrival = draws_from (number + 1) workers worker mark packets in
    let second : List Arrival = draws_from (number + 1) workers worker last packets in
    let rest : first ≡ second = drawn_all (number + 1) workers worker mark last packets (omega (arith, far)) (omega (arith, end)) in
    ap (λ (b : Bool). if (number % workers == worker) && b then Drawn number bytes ∷ first else first) (lt-ltb number mark (omega (arith, far)))
    ∙ ap (λ (l : List Arrival). if (number % workers == worker) && true then Drawn number bytes ∷ l else l) rest
    ∙ sym (ap (λ (b : Bool). if (number % workers == worker) && b then Drawn number bytes ∷ second else second) (lt-ltb number last (omega (arith, end))))

-- a trip's buffers come back, or go on
pub log_or_onward : (c : Contents) (outcome : Outcome) (refused : Option ℕ)
    → count_some (λ (f : Fate). c.pieces) (logged_by c outcome refused) + count_some pieces_before (onward_by c outcome refused) ≡ c.pieces
log_or_onward c (Handed node to) None = omega arith
log_or_onward c (Handed node to) (Some accepted) = omega arith
log_or_onward c (Sent interface) refused = omega arith
log_or_onward c (Dropped node error) refused = omega arith

-- the worker of the last of these legs
last_here : (legs : List Leg) (leg : Leg) → last_worker (legs ++ leg ∷ []) ≡ leg.worker
last_here [] leg = refl
last_here (first ∷ []) leg = refl
last_here (first ∷ next ∷ legs) leg = last_here (next ∷ legs) leg

-- the buffers of what is logged count by its last worker
logged_by_one : (f : ℕ → ℕ) (c : Contents) (outcome : Outcome) (refused : Option ℕ)
    → count_some (λ (x : Fate). f (last_worker x.legs) * c.pieces) (logged_by c outcome refused) ≡ f (last_worker c.legs) * count_some (λ (x : Fate). c.pieces) (logged_by c outcome refused)
logged_by_one f c (Handed node to) None = omega arith
logged_by_one f c (Handed node to) (Some accepted) = refl
logged_by_one f c (Sent interface) refused = refl
logged_by_one f c (Dropped node error) refused = refl

logged_on : (f : ℕ → ℕ) (w : ℕ) (ts : List Trip) → AllByRecursion (λ t. t.worker ≡ w) ts
    → sum_by (λ t. count_some (λ (x : Fate). f (last_worker x.legs) * (contents_after t).pieces) (logged t)) ts ≡ f w * sum_by freed_pieces ts
logged_on f w [] all = omega arith
logged_on f w (t ∷ ts) all =
    let count : Trip → ℕ = λ t. count_some (λ (x : Fate). f (last_worker x.legs) * (contents_after t).pieces) (logged t) in
    let rest = logged_on f w ts all.1 in
    let one = logged_by_one f (contents_after t) t.way.outcome t.refused ∙ ap (λ v. f v * freed_pieces t) (last_here (legs_before t.arrival) (here t) ∙ all.0) in
    let split : f w * (freed_pieces t + sum_by freed_pieces ts) ≡ f w * freed_pieces t + f w * sum_by freed_pieces ts = grind arith in
    let cons = ap (λ n. f w * n) (sum_by-cons freed_pieces t ts) in
    omega (arith, rest, one, split, cons, sum_by-cons count t ts)

-- a cache gave out the chains of its worker's own packets
pub allocated_on : {run : Run} {traced : ℕ} {at : ℕ → Account} {rest : ℕ → ℕ → List HandoffFrame} → IsMoment run traced at rest → IsOver run at rest
    → (w : ℕ) → w < run.workers → (at w).allocated ≡ own_pieces run.workers w run.packets
allocated_on {run} {traced} {at} {rest} moment over w h =
    let stand = in_below (λ v. StandsFor run traced v (at v)) run.workers w moment.stand h in
    let allocated = stand.adds.allocated in
    let entered = stand.adds.entered drawn_pieces in
    let none = came_none run traced w drawn_pieces h in
    let taken = sum_none (λ from. sum_by drawn_pieces (arrivals_in (at w).worker (frames_with from (at w).taken)))
    (λ from. none_drawn_in (at w).worker (frames_with from (at w).taken)) (below run.workers) in
    let own : sum_by drawn_pieces (draws_from 0 run.workers (at w).worker (at w).mark run.packets) ≡ sum_by drawn_pieces (draws_from 0 run.workers w (at w).mark run.packets) =
    ap (λ v. sum_by drawn_pieces (draws_from 0 run.workers v (at w).mark run.packets)) stand.adds.same_worker in
    let far = over.drawn w h in
    let drawn = ap (sum_by drawn_pieces) (drawn_all 0 run.workers w (at w).mark (length run.packets) run.packets (omega (arith, far)) (omega arith)) in
    omega (arith, allocated, entered, none, taken, own, drawn)

-- and took in those of the packets whose last leg is on its worker
pub freed_on : {run : Run} {traced : ℕ} {at : ℕ → Account} {rest : ℕ → ℕ → List HandoffFrame} → (moment : IsMoment run traced at rest) → (js : List Journey)
    → ((count : Fate → ℕ → ℕ) → sum_by (λ t. count_some (λ (x : Fate). count x (contents_after t).pieces) (logged t)) (trips_of run traced at (below run.workers) moment.stand)
    ≡ sum_by (λ (j : Journey). count (fate_of j) (chain_of run.packets j.number)) js)
    → (w : ℕ) → w < run.workers → (at w).freed ≡ ended_pieces w run.packets js
freed_on {run} {traced} {at} {rest} moment js freed_are w h =
    let is : ℕ → ℕ = λ v. cond (v == w) 1 0 in
    let count : Fate → ℕ → ℕ = λ x n. is (last_worker x.legs) * n in
    let made = sum_made run traced at (λ t. count_some (λ (x : Fate). count x (contents_after t).pieces) (logged t)) (λ v. is v * (at v).freed)
    (λ v stand.
    let own = all_mono (λ (t : Trip). t.worker ≡ (at v).worker) (λ (t : Trip). t.worker ≡ v) (λ t same. same ∙ stand.adds.same_worker) stand.trips stand.adds.own in
    let freed = stand.adds.freed in
    let many : (at v).freed ≡ sum_by freed_pieces stand.trips = omega (arith, freed) in
    logged_on is v stand.trips own ∙ ap (λ n. is v * n) (sym many)) (below run.workers) moment.stand in
    let alone = only_one (λ v. is v * (at v).freed) run.workers w h (λ v not. ap (λ (b : Bool). cond b 1 0 * (at v).freed) (ne_eqb v w not) ∙ none v) in
    let here : is w * (at w).freed ≡ 1 * (at w).freed = ap (λ (b : Bool). cond b 1 0 * (at w).freed) (eq-eqb w w refl) in
    let all = freed_are count in
    let ended = sum_same (λ (j : Journey). is (last_worker j.course.legs) * chain_of run.packets j.number) (λ (j : Journey). if last_worker j.course.legs == w then chain_of run.packets j.number else 0)
    (λ j. chosen (last_worker j.course.legs == w) (chain_of run.packets j.number)) js in
    omega (arith, made, alone, here, all, ended)
  where
    none : (v : ℕ) → 0 * (at v).freed ≡ 0
    none v = omega arith

    chosen : (b : Bool) (n : ℕ) → cond b 1 0 * n ≡ (if b then n else 0)
    chosen true n = omega arith
    chosen false n = omega arith
