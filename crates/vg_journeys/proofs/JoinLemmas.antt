-- For `laws::nothing_is_lost`, and for `workers_lose_nothing`, `buffers_are_counted`, `chains_stay` and `kept_in_the_end` of `laws`: all workers put together.
use Rattle.std.proofs.Common.{◌≡◌, ℕ, zero, suc, ◌+◌, ◌%◌, ◌<◌, ◌≤◌, ◌⊎◌, inl, inr, Bool, true, false, List, [], ◌∷◌, ◌++◌, length, refl, sym, ap, ◌∙◌, arith}
use Rattle.std.specs.Prelude.{◌==◌, ◌&&◌, nat_lt, if◌then◌else◌}
use Rattle.std.specs.List.{sum_by, AllByRecursion}
use Rattle.std.proofs.lemmas.Bool.{eq-eqb, ne_eqb, lt-ltb, ltb-true}
use Rattle.std.proofs.lemmas.List.Sums.{sum_by-cons, sum_by-append}
use Rattle.std.proofs.lemmas.Grind.{flat_map-append}
use Rattle.std.proofs.Math.Nat.{mod-eq_of_lt, mod-lt}
use Rattle.vg_journeys.specs.Chains.{count_some}
use Rattle.vg_journeys.specs.Trips.{Run, Arrival, Drawn, Trip, onward}
use Rattle.vg_journeys.specs.Treks.{drawn_from}
use Rattle.vg_journeys.specs.Accounts.{HandoffFrame, Account, frames_with, frame_arrivals, arrivals_in, draws_from, below, came, gone}
use Rattle.vg_journeys.specs.Moments.{begun, StandsFor, trips_of, IsMoment, IsConserved}
use Rattle.vg_journeys.proofs.FlowLemmas.{sum_same, true_or_false}
use Rattle.vg_journeys.proofs.AccountLemmas.{all_append}

-- sums over numbers
pub sum_at : {X : Type 0} (f h : X → ℕ) (P : X → Type 0) (xs : List X) → AllByRecursion P xs → ((x : X) → P x → f x ≡ h x) → sum_by f xs ≡ sum_by h xs
sum_at f h P [] all each = refl
sum_at f h P (x ∷ xs) all each =
    let rest = sum_at f h P xs all.1 each in
    let one = each x all.0 in
    omega (arith, rest, one, sum_by-cons f x xs, sum_by-cons h x xs)

pub sum_none : {X : Type 0} (f : X → ℕ) → ((x : X) → f x ≡ 0) → (xs : List X) → sum_by f xs ≡ 0
sum_none f none [] = refl
sum_none f none (x ∷ xs) = let one = none x in let rest = sum_none f none xs in omega (arith, one, rest, sum_by-cons f x xs)

pub sum_both : {X : Type 0} (f h : X → ℕ) (xs : List X) → sum_by (λ x. f x + h x) xs ≡ sum_by f xs + sum_by h xs
sum_both f h [] = refl
sum_both f h (x ∷ xs) =
    let rest = sum_both f h xs in
    omega (arith, rest, sum_by-cons (λ x. f x + h x) x xs, sum_by-cons f x xs, sum_by-cons h x xs)

-- sums of sums, in either order
pub sum_swapped : {X Y : Type 0} (f : X → Y → ℕ) (xs : List X) (ys : List Y) → sum_by (λ x. sum_by (f x) ys) xs ≡ sum_by (λ y. sum_by (λ x. f x y) xs) ys
sum_swapped f [] ys = sym (sum_none (λ y. 0) (λ y. refl) ys)
sum_swapped {X} {Y} f (x ∷ xs) ys =
    let rest = sum_swapped f xs ys in
    let split = sum_same (λ y. sum_by (λ x. f x y) (x ∷ xs)) (λ y. f x y + sum_by (λ x. f x y) xs) (λ y. sum_by-cons (λ x. f x y) x xs) ys in
    let both = sum_both (f x) (λ y. sum_by (λ x. f x y) xs) ys in
    omega (arith, rest, split, both, sum_by-cons (λ x. sum_by (f x) ys) x xs)

pub all_below : (P : ℕ → Type 0) (n : ℕ) → ((w : ℕ) → w < n → P w) → AllByRecursion P (below n)
all_below P zero each = tt
all_below P (suc n) each = all_append P (below n) (n ∷ []) (all_below P n (λ w h. each w (omega (arith, h)))) (each n (omega arith), tt)

-- numbers are the same or not
pub same_or_not : (a b : ℕ) → (a ≡ b) ⊎ (a ≡ b → ⊥)
same_or_not zero zero = inl refl
same_or_not zero (suc b) = inr (λ e. omega (arith, e))
same_or_not (suc a) zero = inr (λ e. omega (arith, e))
same_or_not (suc a) (suc b) = here (same_or_not a b)
  where
    here : (a ≡ b) ⊎ (a ≡ b → ⊥) → (suc a ≡ suc b) ⊎ (suc a ≡ suc b → ⊥)
    here (inl is) = inl (ap suc is)
    here (inr not) = inr (λ e. not (omega (arith, e)))

-- each summand is at most the sum
pub at_most_sum : (f : ℕ → ℕ) (n w : ℕ) → w < n → f w ≤ sum_by f (below n)
at_most_sum f zero w h = absurd (omega (arith, h))
at_most_sum f (suc n) w h = here (same_or_not w n) (at_most_sum f n w)
  where
    here : (w ≡ n) ⊎ (w ≡ n → ⊥) → (w < n → f w ≤ sum_by f (below n)) → f w ≤ sum_by f (below n ++ n ∷ [])
    here (inl is) later = let same = ap f is in omega (arith, same, sum_by-append f (below n) (n ∷ []), sum_by-cons f n [])
    here (inr not) later = let more = later (omega (arith, h, not)) in omega (arith, more, sum_by-append f (below n) (n ∷ []))

-- where one summand alone isn't 0, it is the sum
pub only_one : (f : ℕ → ℕ) (n k : ℕ) → k < n → ((w : ℕ) → (w ≡ k → ⊥) → f w ≡ 0) → sum_by f (below n) ≡ f k
only_one f zero k h none = absurd (omega (arith, h))
only_one f (suc n) k h none = here (same_or_not k n) (only_one f n k)
  where
    here : (k ≡ n) ⊎ (k ≡ n → ⊥) → (k < n → ((w : ℕ) → (w ≡ k → ⊥) → f w ≡ 0) → sum_by f (below n) ≡ f k) → sum_by f (below n ++ n ∷ []) ≡ f k
    here (inl is) later =
        let same = ap f is in
        let others : sum_by f (below n) ≡ 0 = sum_at f (λ w. 0) (λ w. w < n) (below n) (all_below (λ w. w < n) n (λ w l. l)) (λ w l. none w (λ e. omega (arith, l, e, is))) ∙ sum_none (λ w. 0) (λ w. refl) (below n) in
        omega (arith, same, others, sum_by-append f (below n) (n ∷ []), sum_by-cons f n [])
    here (inr not) later =
        let rest = later (omega (arith, h, not)) none in
        let last = none n (λ e. not (sym e)) in
        omega (arith, rest, last, sum_by-append f (below n) (n ∷ []), sum_by-cons f n [])

-- what a worker's trips count is known worker by worker
pub sum_made : (run : Run) (traced : ℕ) (at : ℕ → Account) (f : Trip → ℕ) (h : ℕ → ℕ) → ((w : ℕ) (stand : StandsFor run traced w (at w)) → sum_by f stand.trips ≡ h w)
    → (ws : List ℕ) (all : AllByRecursion (λ w. StandsFor run traced w (at w)) ws) → sum_by f (trips_of run traced at ws all) ≡ sum_by h ws
sum_made run traced at f h each [] all = refl
sum_made run traced at f h each (w ∷ ws) all =
    let one = each w all.0 in
    let rest = sum_made run traced at f h each ws all.1 in
    omega (arith, one, rest, sum_by-append f all.0.trips (trips_of run traced at ws all.1), sum_by-cons h w ws)

pub all_made : (run : Run) (traced : ℕ) (at : ℕ → Account) (P : Trip → Type 0) → ((w : ℕ) (stand : StandsFor run traced w (at w)) → AllByRecursion P stand.trips)
    → (ws : List ℕ) (all : AllByRecursion (λ w. StandsFor run traced w (at w)) ws) → AllByRecursion P (trips_of run traced at ws all)
all_made run traced at P each [] all = tt
all_made run traced at P each (w ∷ ws) all = all_append P all.0.trips (trips_of run traced at ws all.1) (each w all.0) (all_made run traced at P each ws all.1)

-- a worker has drawn nothing at first
none_drawn : (number workers worker : ℕ) (packets : List (List ℕ)) → worker < workers → draws_from number workers worker worker packets ≡ []
none_drawn number workers worker [] h = refl
none_drawn number workers worker (bytes ∷ packets) h =
    ap (λ (b : Bool). if b then Drawn number bytes ∷ draws_from (number + 1) workers worker worker packets else draws_from (number + 1) workers worker worker packets) (never (same_or_not (number % workers) worker))
    ∙ none_drawn (number + 1) workers worker packets h
  where
    never : (number % workers ≡ worker) ⊎ (number % workers ≡ worker → ⊥) → ((number % workers == worker) && nat_lt number worker) ≡ false
    never (inr not) = ap (λ b. b && nat_lt number worker) (ne_eqb (number % workers) worker not)
    never (inl is) = rw (eq-eqb (number % workers) worker is) (late (true_or_false (nat_lt number worker)))
      where
        late : (nat_lt number worker ≡ true) ⊎ (nat_lt number worker ≡ false) → nat_lt number worker ≡ false
        late (inr above) = above
        late (inl below_it) = absurd (let l = ltb-true number worker below_it in let e : number % workers ≡ number = mod-eq_of_lt (omega (arith, l, h)) in omega (arith, l, e, is))

pub came_none : (run : Run) (traced worker : ℕ) (count : Arrival → ℕ) → worker < run.workers → came run count (begun traced worker) ≡ 0
came_none run traced worker count h =
    let drawn = ap (sum_by count) (none_drawn 0 run.workers worker run.packets h) in
    let taken = sum_none (λ from. sum_by count (arrivals_in worker (frames_with from []))) (λ from. refl) (below run.workers) in
    omega (arith, drawn, taken)

pub gone_none : (run : Run) (traced worker : ℕ) (count : Arrival → ℕ) → gone run count (begun traced worker) ≡ 0
gone_none run traced worker count = sum_none (λ to. sum_by count (arrivals_in to (frames_with to []))) (λ to. refl) (below run.workers)

-- what a queue accepted was taken, or is on its way
pub split_queue : (count : Arrival → ℕ) (to : ℕ) (put taken rest : List HandoffFrame) → put ≡ taken ++ rest
    → sum_by count (arrivals_in to put) ≡ sum_by count (arrivals_in to taken) + sum_by count (arrivals_in to rest)
split_queue count to put taken rest is =
    ap (λ frames. sum_by count (arrivals_in to frames)) is ∙ ap (sum_by count) (flat_map-append (frame_arrivals to) taken rest)
    ∙ sum_by-append count (arrivals_in to taken) (arrivals_in to rest)

-- nothing is lost, at any moment
pub conserved : (run : Run) (traced : ℕ) (at : ℕ → Account) (rest : ℕ → ℕ → List HandoffFrame) (moment : IsMoment run traced at rest)
    → IsConserved run at rest (trips_of run traced at (below run.workers) moment.stand)
conserved run traced at rest moment count =
    let ws : List ℕ = below run.workers in
    let taken : ℕ → ℕ → ℕ = λ w from. sum_by count (arrivals_in w (frames_with from (at w).taken)) in
    let put : ℕ → ℕ → ℕ = λ from to. sum_by count (arrivals_in to (frames_with to (at from).put)) in
    let rests : ℕ → ℕ → ℕ = λ from to. sum_by count (arrivals_in to (rest from to)) in
    let draws : ℕ → ℕ = λ w. sum_by count (draws_from 0 run.workers w (at w).mark run.packets) in
    let came_all = sum_made run traced at (λ t. count t.arrival) (λ w. draws w + sum_by (taken w) ws)
    (λ w stand.
    let e = stand.adds.entered count in
    let z = came_none run traced w count stand.within in
    let same : came run count (at w) ≡ draws w + sum_by (taken w) ws =
    ap (λ v. sum_by count (draws_from 0 run.workers v (at w).mark run.packets) + sum_by (λ from. sum_by count (arrivals_in v (frames_with from (at w).taken))) ws) stand.adds.same_worker in
    omega (arith, e, z, same)) ws moment.stand in
    let gone_all = sum_made run traced at (λ t. count_some count (onward t)) (λ w. sum_by (put w) ws)
    (λ w stand. let e = stand.adds.went count in let z = gone_none run traced w count in omega (arith, e, z)) ws moment.stand in
    let low : AllByRecursion (λ w. w < run.workers) ws = all_below (λ w. w < run.workers) run.workers (λ w h. h) in
    let parts : sum_by (λ from. sum_by (put from) ws) ws ≡ sum_by (λ from. sum_by (λ to. taken to from) ws) ws + sum_by (λ from. sum_by (rests from) ws) ws =
    sum_at (λ from. sum_by (put from) ws) (λ from. sum_by (λ to. taken to from) ws + sum_by (rests from) ws) (λ w. w < run.workers) ws low
    (λ from hf. sum_at (put from) (λ to. taken to from + rests from to) (λ w. w < run.workers) ws low
    (λ to ht. split_queue count to (frames_with to (at from).put) (frames_with from (at to).taken) (rest from to) (moment.queues from to hf ht))
    ∙ sum_both (λ to. taken to from) (rests from) ws)
    ∙ sum_both (λ from. sum_by (λ to. taken to from) ws) (λ from. sum_by (rests from) ws) ws in
    let swapped = sum_swapped taken ws ws in
    let both = sum_both draws (λ w. sum_by (taken w) ws) ws in
    omega (arith, came_all, gone_all, parts, swapped, both)

-- each packet is drawn by one worker
pub all_drawn : (workers number : ℕ) (mark : ℕ → ℕ) (count : Arrival → ℕ) (packets : List (List ℕ)) → 0 < workers → ((w : ℕ) → w < workers → number + length packets ≤ mark w)
    → sum_by (λ w. sum_by count (draws_from number workers w (mark w) packets)) (below workers) ≡ sum_by count (drawn_from number packets)
all_drawn workers number mark count [] some far = sum_none (λ w. 0) (λ w. refl) (below workers)
all_drawn workers number mark count (bytes ∷ packets) some far =
    let x : ℕ = count (Drawn number bytes) in
    let own : ℕ → ℕ = λ w. if number % workers == w then x else 0 in
    let rest = all_drawn workers (number + 1) mark count packets some (λ w h. let f = far w h in omega (arith, f)) in
    let split : sum_by (λ w. sum_by count (draws_from number workers w (mark w) (bytes ∷ packets))) (below workers)
    ≡ sum_by (λ w. own w + sum_by count (draws_from (number + 1) workers w (mark w) packets)) (below workers) =
    sum_at (λ w. sum_by count (draws_from number workers w (mark w) (bytes ∷ packets))) (λ w. own w + sum_by count (draws_from (number + 1) workers w (mark w) packets))
    (λ w. w < workers) (below workers) (all_below (λ w. w < workers) workers (λ w l. l)) (λ w l. one w (let f = far w l in omega (arith, f))) in
    let both = sum_both own (λ w. sum_by count (draws_from (number + 1) workers w (mark w) packets)) (below workers) in
    let once : sum_by own (below workers) ≡ own (number % workers) =
    only_one own workers (number % workers) (mod-lt number some) (λ w not. ap (λ (b : Bool). if b then x else 0) (ne_eqb (number % workers) w (λ e. not (sym e)))) in
    let at : own (number % workers) ≡ x = ap (λ (b : Bool). if b then x else 0) (eq-eqb (number % workers) (number % workers) refl) in
    omega (arith, rest, split, both, once, at, sum_by-cons count (Drawn number bytes) (drawn_from (number + 1) packets))
  where
    one : (w : ℕ) → number < mark w → sum_by count (draws_from number workers w (mark w) (bytes ∷ packets))
        ≡ (if number % workers == w then count (Drawn number bytes) else 0) + sum_by count (draws_from (number + 1) workers w (mark w) packets)
    one w l = by (number % workers == w) (nat_lt number (mark w)) (lt-ltb number (mark w) l)
      where
        by : (b c : Bool) → c ≡ true → sum_by count (if b && c then Drawn number bytes ∷ draws_from (number + 1) workers w (mark w) packets else draws_from (number + 1) workers w (mark w) packets)
            ≡ (if b then count (Drawn number bytes) else 0) + sum_by count (draws_from (number + 1) workers w (mark w) packets)
        by true true e = sum_by-cons count (Drawn number bytes) (draws_from (number + 1) workers w (mark w) packets)
        by false true e = omega arith
        by b false e = absurd (let k : false ≡ true = e in cc)
