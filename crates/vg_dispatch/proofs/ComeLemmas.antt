-- For the clauses `work` and `round` of `Worker::round`: what comes to a worker in a round.
use Rattle.std.proofs.Common.{◌≡◌, ℕ, zero, suc, ◌+◌, ◌%◌, ◌<◌, ◌≤◌, List, [], ◌∷◌, ◌++◌, length, map, get_or, take, refl, sym, ap, ◌∙◌, inl, inr, arith}
use Rattle.std.specs.List.{sum_by, AllByRecursion}
use Rattle.std.proofs.Math.Nat.{add-mod_right}
use Rattle.std.proofs.lemmas.List.{append-nil, take_more, take_all}
use Rattle.std.proofs.lemmas.List.Sums.{sum_by-append, sum_by-cons}
use Rattle.std.proofs.lemmas.Bool.{cases_lt}
use Rattle.vg_model.specs.Graph.{Graph}
use Rattle.vg_pool.specs.Contents.{Contents}
use Rattle.vg_hands.specs.Handed.{IsHanded}
use Rattle.vg_capture.specs.declared.captures.Capture.{Capture}
use Rattle.vg_plan.specs.Plan.{Planned, limit_of, first_generation}
use Rattle.vg_plan.proofs.WindowLemmas.{limits_are_fronts}
use Rattle.vg_journeys.specs.Trips.{Run, Arrival, Taken, worker_of, IsInTime}
use Rattle.vg_journeys.specs.Accounts.{HandoffFrame, Account, came, frame_arrivals, arrivals_in, frames_with, below}
use Rattle.vg_journeys.specs.Windows.{next_draws, mark_behind, AreThere, Comes}
use Rattle.vg_journeys.proofs.WindowLemmas.{came_more, begins_now}
use Rattle.vg_underway.specs.Peers.{by_worker}
use Rattle.vg_underway.specs.Queues.{Queue}
use Rattle.vg_underway.specs.Taking.{MayTake, taken_arrivals, AreTaken}
use Rattle.vg_underway.specs.Draws.{AreBelow}
use Rattle.vg_underway.proofs.WorkLemmas.{all_append}

-- frames taken, by worker
none_there : (w from : ℕ) → get_or {A = List HandoffFrame} (by_worker w [] []) from [] ≡ []
none_there zero zero = refl
none_there zero (suc k) = refl
none_there (suc n) zero = refl
none_there (suc n) (suc k) = refl

taken_each : (os ns : List Queue) (ts : List (List HandoffFrame)) (k : ℕ) → AreTaken os ns ts → get_or (map (λ (q : Queue). q.taken) ns) k [] ≡ get_or (map (λ (q : Queue). q.taken) os) k [] ++ get_or ts k []
taken_each [] [] [] k all = refl
taken_each [] [] (t ∷ ts) k all = absurd all
taken_each [] (n ∷ ns) ts k all = absurd all
taken_each (o ∷ os) [] ts k all = absurd all
taken_each (o ∷ os) (n ∷ ns) [] zero all = ap (λ (q : Queue). q.taken) all.0 ∙ sym (append-nil o.taken)
taken_each (o ∷ os) (n ∷ ns) [] (suc k) all = taken_each os ns [] k all.1
taken_each (o ∷ os) (n ∷ ns) (t ∷ ts) zero all = all.1
taken_each (o ∷ os) (n ∷ ns) (t ∷ ts) (suc k) all = taken_each os ns ts k all.2

pub taken_by : (w from : ℕ) (os ns : List Queue) (ts : List (List HandoffFrame)) → AreTaken os ns ts
    → frames_with from (by_worker w [] (map (λ (q : Queue). q.taken) ns)) ≡ frames_with from (by_worker w [] (map (λ (q : Queue). q.taken) os)) ++ frames_with from (by_worker w [] ts)
taken_by zero zero os ns ts all = refl
taken_by zero (suc k) os ns ts all = taken_each os ns ts k all
taken_by (suc w) from [] [] [] all = none_there (suc w) from ∙ sym (ap (λ fs. get_or {A = List HandoffFrame} (by_worker (suc w) [] []) from [] ++ fs) (none_there (suc w) from) ∙ append-nil (get_or {A = List HandoffFrame} (by_worker (suc w) [] []) from []) ∙ none_there (suc w) from)
taken_by (suc w) from [] [] (t ∷ ts) all = absurd all
taken_by (suc w) from [] (n ∷ ns) ts all = absurd all
taken_by (suc w) from (o ∷ os) [] ts all = absurd all
taken_by (suc w) zero (o ∷ os) (n ∷ ns) [] all = ap (λ (q : Queue). q.taken) all.0 ∙ sym (append-nil o.taken)
taken_by (suc w) (suc k) (o ∷ os) (n ∷ ns) [] all =
    taken_by w k os ns [] all.1 ∙ ap (λ fs. get_or (by_worker w [] (map (λ (q : Queue). q.taken) os)) k [] ++ fs) (none_there w k)
taken_by (suc w) zero (o ∷ os) (n ∷ ns) (t ∷ ts) all = all.1
taken_by (suc w) (suc k) (o ∷ os) (n ∷ ns) (t ∷ ts) all = taken_by w k os ns ts all.2

-- a sum over all workers is one over the list
past_end : {X : Type 0} (xs : List X) (k : ℕ) (d : X) → length xs ≤ k → get_or xs k d ≡ d
past_end [] k d h = refl
past_end (x ∷ xs) zero d h = absurd (omega (arith, h))
past_end (x ∷ xs) (suc k) d h = past_end xs k d (omega (arith, h))

sum_front : (f : List HandoffFrame → ℕ) (n : ℕ) (xs : List (List HandoffFrame)) → f [] ≡ 0 → sum_by (λ k. f (get_or xs k [])) (below n) ≡ sum_by f (take n xs)
sum_front f zero xs none = refl
sum_front f (suc n) xs none =
    let rest = sum_front f n xs none in
    let split = sum_by-append (λ k. f (get_or xs k [])) (below n) (n ∷ []) in
    let one = sum_by-cons (λ k. f (get_or xs k [])) n [] in
    elim (cases_lt n (length xs)) [
      | inl inside ↦
          let more = ap (sum_by f) (take_more xs n [] inside) in
          let both = sum_by-append f (take n xs) (get_or xs n [] ∷ []) in
          let last = sum_by-cons f (get_or xs n []) [] in
          let same = ap (λ k. sum_by f (take k xs)) (let e : n + 1 ≡ suc n = omega arith in e) in
          omega (arith, rest, split, one, more, both, last, same)
      | inr past ↦
          let a = ap (sum_by f) (take_all n xs past) in
          let b = ap (sum_by f) (take_all (suc n) xs (omega (arith, past))) in
          let end = ap f (past_end xs n [] past) in
          omega (arith, rest, split, one, a, b, end, none)
    ]

sum_peers : (f : List HandoffFrame → ℕ) (w : ℕ) (xs : List (List HandoffFrame)) → f [] ≡ 0 → sum_by f (by_worker w [] xs) ≡ sum_by f xs
sum_peers f zero xs none = let e = sum_by-cons f [] xs in omega (arith, e, none)
sum_peers f (suc n) [] none = let e = sum_by-cons f [] [] in omega (arith, e, none)
sum_peers f (suc n) (x ∷ xs) none =
    let rest = sum_peers f n xs none in
    omega (arith, rest, sum_by-cons f x xs, sum_by-cons f x (by_worker n [] xs))

peers_most : {X : Type 0} (w : ℕ) (d : X) (xs : List X) → length (by_worker w d xs) ≤ length xs + 1
peers_most zero d xs = omega arith
peers_most (suc n) d [] = omega arith
peers_most (suc n) d (x ∷ xs) = let rest = peers_most n d xs in omega (arith, rest)

pub sum_by_worker : (f : List HandoffFrame → ℕ) (w n : ℕ) (xs : List (List HandoffFrame)) → f [] ≡ 0 → length xs + 1 ≤ n → sum_by (λ k. f (frames_with k (by_worker w [] xs))) (below n) ≡ sum_by f xs
sum_by_worker f w n xs none few =
    let all = take_all n (by_worker w [] xs) (let h = peers_most w [] xs in omega (arith, h, few)) in
    sum_front f n (by_worker w [] xs) none ∙ ap (sum_by f) all ∙ sum_peers f w xs none

pub sum_arrivals : (count : Arrival → ℕ) (worker : ℕ) (took : List (List HandoffFrame)) → sum_by count (taken_arrivals worker took) ≡ sum_by (λ frames. sum_by count (arrivals_in worker frames)) took
sum_arrivals count worker [] = refl
sum_arrivals count worker (t ∷ ts) =
    let rest = sum_arrivals count worker ts in
    omega (arith, rest, sum_by-append count (arrivals_in worker t) (taken_arrivals worker ts), sum_by-cons (λ frames. sum_by count (arrivals_in worker frames)) t ts)

-- what came to a worker grows by the frames that it took and the packets that it drew
pub came_in_round : (run : Run) (old new : Account) (queues new_queues : List Queue) (took : List (List HandoffFrame)) (many : ℕ) (count : Arrival → ℕ) → 0 < run.workers → old.mark % run.workers ≡ old.worker → new.worker ≡ old.worker
    → AreThere run.workers old.mark many run.packets → new.mark ≡ mark_behind run.workers old.mark many → old.taken ≡ by_worker old.worker [] (map (λ (q : Queue). q.taken) queues) → new.taken ≡ by_worker old.worker [] (map (λ (q : Queue). q.taken) new_queues)
    → AreTaken queues new_queues took → length took + 1 ≤ run.workers
    → came run count old + sum_by count (taken_arrivals old.worker took ++ next_draws run.workers old.mark many run.packets) ≡ came run count new
came_in_round run old new queues new_queues took many count some own same there mark was is taken few =
    let comes : Comes run old new many (λ from. frames_with from (by_worker old.worker [] took)) = record {
      same_worker = same;
      there = there;
      mark = mark;
      taken = λ from. ap (frames_with from) is ∙ taken_by old.worker from queues new_queues took taken ∙ ap (λ fs. frames_with from fs ++ frames_with from (by_worker old.worker [] took)) (sym was);
    } in
    let all = came_more run old new many (λ from. frames_with from (by_worker old.worker [] took)) count some own comes in
    let sums = sum_by_worker (λ frames. sum_by count (arrivals_in old.worker frames)) old.worker run.workers took refl few in
    let each = sum_arrivals count old.worker took in
    let both = sum_by-append count (taken_arrivals old.worker took) (next_draws run.workers old.mark many run.packets) in
    omega (arith, all, sums, each, both)

-- they come to this worker
own_packets : (workers worker node : ℕ) (packets : List Contents) → AllByRecursion (λ e. worker ≡ worker_of workers e) (map (Taken worker node) packets)
own_packets workers worker node [] = tt
own_packets workers worker node (c ∷ cs) = (refl, own_packets workers worker node cs)

own_frames : (workers worker : ℕ) (frames : List HandoffFrame) → AllByRecursion (λ e. worker ≡ worker_of workers e) (arrivals_in worker frames)
own_frames workers worker [] = tt
own_frames workers worker (f ∷ fs) = all_append (λ e. worker ≡ worker_of workers e) (frame_arrivals worker f) (arrivals_in worker fs) (own_packets workers worker f.node f.packets) (own_frames workers worker fs)

own_taken : (workers worker : ℕ) (took : List (List HandoffFrame)) → AllByRecursion (λ e. worker ≡ worker_of workers e) (taken_arrivals worker took)
own_taken workers worker [] = tt
own_taken workers worker (t ∷ ts) = all_append (λ e. worker ≡ worker_of workers e) (arrivals_in worker t) (taken_arrivals worker ts) (own_frames workers worker t) (own_taken workers worker ts)

own_draws : (workers worker mark many : ℕ) (packets : List (List ℕ)) → mark % workers ≡ worker → AllByRecursion (λ e. worker ≡ worker_of workers e) (next_draws workers mark many packets)
own_draws workers worker mark zero packets own = tt
own_draws workers worker mark (suc many) packets own = (sym own, own_draws workers worker (mark + workers) many packets (add-mod_right mark workers ∙ own))

pub own_all : (workers worker mark many : ℕ) (took : List (List HandoffFrame)) (packets : List (List ℕ)) → mark % workers ≡ worker → AllByRecursion (λ e. worker ≡ worker_of workers e) (taken_arrivals worker took ++ next_draws workers mark many packets)
own_all workers worker mark many took packets own =
    all_append (λ e. worker ≡ worker_of workers e) (taken_arrivals worker took) (next_draws workers mark many packets) (own_taken workers worker took) (own_draws workers worker mark many packets own)

pub mark_own : (workers worker mark many : ℕ) → mark % workers ≡ worker → mark_behind workers mark many % workers ≡ worker
mark_own workers worker mark zero own = own
mark_own workers worker mark (suc many) own = mark_own workers worker (mark + workers) many (add-mod_right mark workers ∙ own)

-- and in time
time_packets : (first : ℕ → ℕ) (generation earlier worker node : ℕ) (packets : List Contents) → earlier ≤ generation → AllByRecursion (IsHanded earlier) packets → AllByRecursion (IsInTime first generation) (map (Taken worker node) packets)
time_packets first generation earlier worker node [] h all = tt
time_packets first generation earlier worker node (c ∷ cs) h all = (let e = all.0.last in omega (arith, e, h), time_packets first generation earlier worker node cs h all.1)

time_frames : (first : ℕ → ℕ) (g : Graph) (generation worker : ℕ) (frames : List HandoffFrame) → AllByRecursion (MayTake g generation) frames → AllByRecursion (IsInTime first generation) (arrivals_in worker frames)
time_frames first g generation worker [] all = tt
time_frames first g generation worker (f ∷ fs) all =
    all_append (IsInTime first generation) (frame_arrivals worker f) (arrivals_in worker fs) (time_packets first generation f.generation worker f.node f.packets all.0.earlier all.0.kept.each) (time_frames first g generation worker fs all.1)

time_taken : (first : ℕ → ℕ) (g : Graph) (generation worker : ℕ) (took : List (List HandoffFrame)) → AllByRecursion (AllByRecursion (MayTake g generation)) took → AllByRecursion (IsInTime first generation) (taken_arrivals worker took)
time_taken first g generation worker [] all = tt
time_taken first g generation worker (t ∷ ts) all =
    all_append (IsInTime first generation) (arrivals_in worker t) (taken_arrivals worker ts) (time_frames first g generation worker t all.0) (time_taken first g generation worker ts all.1)

-- the next packets begin in this generation: those of the one before are drawn
time_draws : (plan : Planned) (capture : Capture) (generation limit workers mark many : ℕ) (packets : List (List ℕ)) → limit ≤ limit_of plan.script capture generation → limit ≤ length capture.packets
    → ((earlier : ℕ) → suc earlier ≡ generation → limit_of plan.script capture earlier ≤ mark) → AreBelow workers mark limit many → AllByRecursion (IsInTime (first_generation plan.script capture) generation) (next_draws workers mark many packets)
time_draws plan capture generation limit workers mark zero packets most within now all = tt
time_draws plan capture generation limit workers mark (suc many) packets most within now all =
    let here = all.0 in (
      sym (begins_now (first_generation plan.script capture) (limit_of plan.script capture) (length capture.packets) generation mark (λ g i inside. limits_are_fronts plan.script capture g i inside)
          (omega (arith, here, within)) (omega (arith, here, most)) now),
      time_draws plan capture generation limit workers (mark + workers) many packets most within (λ earlier is. (let h = now earlier is in omega (arith, h))) all.1,
    )

pub time_all : (plan : Planned) (capture : Capture) (g : Graph) (generation limit workers worker mark many : ℕ) (took : List (List HandoffFrame)) (packets : List (List ℕ)) → limit ≤ limit_of plan.script capture generation → limit ≤ length capture.packets
    → ((earlier : ℕ) → suc earlier ≡ generation → limit_of plan.script capture earlier ≤ mark) → AreBelow workers mark limit many → AllByRecursion (AllByRecursion (MayTake g generation)) took
    → AllByRecursion (IsInTime (first_generation plan.script capture) generation) (taken_arrivals worker took ++ next_draws workers mark many packets)
time_all plan capture g generation limit workers worker mark many took packets most within now all may =
    all_append (IsInTime (first_generation plan.script capture) generation) (taken_arrivals worker took) (next_draws workers mark many packets)
    (time_taken (first_generation plan.script capture) g generation worker took may) (time_draws plan capture generation limit workers mark many packets most within now all)
