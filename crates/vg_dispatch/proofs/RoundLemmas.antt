-- For the clauses of `Worker::round`, above all `work` and `round`: a round of a worker, and what it comes to.
use Rattle.std.proofs.Common.{◌≡◌, ℕ, zero, suc, ◌+◌, ◌-◌, ◌*◌, ◌%◌, ◌<◌, ◌≤◌, ◌^◌, List, [], ◌∷◌, ◌++◌, length, map, get_or, take, drop, refl, sym, ap, subst, ◌∙◌, inl, inr, arith, length-append}
use Rattle.std.specs.Prelude.{Bool, true, false, Option, Some, None, slice_get, replicate, vec_len}
use Rattle.std.specs.List.{sum_by, filter_map, cons_option, AllByRecursion}
use Rattle.std.proofs.lemmas.List.{length-map, length-drop}
use Rattle.std.proofs.lemmas.Bool.{cases_lt}
use Rattle.std.proofs.lemmas.Grind.{flat_map-append}
use Rattle.std.proofs.lemmas.List.Sums.{sum_by-append, sum_by-cons, sum_by-take-drop}
use Rattle.vg_model.specs.Graph.{Graph}
use Rattle.vg_model.specs.Visit.{Visit}
use Rattle.vg_model.specs.Valid.{IsKindSet}
use Rattle.vg_model.specs.Leg.{Outcome, Sent, Dropped, Handed}
use Rattle.vg_pool.specs.Contents.{Contents}
use Rattle.vg_model.specs.PoolBook.{CacheBook}
use Rattle.vg_model.specs.declared.fates.Fate.{Fate}
use Rattle.vg_capture.specs.declared.captures.Capture.{Capture}
use Rattle.vg_capture.specs.declared.captures.Captured.{Captured}
use Rattle.vg_pool.specs.Moves.{most_cached}
use Rattle.vg_plan.specs.Plan.{Planned, IsPlan, IsGeneration, limit_of, first_generation}
use Rattle.vg_journeys.specs.Chains.{count_some}
use Rattle.vg_journeys.specs.Trips.{Run, Arrival, Drawn, Taken, Trip, contents_after, logged_by, pieces_before}
use Rattle.vg_journeys.specs.Accounts.{HandoffFrame, Account, Adds, frame_arrivals, arrivals_in, frames_with, below, drawn_pieces}
use Rattle.vg_journeys.specs.Moments.{StandsFor, begun}
use Rattle.vg_journeys.specs.Turns.{Settled, settled_log, settled_onward, MayBeRefused, IsTurn}
use Rattle.vg_journeys.specs.Windows.{next_draws, mark_behind}
use Rattle.vg_journeys.proofs.AccountLemmas.{adds_more}
use Rattle.vg_journeys.proofs.TurnLemmas.{turn_adds_with}
use Rattle.vg_dispatch.specs.declared.options.Options.{Options}
use Rattle.vg_underway.specs.declared.stations.Station.{Station}
use Rattle.vg_underway.specs.declared.underway.Work.{Work}
use Rattle.vg_underway.specs.Peers.{by_worker}
use Rattle.vg_underway.specs.Queues.{Queue, packets_in}
use Rattle.vg_underway.specs.OwnPackets.{own_from, received_extent, captured_extent, frames_of}
use Rattle.vg_underway.specs.Round.{place_in}
use Rattle.vg_underway.specs.Underway.{Setting, IsSetting, stationed}
use Rattle.vg_underway.specs.Draws.{AreBelow, IsReady, arrival_extent, arrivals_extent}
use Rattle.vg_underway.specs.Works.{IsRightlyRefused}
use Rattle.vg_journeys.specs.Counts.{IsCountIn}
use Rattle.vg_underway.specs.Hands.{Delivers}
use Rattle.vg_underway.specs.Rest.{IsAtRest}
use Rattle.vg_dispatch.specs.Workers.{WorkerBook, account_of}
use Rattle.vg_dispatch.specs.Standing.{run_of, traced_of, IsAtWork, NoneCongested}
use Rattle.vg_dispatch.specs.Keeping.{IsKeeping}
use Rattle.vg_nodes.specs.declared.sorted.Sorted.{Sorted}
use Rattle.vg_nodes.specs.Sorting.{nothing_sorted}
use Rattle.vg_underway.specs.Taking.{MayTake, taken_arrivals, AreTaken, most_in_frame}
use Rattle.vg_underway.proofs.DrawLemmas.{drawn_pieces_most, held_most}
use Rattle.vg_underway.proofs.WorkLemmas.{all_append}
use Rattle.vg_underway.proofs.RestLemmas.{IsOver, account_with, turn_of, rest_after, ready_of, no_buffer_left}
use Rattle.vg_underway.proofs.OwnLemmas.{own_first, below_there}
use Rattle.vg_underway.proofs.TakingLemmas.{none_drawn, taken_length, taken_packets, chains_taken}
use Rattle.vg_underway.proofs.PeerLemmas.{map_at}
use Rattle.vg_dispatch.proofs.ComeLemmas.{came_in_round, own_all, mark_own, time_all}

-- the graph of a generation
all_slice : {X : Type 0} (P : X → Type 0) (xs : List X) (k : ℕ) (x : X) → AllByRecursion P xs → slice_get xs k ≡ Some x → P x
all_slice P [] zero x all e = absurd (let k : None ≡ Some x = e in cc)
all_slice P [] (suc k) x all e = absurd (let k : None ≡ Some x = e in cc)
all_slice P (y ∷ ys) zero x all e = subst P (let k : y ≡ x = cc in k) all.0
all_slice P (y ∷ ys) (suc k) x all e = all_slice P ys k x all.1 e

pub setting_of : (visit : Visit) (plan : Planned) (g : Graph) (generation : ℕ) (station : Station) → IsKindSet visit → IsPlan plan → slice_get plan.graphs generation ≡ Some g → IsSetting (stationed visit g generation station)
setting_of visit plan g generation station kinds is there =
    let sound : IsGeneration g = all_slice IsGeneration plan.graphs generation g is.generations there in
    record { kinds = kinds; valid = sound.valid; few_nodes = sound.few_nodes; few_interfaces = sound.few_interfaces }

-- the packets that are drawn: so many, and each has the chain that it took
pub draws_length : (workers mark many : ℕ) (packets : List (List ℕ)) → (length (next_draws workers mark many packets) ≡ many)
    × (sum_by drawn_pieces (next_draws workers mark many packets) ≡ sum_by pieces_before (next_draws workers mark many packets))
draws_length workers mark zero packets = (refl, refl)
draws_length workers mark (suc many) packets =
    let rest = draws_length workers (mark + workers) many packets in
    let first : Arrival = Drawn mark (get_or packets mark []) in
    let others : List Arrival = next_draws workers (mark + workers) many packets in
    (ap suc rest.0, (let e = rest.1 in omega (arith, e, sum_by-cons drawn_pieces first others, sum_by-cons pieces_before first others)))

pub draws_weight : (workers mark limit many : ℕ) (packets : List Captured) → 0 < workers → limit ≤ length packets → AreBelow workers mark limit many
    → (arrivals_extent (next_draws workers mark many (frames_of packets)) ≡ captured_extent (take many (own_from workers mark packets))) × (many ≤ length (own_from workers mark packets))
draws_weight workers mark limit zero packets some within all = (refl, omega arith)
draws_weight workers mark limit (suc many) [] some within all = absurd (let h = all.0 in omega (arith, h, within))
draws_weight workers mark limit (suc many) (p ∷ ps) some within all =
    let here : mark < length (p ∷ ps) = (let h = all.0 in omega (arith, h, within)) in
    let rest = draws_weight workers (mark + workers) limit many (p ∷ ps) some within all.1 in
    let first = own_first workers mark (p ∷ ps) p some here in
    let x : Captured = get_or (p ∷ ps) mark p in
    let bytes : get_or (frames_of (p ∷ ps)) mark [] ≡ x.bytes = map_at (λ (c : Captured). c.bytes) (p ∷ ps) mark x [] here (get_self (p ∷ ps) mark p here) in
    let e = rest.0 in let n = rest.1 in
    let w1 = sum_by-cons arrival_extent (Drawn mark (get_or (frames_of (p ∷ ps)) mark [])) (next_draws workers (mark + workers) many (frames_of (p ∷ ps))) in
    let w2 = sum_by-cons received_extent x (take many (own_from workers (mark + workers) (p ∷ ps))) in
    let len = ap length bytes in
    let w3 = ap (λ xs. captured_extent (take (suc many) xs)) first in
    let l = ap length first in
    (omega (arith, e, w1, w2, w3, len), omega (arith, n, l))
  where
    get_self : {X : Type 0} (xs : List X) (k : ℕ) (d : X) → k < length xs → get_or xs k d ≡ get_or xs k (get_or xs k d)
    get_self [] k d h = absurd (omega (arith, h))
    get_self (x ∷ xs) zero d h = refl
    get_self (x ∷ xs) (suc k) d h = get_self xs k d (omega (arith, h))

-- there is room for the packets that come in a round
pub ready_in_round : (packets bytes came own left workers mark limit tried many most took_count took_bytes : ℕ) (took : List Arrival) (items : List Captured) (w : Work) (cache : CacheBook) → IsAtRest packets bytes came own left w → 0 < workers → tried ≤ 7 → most ≤ 256
    → limit ≤ length items → many ≤ most → AreBelow workers mark limit many → own ≡ length (own_from workers mark items) → left ≡ captured_extent (own_from workers mark items)
    → length took ≡ took_count → arrivals_extent took ≡ took_bytes → sum_by pieces_before took ≤ 5 * length took → took_count ≤ 256 * tried → length w.fates.items + took_count + own ≤ packets
    → vec_len w.bytes + took_bytes + left ≤ bytes → cache.len + most_in_frame * tried ≤ most_cached
    → cache.allocated < 2 ^ 61 → cache.freed < 2 ^ 61 → IsReady (took ++ next_draws workers mark many (frames_of items)) w cache
ready_in_round packets bytes came own left workers mark limit tried many most took_count took_bytes took items w cache rest some few burst within so_many below own_is left_is count weight chains tries fates fits cached allocated freed =
    let draws = draws_length workers mark many (frames_of items) in
    let d0 = draws.0 in let d1 = draws.1 in
    let heavy = draws_weight workers mark limit many items some within below in
    let h0 = heavy.0 in let h1 = heavy.1 in
    let n = length-append took (next_draws workers mark many (frames_of items)) in
    let b = sum_by-append arrival_extent took (next_draws workers mark many (frames_of items)) in
    let d = sum_by-append drawn_pieces took (next_draws workers mark many (frames_of items)) in
    let e = sum_by-append pieces_before took (next_draws workers mark many (frames_of items)) in
    let part = sum_by-take-drop received_extent (own_from workers mark items) many in
    ready_of packets bytes came own left (took ++ next_draws workers mark many (frames_of items)) w cache rest (omega (arith, n, d0, count, tries, few, so_many, burst)) (omega (arith, n, d0, count, fates, h1, own_is))
    (omega (arith, b, h0, weight, fits, part, left_is)) (omega (arith, d, e, d1, chains, count, tries, cached)) allocated freed

-- no packet that is logged has a count where handoffs refuse nothing
none_logged : (slots : ℕ) (lossless : Bool) (old new : List (List HandoffFrame)) (settled : List Settled) → lossless ≡ true → AllByRecursion IsRightlyRefused settled → AllByRecursion (λ x. IsCountIn slots lossless old new x.ended.outcome x.refused) settled
    → NoneCongested (filter_map settled_log settled)
none_logged slots lossless old new [] is may all = tt
none_logged slots lossless old new (x ∷ xs) is may all = one x.ended.outcome x.refused may.0 all.0 (filter_map settled_log xs) (none_logged slots lossless old new xs is may.1 all.1)
  where
    one : (outcome : Outcome) (refused : Option ℕ) → MayBeRefused outcome refused → IsCountIn slots lossless old new outcome refused → (rest : List Fate) → NoneCongested rest → NoneCongested (cons_option (logged_by x.ended.contents outcome refused) rest)
    one (Handed node to) (Some count) may_be counted rest none = absurd (let k : true ≡ false = sym is ∙ counted.lossy in cc)
    one (Handed node to) None may_be counted rest none = none
    one (Sent interface) refused may_be counted rest none = (may_be, none)
    one (Dropped node error) refused may_be counted rest none = (may_be, none)

-- the round adds trips, each under its generation, with counts of the queues to their workers
pub round_adds : {told : List Settled → Type 0} (visit : Visit) (lossless : Bool) (plan : Planned) (capture : Capture) (options : Options) (g : Graph) (generation number mark many limit : ℕ)
    (queues new_queues : List Queue) (took : List (List HandoffFrame)) (accepted new_accepted : List (List HandoffFrame))
    (work new : Work) (filled after : CacheBook) → IsKindSet visit → IsPlan plan → slice_get plan.graphs generation ≡ Some g → mark % options.workers ≡ number → AreTaken queues new_queues took → length took + 1 ≤ options.workers
    → AllByRecursion (AllByRecursion (MayTake g generation)) took → limit ≤ limit_of plan.script capture generation → limit ≤ length capture.packets
    → ((earlier : ℕ) → suc earlier ≡ generation → limit_of plan.script capture earlier ≤ mark) → AreBelow options.workers mark limit many
    → (over : IsOver (stationed visit g generation (record { workers = options.workers; worker = number; slots = options.queue })) options.queue lossless told (taken_arrivals number took ++ next_draws options.workers mark many (frames_of capture.packets))
    work filled (by_worker number [] accepted) new after (by_worker number [] new_accepted))
    → (trips : List Trip) × Adds (run_of visit plan capture options) (account_with number mark (by_worker number [] (map (λ (q : Queue). q.taken) queues)) (by_worker number [] accepted) work filled)
    (account_with number (mark_behind options.workers mark many) (by_worker number [] (map (λ (q : Queue). q.taken) new_queues)) (by_worker number [] new_accepted) new after) trips
    × AllByRecursion (λ (t : Trip). t.generation ≡ generation) trips
    × AllByRecursion (λ (t : Trip). IsCountIn options.queue lossless (by_worker number [] accepted) (by_worker number [] new_accepted) t.way.outcome t.refused) trips
    × ((count : Contents → Outcome → Option ℕ → ℕ) → sum_by (λ (t : Trip). count (contents_after t) t.way.outcome t.refused) trips ≡ sum_by (λ (x : Settled). count x.ended.contents x.ended.outcome x.refused) over.settled)
round_adds visit lossless plan capture options g generation number mark many limit queues new_queues took accepted new_accepted work new filled after kinds is there own taken few may most within now below over =
    turn_adds_with (IsCountIn options.queue lossless (by_worker number [] accepted) (by_worker number [] new_accepted)) run (place_in s) arrivals old_account new_account kinds sound.valid sound.few_nodes some there turn over.delivers.counts
  where
    s : Setting
    s = stationed visit g generation (record { workers = options.workers; worker = number; slots = options.queue })

    run : Run
    run = run_of visit plan capture options

    old_account : Account
    old_account = account_with number mark (by_worker number [] (map (λ (q : Queue). q.taken) queues)) (by_worker number [] accepted) work filled

    new_account : Account
    new_account = account_with number (mark_behind options.workers mark many) (by_worker number [] (map (λ (q : Queue). q.taken) new_queues)) (by_worker number [] new_accepted) new after

    sound : IsGeneration g
    sound = all_slice IsGeneration plan.graphs generation g is.generations there

    ok : IsSetting s
    ok = setting_of visit plan g generation (record { workers = options.workers; worker = number; slots = options.queue }) kinds is there

    some : 0 < options.workers
    some = omega (arith, few)

    arrivals : List Arrival
    arrivals = taken_arrivals number took ++ next_draws options.workers mark many (frames_of capture.packets)

    packets_length : (xs : List Captured) → length (frames_of xs) ≡ length xs
    packets_length [] = refl
    packets_length (x ∷ xs) = ap suc (packets_length xs)

    turn : IsTurn run (place_in s) arrivals old_account new_account
    turn =
        turn_of s lossless plan.graphs options.queue (first_generation plan.script capture) (frames_of capture.packets) mark (mark_behind options.workers mark many) (by_worker number [] (map (λ (q : Queue). q.taken) queues)) (by_worker number [] accepted)
        (by_worker number [] (map (λ (q : Queue). q.taken) new_queues)) (by_worker number [] new_accepted) arrivals work new filled after ok over (own_all options.workers number mark many took (frames_of capture.packets) own)
        (time_all plan capture g generation limit options.workers number mark many took (frames_of capture.packets) most within now below may)
        (λ count. came_in_round run old_account new_account queues new_queues took many count some own refl (below_there options.workers mark limit many (frames_of capture.packets) (let n = packets_length capture.packets in omega (arith, within, n)) below)
        refl refl refl taken few)

-- the worker stands for the run after the round
pub round_stands : (run : Run) (traced number : ℕ) (old new : Account) (trips : List Trip) → Adds run old new trips → StandsFor run traced number old → StandsFor run traced number new
round_stands run traced number old new trips adds stands =
    record { within = stands.within; trips = stands.trips ++ trips; adds = adds_more run (begun traced number) old new stands.trips trips stands.adds adds }

-- queues grow by no more frames than packets were settled
packets_of : ℕ → List HandoffFrame → ℕ
packets_of to frames = sum_by (λ (e : Arrival). 1) (arrivals_in to frames)

frame_count : (to : ℕ) (frame : HandoffFrame) → sum_by (λ (e : Arrival). 1) (frame_arrivals to frame) ≡ length frame.packets
frame_count to frame = ones (frame_arrivals to frame) ∙ length-map frame.packets (Taken to frame.node)
  where
    ones : (es : List Arrival) → sum_by (λ (e : Arrival). 1) es ≡ length es
    ones [] = refl
    ones (e ∷ es) = let rest = ones es in omega (arith, rest, sum_by-cons (λ (e : Arrival). 1) e es)

frames_most : (to : ℕ) (frames : List HandoffFrame) → AllByRecursion (λ (frame : HandoffFrame). 1 ≤ length frame.packets) frames → length frames ≤ packets_of to frames
unfolding packets_of
frames_most to [] all = omega arith
frames_most to (f ∷ fs) all =
    let rest : length fs ≤ sum_by (λ (e : Arrival). 1) (arrivals_in to fs) = frames_most to fs all.1 in let one = frame_count to f in let some = all.0 in
    omega (arith, rest, one, some, sum_by-append (λ (e : Arrival). 1) (frame_arrivals to f) (arrivals_in to fs))

term_most : (f : ℕ → ℕ) (n k : ℕ) → k < n → f k ≤ sum_by f (below n)
term_most f zero k h = absurd (omega (arith, h))
term_most f (suc n) k h =
    let split = sum_by-append f (below n) (n ∷ []) in let last = sum_by-cons f n [] in
    elim (cases_lt k n) [
      | inl before ↦ let rest = term_most f n k before in omega (arith, rest, split, last)
      | inr past ↦ let same = ap f (let e : k ≡ n = omega (arith, h, past) in e) in omega (arith, same, split, last)
    ]

sum_split : (f g h : ℕ → ℕ) (n : ℕ) → ((k : ℕ) → f k ≡ g k + h k) → sum_by f (below n) ≡ sum_by g (below n) + sum_by h (below n)
sum_split f g h zero each = refl
sum_split f g h (suc n) each =
    let rest = sum_split f g h n each in let one = each n in
    omega (arith, rest, one, sum_by-append f (below n) (n ∷ []), sum_by-append g (below n) (n ∷ []), sum_by-append h (below n) (n ∷ []), sum_by-cons f n [], sum_by-cons g n [], sum_by-cons h n [])

onward_most : (settled : List Settled) → sum_by (λ x. count_some (λ (e : Arrival). 1) (settled_onward x)) settled ≤ length settled
onward_most [] = omega arith
onward_most (x ∷ xs) =
    let rest = onward_most xs in let one = some_most (settled_onward x) in
    omega (arith, rest, one, sum_by-cons (λ x. count_some (λ (e : Arrival). 1) (settled_onward x)) x xs)
  where
    some_most : (o : Option Arrival) → count_some (λ (e : Arrival). 1) o ≤ 1
    some_most None = omega arith
    some_most (Some e) = omega arith

pub puts_longer : (s : Setting) (slots : ℕ) (lossless : Bool) (settled : List Settled) (old new : List (List HandoffFrame)) (to : ℕ) → to < s.workers → Delivers s slots lossless settled old new → length (frames_with to new) ≤ length (frames_with to old) + length settled
unfolding packets_of
puts_longer s slots lossless settled old new to within d =
    let one : Arrival → ℕ = λ e. 1 in
    let went = d.went one in
    let parts = sum_split (λ k. sum_by one (arrivals_in k (frames_with k new))) (λ k. sum_by one (arrivals_in k (frames_with k old))) (λ k. sum_by one (arrivals_in k (d.pushed k))) s.workers
    (λ k. ap (λ fs. sum_by one (arrivals_in k fs)) (d.puts k) ∙ ap (sum_by one) (flat_map-append (frame_arrivals k) (frames_with k old) (d.pushed k)) ∙ sum_by-append one (arrivals_in k (frames_with k old)) (arrivals_in k (d.pushed k))) in
    let here = term_most (λ k. sum_by one (arrivals_in k (d.pushed k))) s.workers to within in
    let most = onward_most settled in
    let each : length (d.pushed to) ≤ sum_by one (arrivals_in to (d.pushed to)) = frames_most to (d.pushed to) (d.full to) in
    let len = ap length (d.puts to) in
    let both = length-append (frames_with to old) (d.pushed to) in
    omega (arith, went, parts, here, most, each, len, both)

-- of queues by worker, each
pub each_of_peers : (P : List HandoffFrame → Type 0) (worker : ℕ) (xs : List (List HandoffFrame)) → ((to : ℕ) → to < length xs + 1 → P (frames_with to (by_worker worker [] xs))) → worker ≤ length xs → AllByRecursion P xs
each_of_peers P zero xs each within = all_of xs (λ k h. each (suc k) (omega (arith, h)))
  where
    all_of : (ys : List (List HandoffFrame)) → ((k : ℕ) → k < length ys → P (get_or ys k [])) → AllByRecursion P ys
    all_of [] each = tt
    all_of (y ∷ ys) each = (each 0 (omega arith), all_of ys (λ k h. each (suc k) (omega (arith, h))))
each_of_peers P (suc n) [] each within = tt
each_of_peers P (suc n) (x ∷ xs) each within = (each 0 (omega arith), each_of_peers P n xs (λ to h. each (suc to) (omega (arith, h))) (omega (arith, within)))

-- how many packets were taken in all
taken_sum : (os ns : List Queue) (ts : List (List HandoffFrame)) → AreTaken os ns ts → sum_by (λ (q : Queue). packets_in q.taken) ns ≡ sum_by (λ (q : Queue). packets_in q.taken) os + sum_by packets_in ts
taken_sum [] [] [] all = refl
taken_sum [] [] (t ∷ ts) all = absurd all
taken_sum [] (q ∷ qs) ts all = absurd all
taken_sum (o ∷ os) [] ts all = absurd all
taken_sum (o ∷ os) (q ∷ qs) [] all =
    let rest : sum_by (λ (q : Queue). packets_in q.taken) qs ≡ sum_by (λ (q : Queue). packets_in q.taken) os + 0 = taken_sum os qs [] all.1 in
    let e = ap (λ (x : Queue). packets_in x.taken) all.0 in
    omega (arith, rest, e, sum_by-cons (λ (q : Queue). packets_in q.taken) q qs, sum_by-cons (λ (q : Queue). packets_in q.taken) o os)
taken_sum (o ∷ os) (q ∷ qs) (t ∷ ts) all =
    let rest = taken_sum os qs ts all.2 in
    let e = ap packets_in all.1 in
    omega (arith, rest, e, sum_by-append (λ (frame : HandoffFrame). length frame.packets) o.taken t, sum_by-cons (λ (q : Queue). packets_in q.taken) q qs, sum_by-cons (λ (q : Queue). packets_in q.taken) o os, sum_by-cons packets_in t ts)

-- what holds of queues after frames were taken
frames_after : (n m : ℕ) (os ns : List Queue) (ts : List (List HandoffFrame)) → AreTaken os ns ts → AllByRecursion (λ (q : Queue). length q.taken ≤ n) os → AllByRecursion (λ (t : List HandoffFrame). length t ≤ m) ts → AllByRecursion (λ (q : Queue). length q.taken ≤ n + m) ns
frames_after n m [] [] [] all few short = tt
frames_after n m [] [] (t ∷ ts) all few short = absurd all
frames_after n m [] (q ∷ qs) ts all few short = absurd all
frames_after n m (o ∷ os) [] ts all few short = absurd all
frames_after n m (o ∷ os) (q ∷ qs) [] all few short = (let e = ap (λ (x : Queue). length x.taken) all.0 in let h = few.0 in omega (arith, e, h), frames_after n m os qs [] all.1 few.1 tt)
frames_after n m (o ∷ os) (q ∷ qs) (t ∷ ts) all few short =
    (let e = ap length all.1 in let l = length-append o.taken t in let h = few.0 in let k = short.0 in omega (arith, e, l, h, k), frames_after n m os qs ts all.2 few.1 short.1)

frames_in : (worker : ℕ) (g : Graph) (generation : ℕ) (frames : List HandoffFrame) → AllByRecursion (MayTake g generation) frames → length frames ≤ length (arrivals_in worker frames)
frames_in worker g generation [] all = omega arith
frames_in worker g generation (f ∷ fs) all =
    let rest = frames_in worker g generation fs all.1 in
    let one = length-append (frame_arrivals worker f) (arrivals_in worker fs) in
    let here = length-map f.packets (Taken worker f.node) in
    let some = all.0.kept.some in
    omega (arith, rest, one, here, some)

short_frames : (worker n : ℕ) (g : Graph) (generation : ℕ) (ts : List (List HandoffFrame)) → length (taken_arrivals worker ts) ≤ n → AllByRecursion (AllByRecursion (MayTake g generation)) ts → AllByRecursion (λ (t : List HandoffFrame). length t ≤ n) ts
short_frames worker n g generation [] few all = tt
short_frames worker n g generation (t ∷ ts) few all =
    let one = length-append (arrivals_in worker t) (taken_arrivals worker ts) in
    let here = frames_in worker g generation t all.0 in
    (omega (arith, one, here, few), short_frames worker n g generation ts (omega (arith, one, few)) all.1)

behind_most : (workers mark limit many most : ℕ) → AreBelow workers mark limit many → mark < most + workers → limit ≤ most → mark_behind workers mark many < most + workers
behind_most workers mark limit zero most all here within = here
behind_most workers mark limit (suc many) most all here within = behind_most workers (mark + workers) limit many most all.1 (let h = all.0 in omega (arith, h, within)) within

all_same : {X : Type 0} (P Q : X → Type 0) → ((x : X) → P x → Q x) → (xs : List X) → AllByRecursion P xs → AllByRecursion Q xs
all_same P Q each [] all = tt
all_same P Q each (x ∷ xs) all = (each x all.0, all_same P Q each xs all.1)

-- each queue, by worker
pub peers_each : (P : List HandoffFrame → Type 0) (worker to : ℕ) (xs : List (List HandoffFrame)) → P [] → AllByRecursion P xs → P (frames_with to (by_worker worker [] xs))
peers_each P zero zero xs none all = none
peers_each P zero (suc k) xs none all = at xs k all
  where
    at : (ys : List (List HandoffFrame)) (k : ℕ) → AllByRecursion P ys → P (get_or ys k [])
    at [] k all = none
    at (y ∷ ys) zero all = all.0
    at (y ∷ ys) (suc k) all = at ys k all.1
peers_each P (suc n) zero [] none all = none
peers_each P (suc n) (suc k) [] none all = none
peers_each P (suc n) zero (x ∷ xs) none all = all.0
peers_each P (suc n) (suc k) (x ∷ xs) none all = peers_each P n k xs none all.1

-- what is known of a round
pub record IsRound (visit : Visit) (lossless : Bool) (told : List Settled → Type 0) (plan : Planned) (capture : Capture) (options : Options) (g : Graph)
    (generation limit number mark own left taken many most came_count came_bytes drew_bytes : ℕ) (took : List (List HandoffFrame)) (queues new_queues : List Queue)
    (accepted new_accepted : List (List HandoffFrame)) (slots : List ℕ) (work new : Work) (filled after : CacheBook) : Type 0 where
  pub kinds : IsKindSet visit
  pub there : slice_get plan.graphs generation ≡ Some g
  pub limited : (limit ≤ limit_of plan.script capture generation) × (limit ≤ length capture.packets)
  pub now : (earlier : ℕ) → suc earlier ≡ generation → limit_of plan.script capture earlier ≤ mark
  pub taken_is : AreTaken queues new_queues took
  pub size : length took + 1 ≤ options.workers
  pub may : AllByRecursion (AllByRecursion (MayTake g generation)) took
  pub one : AllByRecursion (λ (frames : List HandoffFrame). length frames ≤ 1) took
  pub count_is : length (taken_arrivals number took) ≡ came_count
  pub bytes_is : arrivals_extent (taken_arrivals number took) ≡ came_bytes
  pub within : taken + came_count ≤ 3 * length capture.packets
  pub fates : length work.fates.items + came_count + own ≤ length capture.packets
  pub bytes_most : vec_len work.bytes + came_bytes + left ≤ captured_extent capture.packets
  pub most_burst : most ≤ options.burst
  pub many_most : many ≤ most
  pub below : AreBelow options.workers mark limit many
  pub drew : drew_bytes ≡ captured_extent (take many (own_from options.workers mark capture.packets))
  pub own_after : own_from options.workers (mark_behind options.workers mark many) capture.packets ≡ drop many (own_from options.workers mark capture.packets)
  pub over : IsOver (stationed visit g generation (record { workers = options.workers; worker = number; slots = options.queue })) options.queue lossless told (taken_arrivals number took ++ next_draws options.workers mark many (frames_of capture.packets))
      work filled (by_worker number [] accepted) new after (by_worker number [] new_accepted)
  pub accepted_each : length new_accepted + 1 ≡ options.workers
  pub slots_are : AllByRecursion (λ n. n ≡ options.queue) slots

-- no more of its own packets are drawn than it has
pub drawn_most : (workers mark limit many : ℕ) (packets : List Captured) → 0 < workers → limit ≤ length packets → AreBelow workers mark limit many → many ≤ length (own_from workers mark packets)
drawn_most workers mark limit many packets some within below = (draws_weight workers mark limit many packets some within below).1

pub arrivals_many : (worker workers mark many : ℕ) (took : List (List HandoffFrame)) (packets : List (List ℕ)) → (length (taken_arrivals worker took ++ next_draws workers mark many packets) ≡ length (taken_arrivals worker took) + many)
    × (sum_by drawn_pieces (taken_arrivals worker took ++ next_draws workers mark many packets) ≡ sum_by drawn_pieces (next_draws workers mark many packets))
arrivals_many worker workers mark many took packets =
    let draws = draws_length workers mark many packets in
    let d0 = draws.0 in
    let n = length-append (taken_arrivals worker took) (next_draws workers mark many packets) in
    let d = sum_by-append drawn_pieces (taken_arrivals worker took) (next_draws workers mark many packets) in
    let none = none_drawn worker took in
    (omega (arith, n, d0), omega (arith, d, none))

pub keeping_after : {told : List Settled → Type 0} (visit : Visit) (lossless : Bool) (plan : Planned) (capture : Capture) (options : Options) (g : Graph)
    (generation limit number mark own left taken many most came_count came_bytes drew_bytes : ℕ) (took : List (List HandoffFrame)) (queues new_queues : List Queue)
    (accepted new_accepted : List (List HandoffFrame)) (old_slots slots : List ℕ) (work new : Work) (cache filled after last : CacheBook) (sorted new_sorted : Sorted) (groups new_groups : List (List ℕ))
    → IsRound visit lossless told plan capture options g generation limit number mark own left taken many most came_count came_bytes drew_bytes took queues new_queues accepted new_accepted slots work new filled after → IsPlan plan
    → own ≡ length (own_from options.workers mark capture.packets) → left ≡ captured_extent (own_from options.workers mark capture.packets) → filled.allocated ≡ cache.allocated → filled.freed ≡ cache.freed → last.allocated ≡ after.allocated → last.freed ≡ after.freed
    → new_sorted ≡ nothing_sorted → new_groups ≡ replicate options.workers []
    → IsKeeping number options (length capture.packets) (captured_extent capture.packets) mark own left taken work sorted groups queues accepted old_slots cache
    → IsKeeping number options (length capture.packets) (captured_extent capture.packets) (mark_behind options.workers mark many) (own - many) (left - drew_bytes) (taken + came_count) new new_sorted new_groups new_queues new_accepted slots last
keeping_after visit lossless plan capture options g generation limit number mark own left taken many most came_count came_bytes drew_bytes took queues new_queues accepted new_accepted old_slots slots work new cache filled after last sorted new_sorted groups new_groups
    r is own_is left_is filled_allocated filled_freed last_allocated last_freed no_sorted no_groups k =
    let some : 0 < options.workers = (let h = r.size in omega (arith, h)) in
    let s : Setting = stationed visit g generation (record { workers = options.workers; worker = number; slots = options.queue }) in
    let arrivals : List Arrival = taken_arrivals number took ++ next_draws options.workers mark many (frames_of capture.packets) in
    let sizes = arrivals_many number options.workers mark many took (frames_of capture.packets) in
    let n0 = sizes.0 in
    let draws : List Arrival = next_draws options.workers mark many (frames_of capture.packets) in
    let drawn = drawn_pieces_most arrivals in
    let chains = chains_taken s took r.may in
    let own_chains = draws_length options.workers mark many (frames_of capture.packets) in
    let c3 = own_chains.0 in let c4 = own_chains.1 in
    let own_most = drawn_pieces_most draws in
    let split = sum_by-append pieces_before (taken_arrivals number took) draws in
    let weights = draws_weight options.workers mark limit many capture.packets some r.limited.1 r.below in
    let w0 = weights.0 in let fewer = weights.1 in
    let both = sum_by-append arrival_extent (taken_arrivals number took) (next_draws options.workers mark many (frames_of capture.packets)) in
    let part = sum_by-take-drop received_extent (own_from options.workers mark capture.packets) many in
    let count = r.count_is in let bytes = r.bytes_is in let drew = r.drew in
    let within = r.within in let fates = r.fates in let most_bytes = r.bytes_most in
    let came_most = k.came_most in let taken_most = k.taken_most in
    let a = r.over.advances in
    let live = a.live in let empty = k.rest.no_buffer in
    let gone = no_buffer_left s new r.over.held r.over.none in
    let e1 = r.over.exchanges.allocated in let e2 = r.over.exchanges.freed in
    let back = held_most s arrivals arrivals r.over.settled work new filled r.over.ready r.over.advances in
    let c1 = k.counted.0 in let c2 = k.counted.1 in
    record {
      range = k.range;
      number_within = k.number_within;
      came = k.came + (came_count + many);
      rest = rest_after s options.queue lossless (length capture.packets) (captured_extent capture.packets) k.came own left (came_count + many) many (came_bytes + drew_bytes) (left - drew_bytes) arrivals work new filled after (by_worker number [] accepted) (by_worker number [] new_accepted)
          (setting_of visit plan g generation (record { workers = options.workers; worker = number; slots = options.queue }) r.kinds is r.there) k.rest (omega (arith, n0, count)) (omega (arith, both, bytes, w0, drew)) (omega (arith, fewer, own_is))
          (omega (arith, came_most, within, fewer, own_is)) (omega (arith, fates, fewer, own_is)) (omega (arith, most_bytes, part, left_is, drew)) r.over;
      came_most = omega (arith, came_most, fewer, own_is);
      taken_most = within;
      taken_is = (let e = taken_sum queues new_queues took r.taken_is in let h = k.taken_is in let n = taken_packets number took in omega (arith, e, h, n, count));
      mark_most = behind_most options.workers mark limit many (length capture.packets) r.below k.mark_most r.limited.1;
      sorted_none = no_sorted;
      groups_none = no_groups;
      inputs_each = (let h = k.inputs_each in let e = taken_length queues new_queues took r.taken_is in omega (arith, h, e));
      frames_few = frames_after taken came_count queues new_queues took r.taken_is k.frames_few (short_frames number came_count g generation took (omega (arith, count)) r.may);
      outputs_each = r.accepted_each;
      slots_are = r.slots_are;
      puts_few = each_of_peers (λ (frames : List HandoffFrame). length frames ≤ k.came + (came_count + many)) number new_accepted
          (λ to inside.
          let longer = puts_longer s options.queue lossless r.over.settled (by_worker number [] accepted) (by_worker number [] new_accepted) to (let h = r.accepted_each in omega (arith, inside, h)) r.over.delivers in
          let before = peers_each (λ (frames : List HandoffFrame). length frames ≤ k.came) number to accepted (omega arith) k.puts_few in
          omega (arith, longer, before, live, empty, gone, n0, count))
          (let h = r.accepted_each in let w = k.number_within in omega (arith, h, w));
      counted = (omega (arith, e1, c1, drawn, n0, count, filled_allocated, last_allocated), omega (arith, e2, c2, back, chains, c3, c4, own_most, split, count, filled_freed, last_freed));
    }

-- what the worker stands for after the round
pub work_after : {told : List Settled → Type 0} (visit : Visit) (lossless : Bool) (plan : Planned) (capture : Capture) (options : Options) (g : Graph)
    (generation limit number mark own left taken many most came_count came_bytes drew_bytes : ℕ) (took : List (List HandoffFrame)) (queues new_queues : List Queue)
    (accepted new_accepted : List (List HandoffFrame)) (slots : List ℕ) (work new : Work) (filled after : CacheBook) (old_book new_book : WorkerBook)
    → IsRound visit lossless told plan capture options g generation limit number mark own left taken many most came_count came_bytes drew_bytes took queues new_queues accepted new_accepted slots work new filled after
    → IsAtWork visit lossless plan capture options old_book → old_book.number ≡ number → old_book.mark ≡ mark → old_book.own ≡ own → old_book.left ≡ left → old_book.put ≡ by_worker number [] accepted → old_book.log ≡ work.fates.items
    → account_of old_book ≡ account_with number mark (by_worker number [] (map (λ (q : Queue). q.taken) queues)) (by_worker number [] accepted) work filled
    → account_of new_book ≡ account_with number (mark_behind options.workers mark many) (by_worker number [] (map (λ (q : Queue). q.taken) new_queues)) (by_worker number [] new_accepted) new after
    → new_book.options ≡ old_book.options → new_book.packets ≡ old_book.packets → new_book.bytes ≡ old_book.bytes → new_book.own ≡ own - many
    → new_book.left ≡ left - drew_bytes → length new_book.inputs ≡ length old_book.inputs → length new_book.outputs ≡ length old_book.outputs
    → IsAtWork visit lossless plan capture options new_book
work_after visit lossless plan capture options g generation limit number mark own left taken many most came_count came_bytes drew_bytes took queues new_queues accepted new_accepted slots work new filled after old_book new_book r w number_is mark_is own_is left_is put_is log_is
    was becomes options_same packets_same bytes_same own_new left_new inputs_same outputs_same =
    let number_new : new_book.number ≡ number = ap (λ (x : Account). x.worker) becomes in
    let mark_new : new_book.mark ≡ mark_behind options.workers mark many = ap (λ (x : Account). x.mark) becomes in
    let put_new : new_book.put ≡ by_worker number [] new_accepted = ap (λ (x : Account). x.put) becomes in
    let log_new : new_book.log ≡ new.fates.items = ap (λ (x : Account). x.log) becomes in
    let run : Run = run_of visit plan capture options in
    let before : StandsFor run (traced_of capture options) number (account_with number mark (by_worker number [] (map (λ (q : Queue). q.taken) queues)) (by_worker number [] accepted) work filled) =
    subst (λ n. StandsFor run (traced_of capture options) n (account_with number mark (by_worker number [] (map (λ (q : Queue). q.taken) queues)) (by_worker number [] accepted) work filled)) number_is (subst (StandsFor run (traced_of capture options) old_book.number) was w.stands) in
    let own_mark : mark % options.workers ≡ number = ap (λ m. m % options.workers) (sym mark_is) ∙ w.own_mark ∙ number_is in
    let own_list = r.own_after in
    let part = sum_by-take-drop received_extent (own_from options.workers mark capture.packets) many in
    let drew = r.drew in
    let added =
    round_adds visit lossless plan capture options g generation number mark many limit queues new_queues took accepted new_accepted work new filled after r.kinds w.planned r.there own_mark r.taken_is r.size r.may r.limited.0 r.limited.1 r.now r.below r.over in
    record {
      planned = w.planned;
      range = w.range;
      made = record {
        options_are = options_same ∙ w.made.options_are;
        packets = packets_same ∙ w.made.packets;
        bytes = bytes_same ∙ w.made.bytes;
        own = own_new ∙ (let e = length-drop many (own_from options.workers mark capture.packets) in let h = w.made.own in let m = ap (λ m. length (own_from options.workers m capture.packets)) mark_is in let l = ap length own_list in
            let v = ap (λ m. length (own_from options.workers m capture.packets)) mark_new in omega (arith, e, h, m, l, v, own_is));
        left = left_new ∙ (let h = w.made.left in let m = ap (λ m. captured_extent (own_from options.workers m capture.packets)) mark_is in let l = ap captured_extent own_list in
            let v = ap (λ m. captured_extent (own_from options.workers m capture.packets)) mark_new in omega (arith, part, h, m, l, v, left_is, drew));
      };
      stands = subst (λ n. StandsFor run (traced_of capture options) n (account_of new_book)) (sym number_new) (subst (StandsFor run (traced_of capture options) number) (sym becomes)
          (round_stands run (traced_of capture options) number (account_with number mark (by_worker number [] (map (λ (q : Queue). q.taken) queues)) (by_worker number [] accepted) work filled)
          (account_with number (mark_behind options.workers mark many) (by_worker number [] (map (λ (q : Queue). q.taken) new_queues)) (by_worker number [] new_accepted) new after) added.0 added.1 before));
      own_mark = ap (λ m. m % options.workers) mark_new ∙ mark_own options.workers number mark many own_mark ∙ sym number_new;
      full = λ to. subst (λ put. AllByRecursion (λ (frame : HandoffFrame). 1 ≤ length frame.packets) (frames_with to put)) (sym put_new)
          (subst (AllByRecursion (λ (frame : HandoffFrame). 1 ≤ length frame.packets)) (sym (r.over.delivers.puts to))
          (all_append (λ (frame : HandoffFrame). 1 ≤ length frame.packets) (frames_with to (by_worker number [] accepted)) (r.over.delivers.pushed to)
          (subst (λ put. AllByRecursion (λ (frame : HandoffFrame). 1 ≤ length frame.packets) (frames_with to put)) put_is (w.full to)) (r.over.delivers.full to)));
      none_congested = λ is. subst NoneCongested (sym (log_new ∙ r.over.advances.fates))
          (all_append (λ (fate : Fate). fate.congested ≡ None) work.fates.items (filter_map settled_log r.over.settled) (subst NoneCongested log_is (w.none_congested is))
          (none_logged options.queue lossless (by_worker number [] accepted) (by_worker number [] new_accepted) r.over.settled is r.over.advances.may_be r.over.delivers.counts));
      inputs = (let h = w.inputs in omega (arith, h, inputs_same));
      outputs = (let h = w.outputs in omega (arith, h, outputs_same));
    }
