-- For the clause `outcome` of `conclude`: the outcome of a run.
use Rattle.std.proofs.Common.{◌≡◌, ℕ, zero, suc, ◌+◌, ◌*◌, ◌<◌, ◌≤◌, ◌^◌, ◌⊎◌, inl, inr, List, [], ◌∷◌, ◌++◌, length, map, get_or, take, min, refl, sym, ap, subst, ◌∙◌, arith, length-append}
use Rattle.std.specs.Prelude.{Bool, true, Some, None, slice_get, slice_index, All, flat_map, ◌==◌}
use Rattle.std.specs.List.{AllByRecursion, sum_by, count_by, cons_option}
use Rattle.std.specs.List.Sorted.{IsPermutation, IsNonDecreasing, IsNonDecreasingBy}
use Rattle.std.proofs.lemmas.List.{length-map, map-append, length-replicate, get_or-map, get_or_past, take_all}
use Rattle.std.proofs.lemmas.Bool.{cases_lt}
use Rattle.std.proofs.lemmas.Option.{none-some}
use Rattle.std.proofs.lemmas.List.Sorted.{All-permutation}
use Rattle.std.proofs.lemmas.List.Sums.{count_by-le-length, sum_by-cons, sum_by-append}
use Rattle.vg_steps.specs.Seated.{TableId}
use Rattle.vg_model.specs.PoolBook.{CacheBook}
use Rattle.vg_model.specs.declared.kinds.DropError.{DropError}
use Rattle.vg_model.specs.declared.fates.Fate.{Fate}
use Rattle.vg_model.specs.Errors.{error_number}
use Rattle.vg_model.specs.Edit.{most_nodes, most_interfaces}
use Rattle.vg_model.specs.Visit.{Visit}
use Rattle.vg_model.specs.Leg.{Outcome, Sent, Dropped, Handed}
use Rattle.vg_model.specs.declared.kinds.DropError.TheVariants as errors
use Rattle.vg_model.specs.Journey as model
use Rattle.vg_model.specs.Journey.{Journey, end_of, sent, sent_as, longest_extent}
use Rattle.vg_model.specs.Packet.{Packet}
use Rattle.vg_model.specs.Count.{trace, is_drop, is_sent_on}
use Rattle.vg_capture.specs.declared.captures.Capture.{Capture}
use Rattle.vg_plan.specs.Plan.{Planned, IsPlan}
use Rattle.vg_plan.proofs.GrowthLemmas.{grows_to_last}
use Rattle.vg_ring.specs.declared.ends.RingTx.{RingTx}
use Rattle.vg_ring.specs.declared.ends.RingRx.{RingRx}
use Rattle.vg_ring.specs.declared.rest.Rest.{Rest}
use Rattle.vg_barrier.specs.Seats.{main_view}
use Rattle.vg_counters.specs.Tally.{Tally, IsSameSize, AreOneSize, HasRoom, IsTotal, IsWhole, count_of_errors, nothing_counted, drops_at}
use Rattle.vg_counters.specs.Notes.{Notes, AreOneLength, IsMerged}
use Rattle.vg_pool.specs.declared.caches.CacheCounts.{CacheCounts}
use Rattle.vg_pool.specs.Settlement.{most_told, counts_of, settlement_of}
use Rattle.vg_journeys.specs.Trips.{Run, Taken, number_of}
use Rattle.vg_journeys.specs.Runs.{AllGrow}
use Rattle.vg_journeys.specs.Ends.{IsShort}
use Rattle.vg_journeys.specs.Accounts.{HandoffFrame, frames_with, arrivals_in, frame_arrivals, below}
use Rattle.vg_journeys.specs.Kept.{all_pieces, own_pieces, AreKept}
use Rattle.vg_journeys.proofs.KeptLemmas.{pieces_most}
use Rattle.vg_journeys.specs.Outcomes as whole
use Rattle.vg_journeys.proofs.KeptLemmas.{kept_in_the_end, noted_length}
use Rattle.vg_journeys.proofs.OutcomeLemmas.{outcome_is, outcome_js}
use Rattle.vg_dispatch.specs.declared.options.Options.{Options}
use Rattle.vg_dispatch.specs.Workers.{WorkerBook}
use Rattle.vg_dispatch.specs.Standing.{run_of, traced_of, NoneCongested}
use Rattle.vg_engine.specs.declared.runs.Outcome as code
use Rattle.vg_workers.specs.Places.{AllWith, pairs}
use Rattle.vg_workers.specs.Crews.{IsMember, IsCrew, HaveEnded, account_at}
use Rattle.vg_workers.specs.Ended.{HasInputs, HasOutputs}
use Rattle.vg_threads.specs.Turns.{IsLastGraph}
use Rattle.vg_engine.specs.Outcomes.{AreWholeCounts, IsRestOf, IsOutcome, numbers_in, counts_on, all_back}
use Rattle.vg_workers.proofs.PlaceLemmas.{first_get, get_some, all_both, each_pair, with_then}
use Rattle.vg_workers.proofs.CrewLemmas.{account_is}
use Rattle.vg_engine.proofs.EndLemmas.{IsEmptied, queues_of, moment_is, over_is, by_number, sum_by_number}

sum_map : {X Y : Type 0} (f : Y → ℕ) (h : X → Y) (xs : List X) → sum_by f (map h xs) ≡ sum_by (λ x. f (h x)) xs
sum_map f h [] = refl
sum_map f h (x ∷ xs) = let rest = sum_map f h xs in omega (arith, rest, sum_by-cons f (h x) (map h xs), sum_by-cons (λ x. f (h x)) x xs)

-- the numbers of the packets in frames, by the packets as they come to a worker
numbers_of_one : (count : ℕ → ℕ) (to : ℕ) (frame : HandoffFrame) → sum_by count (map (λ c. c.packet.number) frame.packets) ≡ sum_by (λ e. count (number_of e)) (frame_arrivals to frame)
numbers_of_one count to frame =
    sum_map count (λ c. c.packet.number) frame.packets ∙ sym (sum_map (λ e. count (number_of e)) (Taken to frame.node) frame.packets)

numbers_are : (count : ℕ → ℕ) (to : ℕ) (frames : List HandoffFrame) → sum_by count (numbers_in frames) ≡ sum_by (λ e. count (number_of e)) (arrivals_in to frames)
numbers_are count to [] = refl
numbers_are count to (frame ∷ frames) =
    let one = numbers_of_one count to frame in
    let rest = numbers_are count to frames in
    omega (
      arith,
      one,
      rest,
      sum_by-append count (map (λ c. c.packet.number) frame.packets) (numbers_in frames),
      sum_by-append (λ e. count (number_of e)) (frame_arrivals to frame) (arrivals_in to frames),
    )

-- all have the sizes of one
one_size : (none : Tally) (parts : List Tally) → All (λ part. IsSameSize none part) parts → AreOneSize parts
one_size none [] all d k e h = absurd (omega (arith, h))
one_size none (part ∷ parts) all d k e h =
    let first : IsSameSize none part = all 0 e (omega arith) in
    let here = all k e h in
    record { nodes = here.nodes ∙ sym first.nodes; interfaces = here.interfaces ∙ sym first.interfaces }

one_length : (n : ℕ) (parts : List Notes) → All (λ (part : Notes). length part ≡ n) parts → AreOneLength parts
one_length n [] all d k e h = absurd (omega (arith, h))
one_length n (part ∷ parts) all d k e h = all k e h ∙ sym (all 0 e (omega arith))

all_map : {X Y : Type 0} (P : Y → Type 0) (f : X → Y) (xs : List X) → ((k : ℕ) (x : X) → slice_get xs k ≡ Some x → P (f x)) → All P (map f xs)
all_map P f [] each k d h = absurd (omega (arith, h))
all_map P f (x ∷ xs) each zero d h = each 0 x refl
all_map P f (x ∷ xs) each (suc k) d h = all_map P f xs (λ i y e. each (suc i) y e) k d (omega (arith, h))

map_twice : {X Y Z : Type 0} (f : Y → Z) (h : X → Y) (xs : List X) → map f (map h xs) ≡ map (λ x. f (h x)) xs
map_twice f h [] = refl
map_twice f h (x ∷ xs) = ap (λ ys. f (h x) ∷ ys) (map_twice f h xs)

map_below : {Y : Type 0} (f h : ℕ → Y) (n : ℕ) → ((k : ℕ) → k < n → f k ≡ h k) → map f (below n) ≡ map h (below n)
map_below f h zero each = refl
map_below f h (suc n) each =
    map-append f (below n) (n ∷ []) ∙ ap (λ ys. ys ++ f n ∷ []) (map_below f h n (λ k low. each k (omega (arith, low))))
    ∙ ap (λ y. map h (below n) ++ y ∷ []) (each n (omega arith)) ∙ sym (map-append h (below n) (n ∷ []))

-- a fact of each, as a list and by places
to_all : {X : Type 0} (P : X → Type 0) (xs : List X) → AllByRecursion P xs → All P xs
to_all P [] all k d h = absurd (omega (arith, h))
to_all P (x ∷ xs) all zero d h = all.0
to_all P (x ∷ xs) all (suc k) d h = to_all P xs all.1 k d (omega (arith, h))

from_all : {X : Type 0} (P : X → Type 0) (xs : List X) → All P xs → AllByRecursion P xs
from_all P [] all = tt
from_all P (x ∷ xs) all = (all 0 x (omega arith), from_all P xs (λ k d h. all (suc k) d (omega (arith, h))))

all_joined : {X Y : Type 0} (P : Y → Type 0) (f : X → List Y) (xs : List X) → ((k : ℕ) (x : X) → slice_get xs k ≡ Some x → AllByRecursion P (f x)) → AllByRecursion P (flat_map f xs)
all_joined P f [] each = tt
all_joined P f (x ∷ xs) each = all_both P (f x) (flat_map f xs) (each 0 x refl) (all_joined P f xs (λ k y e. each (suc k) y e))

joined_map : {X Y : Type 0} (f : X → List Y) (xs : List X) → flat_map (λ (ys : List Y). ys) (map f xs) ≡ flat_map f xs
joined_map f [] = refl
joined_map f (x ∷ xs) = ap (λ ys. f x ++ ys) (joined_map f xs)

-- what is sent isn't long
short_behind : (number : ℕ) (p : Packet) (outcome : Outcome) (behind : List (ℕ × List ℕ)) → IsShort outcome p → AllByRecursion (λ (s : ℕ × List ℕ). length s.1 ≤ longest_extent) behind
    → AllByRecursion (λ (s : ℕ × List ℕ). length s.1 ≤ longest_extent) (cons_option (sent_as number p.bytes outcome) behind)
short_behind number p (Sent interface) behind short rest = (omega (arith, short), rest)
short_behind number p (Dropped node error) behind short rest = rest
short_behind number p (Handed node worker) behind short rest = rest

short_sent : (js : List Journey) → AllByRecursion (λ j. IsShort j.course.outcome j.course.packet) js → AllByRecursion (λ (s : ℕ × List ℕ). length s.1 ≤ longest_extent) (sent js)
short_sent [] short = tt
short_sent (j ∷ js) short = short_behind j.number j.course.packet j.course.outcome (sent js) short.0 (short_sent js short.1)

-- traces have few nodes
short_traces : (most : ℕ) (js : List Journey) → AllByRecursion (λ j. length (trace j) ≤ most) js → length (flat_map trace js) ≤ most * length js
short_traces most [] few = omega arith
short_traces most (j ∷ js) few =
    let here = few.0 in
    let rest = short_traces most js few.1 in
    let more : most * suc (length js) ≡ most + most * length js = mul_suc most (length js) in
    omega (arith, here, rest, more, length-append (trace j) (flat_map trace js))
  where
    mul_suc : (m n : ℕ) → m * suc n ≡ m + m * n
    mul_suc m n = grind arith

take_min : {X : Type 0} (n : ℕ) (xs : List X) (m : ℕ) → length xs ≡ m → take (min n m) xs ≡ take n xs
take_min n xs m same = here (cases n m)
  where
    cases : (a b : ℕ) → (a ≤ b) ⊎ (b ≤ a)
    cases a b = grind arith

    here : (n ≤ m) ⊎ (m ≤ n) → take (min n m) xs ≡ take n xs
    here (inl h) = ap (λ k. take k xs) (let z : min n m ≡ n = omega (arith, h) in z)
    here (inr h) = take_all (min n m) xs (omega (arith, h, same)) ∙ sym (take_all n xs (omega (arith, h, same)))

-- an error by its number
error_of : (n : ℕ) → n < 19 → (error : DropError) × (error_number error ≡ n)
error_of zero h = (errors.Short, refl)
error_of (suc zero) h = (errors.TooLong, refl)
error_of (suc (suc zero)) h = (errors.UnknownType, refl)
error_of (suc (suc (suc zero))) h = (errors.WrongMac, refl)
error_of (suc (suc (suc (suc zero)))) h = (errors.BadVersion, refl)
error_of (suc (suc (suc (suc (suc zero))))) h = (errors.BadHeaderLength, refl)
error_of (suc (suc (suc (suc (suc (suc n)))))) h = later n (omega (arith, h))
  where
    last : (n : ℕ) → n < 7 → (error : DropError) × (error_number error ≡ suc (suc (suc (suc (suc (suc (suc (suc (suc (suc (suc (suc n))))))))))))
    last zero h = (errors.Local, refl)
    last (suc zero) h = (errors.TtlExpired, refl)
    last (suc (suc zero)) h = (errors.MtuExceeded, refl)
    last (suc (suc (suc zero))) h = (errors.InterfaceDown, refl)
    last (suc (suc (suc (suc zero)))) h = (errors.Congestion, refl)
    last (suc (suc (suc (suc (suc zero))))) h = (errors.HandoffLimit, refl)
    last (suc (suc (suc (suc (suc (suc zero)))))) h = (errors.Blackhole, refl)
    last (suc (suc (suc (suc (suc (suc (suc n))))))) h = absurd (omega (arith, h))

    later : (n : ℕ) → n < 13 → (error : DropError) × (error_number error ≡ suc (suc (suc (suc (suc (suc n))))))
    later zero h = (errors.BadLength, refl)
    later (suc zero) h = (errors.BadChecksum, refl)
    later (suc (suc zero)) h = (errors.TtlZero, refl)
    later (suc (suc (suc zero))) h = (errors.Unchecked, refl)
    later (suc (suc (suc (suc zero)))) h = (errors.NoRoute, refl)
    later (suc (suc (suc (suc (suc zero))))) h = (errors.RouteDrop, refl)
    later (suc (suc (suc (suc (suc (suc n)))))) h = last n (omega (arith, h))

-- nothing is counted for a number that no error has
row_ends : (node error : ℕ) (rows : List (List ℕ)) → 19 ≤ error → All (λ row. length row ≡ count_of_errors) rows → drops_at node error rows ≡ 0
row_ends node error [] h all = refl
row_ends zero error (row ∷ rows) h all = get_or_past row error 0 (let len : length row ≡ 19 = all 0 row (omega arith) in omega (arith, len, h))
row_ends (suc node) error (row ∷ rows) h all = row_ends node error rows h (λ k d g. all (suc k) d (omega (arith, g)))

no_drops : (node error : ℕ) → 19 ≤ error → (parts : List Tally) → AllByRecursion IsWhole parts → sum_by (λ part. drops_at node error part.drops) parts ≡ 0
no_drops node error h [] all = refl
no_drops node error h (part ∷ parts) all =
    let here = row_ends node error part.drops h all.0.errors in
    let rest = no_drops node error h parts all.1 in
    omega (arith, here, rest, sum_by-cons (λ (p : Tally). drops_at node error p.drops) part parts)

-- numbers that rise, in a list of their own
rises_by : {X : Type 0} (number : X → ℕ) (xs : List X) → IsNonDecreasing (map number xs) → IsNonDecreasingBy number xs
rises_by number xs up i j d le lt =
    let size = length-map xs number in
    let at : (k : ℕ) → k < length xs → get_or (map number xs) k (number d) ≡ number (get_or xs k d) = λ k inside. get_or-map number xs k d (number d) inside in
    let first = at i (omega (arith, le, lt)) in
    let last = at j lt in
    let order = up i j (number d) le (omega (arith, lt, size)) in
    omega (arith, first, last, order)

-- what the workers have kept at the end of a run
pub kept_is : (visit : Visit) (lossless : Bool) (plan : Planned) (capture : Capture) (options : Options) (barrier : TableId) (ws : List WorkerBook)
    (crew : IsCrew visit lossless plan capture options barrier ws) (outputs : List (List (RingTx HandoffFrame))) (inputs : List (List (RingRx HandoffFrame))) (rests : List (Rest HandoffFrame))
    → AllWith HasOutputs ws outputs → AllWith HasInputs ws inputs → AllWith (IsEmptied (queues_of crew.ring ws)) (pairs options.workers) rests → HaveEnded ws → 0 < options.workers
    → AreKept (run_of visit plan capture options) (traced_of capture options) (account_at ws)
kept_is visit lossless plan capture options barrier ws crew outputs inputs rests outs ins emptied ended some_workers =
    kept_in_the_end (run_of visit plan capture options) (traced_of capture options) (account_at ws) (λ from to. [])
    (moment_is visit lossless plan capture options barrier ws crew outputs inputs rests outs ins emptied) some_workers (over_is visit lossless plan capture options barrier ws crew ended)

module _ (visit : Visit) (lossless : Bool) (plan : Planned) (capture : Capture) (options : Options) (barrier : TableId) (ws : List WorkerBook)
    (crew : IsCrew visit lossless plan capture options barrier ws) (few : length capture.packets ≤ 65536) (some_workers : 0 < options.workers)
    (kept : AreKept (run_of visit plan capture options) (traced_of capture options) (account_at ws)) where
  -- sums over the workers are those of the journeys
  visits_are : (node : ℕ) → sum_by (λ part. slice_index part.visits node) (map (λ (w : WorkerBook). w.counts) ws) ≡ count_by (λ n. n == node) (flat_map trace kept.js)
  visits_are node =
      sum_map (λ (part : Tally). slice_index part.visits node) (λ (w : WorkerBook). w.counts) ws ∙ sum_by_number (λ a. slice_index a.counts.visits node) ws
      ∙ ap (λ n. sum_by (λ k. slice_index (account_at ws k).counts.visits node) (below n)) crew.count ∙ kept.visits node

  drops_are : (node : ℕ) (error : DropError) → sum_by (λ part. drops_at node (error_number error) part.drops) (map (λ (w : WorkerBook). w.counts) ws)
      ≡ count_by (λ j. is_drop node error (end_of j.course.outcome)) kept.js
  drops_are node error =
      sum_map (λ (part : Tally). drops_at node (error_number error) part.drops) (λ (w : WorkerBook). w.counts) ws ∙ sum_by_number (λ a. drops_at node (error_number error) a.counts.drops) ws
      ∙ ap (λ n. sum_by (λ k. drops_at node (error_number error) (account_at ws k).counts.drops) (below n)) crew.count ∙ kept.drops node error

  sends_are : (interface : ℕ) → sum_by (λ part. slice_index part.sends interface) (map (λ (w : WorkerBook). w.counts) ws) ≡ count_by (λ j. is_sent_on interface (end_of j.course.outcome)) kept.js
  sends_are interface =
      sum_map (λ (part : Tally). slice_index part.sends interface) (λ (w : WorkerBook). w.counts) ws ∙ sum_by_number (λ a. slice_index a.counts.sends interface) ws
      ∙ ap (λ n. sum_by (λ k. slice_index (account_at ws k).counts.sends interface) (below n)) crew.count ∙ kept.sends interface

  many : length kept.js ≤ 65536
  many = let all = kept.as_many in let same = length-map capture.packets (λ captured. captured.bytes) in omega (arith, all, same, few)

  few_visits : (node : ℕ) → count_by (λ n. n == node) (flat_map trace kept.js) < 2 ^ 62
  few_visits node =
      let within = count_by-le-length (λ n. n == node) (flat_map trace kept.js) in
      let short = short_traces 264 kept.js kept.inside.few in
      let all = many in
      omega (arith, within, short, all)

  few_drops : (node : ℕ) (error : DropError) → count_by (λ j. is_drop node error (end_of j.course.outcome)) kept.js < 2 ^ 62
  few_drops node error = let within = count_by-le-length (λ j. is_drop node error (end_of j.course.outcome)) kept.js in let all = many in omega (arith, within, all)

  few_sends : (interface : ℕ) → count_by (λ j. is_sent_on interface (end_of j.course.outcome)) kept.js < 2 ^ 62
  few_sends interface = let within = count_by-le-length (λ j. is_sent_on interface (end_of j.course.outcome)) kept.js in let all = many in omega (arith, within, all)

  -- so they have room to be added
  pub room_is : AllByRecursion IsWhole (map (λ (w : WorkerBook). w.counts) ws) → HasRoom (map (λ (w : WorkerBook). w.counts) ws)
  room_is wholes = record {
    visits = λ node. let same = visits_are node in let low = few_visits node in omega (arith, same, low);
    drops = λ node error. elim (cases_lt error 19) [
      | inl named ↦
          (let e = error_of error named in
          let low : sum_by (λ part. drops_at node (error_number e.0) part.drops) (map (λ (w : WorkerBook). w.counts) ws) < 2 ^ 63 =
          (let same = drops_are node e.0 in let few = few_drops node e.0 in omega (arith, same, few)) in
          subst (λ n. sum_by (λ part. drops_at node n part.drops) (map (λ (w : WorkerBook). w.counts) ws) < 2 ^ 63) e.1 low)
      | inr beyond ↦ (let none = no_drops node error beyond (map (λ (w : WorkerBook). w.counts) ws) wholes in omega (arith, none))
    ];
    sends = λ interface. let same = sends_are interface in let low = few_sends interface in omega (arith, same, low);
  }

  -- each worker's counts and notes have their sizes
  sizes_are : All (λ part. IsSameSize (nothing_counted most_nodes most_interfaces) part) (map (λ (w : WorkerBook). w.counts) ws)
  sizes_are = all_map (λ part. IsSameSize (nothing_counted most_nodes most_interfaces) part) (λ (w : WorkerBook). w.counts) ws
      (λ k w e. (first_get (IsMember visit lossless plan capture options barrier crew.ring) ws k w crew.each e).stands.work.stands.adds.size)

  lengths_are : All (λ (part : Notes). length part ≡ traced_of capture options) (map (λ (w : WorkerBook). w.trace) ws)
  lengths_are = all_map (λ (part : Notes). length part ≡ traced_of capture options) (λ (w : WorkerBook). w.trace) ws
      (λ k w e. (first_get (IsMember visit lossless plan capture options barrier crew.ring) ws k w crew.each e).stands.work.stands.adds.traced ∙ noted_length (traced_of capture options))

  pub one_size_is : AreOneSize (map (λ (w : WorkerBook). w.counts) ws)
  one_size_is = one_size (nothing_counted most_nodes most_interfaces) (map (λ (w : WorkerBook). w.counts) ws) sizes_are

  pub one_length_is : AreOneLength (map (λ (w : WorkerBook). w.trace) ws)
  one_length_is = one_length (traced_of capture options) (map (λ (w : WorkerBook). w.trace) ws) lengths_are

  -- the counts together are whole
  counts_whole : (counts : Tally) → IsTotal (map (λ (w : WorkerBook). w.counts) ws) counts → AreWholeCounts counts
  counts_whole counts total =
      let first = get_some ws 0 (let count = crew.count in omega (arith, count, some_workers)) in
      let size = size_of ws first.0 first.1 counts total.size sizes_are in
      record {
        nodes = size.nodes ∙ length-replicate {A = ℕ} most_nodes 0;
        interfaces = size.interfaces ∙ length-replicate {A = ℕ} most_interfaces 0;
        visits = λ node. let is = total.visits node in let same = visits_are node in let low = few_visits node in omega (arith, is, same, low);
        drops = λ node error. let is = total.drops node (error_number error) in let same = drops_are node error in let low = few_drops node error in omega (arith, is, same, low);
        sends = λ interface. let is = total.sends interface in let same = sends_are interface in let low = few_sends interface in omega (arith, is, same, low);
      }
    where
      size_of : (vs : List WorkerBook) (w : WorkerBook) → slice_get vs 0 ≡ Some w → (counts : Tally) → All (λ part. IsSameSize part counts) (map (λ (w : WorkerBook). w.counts) vs)
          → All (λ part. IsSameSize (nothing_counted most_nodes most_interfaces) part) (map (λ (w : WorkerBook). w.counts) vs) → IsSameSize (nothing_counted most_nodes most_interfaces) counts
      size_of [] w e counts all sizes = absurd (none-some w e)
      size_of (v ∷ vs) w e counts all sizes =
          let one = all 0 v.counts (omega arith) in
          let two = sizes 0 v.counts (omega arith) in
          record { nodes = one.nodes ∙ two.nodes; interfaces = one.interfaces ∙ two.interfaces }

  -- the chain of each packet was given out, and all are back, cache by cache
  pub record AreBack (caches : List CacheBook) : Type 0 where
    pub freed : sum_by (λ (c : CacheBook). c.freed) caches ≡ sum_by (λ (c : CacheBook). c.allocated) caches
    pub allocated : sum_by (λ (c : CacheBook). c.allocated) caches ≡ all_pieces (run_of visit plan capture options).packets
    pub each : map counts_of caches ≡ map (counts_on options.workers (run_of visit plan capture options).packets kept.js) (below options.workers)

  pub buffers_are : (caches : List CacheBook) → caches ≡ map (λ (w : WorkerBook). w.cache) ws → AreBack caches
  buffers_are caches is =
      let freed : sum_by (λ (c : CacheBook). c.freed) caches ≡ all_pieces (run_of visit plan capture options).packets =
      ap (sum_by (λ (c : CacheBook). c.freed)) is ∙ sum_map (λ (c : CacheBook). c.freed) (λ (w : WorkerBook). w.cache) ws ∙ sum_by_number (λ a. a.freed) ws
      ∙ ap (λ n. sum_by (λ k. (account_at ws k).freed) (below n)) crew.count ∙ kept.freed in
      let allocated : sum_by (λ (c : CacheBook). c.allocated) caches ≡ all_pieces (run_of visit plan capture options).packets =
      ap (sum_by (λ (c : CacheBook). c.allocated)) is ∙ sum_map (λ (c : CacheBook). c.allocated) (λ (w : WorkerBook). w.cache) ws ∙ sum_by_number (λ a. a.allocated) ws
      ∙ ap (λ n. sum_by (λ k. (account_at ws k).allocated) (below n)) crew.count ∙ kept.allocated in
      let counts : ℕ → ℕ → CacheCounts = λ allocated freed. record { allocated = allocated; freed = freed } in
      let each : map counts_of caches ≡ map (counts_on options.workers (run_of visit plan capture options).packets kept.js) (below options.workers) =
      ap (map counts_of) is ∙ map_twice counts_of (λ (w : WorkerBook). w.cache) ws ∙ by_number (λ a. counts a.allocated a.freed) ws
      ∙ ap (λ n. map (λ k. counts (account_at ws k).allocated (account_at ws k).freed) (below n)) crew.count
      ∙ map_below (λ k. counts (account_at ws k).allocated (account_at ws k).freed) (counts_on options.workers (run_of visit plan capture options).packets kept.js) options.workers
      (λ k low. ap (λ n. counts n (account_at ws k).freed) (kept.allocated_by k low) ∙ ap (counts (own_pieces options.workers k (run_of visit plan capture options).packets)) (kept.freed_by k low)) in
      record { freed = freed ∙ sym allocated; allocated = allocated; each = each }

  -- the settlement of their pool
  pub settled_is : (caches : List CacheBook) (len : ℕ) → AreBack caches → len ≡ options.buffers → settlement_of options.buffers len caches ≡ all_back options.buffers options.workers (run_of visit plan capture options).packets kept.js
  settled_is caches len back all =
      let most = pieces_most (run_of visit plan capture options).packets in
      let same_packets : length (run_of visit plan capture options).packets ≡ length capture.packets = length-map capture.packets (λ captured. captured.bytes) in
      let allocated = back.allocated in
      let told : min (sum_by (λ (c : CacheBook). c.allocated) caches) most_told ≡ all_pieces (run_of visit plan capture options).packets = omega (arith, allocated, most, same_packets, few) in
      ap (λ n. settlement_of options.buffers n caches) all ∙ ap (λ n. record { len = options.buffers; total = options.buffers; allocated = n; caches = map counts_of caches }) told
      ∙ ap (λ cs. record { len = options.buffers; total = options.buffers; allocated = all_pieces (run_of visit plan capture options).packets; caches = cs }) back.each

  -- what was gathered is what the journeys say
  gathered_is : (fates : List Fate) (sent : List (ℕ × List ℕ)) (counts : Tally) (traces : List (List ℕ))
      → IsPermutation (flat_map (λ (log : List Fate). log) (map (λ (w : WorkerBook). w.log) ws)) fates → IsNonDecreasingBy (λ (f : Fate). f.number) fates
      → IsPermutation (flat_map (λ (list : List (ℕ × List ℕ)). list) (map (λ (w : WorkerBook). w.sent) ws)) sent → IsNonDecreasing (map (λ (s : ℕ × List ℕ). s.0) sent)
      → IsTotal (map (λ (w : WorkerBook). w.counts) ws) counts → IsMerged (map (λ (w : WorkerBook). w.trace) ws) traces
      → whole.IsGathered (run_of visit plan capture options) (account_at ws) fates sent counts traces
  gathered_is fates sent counts traces fates_moved fates_rise sent_moved sent_rise total merged = record {
    fates =
        subst (λ log. IsPermutation log fates)
        (ap (flat_map (λ (log : List Fate). log)) (by_number (λ a. a.log) ws ∙ ap (λ n. map (λ k. (account_at ws k).log) (below n)) crew.count) ∙ joined_map (λ k. (account_at ws k).log) (below options.workers)) fates_moved;
    fates_rise = fates_rise;
    sent =
        subst (λ list. IsPermutation list sent)
        (ap (flat_map (λ (list : List (ℕ × List ℕ)). list)) (by_number (λ a. a.sent) ws ∙ ap (λ n. map (λ k. (account_at ws k).sent) (below n)) crew.count) ∙ joined_map (λ k. (account_at ws k).sent) (below options.workers)) sent_moved;
    sent_rise = rises_by (λ (s : ℕ × List ℕ). s.0) sent sent_rise;
    total = subst (λ parts. IsTotal parts counts) (by_number (λ a. a.counts) ws ∙ ap (λ n. map (λ k. (account_at ws k).counts) (below n)) crew.count) total;
    merged = subst (λ parts. IsMerged parts traces) (by_number (λ a. a.trace) ws ∙ ap (λ n. map (λ k. (account_at ws k).trace) (below n)) crew.count) merged;
  }

  -- no fate is congested where the handoffs refuse nothing
  none_congested_is : (fates : List Fate) → IsPermutation (flat_map (λ (log : List Fate). log) (map (λ (w : WorkerBook). w.log) ws)) fates → lossless ≡ true → NoneCongested fates
  none_congested_is fates moved is =
      from_all (λ (f : Fate). f.congested ≡ None) fates
      (All-permutation (λ (f : Fate). f.congested ≡ None) _ fates moved
      (to_all (λ (f : Fate). f.congested ≡ None) _
      (subst (AllByRecursion (λ (f : Fate). f.congested ≡ None)) (sym (joined_map (λ (w : WorkerBook). w.log) ws))
      (all_joined (λ (f : Fate). f.congested ≡ None) (λ (w : WorkerBook). w.log) ws
      (λ k w e. (first_get (IsMember visit lossless plan capture options barrier crew.ring) ws k w crew.each e).stands.work.none_congested is)))))

  -- the closed queues are those of the journeys
  rests_are : (rests : List (Rest HandoffFrame)) → AllWith (IsEmptied (queues_of crew.ring ws)) (pairs options.workers) rests → AllWith (IsRestOf kept.js) (pairs options.workers) rests
  rests_are rests emptied =
      with_then (IsEmptied (queues_of crew.ring ws)) (IsRestOf kept.js) (pairs options.workers) rests emptied
      (each_pair (λ pair. (rest : Rest HandoffFrame) → IsEmptied (queues_of crew.ring ws) pair rest → IsRestOf kept.js pair rest) options.workers options.workers (omega arith)
      (λ a b low high differs rest is. record {
        empty = is.none_left;
        packets = λ count. ap (λ frames. sum_by count (numbers_in frames)) is.put_is ∙ numbers_are count b (frames_with b (account_at ws a).put) ∙ kept.hands a b low high count;
      }))

  -- the theorem
  pub is_outcome : (outcome : code.Outcome) (rests : List (Rest HandoffFrame)) → IsPlan plan
      → IsPermutation (flat_map (λ (log : List Fate). log) (map (λ (w : WorkerBook). w.log) ws)) outcome.fates → IsNonDecreasingBy (λ (f : Fate). f.number) outcome.fates
      → IsPermutation (flat_map (λ (list : List (ℕ × List ℕ)). list) (map (λ (w : WorkerBook). w.sent) ws)) outcome.sent → IsNonDecreasing (map (λ (s : ℕ × List ℕ). s.0) outcome.sent)
      → IsTotal (map (λ (w : WorkerBook). w.counts) ws) outcome.counts → IsMerged (map (λ (w : WorkerBook). w.trace) ws) outcome.trace
      → outcome.buffers ≡ options.buffers → outcome.settled ≡ all_back options.buffers options.workers (run_of visit plan capture options).packets kept.js → IsLastGraph plan.graphs outcome.last → outcome.rests ≡ rests
      → AllWith (IsEmptied (queues_of crew.ring ws)) (pairs options.workers) rests → length plan.graphs ≤ (main_view outcome.seat.seat).stamp
      → IsOutcome visit lossless plan.graphs (run_of visit plan capture options).first capture options outcome
  is_outcome outcome rests is fates_moved fates_rise sent_moved sent_rise total merged buffers settled last rests_is emptied stamp =
      let run : Run = run_of visit plan capture options in
      let traced : ℕ = traced_of capture options in
      let same_packets : length run.packets ≡ length capture.packets = length-map capture.packets (λ captured. captured.bytes) in
      let traced_few : traced ≤ length run.packets = omega (arith, same_packets) in
      let first = get_some ws 0 (let count = crew.count in omega (arith, count, some_workers)) in
      let noted : length (account_at ws 0).trace ≡ traced =
      ap (λ a. length a.trace) (account_is ws 0 first.0 first.1) ∙ (first_get (IsMember visit lossless plan capture options barrier crew.ring) ws 0 first.0 crew.each first.1).stands.work.stands.adds.traced ∙ noted_length traced in
      let gathered = gathered_is outcome.fates outcome.sent outcome.counts outcome.trace fates_moved fates_rise sent_moved sent_rise total merged in
      let done = outcome_is run traced (account_at ws) outcome.fates outcome.sent outcome.counts outcome.trace kept some_workers traced_few noted gathered in
      let same : done.js ≡ kept.js = outcome_js run traced (account_at ws) outcome.fates outcome.sent outcome.counts outcome.trace kept some_workers traced_few noted gathered in
      let js : List Journey = kept.js in
      let grows : AllGrow run last.whole = λ generation g at. grows_to_last plan is generation g last.whole at last.is in
      record {
        choices = kept.choices;
        js = js;
        lawful = kept.lawful;
        are_fates = done.are_fates ∙ ap model.fates same;
        are_sent = done.are_sent ∙ ap model.sent same;
        short = subst (AllByRecursion (λ (s : ℕ × List ℕ). length s.1 ≤ longest_extent)) (sym (done.are_sent ∙ ap model.sent same)) (short_sent js kept.inside.short);
        none_congested = none_congested_is outcome.fates fates_moved;
        counts = subst (λ l. whole.AreCounts l outcome.counts) same done.are_counts;
        whole = counts_whole outcome.counts total;
        traces = done.are_traces ∙ ap (λ l. map trace (take traced l)) same ∙ ap (map trace) (take_min options.trace js (length capture.packets) (kept.as_many ∙ same_packets));
        buffers = buffers;
        settled = settled;
        last = last.whole;
        is_last = record { is = last.is };
        last_is = last.parts;
        ends = kept.inside.ends last.whole grows;
        visits = kept.inside.nodes last.whole grows;
        rests = subst (AllWith (IsRestOf js) (pairs options.workers)) (sym rests_is) (rests_are rests emptied);
        stamp = stamp;
      }
