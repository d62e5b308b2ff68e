-- For the clauses `round` of `Worker::{round, finish}` and `turn` of `Worker::turn`: what a round did, as contracts see it.
use Rattle.std.proofs.Common.{◌≡◌, ◌≢◌, ℕ, zero, suc, ◌+◌, ◌-◌, ◌*◌, ◌%◌, ◌<◌, ◌≤◌, List, [], ◌∷◌, ◌++◌, length, map, get_or, take, refl, sym, ap, subst, ◌∙◌, arith}
use Rattle.std.specs.Prelude.{Bool, true, false, Option, Some, None, ◌↔◌, ◌⊎◌, vec_len}
use Rattle.std.specs.Bool.{MatchBool, IsTrue}
use Rattle.std.specs.List.{sum_by, filter_map, AllByRecursion}
use Rattle.std.proofs.lemmas.List.{length-map, nil_from_length}
use Rattle.std.proofs.lemmas.List.Sums.{sum_by-append, sum_by-cons}
use Rattle.vg_model.specs.Graph.{Graph}
use Rattle.vg_model.specs.Visit.{Visit}
use Rattle.vg_model.specs.PoolBook.{CacheBook}
use Rattle.vg_steps.specs.declared.notes.Found.{Found}
use Rattle.vg_pool.specs.Moves.{most_kept, wanted}
use Rattle.vg_capture.specs.declared.captures.Capture.{Capture}
use Rattle.vg_plan.specs.Plan.{Planned, IsPlan}
use Rattle.vg_journeys.specs.Trips.{Run, Trip}
use Rattle.vg_journeys.specs.Counts.{IsCountIn}
use Rattle.vg_journeys.specs.Turns.{Settled, settled_log}
use Rattle.vg_journeys.specs.Windows.{mark_behind}
use Rattle.vg_journeys.specs.Accounts.{HandoffFrame, Adds, frames_with, below}
use Rattle.vg_dispatch.specs.declared.options.Options.{Options}
use Rattle.vg_underway.specs.declared.underway.Work.{Work}
use Rattle.vg_underway.specs.Peers.{place_among, by_worker}
use Rattle.vg_underway.specs.Queues.{Intake, Queue, intake_of, Leaves, Tries, packets_in, extents_in}
use Rattle.vg_underway.specs.SentEntries.{sent_by, sent_size}
use Rattle.vg_underway.specs.Outlets.{Outlet, outlet_with, no_outlet, most_in_round, IsTicked, ArePushes, if_congested, refused_at, dropped_in_all, PushesFrames}
use Rattle.vg_underway.specs.Underway.{stationed}
use Rattle.vg_underway.specs.OwnPackets.{frames_of}
use Rattle.vg_underway.specs.Draws.{AreChained, LacksBuffers}
use Rattle.vg_underway.specs.Taking.{MayTake, AreTaken, MayComeNext, AreTried}
use Rattle.vg_dispatch.specs.Workers.{WorkerBook, IsOther, intake_from, account_of}
use Rattle.vg_dispatch.specs.Standing.{run_of, IsAtWork}
use Rattle.vg_dispatch.specs.Rounds.{before, MayTakeFrom, IsOpen, MayDraw, IsRoundOf}
use Rattle.vg_underway.proofs.PeerLemmas.{place_within, peers_at, all_peers, peers_all, get_again, map_at}
use Rattle.vg_underway.proofs.TakingLemmas.{taken_length}
use Rattle.vg_dispatch.proofs.ComeLemmas.{taken_by}
use Rattle.vg_underway.proofs.OwnLemmas.{below_each}
use Rattle.vg_underway.proofs.RestLemmas.{account_with}
use Rattle.vg_dispatch.proofs.RoundLemmas.{peers_each, IsRound, round_adds}

-- what contracts see of a worker with these parts
pub record IsBookOf (book : WorkerBook) (number : ℕ) (options : Options) (packets bytes mark own left : ℕ) (queues : List Queue) (accepted : List (List HandoffFrame)) (outlets : List Outlet) (work : Work) (cache : CacheBook) : Type 0 where
  pub number_is : book.number ≡ number
  pub options_are : book.options ≡ options
  pub packets_are : book.packets ≡ packets
  pub bytes_are : book.bytes ≡ bytes
  pub mark_is : book.mark ≡ mark
  pub own_is : book.own ≡ own
  pub left_is : book.left ≡ left
  pub taken_is : book.taken ≡ by_worker number [] (map (λ (q : Queue). q.taken) queues)
  pub put_is : book.put ≡ by_worker number [] accepted
  pub waits_are : book.waits ≡ map (λ (q : Queue). q.waits) queues
  pub looks_are : book.looks ≡ by_worker number [] (map (λ (q : Queue). q.trail) queues)
  pub outlets_are : book.outlets ≡ by_worker number no_outlet outlets
  pub log_is : book.log ≡ work.fates.items
  pub sent_is : book.sent ≡ sent_by work.entries.items work.bytes.items
  pub counts_are : book.counts ≡ work.counts
  pub trace_is : book.trace ≡ work.trace
  pub cache_is : book.cache ≡ cache

-- whether frames are tried, and packets drawn
module _ (book : WorkerBook) (number : ℕ) (options : Options) (outlets : List Outlet) (number_is : book.number ≡ number) (options_are : book.options ≡ options) (within : number < options.workers) (each : length outlets + 1 ≡ options.workers) where
  other_here : (to : ℕ) → IsOther book to → (to < length outlets + 1) × (to ≢ number)
  other_here to other =
      let w : book.options.workers ≡ options.workers = ap (λ (o : Options). o.workers) options_are in
      let inside = other.0 in
      (omega (arith, inside, w, each), subst (λ n. to ≢ n) number_is other.1)

  other_of : (to : ℕ) → to < length outlets + 1 → to ≢ number → IsOther book to
  other_of to inside other =
      let w : book.options.workers ≡ options.workers = ap (λ (o : Options). o.workers) options_are in
      (omega (arith, inside, w, each), subst (λ n. to ≢ n) (sym number_is) other)

  pub open_here : (goes : Bool) (cached : ℕ) → book.cache.len ≡ cached → (IsTrue goes ↔ ((cached ≤ most_kept) × AllByRecursion (λ (o : Outlet). most_in_round options.workers ≤ o.room) outlets))
      → IsTrue goes ↔ IsOpen book (λ to. outlet_with to (by_worker number no_outlet outlets))
  open_here goes cached len_is is = (
    λ yes.
        let w : book.options.workers ≡ options.workers = ap (λ (o : Options). o.workers) options_are in
        let all = is.0 yes in let few : cached ≤ 256 = all.0 in (
          omega (arith, few, len_is),
          λ to other.
              let at = other_here to other in
              let room : 256 * options.workers ≤ (outlet_with to (by_worker number no_outlet outlets)).room = all_peers (λ (o : Outlet). most_in_round options.workers ≤ o.room) number to no_outlet no_outlet outlets at.1 at.0 (omega (arith, within, each)) all.1 in
              omega (arith, room, w),
        ),
    λ opens.
        let w : book.options.workers ≡ options.workers = ap (λ (o : Options). o.workers) options_are in
        let few : book.cache.len ≤ 256 = opens.0 in
        is.1 (
          (let h : cached ≤ 256 = omega (arith, few, len_is) in h),
          peers_all (λ (o : Outlet). most_in_round options.workers ≤ o.room) number no_outlet no_outlet outlets (omega (arith, within, each))
              (λ to inside other.
              let room : 256 * book.options.workers ≤ (outlet_with to (by_worker number no_outlet outlets)).room = opens.1 to (other_of to inside other) in
              let h : 256 * options.workers ≤ (outlet_with to (by_worker number no_outlet outlets)).room = omega (arith, room, w) in h),
        ),
  )

  pub draw_here : (goes draws : Bool) → (IsTrue goes ↔ IsOpen book (λ to. outlet_with to (by_worker number no_outlet outlets))) → (IsTrue draws ↔ (IsTrue goes × AllByRecursion (λ (o : Outlet). o.closed ≡ false) outlets))
      → IsTrue draws ↔ MayDraw book (λ to. outlet_with to (by_worker number no_outlet outlets))
  draw_here goes draws opens is = (
    λ yes.
        let all = is.0 yes in
        (opens.0 all.0, λ to other. let at = other_here to other in all_peers (λ (o : Outlet). o.closed ≡ false) number to no_outlet no_outlet outlets at.1 at.0 (omega (arith, within, each)) all.1),
    λ may.
        is.1 (
          opens.1 may.0,
          peers_all (λ (o : Outlet). o.closed ≡ false) number no_outlet no_outlet outlets (omega (arith, within, each)) (λ to inside other. may.1 to (other_of to inside other)),
        ),
  )

-- the next packets, as many as the burst and the cache allow
pub all_drawn : {Stops : Type 0} (draws : Bool) (burst most many : ℕ) → MatchBool draws (most ≡ burst) (most ≡ 0) → (many < most → Stops) → IsTrue draws → many < burst → Stops
all_drawn true burst most many so_many all on less = all (omega (arith, so_many, less))
all_drawn false burst most many so_many all on less = absurd (let k : false ≡ true = on in cc)

pub none_drawn_here : (draws : Bool) (burst most many : ℕ) → MatchBool draws (most ≡ burst) (most ≡ 0) → many ≤ most → (IsTrue draws → ⊥) → many ≡ 0
none_drawn_here true burst most many so_many few not = absurd (not refl)
none_drawn_here false burst most many so_many few not = omega (arith, so_many, few)

-- the queue at a place was tried
tries_at : (may : (packets bytes : ℕ) → HandoffFrame → Type 0) (p b : ℕ) (os ns : List Queue) (ts : List (List HandoffFrame)) (d : Queue) (k : ℕ) → k < length ts → AreTried may p b os ns ts
    → Tries (may (p + sum_by packets_in (take k ts)) (b + sum_by extents_in (take k ts))) (intake_of (get_or os k d)) (get_or ts k []) (intake_of (get_or ns k d))
tries_at may p b os ns [] d k inside all = absurd (omega (arith, inside))
tries_at may p b [] ns (t ∷ ts) d k inside all = absurd all
tries_at may p b (o ∷ os) [] (t ∷ ts) d k inside all = absurd all
tries_at may p b (o ∷ os) (n ∷ ns) (t ∷ ts) d zero inside all =
    subst (λ x. Tries (may x (b + 0)) (intake_of o) t (intake_of n)) (let e : p ≡ p + 0 = omega arith in e) (subst (λ x. Tries (may p x) (intake_of o) t (intake_of n)) (let e : b ≡ b + 0 = omega arith in e) all.0)
tries_at may p b (o ∷ os) (n ∷ ns) (t ∷ ts) d (suc k) inside all =
    let e : p + packets_in t + sum_by packets_in (take k ts) ≡ p + sum_by packets_in (take (suc k) (t ∷ ts)) = (let s = sum_by-cons packets_in t (take k ts) in omega (arith, s)) in
    let f : b + extents_in t + sum_by extents_in (take k ts) ≡ b + sum_by extents_in (take (suc k) (t ∷ ts)) = (let s = sum_by-cons extents_in t (take k ts) in omega (arith, s)) in
    subst (λ x. Tries (may x (b + sum_by extents_in (take (suc k) (t ∷ ts)))) (intake_of (get_or os k d)) (get_or ts k []) (intake_of (get_or ns k d))) e
    (subst (λ x. Tries (may (p + packets_in t + sum_by packets_in (take k ts)) x) (intake_of (get_or os k d)) (get_or ts k []) (intake_of (get_or ns k d))) f
    (tries_at may (p + packets_in t) (b + extents_in t) os ns ts d k (omega (arith, inside)) all.1))

-- what was taken before the frames of a worker
sum_first : (f : ℕ → ℕ) (n : ℕ) → sum_by f (below (suc n)) ≡ f 0 + sum_by (λ k. f (suc k)) (below n)
sum_first f zero = let s = sum_by-cons f 0 [] in omega (arith, s)
sum_first f (suc n) =
    let rest = sum_first f n in
    let all = sum_by-append f (below (suc n)) (suc n ∷ []) in let last = sum_by-cons f (suc n) [] in
    let some = sum_by-append (λ k. f (suc k)) (below n) (n ∷ []) in let end = sum_by-cons (λ k. f (suc k)) n [] in
    omega (arith, rest, all, last, some, end)

before_list : (of : List HandoffFrame → ℕ) (ts : List (List HandoffFrame)) (k : ℕ) → k ≤ length ts → sum_by (λ worker. of (frames_with worker ts)) (below k) ≡ sum_by of (take k ts)
before_list of ts zero few = refl
before_list of [] (suc k) few = absurd (omega (arith, few))
before_list of (t ∷ ts) (suc k) few =
    let first = sum_first (λ worker. of (frames_with worker (t ∷ ts))) k in
    let rest = before_list of ts k (omega (arith, few)) in
    let s = sum_by-cons of t (take k ts) in
    omega (arith, first, rest, s)

pub before_is : (of : List HandoffFrame → ℕ) → of [] ≡ 0 → (worker from : ℕ) (ts : List (List HandoffFrame)) → from ≢ worker → from < length ts + 1 → worker ≤ length ts → before of (by_worker worker [] ts) from ≡ sum_by of (take (place_among worker from) ts)
before_is of none worker zero ts other inside here = first worker ts
  where
    first : (worker : ℕ) (ts : List (List HandoffFrame)) → ◌≡◌ {A = ℕ} 0 (sum_by of (take (place_among worker 0) ts))
    first zero ts = refl
    first (suc n) ts = refl
before_is of none zero (suc k) ts other inside here =
    let first = sum_first (λ worker. of (frames_with worker ([] ∷ ts))) k in
    let rest = before_list of ts k (omega (arith, inside)) in
    let place = ap (λ n. sum_by of (take n ts)) (let e : suc k - 1 ≡ k = omega arith in e) in
    omega (arith, first, rest, none, place)
before_is of none (suc n) (suc k) [] other inside here = absurd (omega (arith, here))
before_is of none (suc n) (suc k) (t ∷ ts) other inside here =
    let first = sum_first (λ worker. of (frames_with worker (t ∷ by_worker n [] ts))) k in
    let rest = before_is of none n k ts (λ same. other (ap suc same)) (omega (arith, inside)) (omega (arith, here)) in
    let s = sum_by-cons of t (take (place_among n k) ts) in
    omega (arith, first, rest, s)

-- another way to say what may be taken
pub tries_same : (A B : HandoffFrame → Type 0) → ((frame : HandoffFrame) → A frame → B frame) → ((frame : HandoffFrame) → B frame → A frame) → (old new : Intake) (took : List HandoffFrame) → Tries A old took new → Tries B old took new
tries_same A B to back old new [] tries = leaves new.waits tries
  where
    leaves : (waits : Option HandoffFrame) → Leaves A old waits new.trail → Leaves B old waits new.trail
    leaves None is = is
    leaves (Some frame) is = (is.0, is.1, λ may. is.2 (back frame may))
tries_same A B to back old new (frame ∷ []) tries = (tries.0, to frame tries.1, tries.2)
tries_same A B to back old new (frame ∷ next ∷ more) tries = absurd tries

-- a queue as contracts see it
intake_at : (book : WorkerBook) (number : ℕ) (options : Options) (packets bytes mark own left : ℕ) (queues : List Queue) (accepted : List (List HandoffFrame)) (outlets : List Outlet) (work : Work) (cache : CacheBook)
    → IsBookOf book number options packets bytes mark own left queues accepted outlets work cache
    → (from : ℕ) (d : Queue) → from ≢ number → from < length queues + 1 → number ≤ length queues → intake_from book from ≡ intake_of (get_or queues (place_among number from) d)
intake_at book number options packets bytes mark own left queues accepted outlets work cache is from d other inside here =
    let place : ℕ = place_among number from in
    let there : place < length queues = place_within number from (length queues) other inside (omega (arith, here)) in
    let x : Queue = get_or queues place d in
    let again : x ≡ get_or queues place x = get_again queues place d there in
    let t : frames_with from book.taken ≡ x.taken =
    ap (frames_with from) is.taken_is ∙ peers_at number from [] (map (λ (q : Queue). q.taken) queues) [] other (let n = length-map queues (λ (q : Queue). q.taken) in omega (arith, n, here)) ∙ map_at (λ (q : Queue). q.taken) queues place x [] there again in
    let w : get_or book.waits (place_among book.number from) None ≡ x.waits =
    ap (λ n. get_or book.waits (place_among n from) None) is.number_is ∙ ap (λ ws. get_or ws place None) is.waits_are ∙ map_at (λ (q : Queue). q.waits) queues place x None there again in
    let l : get_or book.looks from [] ≡ x.trail =
    ap (λ ls. get_or ls from []) is.looks_are ∙ peers_at number from [] (map (λ (q : Queue). q.trail) queues) [] other (let n = length-map queues (λ (q : Queue). q.trail) in omega (arith, n, here)) ∙ map_at (λ (q : Queue). q.trail) queues place x [] there again in
    let make : List HandoffFrame → Option HandoffFrame → List Found → Intake = λ a b c. record { taken = a; waits = b; trail = c } in
    ap (λ a. make a (get_or book.waits (place_among book.number from) None) (get_or book.looks from [])) t ∙ ap (λ b. make x.taken b (get_or book.looks from [])) w ∙ ap (make x.taken x.waits) l

-- what it has done so far
account_from : (book : WorkerBook) (number : ℕ) (options : Options) (packets bytes mark own left : ℕ) (queues : List Queue) (accepted : List (List HandoffFrame)) (outlets : List Outlet) (work : Work)
    (cache other : CacheBook) → IsBookOf book number options packets bytes mark own left queues accepted outlets work cache
    → other.allocated ≡ cache.allocated → other.freed ≡ cache.freed → account_of book ≡ account_with number mark (by_worker number [] (map (λ (q : Queue). q.taken) queues)) (by_worker number [] accepted) work other
account_from book number options packets bytes mark own left queues accepted outlets work cache other is allocated freed =
    let a : book.cache.allocated ≡ other.allocated = ap (λ (b : CacheBook). b.allocated) is.cache_is ∙ sym allocated in
    let f : book.cache.freed ≡ other.freed = ap (λ (b : CacheBook). b.freed) is.cache_is ∙ sym freed in
    let s = is.sent_is in let n = is.number_is in let m = is.mark_is in let t = is.taken_is in let p = is.put_is in let l = is.log_is in let c = is.counts_are in let r = is.trace_is in
    cc

-- nothing was taken
same_queues : (os ns : List Queue) → AreTaken os ns [] → ns ≡ os
same_queues [] [] all = refl
same_queues [] (n ∷ ns) all = absurd all
same_queues (o ∷ os) [] all = absurd all
same_queues (o ∷ os) (n ∷ ns) all = ap (λ q. q ∷ ns) all.0 ∙ ap (λ qs. o ∷ qs) (same_queues os ns all.1)

nothing_from : (worker from : ℕ) → frames_with from (by_worker worker [] []) ≡ []
nothing_from zero zero = refl
nothing_from zero (suc k) = refl
nothing_from (suc n) zero = refl
nothing_from (suc n) (suc k) = refl

sum_by_worker : (of : List HandoffFrame → ℕ) → of [] ≡ 0 → (worker : ℕ) (xs : List (List HandoffFrame)) → sum_by of (by_worker worker [] xs) ≡ sum_by of xs
sum_by_worker of none zero xs = let s = sum_by-cons of [] xs in omega (arith, s, none)
sum_by_worker of none (suc n) [] = let s = sum_by-cons of [] [] in omega (arith, s, none)
sum_by_worker of none (suc n) (x ∷ xs) = let rest = sum_by_worker of none n xs in omega (arith, rest, sum_by-cons of x (by_worker n [] xs), sum_by-cons of x xs)

sum_mapped : (queues : List Queue) → sum_by packets_in (map (λ (q : Queue). q.taken) queues) ≡ sum_by (λ (q : Queue). packets_in q.taken) queues
sum_mapped [] = refl
sum_mapped (q ∷ qs) = let rest = sum_mapped qs in omega (arith, rest, sum_by-cons packets_in q.taken (map (λ (q : Queue). q.taken) qs), sum_by-cons (λ (q : Queue). packets_in q.taken) q qs)

-- what is known of a round beside what it brings: how its handoffs and its cache stand, what is tried and drawn, and what is pushed
pub record IsGated (visit : Visit) (lossless : Bool) (told : List Settled → Type 0) (options : Options) (g : Graph) (generation limit number mark own left taken many most packets bytes tried more : ℕ) (goes draws : Bool) (took : List (List HandoffFrame)) (queues new_queues : List Queue)
    (accepted new_accepted : List (List HandoffFrame)) (outlets ticked new_outlets : List Outlet) (work new : Work) (cache filled after last : CacheBook) (frames : List (List ℕ)) : Type 0 where
  pub own_mark : mark % options.workers ≡ number
  pub number_within : number < options.workers
  pub each : length ticked + 1 ≡ options.workers
  pub inputs_each : length queues + 1 ≡ options.workers
  pub ticks : (to : ℕ) → IsTicked options.queue lossless (frames_with to (by_worker number [] accepted)) (outlet_with to (by_worker number no_outlet outlets)) (outlet_with to (by_worker number no_outlet ticked))
  pub goes_is : IsTrue goes ↔ ((cache.len ≤ most_kept) × AllByRecursion (λ (o : Outlet). most_in_round options.workers ≤ o.room) ticked)
  pub draws_is : IsTrue draws ↔ (IsTrue goes × AllByRecursion (λ (o : Outlet). o.closed ≡ false) ticked)
  pub tried_is : MatchBool goes (tried ≡ length queues) (tried ≡ 0)
  pub took_size : length took ≡ tried
  pub tries : AreTried (MayComeNext (stationed visit g generation (record { workers = options.workers; worker = number; slots = options.queue })) (record { packets = packets; bytes = bytes; own = own; left = left; taken = taken }) (length work.fates.items) (vec_len work.bytes))
      0 0 queues new_queues took
  pub taken_is : taken ≡ sum_by (λ (q : Queue). packets_in q.taken) queues
  pub sent_is : sum_by sent_size (sent_by work.entries.items work.bytes.items) ≡ vec_len work.bytes
  pub refill : more ≤ wanted cache
  pub filled_is : filled ≡ record cache { len = cache.len + more; taken = cache.taken + more }
  pub last_taken : last.taken ≡ after.taken
  pub last_allocated : last.allocated ≡ after.allocated
  pub last_freed : last.freed ≡ after.freed
  pub drawn_is : MatchBool draws (most ≡ options.burst) (most ≡ 0)
  pub cached : ℕ
  pub chained : AreChained options.workers mark many frames filled.len cached
  pub all : many < most → (limit ≤ mark_behind options.workers mark many) ⊎ LacksBuffers frames (mark_behind options.workers mark many) cached
  pub pushed : (settled : List Settled) → told settled
      → PushesFrames options.workers options.queue lossless (by_worker number [] accepted) (by_worker number no_outlet ticked) work.fates.items (by_worker number [] new_accepted) (by_worker number no_outlet new_outlets) new.fates.items settled

pub round_did : {told : List Settled → Type 0} (visit : Visit) (lossless : Bool) (plan : Planned) (capture : Capture) (options : Options) (g : Graph)
    (generation limit number mark own left taken many most came_count came_bytes drew_bytes : ℕ) (took : List (List HandoffFrame)) (queues new_queues : List Queue)
    (accepted new_accepted : List (List HandoffFrame)) (slots : List ℕ) (work new : Work) (filled after : CacheBook)
    → IsRound visit lossless told plan capture options g generation limit number mark own left taken many most came_count came_bytes drew_bytes took queues new_queues accepted new_accepted slots work new filled after
    → IsPlan plan → (packets bytes tried more : ℕ) (goes draws : Bool) (outlets ticked new_outlets : List Outlet) (cache last : CacheBook)
    → IsGated visit lossless told options g generation limit number mark own left taken many most packets bytes tried more goes draws took queues new_queues accepted new_accepted outlets ticked new_outlets work new cache filled after last (frames_of capture.packets)
    → (old_book new_book : WorkerBook) (new_own new_left : ℕ) → IsBookOf old_book number options packets bytes mark own left queues accepted outlets work cache
    → IsBookOf new_book number options packets bytes (mark_behind options.workers mark many) new_own new_left new_queues new_accepted new_outlets new last → IsRoundOf (run_of visit plan capture options) lossless g generation limit old_book new_book
round_did visit lossless plan capture options g generation limit number mark own left taken many most came_count came_bytes drew_bytes took queues new_queues accepted new_accepted slots work new filled after r planned packets bytes tried more goes draws outlets ticked new_outlets cache last
    k old_book new_book new_own new_left was is =
    let len_is : old_book.cache.len ≡ cache.len = ap (λ (b : CacheBook). b.len) was.cache_is in
    let options_are : old_book.options ≡ options = was.options_are in
    let opens = open_here old_book number options ticked was.number_is options_are k.number_within k.each goes cache.len len_is k.goes_is in
    let may_draw = draw_here old_book number options ticked was.number_is options_are k.number_within k.each goes draws opens k.draws_is in
    let added =
    round_adds visit lossless plan capture options g generation number mark many limit queues new_queues took accepted new_accepted work new filled after r.kinds planned r.there k.own_mark r.taken_is r.size r.may r.limited.0 r.limited.1 r.now r.below r.over in
    let filled_len : filled.len ≡ cache.len + more = ap (λ (b : CacheBook). b.len) k.filled_is in
    let burst_is : old_book.options.burst ≡ options.burst = ap (λ (o : Options). o.burst) options_are in
    let mark_new : new_book.mark ≡ mark_behind options.workers mark many = is.mark_is in
    let many_few = r.many_most in let most_burst = r.most_burst in
    let cached_is : filled.len ≡ old_book.cache.len + more = omega (arith, filled_len, len_is) in
    let run : Run = run_of visit plan capture options in
    let old_account = account_from old_book number options packets bytes mark own left queues accepted outlets work cache filled was (ap (λ (b : CacheBook). b.allocated) k.filled_is) (ap (λ (b : CacheBook). b.freed) k.filled_is) in
    let new_account = account_from new_book number options packets bytes (mark_behind options.workers mark many) new_own new_left new_queues new_accepted new_outlets new last after is (sym k.last_allocated) (sym k.last_freed) in
    let pushed = k.pushed r.over.settled r.over.tells in
    record {
      ticked = λ to. outlet_with to (by_worker number no_outlet ticked);
      ticks = λ to.
          subst (λ (o : Options). IsTicked o.queue lossless (frames_with to old_book.put) (outlet_with to old_book.outlets) (outlet_with to (by_worker number no_outlet ticked))) (sym options_are)
          (subst (λ put. IsTicked options.queue lossless (frames_with to put) (outlet_with to old_book.outlets) (outlet_with to (by_worker number no_outlet ticked))) (sym was.put_is)
          (subst (λ os. IsTicked options.queue lossless (frames_with to (by_worker number [] accepted)) (outlet_with to os) (outlet_with to (by_worker number no_outlet ticked))) (sym was.outlets_are) (k.ticks to)));
      took = by_worker number [] took;
      taken = λ from. ap (frames_with from) is.taken_is ∙ taken_by number from queues new_queues took r.taken_is ∙ ap (λ fs. frames_with from fs ++ frames_with from (by_worker number [] took)) (sym was.taken_is);
      one = λ from. peers_each (λ (frames : List HandoffFrame). length frames ≤ 1) number from took (omega arith) r.one;
      may = λ from. peers_each (AllByRecursion (MayTake g generation)) number from took tt r.may;
      tries = λ open_is from other. tried_from goes (opens.1 open_is) k.tried_is from other;
      passes = λ not from other. passed goes (λ on. not (opens.0 on)) k.tried_is from;
      filled = more;
      refill = subst (λ (b : CacheBook). more ≤ wanted b) (sym was.cache_is) k.refill;
      cached = (let e1 = ap (λ (b : CacheBook). b.taken) is.cache_is in let e2 = k.last_taken in let e3 = r.over.exchanges.taken in let e4 = ap (λ (b : CacheBook). b.taken) k.filled_is in let e5 = ap (λ (b : CacheBook). b.taken) was.cache_is in
          omega (arith, e1, e2, e3, e4, e5));
      draws = many;
      burst = omega (arith, many_few, most_burst, burst_is);
      left = k.cached;
      buffers = subst (λ (x : Options). AreChained x.workers old_book.mark many run.packets (old_book.cache.len + more) k.cached) (sym options_are)
          (subst (λ m. AreChained options.workers m many run.packets (old_book.cache.len + more) k.cached) (sym was.mark_is) (subst (λ n. AreChained options.workers mark many run.packets n k.cached) cached_is k.chained));
      mark = mark_new ∙ ap (λ m. mark_behind options.workers m many) (sym was.mark_is) ∙ ap (λ (x : Options). mark_behind x.workers old_book.mark many) (sym options_are);
      below = λ i inside. subst (λ (x : Options). mark_behind x.workers old_book.mark i < limit) (sym options_are) (subst (λ m. mark_behind options.workers m i < limit) (sym was.mark_is) (below_each options.workers mark limit many i r.below inside));
      all = λ may less. subst (λ m. (limit ≤ m) ⊎ LacksBuffers run.packets m k.cached) (sym mark_new) (all_drawn draws options.burst most many k.drawn_is k.all (may_draw.1 may) (omega (arith, less, burst_is)));
      none = λ not. none_drawn_here draws options.burst most many k.drawn_is r.many_most (λ on. not (may_draw.0 on));
      trips = added.0;
      adds = subst (λ a. Adds run a (account_of new_book) added.0) (sym old_account) (subst (λ a. Adds run (account_with number mark (by_worker number [] (map (λ (q : Queue). q.taken) queues)) (by_worker number [] accepted) work filled) a added.0) (sym new_account) added.1);
      under = added.2;
      counts = subst (λ (o : Options). AllByRecursion (λ (t : Trip). IsCountIn o.queue lossless old_book.put new_book.put t.way.outcome t.refused) added.0) (sym options_are)
          (subst (λ put. AllByRecursion (λ (t : Trip). IsCountIn options.queue lossless put new_book.put t.way.outcome t.refused) added.0) (sym was.put_is)
          (subst (λ put. AllByRecursion (λ (t : Trip). IsCountIn options.queue lossless (by_worker number [] accepted) put t.way.outcome t.refused) added.0) (sym is.put_is) added.3));
      pushes = pushed.pushes;
      made = λ to.
          subst (λ (o : Options). ArePushes o.queue lossless (frames_with to old_book.put) (outlet_with to (by_worker number no_outlet ticked)) (pushed.pushes to) (frames_with to new_book.put) (outlet_with to new_book.outlets)) (sym options_are)
          (subst (λ put. ArePushes options.queue lossless (frames_with to put) (outlet_with to (by_worker number no_outlet ticked)) (pushed.pushes to) (frames_with to new_book.put) (outlet_with to new_book.outlets)) (sym was.put_is)
          (subst (λ put. ArePushes options.queue lossless (frames_with to (by_worker number [] accepted)) (outlet_with to (by_worker number no_outlet ticked)) (pushed.pushes to) (frames_with to put) (outlet_with to new_book.outlets)) (sym is.put_is)
          (subst (λ os. ArePushes options.queue lossless (frames_with to (by_worker number [] accepted)) (outlet_with to (by_worker number no_outlet ticked)) (pushed.pushes to) (frames_with to (by_worker number [] new_accepted)) (outlet_with to os)) (sym is.outlets_are) (pushed.made to))));
      pushed = r.over.delivers.pushed;
      put = λ to. ap (frames_with to) is.put_is ∙ r.over.delivers.puts to ∙ ap (λ fs. frames_with to fs ++ r.over.delivers.pushed to) (sym was.put_is);
      logged = filter_map settled_log r.over.settled;
      log = is.log_is ∙ r.over.advances.fates ∙ ap (λ fs. fs ++ filter_map settled_log r.over.settled) (sym was.log_is);
      dropped = λ count.
          let e = pushed.dropped count in
          let all = ap (sum_by (if_congested count)) r.over.advances.fates in
          let both = sum_by-append (if_congested count) work.fates.items (filter_map settled_log r.over.settled) in
          let same : dropped_in_all count old_book.options.workers pushed.pushes ≡ dropped_in_all count options.workers pushed.pushes = ap (λ (o : Options). dropped_in_all count o.workers pushed.pushes) options_are in
          omega (arith, e, all, both, same);
      refused = λ to count. added.4 (refused_at count to) ∙ pushed.refused to count;
    }
  where
    public_may : (from : ℕ) → from ≢ number → from < length took + 1 → number ≤ length took → (frame : HandoffFrame)
        → MayComeNext (stationed visit g generation (record { workers = options.workers; worker = number; slots = options.queue })) (record { packets = packets; bytes = bytes; own = own; left = left; taken = taken }) (length work.fates.items) (vec_len work.bytes)
        (0 + sum_by packets_in (take (place_among number from) took)) (0 + sum_by extents_in (take (place_among number from) took)) frame ↔ MayTakeFrom g generation old_book (by_worker number [] took) from frame
    public_may from other inside here frame =
        let ps = before_is packets_in refl number from took other inside here in
        let bs = before_is extents_in refl number from took other inside here in
        let t1 = ap (sum_by packets_in) was.taken_is in let t2 = sum_by_worker packets_in refl number (map (λ (q : Queue). q.taken) queues) in let t3 = sum_mapped queues in let t4 = k.taken_is in
        let l1 = ap length was.log_is in
        let s1 = ap (sum_by sent_size) was.sent_is in let s2 = k.sent_is in
        let p = was.packets_are in let b = was.bytes_are in let o = was.own_is in let f = was.left_is in (
          λ may. (
            may.0,
            (let i = may.1 in let i1 = i.taken in let i2 = i.fates in let i3 = i.bytes_most in record {
              taken = omega (arith, i1, ps, t1, t2, t3, t4, p);
              fates = omega (arith, i2, ps, l1, p, o);
              bytes_most = omega (arith, i3, bs, s1, s2, b, f);
            }),
          ),
          λ may. (
            may.0,
            (let i = may.1 in let i1 = i.taken in let i2 = i.fates in let i3 = i.bytes_most in record {
              taken = omega (arith, i1, ps, t1, t2, t3, t4, p);
              fates = omega (arith, i2, ps, l1, p, o);
              bytes_most = omega (arith, i3, bs, s1, s2, b, f);
            }),
          ),
        )

    tried_from : (goes : Bool) → IsTrue goes → MatchBool goes (tried ≡ length queues) (tried ≡ 0) → (from : ℕ) → IsOther old_book from
        → Tries (MayTakeFrom g generation old_book (by_worker number [] took) from) (intake_from old_book from) (frames_with from (by_worker number [] took)) (intake_from new_book from)
    tried_from false on tries from other = absurd (let h : false ≡ true = on in cc)
    tried_from true on tries from other =
        let size : length took ≡ length queues = k.took_size ∙ tries in
        let w : old_book.options.workers ≡ options.workers = ap (λ (o : Options). o.workers) was.options_are in
        let apart : from ≢ number = subst (λ n. from ≢ n) was.number_is other.1 in
        let o0 = other.0 in let ie = k.inputs_each in let nw = k.number_within in
        let inside : from < length queues + 1 = omega (arith, o0, w, ie) in
        let here : number ≤ length queues = omega (arith, nw, ie) in
        let place : place_among number from < length queues = place_within number from (length queues) apart inside (omega (arith, here)) in
        let longer = taken_length queues new_queues took r.taken_is in
        at queues (λ d.
        let next : (packets bytes : ℕ) → HandoffFrame → Type 0 =
        MayComeNext (stationed visit g generation (record { workers = options.workers; worker = number; slots = options.queue })) (record { packets = packets; bytes = bytes; own = own; left = left; taken = taken }) (length work.fates.items) (vec_len work.bytes) in
        let found = tries_at next 0 0 queues new_queues took d (place_among number from) (omega (arith, place, size)) k.tries in
        let may = public_may from apart (omega (arith, inside, size)) (omega (arith, here, size)) in
        subst (λ i. Tries (MayTakeFrom g generation old_book (by_worker number [] took) from) i (frames_with from (by_worker number [] took)) (intake_from new_book from))
        (sym (intake_at old_book number options packets bytes mark own left queues accepted outlets work cache was from d apart inside here))
        (subst (λ i. Tries (MayTakeFrom g generation old_book (by_worker number [] took) from) (intake_of (get_or queues (place_among number from) d)) (frames_with from (by_worker number [] took)) i)
        (sym (intake_at new_book number options packets bytes (mark_behind options.workers mark many) new_own new_left new_queues new_accepted new_outlets new last is from d apart (omega (arith, inside, longer)) (omega (arith, here, longer))))
        (subst (λ fs. Tries (MayTakeFrom g generation old_book (by_worker number [] took) from) (intake_of (get_or queues (place_among number from) d)) fs (intake_of (get_or new_queues (place_among number from) d)))
        (sym (peers_at number from [] took [] apart (omega (arith, here, size))))
        (tries_same (next (0 + sum_by packets_in (take (place_among number from) took)) (0 + sum_by extents_in (take (place_among number from) took))) (MayTakeFrom g generation old_book (by_worker number [] took) from) (λ frame. (may frame).0) (λ frame. (may frame).1)
        (intake_of (get_or queues (place_among number from) d)) (intake_of (get_or new_queues (place_among number from) d)) (get_or took (place_among number from) []) found)))) (omega (arith, place))
      where
        at : {P : Type 0} (qs : List Queue) → (Queue → P) → 0 < length qs → P
        at [] f some = absurd (omega (arith, some))
        at (q ∷ qs) f some = f q

    passed : (goes : Bool) → (IsTrue goes → ⊥) → MatchBool goes (tried ≡ length queues) (tried ≡ 0) → (from : ℕ) → (frames_with from (by_worker number [] took) ≡ []) × (intake_from new_book from ≡ intake_from old_book from)
    passed true not tries from = absurd (not refl)
    passed false not tries from =
        let none : took ≡ [] = nil_from_length took (k.took_size ∙ tries) in
        let same : new_queues ≡ queues = same_queues queues new_queues (subst (AreTaken queues new_queues) none r.taken_is) in
        let make : List HandoffFrame → Option HandoffFrame → List Found → Intake = λ a b c. record { taken = a; waits = b; trail = c } in
        let t : frames_with from new_book.taken ≡ frames_with from old_book.taken = ap (frames_with from) (is.taken_is ∙ ap (λ qs. by_worker number [] (map (λ (q : Queue). q.taken) qs)) same ∙ sym was.taken_is) in
        let w : get_or new_book.waits (place_among new_book.number from) None ≡ get_or old_book.waits (place_among old_book.number from) None =
        ap (λ n. get_or new_book.waits (place_among n from) None) (is.number_is ∙ sym was.number_is) ∙ ap (λ ws. get_or ws (place_among old_book.number from) None) (is.waits_are ∙ ap (map (λ (q : Queue). q.waits)) same ∙ sym was.waits_are) in
        let l : get_or new_book.looks from [] ≡ get_or old_book.looks from [] = ap (λ ls. get_or ls from []) (is.looks_are ∙ ap (λ qs. by_worker number [] (map (λ (q : Queue). q.trail) qs)) same ∙ sym was.looks_are) in (
          ap (λ ts. frames_with from (by_worker number [] ts)) none ∙ nothing_from number from,
          ap (λ a. make a (get_or new_book.waits (place_among new_book.number from) None) (get_or new_book.looks from [])) t ∙ ap (λ b. make (frames_with from old_book.taken) b (get_or new_book.looks from [])) w
              ∙ ap (make (frames_with from old_book.taken) (get_or old_book.waits (place_among old_book.number from) None)) l,
        )

pub did_here : {told : List Settled → Type 0} (visit : Visit) (lossless : Bool) (plan : Planned) (capture : Capture) (run : Options) {v w new_book : WorkerBook} → v ≡ w → IsAtWork visit lossless plan capture run w → (g : Graph) (generation limit shown : ℕ) → limit ≡ shown
    → (taken many most came_count came_bytes drew_bytes : ℕ) (took : List (List HandoffFrame)) (queues new_queues : List Queue) (accepted new_accepted : List (List HandoffFrame)) (slots : List ℕ) (work new : Work) (filled after : CacheBook)
    → IsRound visit lossless told plan capture v.options g generation limit v.number v.mark v.own v.left taken many most came_count came_bytes drew_bytes took queues new_queues accepted new_accepted slots work new filled after
    → (tried more : ℕ) (goes draws : Bool) (outlets ticked new_outlets : List Outlet) (cache last : CacheBook)
    → IsGated visit lossless told v.options g generation limit v.number v.mark v.own v.left taken many most v.packets v.bytes tried more goes draws took queues new_queues accepted new_accepted outlets ticked new_outlets work new cache filled after last (frames_of capture.packets)
    → (new_own new_left : ℕ) → IsBookOf v v.number v.options v.packets v.bytes v.mark v.own v.left queues accepted outlets work cache
    → IsBookOf new_book v.number v.options v.packets v.bytes (mark_behind v.options.workers v.mark many) new_own new_left new_queues new_accepted new_outlets new last → IsRoundOf (run_of visit plan capture run) lossless g generation shown w new_book
did_here visit lossless plan capture run {v} {w} {new_book} is at_work g generation limit shown same taken many most came_count came_bytes drew_bytes took queues new_queues accepted new_accepted slots work new filled
    after r tried more goes draws outlets ticked new_outlets cache last k new_own new_left was becomes =
    let before : IsAtWork visit lossless plan capture run v = subst (IsAtWork visit lossless plan capture run) (sym is) at_work in
    subst (λ n. IsRoundOf (run_of visit plan capture run) lossless g generation n w new_book) same
    (subst (λ x. IsRoundOf (run_of visit plan capture run) lossless g generation limit x new_book) is
    (subst (λ o. IsRoundOf (run_of visit plan capture o) lossless g generation limit v new_book) before.made.options_are
    (round_did visit lossless plan capture v.options g generation limit v.number v.mark v.own v.left taken many most came_count came_bytes drew_bytes took queues new_queues accepted new_accepted slots work new filled
    after r at_work.planned v.packets v.bytes tried more goes draws outlets ticked new_outlets
    cache last k v new_book new_own new_left was becomes)))
