-- For the clauses of `Worker::round`, and for what its calls require: the steps of a round of a worker, one after the other.
use Rattle.std.proofs.lemmas.Bool.{cases_lt, le-ltb, lt-ltb}
use Rattle.std.proofs.Common.{◌≡◌, ℕ, zero, suc, inl, inr, ◌+◌, ◌-◌, ◌*◌, ◌<◌, ◌≤◌, ◌^◌, List, [], ◌∷◌, ◌++◌, length, map, take, drop, refl, sym, ap, subst, ◌∙◌, arith}
use Rattle.std.specs.Prelude.{Bool, true, false, Some, slice_get, replicate, min, ◌==◌, if◌then◌else◌}
use Rattle.std.specs.Bool.{MatchBool, IsTrue}
use Rattle.std.specs.List.{AllByRecursion}
use Rattle.vg_model.specs.Graph.{Graph}
use Rattle.vg_model.specs.Visit.{Visit}
use Rattle.vg_model.specs.PoolBook.{CacheBook}
use Rattle.vg_capture.specs.declared.captures.Capture.{Capture}
use Rattle.vg_capture.specs.declared.captures.Captured.{Captured}
use Rattle.vg_frame.specs.Placed.{count}
use Rattle.vg_pool.specs.Moves.{most_cached, lot, wanted}
use Rattle.vg_journeys.specs.Accounts.{HandoffFrame}
use Rattle.vg_journeys.specs.Windows.{next_draws}
use Rattle.vg_nodes.specs.declared.sorted.Sorted.{Sorted}
use Rattle.vg_dispatch.specs.declared.options.Options.{Options}
use Rattle.vg_underway.specs.declared.taking.Came.{Came}
use Rattle.vg_underway.specs.declared.underway.Work.{Work}
use Rattle.vg_underway.specs.Queues.{Queue}
use Rattle.vg_underway.specs.OwnPackets.{own_from, captured_extent, frames_of}
use Rattle.vg_dispatch.specs.Progress.{AreInRange}
use Rattle.vg_underway.specs.Underway.{Setting, stationed}
use Rattle.vg_underway.specs.Draws.{AreBelow, IsReady, IsEntered, CanDrawOwn}
use Rattle.vg_underway.specs.Taking.{TakesFrames, taken_arrivals}
use Rattle.vg_underway.specs.Hands.{CanHand}
use Rattle.vg_dispatch.specs.Keeping.{IsKeeping}
use Rattle.vg_dispatch.specs.Workers.{WorkerBook, account_of}
use Rattle.vg_dispatch.specs.Standing.{IsMadeFor, IsAtWork, IsSameWorker}
use Rattle.vg_underway.proofs.HandGroupLemmas.{all_mono}
use Rattle.vg_underway.proofs.TakingLemmas.{chains_taken}
use Rattle.std.proofs.lemmas.List.{append-nil, length-map}
use Rattle.std.proofs.lemmas.Bool.Decides.{nat_tests}
use Rattle.vg_model.specs.Valid.{IsKindSet}
use Rattle.vg_frame.specs.Pending.{IsNothingPending}
use Rattle.vg_plan.specs.Plan.{Planned, IsPlan, limit_of}
use Rattle.vg_journeys.specs.Windows.{mark_behind}
use Rattle.vg_nodes.specs.Sorting.{nothing_sorted}
use Rattle.vg_underway.specs.Peers.{by_worker}
use Rattle.vg_underway.specs.Underway.{IsSetting}
use Rattle.vg_underway.specs.Works.{IsSteady, TakesAll}
use Rattle.vg_journeys.specs.Turns.{Settled}
use Rattle.vg_underway.specs.Hands.{IsDispatched}
use Rattle.vg_underway.specs.Taking.{AreTaken, most_in_frame}
use Rattle.vg_underway.proofs.DrawLemmas.{room_entered, takes_entered}
use Rattle.vg_underway.proofs.RestLemmas.{IsOver, account_with, round_over}
use Rattle.vg_dispatch.proofs.RoundLemmas.{ready_in_round, arrivals_many, IsRound, keeping_after, work_after}

-- a round takes frames only where the cache has few buffers
pub small_tried : (goes : Bool) (tried inputs cached more filled : ℕ) → MatchBool goes (tried ≡ inputs) (tried ≡ 0) → (IsTrue goes → cached ≤ 256) → (5 ≤ cached → more ≡ 0) → more ≤ 128 → filled ≡ cached + more → filled ≤ most_cached → inputs ≤ 7
    → (tried ≤ 7) × (filled + most_in_frame * tried ≤ most_cached)
small_tried true tried inputs cached more filled is small none few sum fits short =
    elim (cases_lt cached 5) [
      | inl less ↦ (omega (arith, is, short), omega (arith, is, less, few, sum, short))
      | inr enough ↦ (omega (arith, is, short), (let h = small refl in let e = none enough in omega (arith, is, h, e, sum, short)))
    ]
small_tried false tried inputs cached more filled is small none few sum fits short = (omega (arith, is), omega (arith, is, fits))

-- and draws packets only then
pub tried_none : (goes : Bool) (tried inputs : ℕ) → MatchBool goes (tried ≡ inputs) (tried ≡ 0) → tried ≤ inputs
tried_none true tried inputs is = omega (arith, is)
tried_none false tried inputs is = omega (arith, is)

pub most_small : (goes : Bool) (many burst : ℕ) → MatchBool goes (many ≡ burst) (many ≡ 0) → many ≤ burst
most_small true many burst is = omega (arith, is)
most_small false many burst is = omega (arith, is)

-- the handoffs have room for all that came
pub room_for : (goes draws : Bool) (tried inputs many burst workers packets : ℕ) (rooms : List ℕ) → MatchBool goes (tried ≡ inputs) (tried ≡ 0)
    → MatchBool draws (many ≡ burst) (many ≡ 0) → (IsTrue draws → IsTrue goes) → packets ≤ 256 * tried + many → burst ≤ 256 → inputs + 1 ≡ workers
    → (IsTrue goes → AllByRecursion (λ room. 256 * workers ≤ room) rooms) → AllByRecursion (λ room. packets ≤ room) rooms
room_for true draws tried inputs many burst workers packets rooms is so_many only most few each room =
    let fewer : many ≤ 256 = (let m = most_small draws many burst so_many in omega (arith, m, few)) in
    all_mono (λ n. 256 * workers ≤ n) (λ n. packets ≤ n) (λ n h. omega (arith, h, fewer, most, is, each)) rooms (room refl)
room_for false true tried inputs many burst workers packets rooms is so_many only most few each room = absurd (let k : false ≡ true = only refl in cc)
room_for false false tried inputs many burst workers packets rooms is so_many only most few each room = none_of rooms
  where
    none_of : (xs : List ℕ) → AllByRecursion (λ n. packets ≤ n) xs
    none_of [] = tt
    none_of (x ∷ xs) = (omega (arith, most, is, so_many), none_of xs)

-- a limit by another name
pub same_limit : (a b most few : ℕ) → a ≡ b → (b ≤ most) × (b ≤ few) → (a ≤ most) × (a ≤ few)
same_limit a b most few same h = let x = h.0 in let y = h.1 in (omega (arith, same, x), omega (arith, same, y))

-- what a refill takes
pub refills : (cache : CacheBook) (more : ℕ) → more ≤ wanted cache → (5 ≤ cache.len → more ≡ 0) × (more ≤ 128)
refills cache more few =
    elim (cases_lt cache.len 5) [
      | inl less ↦ (λ h. absurd (omega (arith, h, less)), subst (λ b. more ≤ (if b then lot else 0)) (lt-ltb cache.len 5 less) few)
      | inr enough ↦
          (let none : more ≤ 0 = subst (λ b. more ≤ (if b then lot else 0)) (le-ltb cache.len 5 enough) few in
          (λ h. omega (arith, none), omega (arith, none)))
    ]

-- so it is never too full
still_few : (len more filled : ℕ) → (5 ≤ len → more ≡ 0) → more ≤ 128 → filled ≡ len + more → len ≤ most_cached → filled ≤ most_cached
still_few len more filled none few sum fits =
    elim (cases_lt len 5) [
      | inl less ↦ omega (arith, less, few, sum)
      | inr enough ↦ (let e = none enough in omega (arith, e, sum, fits))
    ]

-- the worker was made for what it runs
pub made_here : (capture : Capture) (options : Options) {v w : WorkerBook} → v ≡ w → IsMadeFor capture options w → IsMadeFor capture options v
made_here capture options is m = subst (IsMadeFor capture options) (sym is) m

pub own_here : (capture : Capture) (options : Options) (v : WorkerBook) (items : List Captured) → IsMadeFor capture options v → items ≡ capture.packets → v.own ≡ length (own_from v.options.workers v.mark items)
own_here capture options v items m is = m.own ∙ ap (λ (o : Options). length (own_from o.workers v.mark capture.packets)) (sym m.options_are) ∙ ap (λ xs. length (own_from v.options.workers v.mark xs)) (sym is)

pub left_here : (capture : Capture) (options : Options) (v : WorkerBook) (items : List Captured) → IsMadeFor capture options v → items ≡ capture.packets → v.left ≡ captured_extent (own_from v.options.workers v.mark items)
left_here capture options v items m is = m.left ∙ ap (λ (o : Options). captured_extent (own_from o.workers v.mark capture.packets)) (sym m.options_are) ∙ ap (λ xs. captured_extent (own_from v.options.workers v.mark xs)) (sym is)

-- what is known when packets are drawn
pub record IsSetUp (options : Options) (mark own left limit most tried : ℕ) (cache filled : CacheBook) (items : List Captured) : Type 0 where
  pub tries : tried ≤ 7
  pub burst : most ≤ options.burst
  pub few : most ≤ 256
  pub within : limit ≤ length items
  pub own_is : own ≡ length (own_from options.workers mark items)
  pub left_is : left ≡ captured_extent (own_from options.workers mark items)
  pub fits : filled.len + most_in_frame * tried ≤ most_cached
  pub allocated : filled.allocated ≡ cache.allocated
  pub freed : filled.freed ≡ cache.freed
  pub tried_most : tried + 1 ≤ options.workers

pub set_up : (capture : Capture) (run : Options) {v w : WorkerBook} → v ≡ w → IsMadeFor capture run w → (goes draws : Bool) (limit tried inputs cached more most : ℕ) (queues : List Queue) (cache filled : CacheBook) (items : List Captured)
    → AreInRange v.options → length queues + 1 ≡ v.options.workers → items ≡ capture.packets → limit ≤ length capture.packets → MatchBool goes (tried ≡ inputs) (tried ≡ 0) → (IsTrue goes → cached ≤ 256) → inputs ≡ length queues → cached ≡ cache.len
    → (5 ≤ cache.len → more ≡ 0) → more ≤ 128 → filled ≡ record cache { len = cache.len + more; taken = cache.taken + more } → cache.len ≤ most_cached → MatchBool draws (most ≡ v.options.burst) (most ≡ 0)
    → IsSetUp v.options v.mark v.own v.left limit most tried cache filled items
set_up capture run {v} {w} is made goes draws limit tried inputs cached more most queues cache filled items range inputs_each items_is within tries small inputs_is cached_is none few filled_is fits draw =
    let m = made_here capture run is made in
    let len = ap (λ (b : CacheBook). b.len) filled_is in
    let eight = range.workers.1 in
    let size = still_few cache.len more filled.len none few len fits in
    let here = small_tried goes tried inputs cached more filled.len tries small (λ h. none (omega (arith, h, cached_is))) few (omega (arith, len, cached_is)) size (omega (arith, inputs_is, inputs_each, eight)) in
    let fewer = most_small draws most v.options.burst draw in
    let burst = range.burst.1 in let least = tried_none goes tried inputs tries in
    record {
      tries = here.0;
      burst = omega (arith, fewer);
      few = omega (arith, fewer, burst);
      within = (let e = ap length items_is in omega (arith, e, within));
      own_is = own_here capture run v items m items_is;
      left_is = left_here capture run v items m items_is;
      fits = here.1;
      allocated = ap (λ (b : CacheBook). b.allocated) filled_is;
      freed = ap (λ (b : CacheBook). b.freed) filled_is;
      tried_most = omega (arith, least, inputs_is, inputs_each);
    }

module _ (visit : Visit) (g : Graph) (generation number packets bytes mark own left taken limit most tried : ℕ) (options : Options) (work came : Work) (sorted : Sorted) (groups : List (List ℕ))
    (queues asked new_queues : List Queue) (accepted : List (List HandoffFrame)) (slots : List ℕ) (cache filled : CacheBook)
    (items : List Captured) (got : Came) where
  pub ready_here : IsKeeping number options packets bytes mark own left taken work sorted groups queues accepted slots cache
      → (t : TakesFrames (stationed visit g generation (record { workers = options.workers; worker = number; slots = options.queue })) (record { packets = packets; bytes = bytes; own = own; left = left; taken = taken }) tried work asked came new_queues got)
      → IsSetUp options mark own left limit most tried cache filled items → (many : ℕ) → many ≤ most → AreBelow options.workers mark limit many → IsReady (taken_arrivals number t.took ++ next_draws options.workers mark many (frames_of items)) work filled
  ready_here k t u many fewer below =
      let some : 0 < options.workers = (let h = k.number_within in omega (arith, h)) in
      let few = t.few in let size = t.size in let a = u.allocated in let f = u.freed in
      let c1 = k.counted.0 in let c2 = k.counted.1 in let c3 = k.rest.came_few in let c4 = k.rest.few in
      ready_in_round packets bytes k.came own left options.workers mark limit tried many most got.count got.bytes (taken_arrivals number t.took) items work filled k.rest some u.tries u.few u.within fewer below u.own_is u.left_is t.count_is t.bytes_is
      (chains_taken (stationed visit g generation (record { workers = options.workers; worker = number; slots = options.queue })) t.took t.may) (omega (arith, few, size)) t.fates t.bytes_most u.fits (omega (arith, c1, c3, c4, a)) (omega (arith, c2, c3, c4, f))

  pub can_draw_here : IsKeeping number options packets bytes mark own left taken work sorted groups queues accepted slots cache
      → (t : TakesFrames (stationed visit g generation (record { workers = options.workers; worker = number; slots = options.queue })) (record { packets = packets; bytes = bytes; own = own; left = left; taken = taken }) tried work asked came new_queues got)
      → IsSetUp options mark own left limit most tried cache filled items → CanDrawOwn (stationed visit g generation (record { workers = options.workers; worker = number; slots = options.queue })) mark limit most items came filled
  can_draw_here k t u =
      let c1 = k.counted.0 in let c2 = k.counted.1 in let c3 = k.rest.came_few in let c4 = k.rest.few in let a = u.allocated in let f = u.freed in
      record {
        before = taken_arrivals number t.took;
        start = work;
        start_cache = filled;
        ready = ready_here k t u;
        entered = t.entered filled (record { len = u.fits; allocated = omega (arith, c1, c3, c4, a); freed = omega (arith, c2, c3, c4, f) });
      }

  -- what came when all was drawn
  pub entered_here : (k : IsKeeping number options packets bytes mark own left taken work sorted groups queues accepted slots cache)
      → (t : TakesFrames (stationed visit g generation (record { workers = options.workers; worker = number; slots = options.queue })) (record { packets = packets; bytes = bytes; own = own; left = left; taken = taken }) tried work asked came new_queues got)
      → IsSetUp options mark own left limit most tried cache filled items → (many : ℕ) (mid : Work) (mid_cache : CacheBook)
      → ((from : CanDrawOwn (stationed visit g generation (record { workers = options.workers; worker = number; slots = options.queue })) mark limit most items came filled)
      → IsEntered (stationed visit g generation (record { workers = options.workers; worker = number; slots = options.queue })) (from.before ++ next_draws options.workers mark many (frames_of items)) from.start from.start_cache mid mid_cache)
      → IsEntered (stationed visit g generation (record { workers = options.workers; worker = number; slots = options.queue })) (taken_arrivals number t.took ++ next_draws options.workers mark many (frames_of items)) work filled mid mid_cache
  entered_here k t u many mid mid_cache drawn =
      let c1 = k.counted.0 in let c2 = k.counted.1 in let c3 = k.rest.came_few in let c4 = k.rest.few in let a = u.allocated in let f = u.freed in
      drawn (record {
        before = taken_arrivals number t.took;
        start = work;
        start_cache = filled;
        ready = ready_here k t u;
        entered = t.entered filled (record { len = u.fits; allocated = omega (arith, c1, c3, c4, a); freed = omega (arith, c2, c3, c4, f) });
      })

  -- how many are under way then
  pub count_here : IsKeeping number options packets bytes mark own left taken work sorted groups queues accepted slots cache
      → (t : TakesFrames (stationed visit g generation (record { workers = options.workers; worker = number; slots = options.queue })) (record { packets = packets; bytes = bytes; own = own; left = left; taken = taken }) tried work asked came new_queues got)
      → (many : ℕ) (mid : Work) (mid_cache : CacheBook) → many ≤ most
      → IsEntered (stationed visit g generation (record { workers = options.workers; worker = number; slots = options.queue })) (taken_arrivals number t.took ++ next_draws options.workers mark many (frames_of items)) work filled mid mid_cache
      → count mid.memory ≤ 256 * tried + most
  count_here k t many mid mid_cache fewer entered =
      let sizes = arrivals_many number options.workers mark many t.took (frames_of items) in
      let n = sizes.0 in
      let live = entered.advances.live in let empty = k.rest.no_buffer in
      let few = t.few in let size = t.size in let is = t.count_is in
      omega (arith, n, live, empty, few, size, is, fewer)

  -- so they may be handed over
  pub can_hand_here : IsKeeping number options packets bytes mark own left taken work sorted groups queues accepted slots cache → IsSetUp options mark own left limit most tried cache filled items
      → (mid : Work) (new_accepted : List (List HandoffFrame)) (new_slots rooms : List ℕ) → count mid.memory ≤ 256 * tried + most
      → AllByRecursion (λ room. count mid.memory ≤ room) rooms → new_accepted ≡ accepted → new_slots ≡ slots → CanHand (record { workers = options.workers; worker = number; slots = options.queue }) (count mid.memory) new_accepted new_slots rooms
  can_hand_here k u mid new_accepted new_slots rooms most_live room accepted_same slots_same =
      let c3 = k.rest.came_few in let c4 = k.rest.few in let tries = u.tries in let burst = u.few in
      record {
        worker = k.number_within;
        workers = k.range.workers.1;
        each = (let e = ap length accepted_same in let h = k.outputs_each in omega (arith, e, h));
        slots_are = subst (AllByRecursion (λ n. n ≡ options.queue)) (sym slots_same) k.slots_are;
        room = room;
        count = subst (AllByRecursion (λ (frames : List HandoffFrame). length frames + count mid.memory < 2 ^ 62)) (sym accepted_same)
            (all_mono (λ (frames : List HandoffFrame). length frames ≤ k.came) (λ (frames : List HandoffFrame). length frames + count mid.memory < 2 ^ 62) (λ frames h. omega (arith, h, c3, c4, most_live, tries, burst)) accepted k.puts_few);
      }

  -- they wait for nodes, and there is room for what becomes of them
  pub steady_here : IsKeeping number options packets bytes mark own left taken work sorted groups queues accepted slots cache
      → (t : TakesFrames (stationed visit g generation (record { workers = options.workers; worker = number; slots = options.queue })) (record { packets = packets; bytes = bytes; own = own; left = left; taken = taken }) tried work asked came new_queues got)
      → IsSetUp options mark own left limit most tried cache filled items → IsSetting (stationed visit g generation (record { workers = options.workers; worker = number; slots = options.queue })) → (many : ℕ) (mid : Work) (mid_cache : CacheBook)
      → many ≤ most → AreBelow options.workers mark limit many
      → IsEntered (stationed visit g generation (record { workers = options.workers; worker = number; slots = options.queue })) (taken_arrivals number t.took ++ next_draws options.workers mark many (frames_of items)) work filled mid mid_cache
      → IsSteady (stationed visit g generation (record { workers = options.workers; worker = number; slots = options.queue })) 0 mid []
  steady_here k t u ok many mid mid_cache fewer below entered = record {
    held = entered.held;
    room = room_entered (stationed visit g generation (record { workers = options.workers; worker = number; slots = options.queue })) (taken_arrivals number t.took ++ next_draws options.workers mark many (frames_of items)) work mid filled mid_cache ok
        (ready_here k t u many fewer below) entered;
  }

  pub takes_here : IsKeeping number options packets bytes mark own left taken work sorted groups queues accepted slots cache
      → (t : TakesFrames (stationed visit g generation (record { workers = options.workers; worker = number; slots = options.queue })) (record { packets = packets; bytes = bytes; own = own; left = left; taken = taken }) tried work asked came new_queues got)
      → IsSetUp options mark own left limit most tried cache filled items → (many : ℕ) (mid : Work) (mid_cache : CacheBook)
      → many ≤ most → AreBelow options.workers mark limit many
      → IsEntered (stationed visit g generation (record { workers = options.workers; worker = number; slots = options.queue })) (taken_arrivals number t.took ++ next_draws options.workers mark many (frames_of items)) work filled mid mid_cache
      → TakesAll (stationed visit g generation (record { workers = options.workers; worker = number; slots = options.queue })) 0 mid [] mid_cache
  takes_here k t u many mid mid_cache fewer below entered =
      takes_entered (stationed visit g generation (record { workers = options.workers; worker = number; slots = options.queue })) (taken_arrivals number t.took ++ next_draws options.workers mark many (frames_of items))
      (taken_arrivals number t.took ++ next_draws options.workers mark many (frames_of items)) [] work mid filled mid_cache (ready_here k t u many fewer below) entered (sym (append-nil (taken_arrivals number t.took ++ next_draws options.workers mark many (frames_of items))))

  -- all of the round
  pub round_here : {told : List Settled → Type 0} (all : List Settled → Type 0) (lossless : Bool) (plan : Planned) (capture : Capture) → IsKindSet visit → slice_get plan.graphs generation ≡ Some g → (limit ≤ limit_of plan.script capture generation) × (limit ≤ length capture.packets)
      → ((earlier : ℕ) → suc earlier ≡ generation → limit_of plan.script capture earlier ≤ mark) → packets ≡ length capture.packets → bytes ≡ captured_extent capture.packets → items ≡ capture.packets → asked ≡ queues
      → IsKeeping number options packets bytes mark own left taken work sorted groups queues accepted slots cache
      → (t : TakesFrames (stationed visit g generation (record { workers = options.workers; worker = number; slots = options.queue })) (record { packets = packets; bytes = bytes; own = own; left = left; taken = taken }) tried work asked came new_queues got)
      → IsSetUp options mark own left limit most tried cache filled items → (many drew_bytes : ℕ) (mid new : Work) (mid_cache after : CacheBook) (new_accepted : List (List HandoffFrame)) (new_slots : List ℕ)
      → many ≤ most → AreBelow options.workers mark limit many → drew_bytes ≡ captured_extent (take many (own_from options.workers mark items)) → own_from options.workers (mark_behind options.workers mark many) items ≡ drop many (own_from options.workers mark items)
      → (entered : IsEntered (stationed visit g generation (record { workers = options.workers; worker = number; slots = options.queue })) (taken_arrivals number t.took ++ next_draws options.workers mark many (frames_of items)) work filled mid mid_cache)
      → IsDispatched (stationed visit g generation (record { workers = options.workers; worker = number; slots = options.queue })) options.queue lossless told mid mid_cache (by_worker number [] accepted) new after (by_worker number [] new_accepted)
      → IsNothingPending new.pending → ((settled : List Settled) → told settled → all (entered.settled ++ settled)) → length new_accepted + 1 ≡ options.workers → AllByRecursion (λ n. n ≡ options.queue) new_slots
      → IsRound visit lossless all plan capture options g generation limit number mark own left taken many most got.count got.bytes drew_bytes t.took queues new_queues accepted new_accepted new_slots work new filled after
  round_here all lossless plan capture kinds there limited now packets_is bytes_is items_is asked_is k t u many drew_bytes mid new mid_cache after new_accepted new_slots fewer below drew own_after entered done none tells each slots_are =
      let s : Setting = stationed visit g generation (record { workers = options.workers; worker = number; slots = options.queue }) in
      let over : IsOver s options.queue lossless all (taken_arrivals number t.took ++ next_draws options.workers mark many (frames_of items)) work filled (by_worker number [] accepted) new after (by_worker number [] new_accepted) =
      round_over s options.queue lossless (taken_arrivals number t.took ++ next_draws options.workers mark many (frames_of items)) work mid new filled mid_cache after (by_worker number [] accepted) (by_worker number [] new_accepted)
      (ready_here k t u many fewer below) entered done none tells in
      let within = t.within in let fates = t.fates in let most_bytes = t.bytes_most in let size = t.size in let least = u.tried_most in
      record {
        kinds = kinds;
        there = there;
        limited = limited;
        now = now;
        taken_is = subst (λ qs. AreTaken qs new_queues t.took) asked_is t.taken;
        size = omega (arith, size, least);
        may = t.may;
        one = t.one;
        count_is = t.count_is;
        bytes_is = t.bytes_is;
        within = omega (arith, within, packets_is);
        fates = omega (arith, fates, packets_is);
        bytes_most = omega (arith, most_bytes, bytes_is);
        most_burst = u.burst;
        many_most = fewer;
        below = below;
        drew = drew ∙ ap (λ xs. captured_extent (take many (own_from options.workers mark xs))) items_is;
        own_after = subst (λ xs. own_from options.workers (mark_behind options.workers mark many) xs ≡ drop many (own_from options.workers mark xs)) items_is own_after;
        over = subst (λ xs. IsOver s options.queue lossless all (taken_arrivals number t.took ++ next_draws options.workers mark many (frames_of xs)) work filled (by_worker number [] accepted) new after (by_worker number [] new_accepted)) items_is over;
        accepted_each = each;
        slots_are = slots_are;
      }

  -- what is kept after it
  pub keeping_here : {told : List Settled → Type 0} (lossless : Bool) (plan : Planned) (capture : Capture) → IsPlan plan → packets ≡ length capture.packets → bytes ≡ captured_extent capture.packets → items ≡ capture.packets
      → IsKeeping number options packets bytes mark own left taken work sorted groups queues accepted slots cache → IsSetUp options mark own left limit most tried cache filled items
      → (took : List (List HandoffFrame)) (many drew_bytes : ℕ) (new : Work) (after last : CacheBook) (new_accepted : List (List HandoffFrame)) (new_slots : List ℕ) (new_sorted : Sorted) (new_groups : List (List ℕ))
      → IsRound visit lossless told plan capture options g generation limit number mark own left taken many most got.count got.bytes drew_bytes took queues new_queues accepted new_accepted new_slots work new filled after
      → last.allocated ≡ after.allocated → last.freed ≡ after.freed → new_sorted ≡ nothing_sorted → new_groups ≡ replicate options.workers []
      → IsKeeping number options packets bytes (mark_behind options.workers mark many) (own - many) (left - drew_bytes) (taken + got.count) new new_sorted new_groups new_queues new_accepted new_slots last
  keeping_here lossless plan capture planned packets_is bytes_is items_is k u took many drew_bytes new after last new_accepted new_slots new_sorted new_groups r allocated freed no_sorted no_groups =
      let before : IsKeeping number options (length capture.packets) (captured_extent capture.packets) mark own left taken work sorted groups queues accepted slots cache =
      subst (λ n. IsKeeping number options n (captured_extent capture.packets) mark own left taken work sorted groups queues accepted slots cache) packets_is
      (subst (λ n. IsKeeping number options packets n mark own left taken work sorted groups queues accepted slots cache) bytes_is k) in
      subst (λ n. IsKeeping number options n bytes (mark_behind options.workers mark many) (own - many) (left - drew_bytes) (taken + got.count) new new_sorted new_groups new_queues new_accepted new_slots last) (sym packets_is)
      (subst (λ n. IsKeeping number options (length capture.packets) n (mark_behind options.workers mark many) (own - many) (left - drew_bytes) (taken + got.count) new new_sorted new_groups new_queues new_accepted new_slots last) (sym bytes_is)
      (keeping_after visit lossless plan capture options g generation limit number mark own left taken many most got.count got.bytes drew_bytes took queues new_queues accepted new_accepted slots new_slots work new cache filled after last sorted new_sorted groups
      new_groups r planned (u.own_is ∙ ap (λ xs. length (own_from options.workers mark xs)) items_is) (u.left_is ∙ ap (λ xs. captured_extent (own_from options.workers mark xs)) items_is) u.allocated u.freed allocated freed no_sorted no_groups before))

-- of a map
pub all_mapped : {X Y : Type 0} (f : X → Y) (P : Y → Type 0) (xs : List X) → AllByRecursion (λ x. P (f x)) xs → AllByRecursion P (map f xs)
all_mapped f P [] all = tt
all_mapped f P (x ∷ xs) all = (all.0, all_mapped f P xs all.1)

-- of a slice that was lent by a vector
refilled : {X : Type 0} (new old : List X) → length old ≡ length new → take (length new) (new ++ drop (length new) old) ≡ new
refilled [] old e = refl
refilled (x ∷ xs) [] e = absurd (omega (arith, e))
refilled (x ∷ xs) (o ∷ os) e = ap (λ ys. x ∷ ys) (refilled xs os (let k : suc (length os) ≡ suc (length xs) = e in omega (arith, k)))

pub mended : {X Y : Type 0} (f : X → Y) (len : ℕ) (lent old new : List X) → lent ≡ old → length lent ≡ len → map f new ≡ map f lent → take len (new ++ drop (length new) old) ≡ new
mended f len lent old new lent_is len_is same =
    let size : length new ≡ length lent = sym (length-map new f) ∙ ap length same ∙ length-map lent f in
    let olds = ap length lent_is in
    ap (λ n. take n (new ++ drop (length new) old)) (let e : len ≡ length new = omega (arith, size, len_is) in e) ∙ refilled new old (omega (arith, size, olds))

-- by other names
pub keeping_at : {number : ℕ} {options : Options} {packets bytes mark other own left taken : ℕ} {work : Work} {sorted : Sorted} {groups regrouped : List (List ℕ)} {queues changed : List Queue} {accepted pushed : List (List HandoffFrame)} {slots others : List ℕ} {cache : CacheBook}
    → other ≡ mark → regrouped ≡ groups → changed ≡ queues → pushed ≡ accepted → others ≡ slots
    → IsKeeping number options packets bytes mark own left taken work sorted groups queues accepted slots cache → IsKeeping number options packets bytes other own left taken work sorted regrouped changed pushed others cache
keeping_at {number} {options} {packets} {bytes} {mark} {other} {own} {left} {taken} {work} {sorted} {groups} {regrouped} {queues} {changed} {accepted} {pushed} {slots} {others} {cache} m gs qs ps ss k =
    subst (λ x. IsKeeping number options packets bytes x own left taken work sorted regrouped changed pushed others cache) (sym m)
    (subst (λ x. IsKeeping number options packets bytes mark own left taken work sorted x changed pushed others cache) (sym gs)
    (subst (λ x. IsKeeping number options packets bytes mark own left taken work sorted groups x pushed others cache) (sym qs)
    (subst (λ x. IsKeeping number options packets bytes mark own left taken work sorted groups queues x others cache) (sym ps)
    (subst (λ x. IsKeeping number options packets bytes mark own left taken work sorted groups queues accepted x cache) (sym ss) k))))

pub account_at : (number : ℕ) {m m' : ℕ} {t t' p p' : List (List HandoffFrame)} (w : Work) (c c' : CacheBook) → m' ≡ m → t' ≡ t → p' ≡ p → c'.allocated ≡ c.allocated → c'.freed ≡ c.freed → account_with number m' t' p' w c' ≡ account_with number m t p w c
account_at number {m} {m'} {t} {t'} {p} {p'} w c c' em et ep ea ef =
    ap (λ x. account_with number x t' p' w c') em ∙ ap (λ x. account_with number m x p' w c') et ∙ ap (λ x. account_with number m t x w c') ep
    ∙ ap (λ x. account_with number m t p w (record c' { allocated = x })) ea ∙ ap (λ x. account_with number m t p w (record c' { allocated = c.allocated; freed = x })) ef

-- the worker stands for the run
pub work_here : {told : List Settled → Type 0} (visit : Visit) (lossless : Bool) (plan : Planned) (capture : Capture) (run : Options) {v w new_book : WorkerBook} → v ≡ w → IsAtWork visit lossless plan capture run w
    → (g : Graph) (generation limit taken many most came_count came_bytes drew_bytes : ℕ) (took : List (List HandoffFrame)) (queues new_queues : List Queue) (accepted new_accepted : List (List HandoffFrame)) (slots : List ℕ) (work new : Work) (filled after : CacheBook)
    → IsRound visit lossless told plan capture v.options g generation limit v.number v.mark v.own v.left taken many most came_count came_bytes drew_bytes took queues new_queues accepted new_accepted slots work new filled after
    → v.put ≡ by_worker v.number [] accepted → v.log ≡ work.fates.items
    → account_of v ≡ account_with v.number v.mark (by_worker v.number [] (map (λ (q : Queue). q.taken) queues)) (by_worker v.number [] accepted) work filled
    → account_of new_book ≡ account_with v.number (mark_behind v.options.workers v.mark many) (by_worker v.number [] (map (λ (q : Queue). q.taken) new_queues)) (by_worker v.number [] new_accepted) new after
    → new_book.options ≡ v.options → new_book.packets ≡ v.packets → new_book.bytes ≡ v.bytes → new_book.own ≡ v.own - many → new_book.left ≡ v.left - drew_bytes → length new_book.inputs ≡ length v.inputs → length new_book.outputs ≡ length v.outputs
    → IsAtWork visit lossless plan capture run new_book
work_here visit lossless plan capture run {v} {w} {new_book} is at_work g generation limit taken many most came_count came_bytes drew_bytes took queues new_queues accepted new_accepted slots work new filled after r put_is log_is was becomes options_same packets_same bytes_same own_new left_new
    inputs_same outputs_same =
    let before : IsAtWork visit lossless plan capture run v = subst (IsAtWork visit lossless plan capture run) (sym is) at_work in
    let o : v.options ≡ run = before.made.options_are in
    let here : IsAtWork visit lossless plan capture v.options v = subst (λ x. IsAtWork visit lossless plan capture x v) (sym o) before in
    subst (λ x. IsAtWork visit lossless plan capture x new_book) o
    (work_after visit lossless plan capture v.options g generation limit v.number v.mark v.own v.left taken many most came_count came_bytes drew_bytes took queues new_queues accepted new_accepted slots work new filled after v new_book r here refl refl refl refl
    put_is log_is was becomes options_same packets_same bytes_same own_new left_new inputs_same outputs_same)

pub same_here : {v w new_book : WorkerBook} → v ≡ w → IsSameWorker v new_book → IsSameWorker w new_book
same_here {v} {w} {new_book} is same = subst (λ x. IsSameWorker x new_book) is same

pub same_length : {X Y : Type 0} (f : X → Y) (xs ys : List X) → map f xs ≡ map f ys → length xs ≡ length ys
same_length f xs ys e = sym (length-map xs f) ∙ ap length e ∙ length-map ys f
