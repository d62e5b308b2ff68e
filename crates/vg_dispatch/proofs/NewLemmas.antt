-- For the clauses `worker`, `idle` and `rings` of `Worker::new`: a worker before its first turn.
use Rattle.std.proofs.Common.{◌≡◌, ℕ, zero, suc, ◌+◌, ◌%◌, ◌<◌, ◌≤◌, List, [], ◌∷◌, ◌++◌, length, map, get_or, drop, refl, sym, ap, subst, ◌∙◌, arith, length-append}
use Rattle.std.specs.Prelude.{Bool}
use Rattle.std.specs.List.{sum_by, AllByRecursion}
use Rattle.std.proofs.lemmas.List.{length-drop}
use Rattle.std.proofs.lemmas.List.Sums.{sum_by-append, sum_by-cons, sum_by-take-drop}
use Rattle.vg_journeys.specs.Trips.{Run}
use Rattle.vg_journeys.specs.Accounts.{Account, HandoffFrame, arrivals_in, frames_with, below}
use Rattle.vg_journeys.specs.Moments.{StandsFor, begun}
use Rattle.vg_journeys.proofs.AccountLemmas.{adds_nothing}
use Rattle.std.specs.Prelude.{replicate}
use Rattle.std.proofs.Math.Nat.{mod-eq_of_lt}
use Rattle.vg_model.specs.Visit.{Visit}
use Rattle.vg_model.specs.PoolBook.{CacheBook}
use Rattle.vg_capture.specs.declared.captures.Capture.{Capture}
use Rattle.vg_plan.specs.Plan.{Planned, IsPlan}
use Rattle.vg_nodes.specs.declared.sorted.Sorted.{Sorted}
use Rattle.vg_nodes.specs.Sorting.{nothing_sorted}
use Rattle.vg_dispatch.specs.declared.options.Options.{Options}
use Rattle.vg_underway.specs.declared.underway.Work.{Work}
use Rattle.vg_capture.specs.declared.captures.Captured.{Captured}
use Rattle.vg_underway.specs.OwnPackets.{own_from, received_extent, captured_extent}
use Rattle.vg_dispatch.specs.Progress.{AreInRange}
use Rattle.vg_underway.specs.SentEntries.{sent_by}
use Rattle.vg_underway.specs.Rest.{IsNew}
use Rattle.vg_dispatch.specs.Keeping.{IsKeeping}
use Rattle.vg_dispatch.specs.Workers.{WorkerBook, account_of}
use Rattle.vg_dispatch.specs.Standing.{run_of, traced_of, IsMadeFor, IsAtWork, NoneCongested}
use Rattle.vg_underway.proofs.HandGroupLemmas.{all_mono}
use Rattle.vg_underway.proofs.OwnLemmas.{own_fewer, own_lighter}
use Rattle.vg_underway.proofs.RestLemmas.{rest_of_new, account_with}
use Rattle.vg_underway.specs.Peers.{by_worker}
use Rattle.vg_underway.specs.Queues.{Queue, packets_in}

-- lists of nothing, by worker
pub none_by_worker : (w k : ℕ) (xs : List (List HandoffFrame)) → AllByRecursion (λ (x : List HandoffFrame). x ≡ []) xs → frames_with k (by_worker w [] xs) ≡ []
none_by_worker zero zero xs all = refl
none_by_worker zero (suc k) xs all = at xs k all
  where
    at : (ys : List (List HandoffFrame)) (k : ℕ) → AllByRecursion (λ (x : List HandoffFrame). x ≡ []) ys → get_or ys k [] ≡ []
    at [] k all = refl
    at (y ∷ ys) zero all = all.0
    at (y ∷ ys) (suc k) all = at ys k all.1
none_by_worker (suc n) zero [] all = refl
none_by_worker (suc n) (suc k) [] all = refl
none_by_worker (suc n) zero (x ∷ xs) all = all.0
none_by_worker (suc n) (suc k) (x ∷ xs) all = none_by_worker n k xs all.1

sum_nothing : (f : ℕ → ℕ) (n : ℕ) → ((k : ℕ) → f k ≡ 0) → sum_by f (below n) ≡ 0
sum_nothing f zero each = refl
sum_nothing f (suc n) each = let rest = sum_nothing f n each in let one = each n in omega (arith, rest, one, sum_by-append f (below n) (n ∷ []), sum_by-cons f n [])

-- a worker that has taken and put nothing stands for the run as it begins
pub begins : (run : Run) (traced worker : ℕ) (taken put : List (List HandoffFrame)) → worker < run.workers → ((k : ℕ) → frames_with k taken ≡ []) → ((k : ℕ) → frames_with k put ≡ [])
    → StandsFor run traced worker (record (begun traced worker) { taken = taken; put = put })
begins run traced worker taken put within no_taken no_put =
    let none = adds_nothing run (begun traced worker) in
    record {
      within = within;
      trips = [];
      adds = record {
        each = tt;
        own = tt;
        refusals = tt;
        same_worker = refl;
        entered = λ count.
            let one = sum_nothing (λ from. sum_by count (arrivals_in worker (frames_with from taken))) run.workers (λ k. ap (λ fs. sum_by count (arrivals_in worker fs)) (no_taken k)) in
            let two = sum_nothing (λ from. sum_by count (arrivals_in worker (frames_with from []))) run.workers (λ k. refl) in
            omega (arith, one, two);
        went = λ count.
            let one = sum_nothing (λ to. sum_by count (arrivals_in to (frames_with to put))) run.workers (λ k. ap (λ fs. sum_by count (arrivals_in k fs)) (no_put k)) in
            let two = sum_nothing (λ to. sum_by count (arrivals_in to (frames_with to []))) run.workers (λ k. refl) in
            omega (arith, one, two);
        queues = λ to. omega arith;
        log = none.log;
        sent = none.sent;
        size = none.size;
        visits = none.visits;
        drops = none.drops;
        sends = none.sends;
        traced = none.traced;
        notes = none.notes;
        allocated = none.allocated;
        freed = none.freed;
      };
    }

-- nothing was taken
none_in : (queues : List Queue) → AllByRecursion (λ (q : Queue). q.taken ≡ []) queues → sum_by (λ (q : Queue). packets_in q.taken) queues ≡ 0
none_in [] all = refl
none_in (q ∷ qs) all = let rest = none_in qs all.1 in let one = ap packets_in all.0 in omega (arith, rest, one, sum_by-cons (λ (q : Queue). packets_in q.taken) q qs)

-- what it keeps
pub new_keeping : (number : ℕ) (options : Options) (packets bytes mark own left traced : ℕ) (work : Work) (sorted : Sorted) (groups : List (List ℕ)) (queues : List Queue) (accepted : List (List HandoffFrame)) (slots : List ℕ) (cache : CacheBook) → AreInRange options
    → number < options.workers → mark ≡ number → IsNew packets bytes traced work → packets ≤ 65536 → own ≤ packets → left ≤ bytes → sorted ≡ nothing_sorted → groups ≡ replicate options.workers [] → length queues + 1 ≡ options.workers
    → AllByRecursion (λ (q : Queue). q.taken ≡ []) queues → length accepted + 1 ≡ options.workers → AllByRecursion (λ (x : List HandoffFrame). x ≡ []) accepted → AllByRecursion (λ n. n ≡ options.queue) slots → cache.allocated ≡ 0 → cache.freed ≡ 0
    → IsKeeping number options packets bytes mark own left 0 work sorted groups queues accepted slots cache
new_keeping number options packets bytes mark own left traced work sorted groups queues accepted slots cache range within is new few some fits no_sorted no_groups inputs no_taken outputs no_put slots_are allocated freed = record {
  range = range;
  number_within = within;
  came = 0;
  rest = rest_of_new packets bytes own left traced work new few some fits;
  came_most = omega (arith, some);
  taken_most = omega arith;
  taken_is = (let e = none_in queues no_taken in omega (arith, e));
  mark_most = omega (arith, is, within);
  sorted_none = no_sorted;
  groups_none = no_groups;
  inputs_each = inputs;
  frames_few = all_mono (λ (q : Queue). q.taken ≡ []) (λ (q : Queue). length q.taken ≤ 0) (λ q none. let e = ap length none in omega (arith, e)) queues no_taken;
  outputs_each = outputs;
  slots_are = slots_are;
  puts_few = all_mono (λ (x : List HandoffFrame). x ≡ []) (λ (x : List HandoffFrame). length x ≤ 0) (λ x none. let e = ap length none in omega (arith, e)) accepted no_put;
  counted = (omega (arith, allocated), omega (arith, freed));
}

-- and what it stands for
pub new_work : (visit : Visit) (lossless : Bool) (plan : Planned) (capture : Capture) (options : Options) (w : WorkerBook) → IsPlan plan → AreInRange options → w.number < options.workers → w.mark ≡ w.number → IsMadeFor capture options w
    → account_of w ≡ record (begun (traced_of capture options) w.number) { taken = w.taken; put = w.put } → ((k : ℕ) → frames_with k w.taken ≡ []) → ((k : ℕ) → frames_with k w.put ≡ []) → length w.inputs + 1 ≡ options.workers → length w.outputs + 1 ≡ options.workers
    → IsAtWork visit lossless plan capture options w
new_work visit lossless plan capture options w planned range within mark made is no_taken no_put inputs outputs = record {
  planned = planned;
  range = range;
  made = made;
  stands = subst (StandsFor (run_of visit plan capture options) (traced_of capture options) w.number) (sym is) (begins (run_of visit plan capture options) (traced_of capture options) w.number w.taken w.put within no_taken no_put);
  own_mark = ap (λ n. n % options.workers) mark ∙ mod-eq_of_lt within;
  full = λ to. subst (AllByRecursion (λ (frame : HandoffFrame). 1 ≤ length frame.packets)) (sym (no_put to)) tt;
  none_congested = λ yes_is. subst NoneCongested (sym (ap (λ (x : Account). x.log) is)) tt;
  inputs = inputs;
  outputs = outputs;
}

-- lists under two functions
pub map_map : {X Y Z : Type 0} (f : X → Y) (g : Y → Z) (xs : List X) → map (λ x. g (f x)) xs ≡ map g (map f xs)
map_map f g [] = refl
map_map f g (x ∷ xs) = ap (λ ys. g (f x) ∷ ys) (map_map f g xs)

-- a worker's own packets are among all
pub own_among : (workers number : ℕ) (packets : List Captured) → (length (own_from workers number packets) ≤ length packets) × (captured_extent (own_from workers number packets) ≤ captured_extent packets)
own_among workers number packets =
    let few = own_fewer workers 0 (drop number packets) in
    let light = own_lighter workers 0 (drop number packets) in
    let part = sum_by-take-drop received_extent packets number in
    (omega (arith, few, length-drop number packets), omega (arith, light, part))

-- what holds of all that a function gives
pub all_given : {X Y : Type 0} (f : X → Y) (P : Y → Type 0) (xs : List X) → ((x : X) → P (f x)) → AllByRecursion P (map f xs)
all_given f P [] each = tt
all_given f P (x ∷ xs) each = (each x, all_given f P xs each)

-- what has accepted nothing holds nothing
pub nothing_held : {X : Type 0} (accepted put held : List X) → accepted ≡ put ++ held → accepted ≡ [] → length held ≡ 0
nothing_held accepted put held split none = let e = ap length split in let z = ap length none in let n = length-append put held in omega (arith, e, z, n)

pub all_of_each : {X Y : Type 0} (f : X → Y) (P : Y → Type 0) (Q : X → Type 0) (xs : List X) → ((x : X) → Q x → P (f x)) → AllByRecursion Q xs → AllByRecursion P (map f xs)
all_of_each f P Q [] each all = tt
all_of_each f P Q (x ∷ xs) each all = (each x all.0, all_of_each f P Q xs each all.1)

-- what it has done
pub new_account : (number packets bytes traced mark : ℕ) (t p : List (List HandoffFrame)) (work : Work) (cache : CacheBook) → IsNew packets bytes traced work → mark ≡ number → cache.allocated ≡ 0 → cache.freed ≡ 0
    → account_with number mark t p work cache ≡ record (begun traced number) { taken = t; put = p }
new_account number packets bytes traced mark t p work cache new mark_is allocated freed =
    let a : Account = account_with number mark t p work cache in
    let b : Account = record (begun traced number) { taken = t; put = p } in
    let sent : a.sent ≡ [] = ap (λ es. sent_by es work.bytes.items) new.entries in
    ap (λ x. record a { mark = x }) mark_is ∙ ap (λ x. record a { mark = number; log = x }) new.fates ∙ ap (λ x. record a { mark = number; log = []; sent = x }) sent ∙ ap (λ x. record b { counts = x; trace = work.trace; allocated = cache.allocated; freed = cache.freed }) new.counts
    ∙ ap (λ x. record b { trace = x; allocated = cache.allocated; freed = cache.freed }) new.trace ∙ ap (λ x. record b { allocated = x; freed = cache.freed }) allocated ∙ ap (λ x. record b { freed = x }) freed
