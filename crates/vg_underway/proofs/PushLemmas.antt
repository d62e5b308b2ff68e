-- For the clauses `pushed` of `Work::hand_over`, `away` of `Work::{hand_groups, put_away}` and `dispatched` of `Work::dispatch_all`: pushes of frames, one
-- after the other, and what is logged by them.
use Rattle.std.proofs.Common.{◌≡◌, ◌≢◌, ℕ, zero, suc, ◌+◌, ◌<◌, Bool, List, [], ◌∷◌, ◌++◌, length, map, get_or, set, refl, sym, ap, subst, ◌∙◌, inl, inr, arith, append_assoc, zero-add}
use Rattle.std.specs.Prelude.{true, false, Option, Some, None, is_some, ◌==◌, if◌then◌else◌}
use Rattle.std.specs.List.{sum_by, filter_map, cons_option, AllByRecursion}
use Rattle.std.proofs.lemmas.List.{append-nil, append_cancel_left, length-map, map-set, get_or-set_same, get_or-set_other}
use Rattle.std.proofs.lemmas.List.Sums.{sum_by-append, sum_by-cons}
use Rattle.std.proofs.lemmas.Bool.{cases_eq, eq-eqb, ne_eqb}
use Rattle.vg_model.specs.declared.fates.Fate.{Fate}
use Rattle.vg_model.specs.Leg.{Outcome, Sent, Dropped, Handed}
use Rattle.vg_pool.specs.Contents.{Contents}
use Rattle.vg_journeys.specs.Trips.{logged_by}
use Rattle.vg_journeys.specs.Accounts.{HandoffFrame, frames_with, below}
use Rattle.vg_journeys.specs.Turns.{Settled, settled_log}
use Rattle.vg_underway.specs.declared.underway.Work.{Work}
use Rattle.vg_underway.specs.declared.stations.Station.{Station}
use Rattle.vg_underway.specs.Works.{StaysHere, EndsHere}
use Rattle.vg_underway.specs.Peers.{place_among, by_worker}
use Rattle.vg_underway.specs.Hands.{refusal}
use Rattle.vg_underway.specs.Outlets.{Outlet, outlet_with, no_outlet, Push, Accepted, CameBack, ArePushes, dropped_by, dropped_in, if_congested, refused_at, settled_refused_at, PushesFrames, PushesOver}
use Rattle.vg_underway.proofs.PeerLemmas.{place_within, peers_length, peers_at, peers_set, map_at}
use Rattle.vg_underway.proofs.DeliverLemmas.{sum_changed}
use Rattle.vg_underway.proofs.HandAllLemmas.{RefusesAll}

-- one stretch and then another
pushes_append : (slots : ℕ) (lossless : Bool) (put : List HandoffFrame) (a : Outlet) (ps qs : List Push) (mid : List HandoffFrame) (b : Outlet) (last : List HandoffFrame) (c : Outlet) → ArePushes slots lossless put a ps mid b → ArePushes slots lossless mid b qs last c
    → ArePushes slots lossless put a (ps ++ qs) last c
pushes_append slots lossless put a [] qs mid b last c one two =
    subst (λ p. ArePushes slots lossless p a qs last c) one.0 (subst (λ o. ArePushes slots lossless mid o qs last c) one.1 two)
pushes_append slots lossless put a (Accepted frame ∷ ps) qs mid b last c one two = (one.0, one.1, pushes_append slots lossless (put ++ frame ∷ []) one.0 ps qs mid b last c one.2 two)
pushes_append slots lossless put a (CameBack frame count ∷ ps) qs mid b last c one two = (one.0, one.1, pushes_append slots lossless put one.0 ps qs mid b last c one.2 two)

sum_both : (f g h : ℕ → ℕ) (n : ℕ) → ((k : ℕ) → f k ≡ g k + h k) → sum_by f (below n) ≡ sum_by g (below n) + sum_by h (below n)
sum_both f g h zero each = refl
sum_both f g h (suc n) each =
    let rest = sum_both f g h n each in let one = each n in
    omega (arith, rest, one, sum_by-append f (below n) (n ∷ []), sum_by-append g (below n) (n ∷ []), sum_by-append h (below n) (n ∷ []), sum_by-cons f n [], sum_by-cons g n [], sum_by-cons h n [])

sum_none : (n : ℕ) → ◌≡◌ {A = ℕ} (sum_by (λ (k : ℕ). 0) (below n)) 0
sum_none zero = refl
sum_none (suc n) = let rest = sum_none n in omega (arith, rest, sum_by-append (λ (k : ℕ). 0) (below n) (n ∷ []), sum_by-cons (λ (k : ℕ). 0) n [])

pub pushes_then : (workers slots : ℕ) (lossless : Bool) (pa pb pc : List (List HandoffFrame)) (oa ob oc : List Outlet) (la lb lc : List Fate) {first second : List Settled}
    → PushesFrames workers slots lossless pa oa la pb ob lb first → PushesFrames workers slots lossless pb ob lb pc oc lc second
    → PushesFrames workers slots lossless pa oa la pc oc lc (first ++ second)
pushes_then workers slots lossless pa pb pc oa ob oc la lb lc {first} {second} one two = record {
  pushes = λ to. one.pushes to ++ two.pushes to;
  made = λ to. pushes_append slots lossless (frames_with to pa) (outlet_with to oa) (one.pushes to) (two.pushes to) (frames_with to pb) (outlet_with to ob) (frames_with to pc) (outlet_with to oc) (one.made to) (two.made to);
  dropped = λ count.
      let e = one.dropped count in let f = two.dropped count in
      let of : Push → ℕ = λ push. sum_by count (dropped_by push) in
      let both = sum_both (λ to. sum_by of (one.pushes to ++ two.pushes to)) (λ to. sum_by of (one.pushes to)) (λ to. sum_by of (two.pushes to)) workers (λ to. sum_by-append of (one.pushes to) (two.pushes to)) in
      omega (arith, e, f, both);
  refused = λ to count.
      let e = one.refused to count in let f = two.refused to count in
      let of : Push → ℕ = λ push. sum_by count (dropped_by push) in
      omega (arith, e, f, sum_by-append (settled_refused_at count to) first second, sum_by-append of (one.pushes to) (two.pushes to));
}

-- packets that end here are refused nowhere
none_refused : (count : Fate → ℕ) (to : ℕ) (settled : List Settled) → AllByRecursion EndsHere settled → sum_by (settled_refused_at count to) settled ≡ 0
none_refused count to [] all = refl
none_refused count to (x ∷ xs) all =
    let rest = none_refused count to xs all.1 in let one = by x.ended.outcome all.0.0 in
    omega (arith, rest, one, sum_by-cons (settled_refused_at count to) x xs)
  where
    by : (outcome : Outcome) → StaysHere outcome → refused_at count to x.ended.contents outcome x.refused ≡ 0
    by (Sent interface) stays = refl
    by (Dropped node error) stays = refl
    by (Handed node worker) stays = absurd stays

-- of packets that are handed to one worker all that are logged were refused there
refused_here : (node to : ℕ) (count : Fate → ℕ) (k : ℕ) (settled : List Settled) → AllByRecursion (λ x. x.ended.outcome ≡ Handed node to) settled
    → sum_by (settled_refused_at count k) settled ≡ (if to == k then sum_by count (filter_map settled_log settled) else 0)
refused_here node to count k [] all = by (to == k)
  where
    by : (b : Bool) → ◌≡◌ {A = ℕ} 0 (if b then 0 else 0)
    by true = refl
    by false = refl
refused_here node to count k (x ∷ xs) all =
    let rest = refused_here node to count k xs all.1 in
    sum_by-cons (settled_refused_at count k) x xs ∙ ap (λ n. settled_refused_at count k x + n) rest
    ∙ ap (λ o. refused_at count k x.ended.contents o x.refused + (if to == k then sum_by count (filter_map settled_log xs) else 0)) all.0
    ∙ by x.refused (to == k) refl
    ∙ ap (λ o. if to == k then sum_by count (cons_option (logged_by x.ended.contents o x.refused) (filter_map settled_log xs)) else 0) (sym all.0)
  where
    by : (refused : Option ℕ) (b : Bool) → (to == k) ≡ b → refused_at count k x.ended.contents (Handed node to) refused + (if b then sum_by count (filter_map settled_log xs) else 0)
        ≡ (if b then sum_by count (cons_option (logged_by x.ended.contents (Handed node to) refused) (filter_map settled_log xs)) else 0)
    by None b is = zero-add (if b then sum_by count (filter_map settled_log xs) else 0)
    by (Some n) true is =
        ap (λ b. (if b then count (refusal node n x.ended.contents) else 0) + sum_by count (filter_map settled_log xs)) is
        ∙ sym (sum_by-cons count (refusal node n x.ended.contents) (filter_map settled_log xs))
    by (Some n) false is = ap (λ b. (if b then count (refusal node n x.ended.contents) else 0) + 0) is

-- of packets that a push to this worker settled
pub refused_there : (node to : ℕ) (settled : List Settled) (push : Push) (log new_log : List Fate) → AllByRecursion (λ x. x.ended.outcome ≡ Handed node to) settled
    → new_log ≡ log ++ filter_map settled_log settled → new_log ≡ log ++ dropped_by push
    → (k : ℕ) (count : Fate → ℕ) → sum_by (settled_refused_at count k) settled ≡ dropped_in count (if k == to then push ∷ [] else [])
refused_there node to settled push log new_log all logs dropped k count =
    let same : filter_map settled_log settled ≡ dropped_by push = append_cancel_left log (filter_map settled_log settled) (dropped_by push) (sym logs ∙ dropped) in
    refused_here node to count k settled all ∙ ap (λ fs. if to == k then sum_by count fs else 0) same ∙ elim (cases_eq k to) [
      | inl here ↦
          ap (λ b. if b then sum_by count (dropped_by push) else 0) (eq-eqb to k (sym here)) ∙ sym (single count push)
          ∙ ap (λ b. dropped_in count (if b then push ∷ [] else [])) (sym (eq-eqb k to here))
      | inr other ↦
          ap (λ b. if b then sum_by count (dropped_by push) else 0) (ne_eqb to k (λ e. other (sym e)))
          ∙ ap (λ b. dropped_in count (if b then push ∷ [] else [])) (sym (ne_eqb k to other))
    ]
  where
    single : (count : Fate → ℕ) (push : Push) → dropped_in count (push ∷ []) ≡ sum_by count (dropped_by push)
    single count push = let s = sum_by-cons (λ (p : Push). sum_by count (dropped_by p)) push [] in omega (arith, s)

-- fates without a count
if_none : (count : Fate → ℕ) (f : Fate) (o : Option ℕ) → o ≡ None → ◌≡◌ {A = ℕ} (if is_some o then count f else 0) 0
if_none count f None e = refl
if_none count f (Some n) e = absurd (let k : Some n ≡ None = e in cc)

uncounted : (count : Fate → ℕ) (fates : List Fate) → AllByRecursion (λ (fate : Fate). fate.congested ≡ None) fates → sum_by (if_congested count) fates ≡ 0
uncounted count [] all = refl
uncounted count (f ∷ fs) all =
    let rest = uncounted count fs all.1 in
    let one : if_congested count f ≡ 0 = if_none count f f.congested all.0 in
    omega (arith, rest, one, sum_by-cons (if_congested count) f fs)

-- a stretch in which nothing is pushed, and no fate with a count is logged
pub pushes_none : (workers slots : ℕ) (lossless : Bool) (put : List (List HandoffFrame)) (outlets : List Outlet) (log more new_log : List Fate) (settled : List Settled)
    → new_log ≡ log ++ more → AllByRecursion (λ (fate : Fate). fate.congested ≡ None) more → AllByRecursion EndsHere settled
    → PushesFrames workers slots lossless put outlets log put outlets new_log settled
pushes_none workers slots lossless put outlets log more new_log settled is none here = record {
  pushes = λ to. [];
  made = λ to. (refl, refl);
  dropped = λ count.
      let all = ap (sum_by (if_congested count)) is in
      let both = sum_by-append (if_congested count) log more in
      let rest = uncounted count more none in
      let empty = sum_none workers in
      omega (arith, all, both, rest, empty);
  refused = λ to count. none_refused count to settled here;
}

-- packets that end here are logged without a count
pub here_uncounted : (settled : List Settled) → AllByRecursion EndsHere settled → AllByRecursion (λ (fate : Fate). fate.congested ≡ None) (filter_map settled_log settled)
here_uncounted [] all = tt
here_uncounted (x ∷ xs) all = by x.ended.outcome all.0.0 (filter_map settled_log xs) (here_uncounted xs all.1)
  where
    by : (outcome : Outcome) → StaysHere outcome → (rest : List Fate) → AllByRecursion (λ (fate : Fate). fate.congested ≡ None) rest → AllByRecursion (λ (fate : Fate). fate.congested ≡ None) (cons_option (logged_by x.ended.contents outcome x.refused) rest)
    by (Sent interface) stays rest none = (all.0.1, none)
    by (Dropped node error) stays rest none = (all.0.1, none)
    by (Handed node worker) stays rest none = absurd stays

-- what is logged of a frame that came back
pub refused_log : (node count : ℕ) (cs : List Contents) (w new : Work) → RefusesAll node count cs w new → new.fates.items ≡ w.fates.items ++ map (refusal node count) cs
refused_log node count [] w new all = sym (ap (λ (x : Work). x.fates.items) all) ∙ sym (append-nil w.fates.items)
refused_log node count (c ∷ cs) w new all =
    refused_log node count cs all.0 new all.2 ∙ ap (λ fs. fs ++ map (refusal node count) cs) all.1.fates ∙ append_assoc w.fates.items (refusal node count c ∷ []) (map (refusal node count) cs)

back_counted : (count : Fate → ℕ) (push : Push) → sum_by (if_congested count) (dropped_by push) ≡ sum_by count (dropped_by push)
back_counted count (Accepted frame) = refl
back_counted count (CameBack frame n) = all frame.packets
  where
    all : (cs : List Contents) → sum_by (if_congested count) (map (refusal frame.node n) cs) ≡ sum_by count (map (refusal frame.node n) cs)
    all [] = refl
    all (c ∷ cs) =
        let rest = all cs in
        omega (arith, rest, sum_by-cons (if_congested count) (refusal frame.node n c) (map (refusal frame.node n) cs), sum_by-cons count (refusal frame.node n c) (map (refusal frame.node n) cs))

-- one push
pub pushes_one : (workers slots : ℕ) (lossless : Bool) (put : List (List HandoffFrame)) (outlets : List Outlet) (log new_log : List Fate) (to : ℕ) (new_put : List HandoffFrame) (outlet : Outlet) (push : Push) {settled : List Settled} → to < workers → to < length put → to < length outlets
    → ArePushes slots lossless (frames_with to put) (outlet_with to outlets) (push ∷ []) new_put outlet → new_log ≡ log ++ dropped_by push
    → ((k : ℕ) (count : Fate → ℕ) → sum_by (settled_refused_at count k) settled ≡ dropped_in count (if k == to then push ∷ [] else []))
    → PushesFrames workers slots lossless put outlets log (set put to new_put) (set outlets to outlet) new_log settled
pushes_one workers slots lossless put outlets log new_log to new_put outlet push within inside there made is refused = record {
  pushes = λ k. if k == to then push ∷ [] else [];
  made = λ k. elim (cases_eq k to) [
    | inl same ↦
        subst (λ b. ArePushes slots lossless (frames_with k put) (outlet_with k outlets) (if b then push ∷ [] else []) (frames_with k (set put to new_put)) (outlet_with k (set outlets to outlet))) (sym (eq-eqb k to same))
        (subst (λ n. ArePushes slots lossless (frames_with n put) (outlet_with n outlets) (push ∷ []) (frames_with n (set put to new_put)) (outlet_with n (set outlets to outlet))) (sym same)
        (subst (λ fs. ArePushes slots lossless (frames_with to put) (outlet_with to outlets) (push ∷ []) fs (outlet_with to (set outlets to outlet))) (sym (get_or-set_same put to new_put [] inside))
        (subst (λ o. ArePushes slots lossless (frames_with to put) (outlet_with to outlets) (push ∷ []) new_put o) (sym (get_or-set_same outlets to outlet no_outlet there)) made)))
    | inr other ↦
        subst (λ b. ArePushes slots lossless (frames_with k put) (outlet_with k outlets) (if b then push ∷ [] else []) (frames_with k (set put to new_put)) (outlet_with k (set outlets to outlet))) (sym (ne_eqb k to other))
        (get_or-set_other put to k new_put [] other, get_or-set_other outlets to k outlet no_outlet other)
  ];
  dropped = λ count.
      let of : Push → ℕ = λ p. sum_by count (dropped_by p) in
      let one : ℕ → List Push = λ k. if k == to then push ∷ [] else [] in
      let changed = sum_changed (λ k. 0) (λ k. sum_by of (one k)) workers to within (λ k other. sym (ap (λ b. sum_by of (if b then push ∷ [] else [])) (ne_eqb k to other))) in
      let none = sum_none workers in
      let here : sum_by of (one to) ≡ sum_by of (push ∷ []) = ap (λ b. sum_by of (if b then push ∷ [] else [])) (eq-eqb to to refl) in
      let single = sum_by-cons of push [] in
      let all = ap (sum_by (if_congested count)) is in
      let both = sum_by-append (if_congested count) log (dropped_by push) in
      let back = back_counted count push in
      omega (arith, changed, none, here, single, all, both, back);
  refused = refused;
}

-- by worker
pub peer_at : {X Y : Type 0} (f : X → Y) (own d : Y) (worker to n : ℕ) (xs : List X) (x : X) → to ≢ worker → to < n → worker < n → length xs + 1 ≡ n → x ≡ get_or xs (place_among worker to) x → get_or (by_worker worker own (map f xs)) to d ≡ f x
peer_at f own d worker to n xs x other within here each at =
    let len = length-map xs f in
    peers_at worker to own (map f xs) d other (omega (arith, here, each, len)) ∙ map_at f xs (place_among worker to) x d (place_within worker to (length xs) other (omega (arith, within, each)) (omega (arith, here, each))) at

pub peer_set : {X Y : Type 0} (f : X → Y) (own : Y) (worker to n : ℕ) (xs : List X) (next : X) → to ≢ worker → worker < n → length xs + 1 ≡ n → by_worker worker own (map f (set xs (place_among worker to) next)) ≡ set (by_worker worker own (map f xs)) to (f next)
peer_set f own worker to n xs next other here each =
    let len = length-map xs f in
    ap (by_worker worker own) (map-set f xs (place_among worker to) next) ∙ peers_set worker to own (map f xs) (f next) other (omega (arith, here, each, len))

-- one handoff of all makes one push more
pub pushed_more : {X : Type 0} (station : Station) (lossless : Bool) (accepted : X → List HandoffFrame) (outlet : X → Outlet) (start xs : List X) (first log new_log : List Fate) (to : ℕ) (x next : X) (push : Push)
    (settled : List Settled) {earlier : List Settled} → to ≢ station.worker → to < station.workers → station.worker < station.workers
    → length xs + 1 ≡ station.workers → x ≡ get_or xs (place_among station.worker to) x → ArePushes station.slots lossless (accepted x) (outlet x) (push ∷ []) (accepted next) (outlet next) → new_log ≡ log ++ dropped_by push
    → ((k : ℕ) (count : Fate → ℕ) → sum_by (settled_refused_at count k) settled ≡ dropped_in count (if k == to then push ∷ [] else []))
    → PushesOver station lossless accepted outlet start first xs log earlier → PushesOver station lossless accepted outlet start first (set xs (place_among station.worker to) next) new_log (earlier ++ settled)
pushed_more station lossless accepted outlet start xs first log new_log to x next push settled other within here each at made is refused before =
    let w : ℕ = station.worker in
    let put : List (List HandoffFrame) = by_worker w [] (map accepted xs) in
    let outlets : List Outlet = by_worker w no_outlet (map outlet xs) in
    let put_is : frames_with to put ≡ accepted x = peer_at accepted [] [] w to station.workers xs x other within here each at in
    let outlet_is : outlet_with to outlets ≡ outlet x = peer_at outlet no_outlet no_outlet w to station.workers xs x other within here each at in
    let put_next = peer_set accepted [] w to station.workers xs next other here each in
    let outlets_next = peer_set outlet no_outlet w to station.workers xs next other here each in
    let puts = peers_length w [] (map accepted xs) (let n = length-map xs accepted in omega (arith, here, each, n)) in
    let outs = peers_length w no_outlet (map outlet xs) (let n = length-map xs outlet in omega (arith, here, each, n)) in
    let p1 = length-map xs accepted in let p2 = length-map xs outlet in
    let one = pushes_one station.workers station.slots lossless put outlets log new_log to (accepted next) (outlet next) push within (omega (arith, puts, p1, each, within)) (omega (arith, outs, p2, each, within))
    (subst (λ fs. ArePushes station.slots lossless fs (outlet_with to outlets) (push ∷ []) (accepted next) (outlet next)) (sym put_is)
    (subst (λ o. ArePushes station.slots lossless (accepted x) o (push ∷ []) (accepted next) (outlet next)) (sym outlet_is) made)) is refused in
    pushes_then station.workers station.slots lossless (by_worker w [] (map accepted start)) put (by_worker w [] (map accepted (set xs (place_among w to) next))) (by_worker w no_outlet (map outlet start)) outlets
    (by_worker w no_outlet (map outlet (set xs (place_among w to) next))) first log new_log before
    (subst (λ ps. PushesFrames station.workers station.slots lossless put outlets log ps (by_worker w no_outlet (map outlet (set xs (place_among w to) next))) new_log settled) (sym put_next)
    (subst (λ os. PushesFrames station.workers station.slots lossless put outlets log (set put to (accepted next)) os new_log settled) (sym outlets_next) one))

-- nothing is pushed
pub pushed_none : {X : Type 0} (station : Station) (lossless : Bool) (accepted : X → List HandoffFrame) (outlet : X → Outlet) (xs : List X) (log : List Fate) → PushesOver station lossless accepted outlet xs log xs log []
pushed_none station lossless accepted outlet xs log =
    pushes_none station.workers station.slots lossless (by_worker station.worker [] (map accepted xs)) (by_worker station.worker no_outlet (map outlet xs)) log [] log [] (sym (append-nil log)) tt tt

-- some packets are settled that end here, and then frames are pushed
pub pushed_behind : {X : Type 0} (station : Station) (lossless : Bool) (accepted : X → List HandoffFrame) (outlet : X → Outlet) (xs ys : List X) (log mid new_log : List Fate) (settled : List Settled)
    {later : List Settled} → mid ≡ log ++ filter_map settled_log settled → AllByRecursion EndsHere settled
    → PushesOver station lossless accepted outlet xs mid ys new_log later → PushesOver station lossless accepted outlet xs log ys new_log (settled ++ later)
pushed_behind station lossless accepted outlet xs ys log mid new_log settled is here after =
    let w : ℕ = station.worker in
    pushes_then station.workers station.slots lossless (by_worker w [] (map accepted xs)) (by_worker w [] (map accepted xs)) (by_worker w [] (map accepted ys)) (by_worker w no_outlet (map outlet xs)) (by_worker w no_outlet (map outlet xs)) (by_worker w no_outlet (map outlet ys)) log mid new_log
    (pushes_none station.workers station.slots lossless (by_worker w [] (map accepted xs)) (by_worker w no_outlet (map outlet xs)) log (filter_map settled_log settled) mid settled is (here_uncounted settled here) here) after

pub pushed_on : {X : Type 0} (station : Station) (lossless : Bool) (accepted : X → List HandoffFrame) (outlet : X → Outlet) (xs ys zs : List X) (log mid new_log : List Fate) {first second : List Settled}
    → PushesOver station lossless accepted outlet xs log ys mid first → PushesOver station lossless accepted outlet ys mid zs new_log second
    → PushesOver station lossless accepted outlet xs log zs new_log (first ++ second)
pushed_on station lossless accepted outlet xs ys zs log mid new_log one two =
    let w : ℕ = station.worker in
    pushes_then station.workers station.slots lossless (by_worker w [] (map accepted xs)) (by_worker w [] (map accepted ys)) (by_worker w [] (map accepted zs)) (by_worker w no_outlet (map outlet xs))
    (by_worker w no_outlet (map outlet ys)) (by_worker w no_outlet (map outlet zs)) log mid new_log one two
