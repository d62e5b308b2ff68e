-- For the clauses of `Work::hand_groups` and `away` of `Work::put_away`: groups of packets are handed over, one behind the other.
use Rattle.std.proofs.Common.{◌≡◌, ◌≢◌, ℕ, zero, suc, ◌+◌, ◌<◌, ◌≤◌, ◌^◌, List, [], ◌∷◌, ◌++◌, length, map, get_or, set, refl, sym, ap, subst, ◌∙◌, inl, inr, arith}
use Rattle.std.specs.Prelude.{Bool, replicate}
use Rattle.std.specs.List.{AllByRecursion}
use Rattle.std.proofs.lemmas.List.{length-map, length-set, map-set, get_or-set_same, get_or-set_other}
use Rattle.std.proofs.lemmas.Bool.{cases_lt}
use Rattle.vg_model.specs.declared.kinds.Step.{Step}
use Rattle.vg_model.specs.PoolBook.{CacheBook}
use Rattle.vg_journeys.specs.Accounts.{HandoffFrame, frames_with}
use Rattle.vg_journeys.specs.Turns.{Settled}
use Rattle.vg_underway.specs.declared.stations.Station.{Station}
use Rattle.vg_underway.specs.declared.underway.Work.{Work}
use Rattle.vg_underway.specs.Peers.{place_among, by_worker}
use Rattle.vg_underway.specs.Underway.{Setting}
use Rattle.vg_underway.specs.Works.{IsSteady, TakesAll, IsPutAway}
use Rattle.vg_underway.specs.Hands.{HandsOver, HasFewLegs, handed_to, grouped, PutsAway, AreGroups, CanHand}
use Rattle.vg_underway.proofs.PeerLemmas.{place_within, peers_at, peers_set, map_at, all_map_at}
use Rattle.vg_underway.proofs.WorkLemmas.{advances_none, advances_then, exchanges_none, exchanges_then}
use Rattle.vg_underway.proofs.TraceLemmas.{traced_same, traced_then}
use Rattle.vg_underway.proofs.DeliverLemmas.{delivers_one, delivers_then, delivers_nothing}
use Rattle.vg_underway.proofs.GroupLemmas.{grouped_none}

-- one stretch and then another
pub puts_then : {first second told : List Settled → Type 0} (s : Setting) (node slots : ℕ) (lossless : Bool) (a b c : Work) (xa xb xc : CacheBook) (pa pb pc : List (List HandoffFrame)) (ha hb hc : List (ℕ × Step)) → PutsAway s node slots lossless first a xa pa ha b xb pb hb
    → PutsAway s node slots lossless second b xb pb hb c xc pc hc → ((earlier later : List Settled) → first earlier → second later → told (earlier ++ later)) → PutsAway s node slots lossless told a xa pa ha c xc pc hc
puts_then s node slots lossless a b c xa xb xc pa pb pc ha hb hc one two tells = record {
  steady = two.steady;
  takes = two.takes;
  settled = one.settled ++ two.settled;
  advances = advances_then s node [] [] one.settled two.settled a b c ha hb hc one.advances two.advances;
  exchanges = exchanges_then [] [] one.settled two.settled xa xb xc one.exchanges two.exchanges;
  delivers = delivers_then s slots lossless one.settled two.settled pa pb pc one.delivers two.delivers;
  traced = traced_then s node one.settled two.settled a ha b hb c hc one.traced two.traced;
  tells = tells one.settled two.settled one.tells two.tells;
}

pub puts_none : {told : List Settled → Type 0} (s : Setting) (node slots : ℕ) (lossless : Bool) (w : Work) (cache : CacheBook) (put : List (List HandoffFrame)) (hand : List (ℕ × Step)) → IsSteady s node w hand
    → TakesAll s node w hand cache → told [] → PutsAway s node slots lossless told w cache put hand w cache put hand
puts_none s node slots lossless w cache put hand steady takes tells = record {
  steady = steady;
  takes = takes;
  settled = [];
  advances = advances_none s node w hand;
  exchanges = exchanges_none cache;
  delivers = delivers_nothing s slots lossless [] put tt;
  traced = λ whole packets traced. traced_same s whole packets node w hand traced;
  tells = tells;
}

-- what is put away here puts nothing into queues
pub puts_of_away : {told : List Settled → Type 0} (s : Setting) (node slots : ℕ) (lossless : Bool) (old w : Work) (old_cache cache : CacheBook) (put : List (List HandoffFrame)) (old_hand hand : List (ℕ × Step)) → (away : IsPutAway s node old old_cache old_hand w cache hand)
    → told away.settled → PutsAway s node slots lossless told old old_cache put old_hand w cache put hand
puts_of_away s node slots lossless old w old_cache cache put old_hand hand away tells = record {
  steady = away.steady;
  takes = away.takes;
  settled = away.settled;
  advances = away.advances;
  exchanges = away.exchanges;
  delivers = delivers_nothing s slots lossless away.settled put away.here;
  traced = away.traced;
  tells = tells;
}

-- a group goes to its worker
pub puts_of_hands : {told : List Settled → Type 0} (s : Setting) (node to slots : ℕ) (lossless : Bool) (old w : Work) (old_cache cache : CacheBook) (put : List (List HandoffFrame)) (new_put : List HandoffFrame) (old_hand hand : List (ℕ × Step)) → to < s.workers → to < length put
    → (h : HandsOver s node to slots lossless old old_cache (frames_with to put) old_hand w cache new_put hand) → told h.settled → PutsAway s node slots lossless told old old_cache put old_hand w cache (set put to new_put) hand
puts_of_hands s node to slots lossless old w old_cache cache put new_put old_hand hand within inside h tells = record {
  steady = h.steady;
  takes = h.takes;
  settled = h.settled;
  advances = h.advances;
  exchanges = h.exchanges;
  delivers = delivers_one s node to slots lossless old w old_cache cache old_hand hand put new_put within inside h;
  traced = h.traced;
  tells = tells;
}

-- elements of lists
pub all_set : {X : Type 0} (P : X → Type 0) (xs : List X) (k : ℕ) (x : X) → AllByRecursion P xs → P x → AllByRecursion P (set xs k x)
all_set P [] k x all one = tt
all_set P (y ∷ ys) zero x all one = (one, all.1)
all_set P (y ∷ ys) (suc k) x all one = (all.0, all_set P ys k x all.1 one)

pub all_at : {X : Type 0} (P : X → Type 0) (xs : List X) (k : ℕ) (d : X) → k < length xs → AllByRecursion P xs → P (get_or xs k d)
all_at P [] k d inside all = absurd (omega (arith, inside))
all_at P (y ∷ ys) zero d inside all = all.0
all_at P (y ∷ ys) (suc k) d inside all = all_at P ys k d (omega (arith, inside)) all.1

pub all_mono : {X : Type 0} (P Q : X → Type 0) → ((x : X) → P x → Q x) → (xs : List X) → AllByRecursion P xs → AllByRecursion Q xs
all_mono P Q each [] all = tt
all_mono P Q each (x ∷ xs) all = (each x all.0, all_mono P Q each xs all.1)

-- with fewer packets under way
pub can_fewer : (station : Station) (n m : ℕ) (accepted : List (List HandoffFrame)) (slots rooms : List ℕ) → m ≤ n → CanHand station n accepted slots rooms → CanHand station m accepted slots rooms
can_fewer station n m accepted slots rooms fewer can = record {
  worker = can.worker;
  workers = can.workers;
  each = can.each;
  slots_are = can.slots_are;
  room = all_mono (λ room. n ≤ room) (λ room. m ≤ room) (λ room h. omega (arith, h, fewer)) rooms can.room;
  count = all_mono (λ (frames : List HandoffFrame). length frames + n < 2 ^ 62) (λ (frames : List HandoffFrame). length frames + m < 2 ^ 62) (λ frames h. omega (arith, h, fewer)) accepted can.count;
}

-- one queue took so many packets, in one frame at most
pub can_one : {X : Type 0} (accepted : X → List HandoffFrame) (slots room : X → ℕ) (station : Station) (n m more : ℕ) (xs : List X) (k : ℕ) (x next : X) → k < length xs → x ≡ get_or xs k x → m + more ≡ n → 1 ≤ more
    → length (accepted next) ≤ length (accepted x) + 1 → slots next ≡ slots x → room x ≤ room next + more → CanHand station n (map accepted xs) (map slots xs) (map room xs)
    → CanHand station m (map accepted (set xs k next)) (map slots (set xs k next)) (map room (set xs k next))
can_one accepted slots room station n m more xs k x next inside at size some longer same less can =
    let fewer = can_fewer station n m (map accepted xs) (map slots xs) (map room xs) (omega (arith, size)) can in
    let len = can.each in
    record {
      worker = can.worker;
      workers = can.workers;
      each = (let e1 = length-map (set xs k next) accepted in let e2 = length-set xs k next in let e3 = length-map xs accepted in omega (arith, len, e1, e2, e3));
      slots_are = subst (AllByRecursion (λ n. n ≡ station.slots)) (sym (map-set slots xs k next))
          (all_set (λ n. n ≡ station.slots) (map slots xs) k (slots next) can.slots_are (same ∙ all_map_at (λ n. n ≡ station.slots) slots xs k x inside at can.slots_are));
      room = subst (AllByRecursion (λ room. m ≤ room)) (sym (map-set room xs k next))
          (all_set (λ room. m ≤ room) (map room xs) k (room next) fewer.room (let h = all_map_at (λ room. n ≤ room) room xs k x inside at can.room in omega (arith, h, less, size)));
      count = subst (AllByRecursion (λ (frames : List HandoffFrame). length frames + m < 2 ^ 62)) (sym (map-set accepted xs k next))
          (all_set (λ (frames : List HandoffFrame). length frames + m < 2 ^ 62) (map accepted xs) k (accepted next) fewer.count
          (let h = all_map_at (λ (frames : List HandoffFrame). length frames + n < 2 ^ 62) accepted xs k x inside at can.count in omega (arith, h, longer, size, some)));
    }

-- the first group that isn't empty comes first
grouped_first : (n to : ℕ) (groups : List (List ℕ)) → to < length groups → ((i : ℕ) → i < to → get_or groups i [] ≡ []) → grouped n groups ≡ handed_to (n + to) (get_or groups to []) ++ grouped n (set groups to [])
grouped_first n to [] inside front = absurd (omega (arith, inside))
grouped_first n zero (g ∷ gs) inside front = ap (λ k. handed_to k g ++ grouped (suc n) gs) (let e : n ≡ n + 0 = omega arith in e)
grouped_first n (suc k) (g ∷ gs) inside front =
    let none : g ≡ [] = front 0 (omega arith) in
    let later : grouped (suc n) gs ≡ handed_to (suc n + k) (get_or gs k []) ++ grouped (suc n) (set gs k []) = grouped_first (suc n) k gs (omega (arith, inside)) (λ i h. front (suc i) (omega (arith, h))) in
    ap (λ x. handed_to n x ++ grouped (suc n) gs) none ∙ later
    ∙ ap (λ m. handed_to m (get_or gs k []) ++ grouped (suc n) (set gs k [])) (let e : suc n + k ≡ n + suc k = omega arith in e)
    ∙ ap (λ x. handed_to (n + suc k) (get_or gs k []) ++ (handed_to n x ++ grouped (suc n) (set gs k []))) (sym none)

-- all groups before this one are handed over
pub record IsHandingAll (s : Setting) (node slots : ℕ) (lossless : Bool) (told : List Settled → Type 0) (old : Work) (old_cache : CacheBook) (old_put : List (List HandoffFrame)) (old_hand : List (ℕ × Step)) (k : ℕ)
    (w : Work) (cache : CacheBook) (put : List (List HandoffFrame)) (groups : List (List ℕ)) : Type 0 where
  pub away : PutsAway s node slots lossless told old old_cache old_put old_hand w cache put (grouped 0 groups)
  pub groups_are : AreGroups s w groups
  pub front : (i : ℕ) → i < k → get_or groups i [] ≡ []

pub handing_none : {told : List Settled → Type 0} (s : Setting) (node slots : ℕ) (lossless : Bool) (old : Work) (old_cache : CacheBook) (put : List (List HandoffFrame)) (groups : List (List ℕ))
    → IsSteady s node old (grouped 0 groups) → TakesAll s node old (grouped 0 groups) old_cache → AreGroups s old groups → told []
    → IsHandingAll s node slots lossless told old old_cache put (grouped 0 groups) 0 old old_cache put groups
handing_none s node slots lossless old old_cache put groups steady takes are tells = record {
  away = puts_none s node slots lossless old old_cache put (grouped 0 groups) steady takes tells;
  groups_are = are;
  front = λ i h. absurd (omega (arith, h));
}

-- this one is empty
pub handing_skip : {told : List Settled → Type 0} (s : Setting) (node slots : ℕ) (lossless : Bool) (old : Work) (old_cache : CacheBook) (old_put : List (List HandoffFrame)) (old_hand : List (ℕ × Step)) (k : ℕ) (w : Work)
    (cache : CacheBook) (put : List (List HandoffFrame)) (groups : List (List ℕ)) → get_or groups k [] ≡ []
    → IsHandingAll s node slots lossless told old old_cache old_put old_hand k w cache put groups → IsHandingAll s node slots lossless told old old_cache old_put old_hand (k + 1) w cache put groups
handing_skip s node slots lossless old old_cache old_put old_hand k w cache put groups none h = record {
  away = h.away;
  groups_are = h.groups_are;
  front = λ i inside. elim (cases_lt i k) [
    | inl before ↦ h.front i before
    | inr last ↦ ap (λ n. get_or groups n []) (let e : i ≡ k = omega (arith, inside, last) in e) ∙ none
  ];
}

-- this one is in hand
pub handing_steady : {told : List Settled → Type 0} (s : Setting) (node slots : ℕ) (lossless : Bool) (old : Work) (old_cache : CacheBook) (old_put : List (List HandoffFrame)) (old_hand : List (ℕ × Step)) (k : ℕ)
    (w : Work) (cache : CacheBook) (put : List (List HandoffFrame)) (groups : List (List ℕ)) (group : List ℕ) → k < length groups
    → get_or groups k [] ≡ group → IsHandingAll s node slots lossless told old old_cache old_put old_hand k w cache put groups → IsSteady s node w (handed_to k group ++ grouped 0 (set groups k []))
handing_steady s node slots lossless old old_cache old_put old_hand k w cache put groups group inside at h =
    subst (IsSteady s node w) (grouped_first 0 k groups inside h.front ∙ ap (λ n. handed_to n (get_or groups k []) ++ grouped 0 (set groups k [])) (let e : 0 + k ≡ k = omega arith in e) ∙ ap (λ g. handed_to k g ++ grouped 0 (set groups k [])) at) h.away.steady

-- the cache has room for them too
pub handing_takes : {told : List Settled → Type 0} (s : Setting) (node slots : ℕ) (lossless : Bool) (old : Work) (old_cache : CacheBook) (old_put : List (List HandoffFrame)) (old_hand : List (ℕ × Step)) (k : ℕ)
    (w : Work) (cache : CacheBook) (put : List (List HandoffFrame)) (groups : List (List ℕ)) (group : List ℕ) → k < length groups
    → get_or groups k [] ≡ group → IsHandingAll s node slots lossless told old old_cache old_put old_hand k w cache put groups → TakesAll s node w (handed_to k group ++ grouped 0 (set groups k [])) cache
handing_takes s node slots lossless old old_cache old_put old_hand k w cache put groups group inside at h =
    subst (λ hand. TakesAll s node w hand cache) (grouped_first 0 k groups inside h.front ∙ ap (λ n. handed_to n (get_or groups k []) ++ grouped 0 (set groups k [])) (let e : 0 + k ≡ k = omega arith in e) ∙ ap (λ g. handed_to k g ++ grouped 0 (set groups k [])) at)
    h.away.takes

legs_after : (old new : Work) (groups : List (List ℕ)) → ((i : ℕ) → HasFewLegs old.memory i → HasFewLegs new.memory i) → AllByRecursion (AllByRecursion (HasFewLegs old.memory)) groups → AllByRecursion (AllByRecursion (HasFewLegs new.memory)) groups
legs_after old new groups each all =
    all_mono (AllByRecursion (HasFewLegs old.memory)) (AllByRecursion (HasFewLegs new.memory)) (λ group legs. all_mono (HasFewLegs old.memory) (HasFewLegs new.memory) each group legs) groups all

pub handing_one : {first told : List Settled → Type 0} (s : Setting) (node slots : ℕ) (lossless : Bool) (old : Work) (old_cache : CacheBook) (old_put : List (List HandoffFrame)) (old_hand : List (ℕ × Step)) (k : ℕ)
    (w new : Work) (cache new_cache : CacheBook) (put : List (List HandoffFrame)) (new_put : List HandoffFrame) (groups : List (List ℕ)) (group : List ℕ)
    → k < s.workers → k < length put → k ≢ s.worker → get_or groups k [] ≡ group → IsHandingAll s node slots lossless first old old_cache old_put old_hand k w cache put groups
    → (handed : HandsOver s node k slots lossless w cache (frames_with k put) (handed_to k group ++ grouped 0 (set groups k [])) new new_cache new_put (grouped 0 (set groups k [])))
    → ((settled : List Settled) → first settled → told (settled ++ handed.settled))
    → IsHandingAll s node slots lossless told old old_cache old_put old_hand (k + 1) new new_cache (set put k new_put) (set groups k [])
handing_one {first = first} {told = told} s node slots lossless old old_cache old_put old_hand k w new cache new_cache put new_put groups group within inside other at h handed tells =
    let size = h.groups_are.size in
    let here : k < length groups = omega (arith, size, within) in
    let hand : grouped 0 groups ≡ handed_to k group ++ grouped 0 (set groups k []) =
    grouped_first 0 k groups here h.front ∙ ap (λ n. handed_to n (get_or groups k []) ++ grouped 0 (set groups k [])) (let e : 0 + k ≡ k = omega arith in e) ∙ ap (λ g. handed_to k g ++ grouped 0 (set groups k [])) at in
    let before : PutsAway s node slots lossless first old old_cache old_put old_hand w cache put (handed_to k group ++ grouped 0 (set groups k [])) = subst (PutsAway s node slots lossless first old old_cache old_put old_hand w cache put) hand h.away in
    record {
      away = puts_then s node slots lossless old w new old_cache cache new_cache old_put put (set put k new_put) old_hand (handed_to k group ++ grouped 0 (set groups k [])) (grouped 0 (set groups k [])) before
          (puts_of_hands {told = λ (settled : List Settled). settled ≡ handed.settled} s node k slots lossless w new cache new_cache put new_put (handed_to k group ++ grouped 0 (set groups k [])) (grouped 0 (set groups k [])) within inside handed refl)
          (λ earlier later one two. subst (λ settled. told (earlier ++ settled)) (sym two) (tells earlier one));
      groups_are = record {
        size = length-set groups k [] ∙ size;
        few = all_set (λ (group : List ℕ). length group ≤ 256) groups k [] h.groups_are.few (omega arith);
        legs = all_set (AllByRecursion (HasFewLegs new.memory)) groups k [] (legs_after w new groups handed.legs h.groups_are.legs) tt;
        own = get_or-set_other groups k s.worker [] [] (λ e. other (sym e)) ∙ h.groups_are.own;
      };
      front = λ i below. elim (cases_lt i k) [
        | inl before ↦ get_or-set_other groups k i [] [] (λ e. absurd (omega (arith, e, before))) ∙ h.front i before
        | inr last ↦ ap (λ n. get_or (set groups k []) n []) (let e : i ≡ k = omega (arith, below, last) in e) ∙ get_or-set_same groups k [] [] here
      ];
    }

-- all are handed over
all_empty : (n : ℕ) (groups : List (List ℕ)) → length groups ≡ n → ((i : ℕ) → i < n → get_or groups i [] ≡ []) → groups ≡ replicate n []
all_empty zero [] size each = refl
all_empty zero (g ∷ gs) size each = absurd (omega (arith, size))
all_empty (suc n) [] size each = absurd (omega (arith, size))
all_empty (suc n) (g ∷ gs) size each = ap (λ x. x ∷ gs) (each 0 (omega arith)) ∙ ap (λ xs. [] ∷ xs) (all_empty n gs (omega (arith, size)) (λ i h. each (suc i) (omega (arith, h))))

pub handing_all : {told : List Settled → Type 0} (s : Setting) (node slots : ℕ) (lossless : Bool) (old : Work) (old_cache : CacheBook) (old_put : List (List HandoffFrame)) (old_hand : List (ℕ × Step)) (k : ℕ) (w : Work)
    (cache : CacheBook) (put : List (List HandoffFrame)) (groups : List (List ℕ)) → s.workers ≤ k
    → IsHandingAll s node slots lossless told old old_cache old_put old_hand k w cache put groups → PutsAway s node slots lossless told old old_cache old_put old_hand w cache put [] × (groups ≡ replicate s.workers [])
handing_all {told = told} s node slots lossless old old_cache old_put old_hand k w cache put groups past h =
    let none : groups ≡ replicate s.workers [] = all_empty s.workers groups h.groups_are.size (λ i below. h.front i (omega (arith, below, past))) in
    (subst (PutsAway s node slots lossless told old old_cache old_put old_hand w cache put) (ap (grouped 0) none ∙ grouped_none 0 s.workers) h.away, none)

-- the queue to a worker among those to all others
pub queue_at : {X : Type 0} (accepted : X → List HandoffFrame) (station : Station) (to : ℕ) (xs : List X) (x : X) → to ≢ station.worker → to < station.workers
    → station.worker < station.workers → length (map accepted xs) + 1 ≡ station.workers → x ≡ get_or xs (place_among station.worker to) x
    → (place_among station.worker to < length xs) × (frames_with to (by_worker station.worker [] (map accepted xs)) ≡ accepted x)
queue_at accepted station to xs x other within own each at =
    let len = length-map xs accepted in
    let inside : place_among station.worker to < length xs = place_within station.worker to (length xs) other (omega (arith, within, each, len)) (omega (arith, own, each, len)) in
    (inside, peers_at station.worker to [] (map accepted xs) [] other (omega (arith, own, each)) ∙ map_at accepted xs (place_among station.worker to) x [] inside at)

pub queue_set : {X : Type 0} (accepted : X → List HandoffFrame) (station : Station) (to : ℕ) (xs : List X) (next : X) → to ≢ station.worker → station.worker < station.workers → length (map accepted xs) + 1 ≡ station.workers
    → by_worker station.worker [] (map accepted (set xs (place_among station.worker to) next)) ≡ set (by_worker station.worker [] (map accepted xs)) to (accepted next)
queue_set accepted station to xs next other own each =
    ap (by_worker station.worker []) (map-set accepted xs (place_among station.worker to) next) ∙ peers_set station.worker to [] (map accepted xs) (accepted next) other (omega (arith, own, each))
