-- For the clause of `Work::group`, and for `Work::hand_groups`: packets that are handed over go into groups.
use Rattle.std.proofs.Common.{◌≡◌, ◌≢◌, ℕ, zero, suc, ◌+◌, ◌<◌, ◌≤◌, List, [], ◌∷◌, ◌++◌, length, map, drop, set, get_or, refl, sym, ap, subst, ◌∙◌, arith, append_assoc, length-append}
use Rattle.std.specs.Prelude.{Option, Some, None, replicate, ◌==◌, if◌then◌else◌}
use Rattle.std.proofs.Math.ListN.{length-set}
use Rattle.std.proofs.lemmas.Bool.{eq-eqb, ne_eqb}
use Rattle.vg_model.specs.declared.kinds.DropError.TheVariants.{HandoffLimit}
use Rattle.std.specs.List.{sum_by, AllByRecursion}
use Rattle.std.proofs.Math.Nat.{mod-eq_of_lt}
use Rattle.std.proofs.lemmas.List.{append-nil, map-append, get_or-set_other}
use Rattle.std.proofs.lemmas.List.Sums.{sum_by-cons, sum_by-append}
use Rattle.vg_model.specs.declared.kinds.Step.{Step}
use Rattle.vg_model.specs.declared.kinds.Step.TheVariants.{Hand}
use Rattle.vg_model.specs.declared.kinds.Kind.{Kind}
use Rattle.vg_model.specs.Graph.{Graph, kind_at, arc}
use Rattle.vg_model.specs.Valid.{IsStepOf}
use Rattle.vg_model.specs.Hash.{target_worker}
use Rattle.vg_model.specs.Leg.{Onward, Over, handed}
use Rattle.vg_model.specs.Leg as legs
use Rattle.vg_model.specs.PoolBook.{CacheBook}
use Rattle.vg_pool.specs.Contents.{Contents}
use Rattle.vg_frame.specs.Placed.{Changes}
use Rattle.vg_underway.specs.declared.underway.Work.{Work}
use Rattle.vg_underway.specs.Underway.{Setting, Weights, moved, move_owed, contents_at, in_hand}
use Rattle.vg_underway.specs.Places.{same_one}
use Rattle.vg_underway.specs.Traced.{Sight, IsOnWay, with_refusals, visits_after}
use Rattle.vg_underway.specs.Works.{IsHeld, HasRoom, IsSteady, TakesAll, IsPutAway, IsStepIn, hand_step, by_bytes, by_pieces, by_visits}
use Rattle.vg_underway.specs.Hands.{handed_to, HasFewLegs, grouped, IsGrouping, IsGrouped}
use Rattle.vg_underway.proofs.AwayLemmas.{away_none, hand_first, hand_last}
use Rattle.vg_underway.proofs.HandAllLemmas.{few_kept}

-- where one more goes into a group
pub record IsPushed (first : ℕ) (groups : List (List ℕ)) (to index : ℕ) : Type 0 where
  pub front : List (ℕ × Step)
  pub back : List (ℕ × Step)
  pub before : grouped first groups ≡ front ++ back
  pub after : grouped first (set groups to (get_or groups to [] ++ index ∷ [])) ≡ front ++ (index, Hand (first + to)) ∷ back

pub pushed : (first : ℕ) (groups : List (List ℕ)) (to index : ℕ) → to < length groups → IsPushed first groups to index
pushed first [] to index inside = absurd (omega (arith, inside))
pushed first (g ∷ gs) zero index inside = record {
  front = handed_to first g;
  back = grouped (suc first) gs;
  before = refl;
  after = ap (λ h. h ++ grouped (suc first) gs) (map-append (λ i. (i, Hand first)) g (index ∷ []))
      ∙ append_assoc (handed_to first g) ((index, Hand first) ∷ []) (grouped (suc first) gs)
      ∙ ap (λ n. handed_to first g ++ (index, Hand n) ∷ grouped (suc first) gs) (let e : first ≡ first + 0 = omega arith in e);
}
pushed first (g ∷ gs) (suc to) index inside =
    let rest = pushed (suc first) gs to index (omega (arith, inside)) in
    record {
      front = handed_to first g ++ rest.front;
      back = rest.back;
      before = ap (λ h. handed_to first g ++ h) rest.before ∙ sym (append_assoc (handed_to first g) rest.front rest.back);
      after = ap (λ h. handed_to first g ++ h) rest.after ∙ sym (append_assoc (handed_to first g) rest.front ((index, Hand (suc first + to)) ∷ rest.back))
          ∙ ap (λ n. (handed_to first g ++ rest.front) ++ (index, Hand n) ∷ rest.back) (let e : suc first + to ≡ first + suc to = omega arith in e);
    }

-- a packet in hand stands in another place among the others, with a step that moves it alike
sum_moved : {X : Type 0} (f : X → ℕ) (p q : X) (xs ys : List X) → f p ≡ f q → sum_by f (xs ++ q ∷ ys) ≡ sum_by f (p ∷ (xs ++ ys))
sum_moved f p q xs ys same = omega (arith, same, sum_by-append f xs (q ∷ ys), sum_by-append f xs ys, sum_by-cons f q ys, sum_by-cons f p (xs ++ ys))

all_moved : {X : Type 0} (P : X → Type 0) (q : X) (xs ys : List X) → P q → AllByRecursion P (xs ++ ys) → AllByRecursion P (xs ++ q ∷ ys)
all_moved P q [] ys one all = (one, all)
all_moved P q (x ∷ xs) ys one all = (all.0, all_moved P q xs ys one all.1)

pub away_moved : (s : Setting) (node : ℕ) (old : Work) (old_cache : CacheBook) (old_hand : List (ℕ × Step)) (w : Work) (cache : CacheBook) (index : ℕ) (one other : Step) (xs ys : List (ℕ × Step))
    → ((c : Contents) → moved s node c one ≡ moved s node c other) → IsStepIn s node (index, other) → IsPutAway s node old old_cache old_hand w cache ((index, one) ∷ (xs ++ ys))
    → IsPutAway s node old old_cache old_hand w cache (xs ++ (index, other) ∷ ys)
away_moved s node old old_cache old_hand w cache index one other xs ys same step away = record {
  steady = record {
    held = record {
      nodes = held.nodes;
      places = λ i. let all = held.places i in let e = sum_moved (λ (p : ℕ × Step). same_one i p.0) (index, one) (index, other) xs ys refl in omega (arith, all, e);
      count_is = (let all = held.count_is in let a = length-append xs ((index, other) ∷ ys) in let b = length-append xs ys in omega (arith, all, a, b));
      few = held.few;
      targets = held.targets;
      steps = all_moved (IsStepIn s node) (index, other) xs ys step held.steps.1;
      sound = held.sound;
      legs = held.legs;
      visits = held.visits;
      sends = held.sends;
      whole = held.whole;
      within = held.within;
    };
    room = record {
      fates = room.fates;
      entries = room.entries;
      bytes = (let h = room.bytes in let e = owes by_bytes in omega (arith, h, e));
      visits = λ n. (let h = room.visits n in let e = owes (by_visits n) in omega (arith, h, e));
      drops = room.drops;
      sends = room.sends;
    };
  };
  takes = record {
    len = (let h = away.takes.len in let e = owes by_pieces in omega (arith, h, e));
    freed = (let h = away.takes.freed in let e = owes by_pieces in omega (arith, h, e));
  };
  settled = away.settled;
  advances = record {
    same = λ t. (let h = away.advances.same t in let e = owes t in omega (arith, h, e));
    may_be = away.advances.may_be;
    live = away.advances.live;
    fates = away.advances.fates;
    sent = away.advances.sent;
    entries_most = away.advances.entries_most;
    bytes = away.advances.bytes;
    room = away.advances.room;
    size = away.advances.size;
    visited = away.advances.visited;
    drops = away.advances.drops;
    drops_most = away.advances.drops_most;
    sends = away.advances.sends;
  };
  exchanges = away.exchanges;
  here = away.here;
  traced = λ whole packets traced.
      let so_far = away.traced whole packets traced in
      let seen : Sight = with_refusals away.settled whole in
      let way : Step → Type 0 = λ st. IsOnWay seen w.trace (contents_at w.memory index) (visits_after s (contents_at w.memory index) (moved s node (contents_at w.memory index) st)) in
      record {
        size = so_far.size;
        is_notes = so_far.is_notes;
        apart = so_far.apart;
        wait = so_far.wait;
        in_hand = all_moved (λ (p : ℕ × Step). IsOnWay seen w.trace (contents_at w.memory p.0) (visits_after s (contents_at w.memory p.0) (moved s node (contents_at w.memory p.0) p.1))) (index, other) xs ys
            (subst (λ move. IsOnWay seen w.trace (contents_at w.memory index) (visits_after s (contents_at w.memory index) move)) (same (contents_at w.memory index)) so_far.in_hand.0) so_far.in_hand.1;
        over = so_far.over;
      };
}
  where
    held : IsHeld s node w ((index, one) ∷ (xs ++ ys))
    held = away.steady.held

    room : HasRoom s node w ((index, one) ∷ (xs ++ ys))
    room = away.steady.room

    owes : (t : Weights) → in_hand s t node w.memory (xs ++ (index, other) ∷ ys) ≡ in_hand s t node w.memory ((index, one) ∷ (xs ++ ys))
    owes t =
        sum_moved (λ (p : ℕ × Step). move_owed s t (contents_at w.memory p.0) (moved s node (contents_at w.memory p.0) p.1)) (index, one) (index, other) xs ys
        (ap (move_owed s t (contents_at w.memory index)) (same (contents_at w.memory index)))

-- a hash moves a packet as its worker's number does
pub moves_alike : (s : Setting) (node to hash : ℕ) (c : Contents) → to ≡ target_worker s.workers hash → to < s.workers → moved s node c (Hand hash) ≡ moved s node c (Hand to)
moves_alike s node to hash c is within = ap (λ target. handed s.graph s.worker (length c.legs) node target) (sym is ∙ sym (mod-eq_of_lt within))

step_of : (g : Graph) (o : Option Kind) (hash to : ℕ) → IsStepOf g o (Hand hash) → IsStepOf g o (Hand to)
step_of g None hash to h = tt
step_of g (Some kind) hash to h = h

-- the next packet goes into a group
pub away_grouped : (s : Setting) (node : ℕ) (old : Work) (old_cache : CacheBook) (old_hand : List (ℕ × Step)) (w : Work) (cache : CacheBook) (index hash to : ℕ) (rest : List (ℕ × Step)) (groups : List (List ℕ)) → to ≡ target_worker s.workers hash
    → to < s.workers → to < length groups → IsPutAway s node old old_cache old_hand w cache ((index, Hand hash) ∷ (rest ++ grouped 0 groups))
    → IsPutAway s node old old_cache old_hand w cache (rest ++ grouped 0 (set groups to (get_or groups to [] ++ index ∷ [])))
away_grouped s node old old_cache old_hand w cache index hash to rest groups is within inside away =
    let p = pushed 0 groups to index inside in
    let before : rest ++ grouped 0 groups ≡ (rest ++ p.front) ++ p.back = ap (λ h. rest ++ h) p.before ∙ sym (append_assoc rest p.front p.back) in
    let zero_to : 0 + to ≡ to = omega arith in
    let after : rest ++ grouped 0 (set groups to (get_or groups to [] ++ index ∷ [])) ≡ (rest ++ p.front) ++ (index, Hand to) ∷ p.back =
    ap (λ h. rest ++ h) p.after ∙ sym (append_assoc rest p.front ((index, Hand (0 + to)) ∷ p.back)) ∙ ap (λ n. (rest ++ p.front) ++ (index, Hand n) ∷ p.back) zero_to in
    let named : IsPutAway s node old old_cache old_hand w cache ((index, Hand hash) ∷ ((rest ++ p.front) ++ p.back)) = subst (λ h. IsPutAway s node old old_cache old_hand w cache ((index, Hand hash) ∷ h)) before away in
    subst (IsPutAway s node old old_cache old_hand w cache) (sym after)
    (away_moved s node old old_cache old_hand w cache index (Hand hash) (Hand to) (rest ++ p.front) p.back (λ c. moves_alike s node to hash c is within)
    (step_of s.graph (kind_at s.graph node) hash to named.steady.held.steps.0) named)

-- at first all groups are empty
pub grouped_none : (first n : ℕ) → grouped first (replicate n []) ≡ []
grouped_none first zero = refl
grouped_none first (suc n) = grouped_none (suc first) n

none_at : (n k : ℕ) → get_or {A = List ℕ} (replicate n []) k [] ≡ []
none_at zero k = refl
none_at (suc n) zero = refl
none_at (suc n) (suc k) = none_at n k

sum_none : (n : ℕ) → sum_by length (replicate {A = List ℕ} n []) ≡ 0
sum_none zero = refl
sum_none (suc n) = let rest = sum_none n in omega (arith, rest, sum_by-cons (λ (x : List ℕ). length x) [] (replicate n []))

length_none : (n : ℕ) → length (replicate {A = List ℕ} n []) ≡ n
length_none zero = refl
length_none (suc n) = ap suc (length_none n)

legs_none : (m : List (Option Contents)) (n : ℕ) → AllByRecursion (AllByRecursion (HasFewLegs m)) (replicate n [])
legs_none m zero = tt
legs_none m (suc n) = (tt, legs_none m n)

pub grouping_none : (s : Setting) (node : ℕ) (old : Work) (old_cache : CacheBook) (hands : List (ℕ × ℕ)) (groups : List (List ℕ)) → IsSteady s node old (map hand_step hands) → TakesAll s node old (map hand_step hands) old_cache → groups ≡ replicate s.workers []
    → IsGrouping s node old old_cache hands 0 old old_cache groups
grouping_none s node old old_cache hands groups steady takes empty = subst (IsGrouping s node old old_cache hands 0 old old_cache) (sym empty) (record {
  away = subst (IsPutAway s node old old_cache (map hand_step hands) old old_cache) (sym (ap (λ h. map hand_step hands ++ h) (grouped_none 0 s.workers) ∙ append-nil (map hand_step hands)))
      (away_none s node old old_cache (map hand_step hands) steady takes);
  size = length_none s.workers;
  few = (let none = sum_none s.workers in omega (arith, none));
  legs = legs_none old.memory s.workers;
  own = none_at s.workers s.worker;
})

pub grouping_first : (s : Setting) (node : ℕ) (old : Work) (old_cache : CacheBook) (hands : List (ℕ × ℕ)) (k : ℕ) (w : Work) (cache : CacheBook) (groups : List (List ℕ)) → k < length hands → IsGrouping s node old old_cache hands k w cache groups
    → IsPutAway s node old old_cache (map hand_step hands) w cache (hand_step (get_or hands k (0, 0)) ∷ (map hand_step (drop (k + 1) hands) ++ grouped 0 groups))
grouping_first s node old old_cache hands k w cache groups inside grouping =
    subst (IsPutAway s node old old_cache (map hand_step hands) w cache) (hand_first hand_step hands hands k (0, 0) (grouped 0 groups) refl inside) grouping.away

-- the next one goes on, or is over
legs_kept : (m next : List (Option Contents)) (i : ℕ) → Changes m next i None → (groups : List (List ℕ)) → AllByRecursion (AllByRecursion (HasFewLegs m)) groups → AllByRecursion (AllByRecursion (HasFewLegs next)) groups
legs_kept m next i changes [] all = tt
legs_kept m next i changes (g ∷ gs) all = (few_kept m next i changes g all.0, legs_kept m next i changes gs all.1)

pub grouping_put : (s : Setting) (node : ℕ) (old : Work) (old_cache : CacheBook) (hands : List (ℕ × ℕ)) (k : ℕ) (w new : Work) (cache new_cache : CacheBook) (groups : List (List ℕ)) → new.memory ≡ w.memory → IsGrouping s node old old_cache hands k w cache groups
    → IsPutAway s node old old_cache (map hand_step hands) new new_cache (map hand_step (drop (k + 1) hands) ++ grouped 0 groups) → IsGrouping s node old old_cache hands (k + 1) new new_cache groups
grouping_put s node old old_cache hands k w new cache new_cache groups same grouping away = record {
  away = away;
  size = grouping.size;
  few = (let few = grouping.few in omega (arith, few));
  legs = subst (λ m. AllByRecursion (AllByRecursion (HasFewLegs m)) groups) (sym same) grouping.legs;
  own = grouping.own;
}

pub grouping_over : (s : Setting) (node : ℕ) (old : Work) (old_cache : CacheBook) (hands : List (ℕ × ℕ)) (k : ℕ) (w new : Work) (cache new_cache : CacheBook) (groups : List (List ℕ)) (i : ℕ)
    → Changes w.memory new.memory i None → IsGrouping s node old old_cache hands k w cache groups
    → IsPutAway s node old old_cache (map hand_step hands) new new_cache (map hand_step (drop (k + 1) hands) ++ grouped 0 groups) → IsGrouping s node old old_cache hands (k + 1) new new_cache groups
grouping_over s node old old_cache hands k w new cache new_cache groups i changes grouping away = record {
  away = away;
  size = grouping.size;
  few = (let few = grouping.few in omega (arith, few));
  legs = legs_kept w.memory new.memory i changes groups grouping.legs;
  own = grouping.own;
}

-- or goes into its group
pub any_default : (groups : List (List ℕ)) (k : ℕ) (d e : List ℕ) → k < length groups → get_or groups k d ≡ get_or groups k e
any_default [] k d e inside = absurd (omega (arith, inside))
any_default (g ∷ gs) zero d e inside = refl
any_default (g ∷ gs) (suc k) d e inside = any_default gs k d e (omega (arith, inside))

sum_set : (groups : List (List ℕ)) (k i : ℕ) → k < length groups → sum_by length (set groups k (get_or groups k [] ++ i ∷ [])) ≡ sum_by length groups + 1
sum_set [] k i inside = absurd (omega (arith, inside))
sum_set (g ∷ gs) zero i inside = (let n = length-append g (i ∷ []) in omega (arith, n, sum_by-cons (λ (x : List ℕ). length x) (g ++ i ∷ []) gs, sum_by-cons (λ (x : List ℕ). length x) g gs))
sum_set (g ∷ gs) (suc k) i inside =
    let rest = sum_set gs k i (omega (arith, inside)) in
    omega (arith, rest, sum_by-cons (λ (x : List ℕ). length x) g (set gs k (get_or gs k [] ++ i ∷ [])), sum_by-cons (λ (x : List ℕ). length x) g gs)

all_push : {X : Type 0} (P : X → Type 0) (xs : List X) (x : X) → AllByRecursion P xs → P x → AllByRecursion P (xs ++ x ∷ [])
all_push P [] x all one = (one, tt)
all_push P (y ∷ ys) x all one = (all.0, all_push P ys x all.1 one)

legs_set : (m : List (Option Contents)) (groups : List (List ℕ)) (k i : ℕ) → k < length groups → HasFewLegs m i → AllByRecursion (AllByRecursion (HasFewLegs m)) groups → AllByRecursion (AllByRecursion (HasFewLegs m)) (set groups k (get_or groups k [] ++ i ∷ []))
legs_set m [] k i inside one all = absurd (omega (arith, inside))
legs_set m (g ∷ gs) zero i inside one all = (all_push (HasFewLegs m) g i all.0 one, all.1)
legs_set m (g ∷ gs) (suc k) i inside one all = (all.0, legs_set m gs k i (omega (arith, inside)) one all.1)

pub grouping_pushed : (s : Setting) (node : ℕ) (old : Work) (old_cache : CacheBook) (hands : List (ℕ × ℕ)) (k : ℕ) (w : Work) (cache : CacheBook) (groups : List (List ℕ)) (to : ℕ) (group more : List ℕ) → k < length hands
    → to ≡ target_worker s.workers (get_or hands k (0, 0)).1 → to < s.workers → to ≢ s.worker → length (contents_at w.memory (get_or hands k (0, 0)).0).legs ≤ 3 → group ≡ get_or groups to group → more ≡ group ++ (get_or hands k (0, 0)).0 ∷ []
    → IsGrouping s node old old_cache hands k w cache groups → IsGrouping s node old old_cache hands (k + 1) w cache (set groups to more)
grouping_pushed s node old old_cache hands k w cache groups to group more inside is within other few at pushed_is grouping =
    subst (λ g. IsGrouping s node old old_cache hands (k + 1) w cache (set groups to g)) (sym named) (record {
      away = away_grouped s node old old_cache (map hand_step hands) w cache index (get_or hands k (0, 0)).1 to (map hand_step (drop (k + 1) hands)) groups is within place
          (grouping_first s node old old_cache hands k w cache groups inside grouping);
      size = length-set groups to _ ∙ grouping.size;
      few = (let few_so_far = grouping.few in let one = sum_set groups to index place in omega (arith, few_so_far, one));
      legs = legs_set w.memory groups to index place (λ live. few) grouping.legs;
      own = get_or-set_other groups to s.worker (get_or groups to [] ++ index ∷ []) [] (λ e. other (sym e)) ∙ grouping.own;
    })
  where
    index : ℕ
    index = (get_or hands k (0, 0)).0

    place : to < length groups
    place = let size = grouping.size in omega (arith, size, within)

    named : more ≡ get_or groups to [] ++ index ∷ []
    named = pushed_is ∙ ap (λ g. g ++ index ∷ []) (at ∙ any_default groups to group [] place)

few_each : (groups : List (List ℕ)) (most : ℕ) → sum_by length groups ≤ most → most ≤ 256 → AllByRecursion (λ group. length group ≤ 256) groups
few_each [] most few bound = tt
few_each (g ∷ gs) most few bound =
    let split = sum_by-cons (λ (x : List ℕ). length x) g gs in
    (omega (arith, few, bound, split), few_each gs most (omega (arith, few, split)) bound)

pub one_few : (groups : List (List ℕ)) (k most : ℕ) (d : List ℕ) → k < length groups → sum_by length groups ≤ most → length (get_or groups k d) ≤ most
one_few [] k most d inside few = absurd (omega (arith, inside))
one_few (g ∷ gs) zero most d inside few = (let split = sum_by-cons (λ (x : List ℕ). length x) g gs in omega (arith, few, split))
one_few (g ∷ gs) (suc k) most d inside few = (let split = sum_by-cons (λ (x : List ℕ). length x) g gs in one_few gs k most d (omega (arith, inside)) (omega (arith, few, split)))

pub grouping_all : (s : Setting) (node : ℕ) (old : Work) (old_cache : CacheBook) (hands : List (ℕ × ℕ)) (k : ℕ) (w : Work) (cache : CacheBook) (groups : List (List ℕ)) → length hands ≤ k → k ≤ 256 → IsGrouping s node old old_cache hands k w cache groups
    → IsGrouped s node old old_cache hands w cache groups
grouping_all s node old old_cache hands k w cache groups past few grouping = record {
  away = subst (IsPutAway s node old old_cache (map hand_step hands) w cache) (hand_last hand_step hands hands k (grouped 0 groups) refl past) grouping.away;
  size = grouping.size;
  few = few_each groups k grouping.few few;
  legs = grouping.legs;
  own = grouping.own;
}

-- where the packet goes
pub own_target : (s : Setting) (node hash : ℕ) (c : Contents) → target_worker s.workers hash ≡ s.worker → moved s node c (Hand hash) ≡ Onward (arc s.graph node 0)
own_target s node hash c is =
    ap (λ target. handed s.graph s.worker (length c.legs) node target) is
    ∙ ap (λ b. if b then Onward (arc s.graph node 0) else if length c.legs == 4 then Over (legs.Dropped node HandoffLimit) else Over (legs.Handed node s.worker)) (eq-eqb s.worker s.worker refl)

pub last_leg : (s : Setting) (node hash : ℕ) (c : Contents) → target_worker s.workers hash ≢ s.worker → length c.legs ≡ 4 → moved s node c (Hand hash) ≡ Over (legs.Dropped node HandoffLimit)
last_leg s node hash c other four =
    ap (λ b. if b then Onward (arc s.graph node 0) else if length c.legs == 4 then Over (legs.Dropped node HandoffLimit) else Over (legs.Handed node (target_worker s.workers hash))) (ne_eqb (target_worker s.workers hash) s.worker other)
    ∙ ap (λ b. if b then Over (legs.Dropped node HandoffLimit) else Over (legs.Handed node (target_worker s.workers hash))) (eq-eqb (length c.legs) 4 four)
