-- For the clauses of `close_from` and `close_all`: how the queues between workers are closed.
use Rattle.std.proofs.Common.{◌≡◌, ◌≢◌, ℕ, zero, suc, ◌+◌, ◌-◌, ◌<◌, inl, inr, List, [], ◌∷◌, ◌++◌, length, map, set, get_or, refl, sym, ap, subst, ◌∙◌, arith, length-set, append-nil, append_assoc}
use Rattle.std.specs.Prelude.{flat_map}
use Rattle.std.specs.List.{remove}
use Rattle.std.proofs.lemmas.List.{map_push, map-append}
use Rattle.std.proofs.lemmas.Grind.{flat_map-append}
use Rattle.vg_ring.specs.declared.ends.RingTx.{RingTx}
use Rattle.vg_ring.specs.declared.ends.RingRx.{RingRx}
use Rattle.vg_ring.specs.declared.rest.Rest.{Rest}
use Rattle.vg_ring.specs.Ends.{put, taken, tx_ring, rx_ring}
use Rattle.vg_ring.specs.Rests.{all_put, left, rest_ring}
use Rattle.vg_journeys.specs.Accounts.{HandoffFrame, below}
use Rattle.vg_workers.specs.Places.{AllWith, others_from, pairs_of, pairs}
use Rattle.vg_workers.specs.Closing.{Queues, AreOutputs, AreInputs, next_from, IsClosed, AreOpen, closed_pairs, AreEnds}
use Rattle.vg_workers.proofs.PlaceLemmas.{get_is, first_get, first_set_with, all_then, first_from, get_within, with_more, other_first, own_first, other_last, own_last, same_or_other}
use Rattle.vg_workers.proofs.LinkLemmas.{next_below, next_above, next_other}

first_same : {Y : Type 0} (x y : Y) (xs ys : List Y) → x ∷ xs ≡ y ∷ ys → x ≡ y
first_same x y xs ys e = cc

rest_same : {Y : Type 0} (x y : Y) (xs ys : List Y) → x ∷ xs ≡ y ∷ ys → xs ≡ ys
rest_same x y xs ys e = cc

-- a list whose values are those of a number and then of others
pub record Begins {X Y : Type 0} (f : X → Y) (h : ℕ → Y) (xs : List X) (n : ℕ) (ns : List ℕ) : Type 0 where
  pub first : X
  pub rest : List X
  pub is : xs ≡ first ∷ rest
  pub first_is : f first ≡ h n
  pub rest_are : map f rest ≡ map h ns

begins : {X Y : Type 0} (f : X → Y) (h : ℕ → Y) (xs : List X) (n : ℕ) (ns : List ℕ) → map f xs ≡ map h (n ∷ ns) → Begins f h xs n ns
begins f h [] n ns e = absurd (cc)
begins f h (x ∷ xs) n ns e = record { first = x; rest = xs; is = refl; first_is = first_same (f x) (h n) (map f xs) (map h ns) e; rest_are = rest_same (f x) (h n) (map f xs) (map h ns) e }

-- the next number of workers
counted_down : (workers n : ℕ) → n < workers → workers - n ≡ suc (workers - suc n)
counted_down workers n h = omega (arith, h)

-- the outputs from the next worker on: where it is another one, its end comes first
pub record HasNext (q : Queues) (own n count : ℕ) (ends : List (RingTx HandoffFrame)) : Type 0 where
  pub tx : RingTx HandoffFrame
  pub rest : List (RingTx HandoffFrame)
  pub is : ends ≡ tx ∷ rest
  pub ring : tx_ring tx ≡ q.ring own n
  pub put_is : put tx ≡ q.put_on own n
  pub left : AreOutputs q own (suc n) count rest

pub next_output : (q : Queues) (own n workers : ℕ) (ends : List (RingTx HandoffFrame)) → n ≢ own → n < workers → AreOutputs q own n (workers - n) ends → HasNext q own n (workers - suc n) ends
next_output q own n workers ends differs h are =
    let list : others_from own n (workers - n) ≡ n ∷ others_from own (suc n) (workers - suc n) = ap (others_from own n) (counted_down workers n h) ∙ other_first own n (workers - suc n) differs in
    here ends (are.rings ∙ ap (map (q.ring own)) list) (are.puts ∙ ap (map (q.put_on own)) list)
  where
    here : (ends : List (RingTx HandoffFrame)) → map tx_ring ends ≡ map (q.ring own) (n ∷ others_from own (suc n) (workers - suc n))
        → map put ends ≡ map (q.put_on own) (n ∷ others_from own (suc n) (workers - suc n)) → HasNext q own n (workers - suc n) ends
    here [] rings puts = absurd (cc)
    here (tx ∷ rest) rings puts = record {
      tx = tx;
      rest = rest;
      is = refl;
      ring = first_same _ _ _ _ rings;
      put_is = first_same _ _ _ _ puts;
      left = record { rings = rest_same _ _ _ _ rings; puts = rest_same _ _ _ _ puts };
    }

pub own_output : (q : Queues) (own n workers : ℕ) (ends : List (RingTx HandoffFrame)) → n ≡ own → n < workers → AreOutputs q own n (workers - n) ends → AreOutputs q own (suc n) (workers - suc n) ends
own_output q own n workers ends same h are =
    let list : others_from own n (workers - n) ≡ others_from own (suc n) (workers - suc n) = ap (others_from own n) (counted_down workers n h) ∙ own_first own n (workers - suc n) same in
    record { rings = are.rings ∙ ap (map (q.ring own)) list; puts = are.puts ∙ ap (map (q.put_on own)) list }

-- likewise the inputs
pub record HasNextIn (q : Queues) (own n count : ℕ) (ends : List (RingRx HandoffFrame)) : Type 0 where
  pub rx : RingRx HandoffFrame
  pub rest : List (RingRx HandoffFrame)
  pub is : ends ≡ rx ∷ rest
  pub ring : rx_ring rx ≡ q.ring n own
  pub taken_is : taken rx ≡ q.taken_off n own
  pub left : AreInputs q own (suc n) count rest

pub next_input : (q : Queues) (own n workers : ℕ) (ends : List (RingRx HandoffFrame)) → n ≢ own → n < workers → AreInputs q own n (workers - n) ends → HasNextIn q own n (workers - suc n) ends
next_input q own n workers ends differs h are =
    let list : others_from own n (workers - n) ≡ n ∷ others_from own (suc n) (workers - suc n) = ap (others_from own n) (counted_down workers n h) ∙ other_first own n (workers - suc n) differs in
    here ends (are.rings ∙ ap (map (λ from. q.ring from own)) list) (are.takens ∙ ap (map (λ from. q.taken_off from own)) list)
  where
    here : (ends : List (RingRx HandoffFrame)) → map rx_ring ends ≡ map (λ from. q.ring from own) (n ∷ others_from own (suc n) (workers - suc n))
        → map taken ends ≡ map (λ from. q.taken_off from own) (n ∷ others_from own (suc n) (workers - suc n)) → HasNextIn q own n (workers - suc n) ends
    here [] rings takens = absurd (cc)
    here (rx ∷ rest) rings takens = record {
      rx = rx;
      rest = rest;
      is = refl;
      ring = first_same _ _ _ _ rings;
      taken_is = first_same _ _ _ _ takens;
      left = record { rings = rest_same _ _ _ _ rings; takens = rest_same _ _ _ _ takens };
    }

pub own_input : (q : Queues) (own n workers : ℕ) (ends : List (RingRx HandoffFrame)) → n ≡ own → n < workers → AreInputs q own n (workers - n) ends → AreInputs q own (suc n) (workers - suc n) ends
own_input q own n workers ends same h are =
    let list : others_from own n (workers - n) ≡ others_from own (suc n) (workers - suc n) = ap (others_from own n) (counted_down workers n h) ∙ own_first own n (workers - suc n) same in
    record { rings = are.rings ∙ ap (map (λ from. q.ring from own)) list; takens = are.takens ∙ ap (map (λ from. q.taken_off from own)) list }

-- the inputs that aren't closed yet, once one more is
abbrev InAt : (q : Queues) (workers from to : ℕ) → ℕ → List (RingRx HandoffFrame) → Type 0
InAt q workers from to own ends = AreInputs q own (next_from from to own) (workers - next_from from to own) ends

pub open_more : (q : Queues) (workers from to : ℕ) (inputs : List (List (RingRx HandoffFrame))) (rest : List (RingRx HandoffFrame)) → to ≢ from → AreOpen q workers from to inputs
    → AreInputs q to (suc from) (workers - suc from) rest → AreOpen q workers from (suc to) (set inputs to rest)
open_more q workers from to inputs rest differs opened left = record {
  count = length-set inputs to rest ∙ opened.count;
  each =
      first_set_with (InAt q workers from to) (InAt q workers from (suc to)) inputs to rest opened.each
      (λ own ends other are. subst (λ n. AreInputs q own n (workers - n) ends) (sym (next_other from to own other)) are)
      (subst (λ n. AreInputs q to n (workers - n) rest) (sym (next_below from (suc to) to (omega arith))) left);
}

-- the next input of a worker
pub input_at : (q : Queues) (workers from to : ℕ) (inputs : List (List (RingRx HandoffFrame))) (ends : List (RingRx HandoffFrame)) → to ≢ from → from < workers → to < length inputs → ends ≡ get_or inputs to ends
    → AreOpen q workers from to inputs → HasNextIn q to from (workers - suc from) ends
input_at q workers from to inputs ends differs low within is opened =
    let at = first_get (InAt q workers from to) inputs to ends opened.each (get_is inputs to ends within is) in
    next_input q to from workers ends (λ e. differs (sym e)) low (subst (λ n. AreInputs q to n (workers - n) ends) (next_above from to to (omega arith)) at)

-- a worker has no queue from itself
pub open_past : (q : Queues) (workers from : ℕ) (inputs : List (List (RingRx HandoffFrame))) → from < workers → AreOpen q workers from from inputs → AreOpen q workers from (suc from) inputs
open_past q workers from inputs low opened = record {
  count = opened.count;
  each =
      all_then (InAt q workers from from) (InAt q workers from (suc from)) 0 inputs opened.each
      (λ own ends h are. elim (same_or_other own from) [
        | inl same ↦
            (let at = own_input q own from workers ends (sym same) low (subst (λ n. AreInputs q own n (workers - n) ends) (next_above from from own (omega (arith, same))) are) in
            subst (λ n. AreInputs q own n (workers - n) ends) (sym (next_below from (suc from) own (omega (arith, same)))) at)
        | inr other ↦ subst (λ n. AreInputs q own n (workers - n) ends) (sym (next_other from from own other)) are
      ]);
}

-- once the queues from a worker are closed, those from the next one come
pub open_next : (q : Queues) (workers from : ℕ) (inputs : List (List (RingRx HandoffFrame))) → AreOpen q workers from workers inputs → AreOpen q workers (suc from) 0 inputs
open_next q workers from inputs opened = record {
  count = opened.count;
  each =
      first_from (InAt q workers (suc from) 0) inputs
      (λ k ends e.
      let low = get_within inputs k ends e in
      let count = opened.count in
      let below_all : k < workers = omega (arith, low, count) in
      let at = first_get (InAt q workers from workers) inputs k ends opened.each e in
      let now : next_from from workers k ≡ next_from (suc from) 0 k = next_below from workers k below_all ∙ sym (next_above (suc from) 0 k (omega arith)) in
      subst (λ n. AreInputs q k n (workers - n) ends) now at);
}

-- the closed queues, with one more
pub closed_more : (q : Queues) (workers from to : ℕ) (rests : List (Rest HandoffFrame)) (rest : Rest HandoffFrame) → to ≢ from → AllWith (IsClosed q) (closed_pairs workers from to) rests → IsClosed q (from, to) rest
    → AllWith (IsClosed q) (closed_pairs workers from (suc to)) (rests ++ rest ∷ [])
closed_more q workers from to rests rest differs all one =
    let pair : ℕ → ℕ × ℕ = λ other. (from, other) in
    let list : others_from from 0 (suc to) ≡ others_from from 0 to ++ to ∷ [] =
    other_last from 0 to (λ e. differs (omega (arith, e))) ∙ ap (λ m. others_from from 0 to ++ m ∷ []) (let z : 0 + to ≡ to = omega arith in z) in
    let pairs_are : closed_pairs workers from to ++ (from, to) ∷ [] ≡ closed_pairs workers from (suc to) =
    append_assoc (flat_map (pairs_of workers) (below from)) (map pair (others_from from 0 to)) ((from, to) ∷ [])
    ∙ ap (λ ps. flat_map (pairs_of workers) (below from) ++ ps) (sym (map_push pair (others_from from 0 to) to) ∙ ap (map pair) (sym list)) in
    subst (λ ps. AllWith (IsClosed q) ps (rests ++ rest ∷ [])) pairs_are (with_more (IsClosed q) (closed_pairs workers from to) rests (from, to) rest all one)

pub closed_past : (workers from : ℕ) → closed_pairs workers from from ≡ closed_pairs workers from (suc from)
closed_past workers from = ap (λ ns. flat_map (pairs_of workers) (below from) ++ map {B = ℕ × ℕ} (λ other. (from, other)) ns) (sym (own_last from 0 from (omega arith)))

pub closed_next : (workers from : ℕ) → closed_pairs workers from workers ≡ closed_pairs workers (suc from) 0
closed_next workers from =
    sym (flat_map-append (pairs_of workers) (below from) (from ∷ []) ∙ ap (λ ps. flat_map (pairs_of workers) (below from) ++ ps) (append-nil (pairs_of workers from)))
    ∙ sym (append-nil (flat_map (pairs_of workers) (below (suc from))))

pub closed_all : (workers : ℕ) → closed_pairs workers workers 0 ≡ pairs workers
closed_all workers = append-nil (pairs workers)

-- all inputs are opened at first
pub open_first : (q : Queues) (outputs : List (List (RingTx HandoffFrame))) (inputs : List (List (RingRx HandoffFrame))) → AreEnds q outputs inputs → AreOpen q (length outputs) 0 0 inputs
open_first q outputs inputs ends = record {
  count = ends.count;
  each =
      all_then (λ own e. AreInputs q own 0 (length outputs) e) (InAt q (length outputs) 0 0) 0 inputs ends.inputs_are
      (λ own e h are. subst (λ n. AreInputs q own n (length outputs - n) e) (sym (next_above 0 0 own (omega arith))) (subst (AreInputs_at own e) (let z : length outputs ≡ length outputs - 0 = omega arith in z) are));
}
  where
    AreInputs_at : (own : ℕ) (e : List (RingRx HandoffFrame)) → ℕ → Type 0
    AreInputs_at own e count = AreInputs q own 0 count e

-- the first of a list that begins with something
first_is : {X : Type 0} (xs : List X) (x y : X) (rest : List X) → xs ≡ y ∷ rest → x ≡ get_or xs 0 x → x ≡ y
first_is xs x y rest is e = e ∙ ap (λ l. get_or l 0 x) is

removed_is : {X : Type 0} (xs : List X) (y : X) (rest : List X) → xs ≡ y ∷ rest → remove xs 0 ≡ rest
removed_is xs y rest is = ap (λ l. remove l 0) is

-- the ends of the next queue are of one ring, and are there
pub record AreNextEnds (q : Queues) (from to : ℕ) (outputs : List (RingTx HandoffFrame)) (ends : List (RingRx HandoffFrame)) : Type 0 where
  pub some_out : 0 < length outputs
  pub some_in : 0 < length ends
  pub one_ring : (tx : RingTx HandoffFrame) (rx : RingRx HandoffFrame) → tx ≡ get_or outputs 0 tx → rx ≡ get_or ends 0 rx → tx_ring tx ≡ rx_ring rx

pub next_ends : (q : Queues) (workers from to : ℕ) (outputs : List (RingTx HandoffFrame)) (inputs : List (List (RingRx HandoffFrame))) (ends : List (RingRx HandoffFrame)) → to ≢ from → from < workers → to < workers
    → AreOutputs q from to (workers - to) outputs → AreOpen q workers from to inputs → ends ≡ get_or inputs to ends → AreNextEnds q from to outputs ends
next_ends q workers from to outputs inputs ends differs from_low to_low outs opened is =
    let count = opened.count in
    let out = next_output q from to workers outputs differs to_low outs in
    let inn = input_at q workers from to inputs ends differs from_low (omega (arith, count, to_low)) is opened in
    record {
      some_out = (let e = ap length out.is in omega (arith, e));
      some_in = (let e = ap length inn.is in omega (arith, e));
      one_ring = λ tx rx tx_is rx_is. ap tx_ring (first_is outputs tx out.tx out.rest out.is tx_is) ∙ out.ring ∙ sym inn.ring ∙ ap rx_ring (sym (first_is ends rx inn.rx inn.rest inn.is rx_is));
    }

-- once it is closed
pub closed_step : (q : Queues) (workers from to : ℕ) (outputs : List (RingTx HandoffFrame)) (inputs : List (List (RingRx HandoffFrame))) (ends : List (RingRx HandoffFrame)) (tx : RingTx HandoffFrame) (rx : RingRx HandoffFrame)
    (rest : Rest HandoffFrame) (rests : List (Rest HandoffFrame)) → to ≢ from → from < workers → to < workers
    → AreOutputs q from to (workers - to) outputs → AreOpen q workers from to inputs → ends ≡ get_or inputs to ends → tx ≡ get_or outputs 0 tx → rx ≡ get_or ends 0 rx
    → all_put rest ≡ put tx → put tx ≡ taken rx ++ left rest
    → AreOutputs q from (suc to) (workers - suc to) (remove outputs 0) × AreOpen q workers from (suc to) (set inputs to (remove ends 0))
    × (AllWith (IsClosed q) (closed_pairs workers from to) rests → AllWith (IsClosed q) (closed_pairs workers from (suc to)) (rests ++ rest ∷ []))
closed_step q workers from to outputs inputs ends tx rx rest rests differs from_low to_low outs opened is tx_is rx_is all_is put_is =
    let count = opened.count in
    let out = next_output q from to workers outputs differs to_low outs in
    let inn = input_at q workers from to inputs ends differs from_low (omega (arith, count, to_low)) is opened in
    let puts : put tx ≡ q.put_on from to = ap put (first_is outputs tx out.tx out.rest out.is tx_is) ∙ out.put_is in
    let takens : taken rx ≡ q.taken_off from to = ap taken (first_is ends rx inn.rx inn.rest inn.is rx_is) ∙ inn.taken_is in (
      subst (AreOutputs q from (suc to) (workers - suc to)) (sym (removed_is outputs out.tx out.rest out.is)) out.left,
      subst (λ (l : List (RingRx HandoffFrame)). AreOpen q workers from (suc to) (set inputs to l)) (sym (removed_is ends inn.rx inn.rest inn.is)) (open_more q workers from to inputs inn.rest differs opened inn.left),
      λ all. closed_more q workers from to rests rest differs all (record { put_is = all_is ∙ puts; left_is = sym puts ∙ put_is ∙ ap (λ l. l ++ left rest) takens }),
    )

pub map_set : {X Y : Type 0} (f : X → Y) (xs : List X) (k : ℕ) (y : X) → map f (set xs k y) ≡ set (map f xs) k (f y)
map_set f [] k y = refl
map_set f (x ∷ xs) zero y = refl
map_set f (x ∷ xs) (suc k) y = ap (λ l. f x ∷ l) (map_set f xs k y)

pub map_at : {X Y : Type 0} (f : X → Y) (xs : List X) (k : ℕ) (x : X) → k < length xs → x ≡ get_or xs k x → f x ≡ get_or (map f xs) k (f x)
map_at f [] k x h e = absurd (omega (arith, h))
map_at f (y ∷ ys) zero x h e = ap f e
map_at f (y ∷ ys) (suc k) x h e = map_at f ys k x (omega (arith, h)) e

-- for `close_from`, clause `rings`: the ring of the queue that is closed next comes behind those that are closed
pub rings_on : (rests more : List (Rest HandoffFrame)) (outputs left : List (RingTx HandoffFrame)) (tx : RingTx HandoffFrame) (rest : Rest HandoffFrame) → 0 < length outputs → tx ≡ get_or outputs 0 tx → left ≡ remove outputs 0
    → more ≡ rests ++ rest ∷ [] → rest_ring rest ≡ tx_ring tx → map rest_ring more ++ map tx_ring left ≡ map rest_ring rests ++ map tx_ring outputs
rings_on rests more [] left tx rest some first behind more_is same = absurd (omega (arith, some))
rings_on rests more (o ∷ os) left tx rest some first behind more_is same =
    ap (λ rs. map rest_ring rs ++ map tx_ring left) more_is ∙ ap (λ rs. rs ++ map tx_ring left) (map-append rest_ring rests (rest ∷ []))
    ∙ append_assoc (map rest_ring rests) (rest_ring rest ∷ []) (map tx_ring left)
    ∙ ap (λ r. map rest_ring rests ++ r ∷ map tx_ring left) (same ∙ ap tx_ring first)
    ∙ ap (λ ts. map rest_ring rests ++ tx_ring o ∷ map tx_ring ts) behind
