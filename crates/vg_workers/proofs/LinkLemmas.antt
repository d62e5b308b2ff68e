-- For link_from and links_of: how the workers of a run are linked, one queue behind the other.
use Rattle.std.proofs.Common.{◌≡◌, ◌≢◌, ℕ, suc, ◌+◌, ◌<◌, ◌≤◌, ◌⊎◌, inl, inr, List, [], ◌∷◌, ◌++◌, length, map, set, get_or, refl, sym, ap, subst, ◌∙◌, arith, length-set}
use Rattle.std.specs.Prelude.{◌==◌, nat_lt, if◌then◌else◌}
use Rattle.std.specs.List.{AllByRecursion}
use Rattle.std.proofs.lemmas.List.{map_push}
use Rattle.std.proofs.lemmas.Bool.{lt-ltb, le-ltb, eq-eqb, ne_eqb, and_from, and_left, and_right, cases_order}
use Rattle.vg_steps.specs.Seated.{TableId}
use Rattle.vg_ring.specs.declared.ends.RingTx.{RingTx}
use Rattle.vg_ring.specs.declared.ends.RingRx.{RingRx}
use Rattle.vg_ring.specs.Ends.{put, taken, tx_ring, rx_ring, tx_slots, AreNew}
use Rattle.vg_journeys.specs.Accounts.{HandoffFrame}
use Rattle.vg_dispatch.specs.declared.links.WorkerLinks.{WorkerLinks}
use Rattle.vg_workers.specs.Places.{AllAt, others_from}
use Rattle.vg_workers.specs.Linked.{IsLinked, AreLinked}
use Rattle.vg_workers.specs.Linking.{outputs_up_to, AreLinkedUpTo, with_ring}
use Rattle.vg_workers.specs.Closing.{next_from}
use Rattle.vg_workers.proofs.PlaceLemmas.{all_push, first_set_with, all_then, first_from, get_is, first_get, get_within, map_same, other_last, own_last, same_or_other}

-- which worker is next, and to how many this one is linked
pub next_below : (from to own : ℕ) → own < to → next_from from to own ≡ suc from
next_below from to own h = ap (λ b. if b then suc from else from) (lt-ltb own to h)

pub next_above : (from to own : ℕ) → to ≤ own → next_from from to own ≡ from
next_above from to own h = ap (λ b. if b then suc from else from) (le-ltb own to h)

pub next_other : (from to own : ℕ) → own ≢ to → next_from from (suc to) own ≡ next_from from to own
next_other from to own differs = elim (cases own to) [
  | inl h ↦ next_below from (suc to) own (omega (arith, h)) ∙ sym (next_below from to own h)
  | inr h ↦ next_above from (suc to) own (grind (arith, h, differs)) ∙ sym (next_above from to own h)
]
  where
    cases : (a b : ℕ) → (a < b) ⊎ (b ≤ a)
    cases a b = grind arith

out_below : (workers from to own : ℕ) → own < from → outputs_up_to workers from to own ≡ workers
out_below workers from to own h = ap (λ b. if b then workers else (if own == from then to else 0)) (lt-ltb own from h)

out_own : (workers from to : ℕ) → outputs_up_to workers from to from ≡ to
out_own workers from to = ap (λ b. if b then workers else (if from == from then to else 0)) (le-ltb from from (omega arith)) ∙ ap (λ b. if b then to else 0) (eq-eqb from from refl)

out_above : (workers from to own : ℕ) → from < own → outputs_up_to workers from to own ≡ 0
out_above workers from to own h =
    ap (λ b. if b then workers else (if own == from then to else 0)) (le-ltb own from (omega (arith, h))) ∙ ap (λ b. if b then to else 0) (ne_eqb own from (λ e. omega (arith, e, h)))

out_other : (workers from to more own : ℕ) → own ≢ from → outputs_up_to workers from to own ≡ outputs_up_to workers from more own
out_other workers from to more own differs = ap (λ b. if nat_lt own from then workers else b) (other to ∙ sym (other more))
  where
    other : (n : ℕ) → (if own == from then n else 0) ≡ 0
    other n = ap (λ b. if b then n else 0) (ne_eqb own from differs)

-- the rings, with one more
this_ring : (ring : ℕ → ℕ → TableId) (from to : ℕ) (new : TableId) → with_ring ring from to new from to ≡ new
this_ring ring from to new = ap (λ b. if b then new else ring from to) (and_from (from == from) (to == to) (eq-eqb from from refl) (eq-eqb to to refl))

other_ring_from : (ring : ℕ → ℕ → TableId) (from to : ℕ) (new : TableId) (a b : ℕ) → a ≢ from → with_ring ring from to new a b ≡ ring a b
other_ring_from ring from to new a b differs = ap (λ c. if c then new else ring a b) (and_left (a == from) (b == to) (ne_eqb a from differs))

other_ring_to : (ring : ℕ → ℕ → TableId) (from to : ℕ) (new : TableId) (a b : ℕ) → b ≢ to → with_ring ring from to new a b ≡ ring a b
other_ring_to ring from to new a b differs = ap (λ c. if c then new else ring a b) (and_right (a == from) (b == to) (ne_eqb b to differs))

abbrev Linked : (slots : ℕ) (ring : ℕ → ℕ → TableId) (own inputs outputs : ℕ) → WorkerLinks (RingTx HandoffFrame) → Type 0
Linked slots ring own inputs outputs l = IsLinked put tx_ring tx_slots slots ring own inputs outputs l

-- a worker's links by rings that are the same there
linked_as : (slots : ℕ) (ring other : ℕ → ℕ → TableId) (own i o j p : ℕ) (l : WorkerLinks (RingTx HandoffFrame)) → Linked slots ring own i o l → i ≡ j → o ≡ p
    → ((m : ℕ) → m < i → ring m own ≡ other m own) → ((m : ℕ) → m < o → ring own m ≡ other own m) → Linked slots other own j p l
linked_as slots ring other own i o j p l is same_i same_o inputs outputs = record {
  inputs_are = is.inputs_are ∙ map_same (λ from. ring from own) (λ from. other from own) own 0 i (λ m h k d. inputs m (omega (arith, k))) ∙ ap (λ n. map (λ from. other from own) (others_from own 0 n)) same_i;
  outputs_are = is.outputs_are ∙ map_same (ring own) (other own) own 0 o (λ m h k d. outputs m (omega (arith, k))) ∙ ap (λ n. map (other own) (others_from own 0 n)) same_o;
  untaken = is.untaken;
  fresh = is.fresh;
}

-- one more output, and one more input
more_output : (slots : ℕ) (ring : ℕ → ℕ → TableId) (own i o : ℕ) (l new : WorkerLinks (RingTx HandoffFrame)) (tx : RingTx HandoffFrame) → o ≢ own → Linked slots ring own i o l
    → new.inputs.items ≡ l.inputs.items → new.outputs.items ≡ l.outputs.items ++ tx ∷ [] → put tx ≡ [] → tx_slots tx ≡ slots → tx_ring tx ≡ ring own o → Linked slots ring own i (suc o) new
more_output slots ring own i o l new tx differs is inputs outputs none_put slots_are ring_is = record {
  inputs_are = ap (map rx_ring) inputs ∙ is.inputs_are;
  outputs_are =
      ap (map tx_ring) outputs ∙ map_push tx_ring l.outputs.items tx ∙ (λ k. is.outputs_are k ++ ring_is k ∷ []) ∙ sym (map_push (ring own) (others_from own 0 o) o)
      ∙ ap (map (ring own)) (sym (other_last own 0 o (λ e. differs (omega (arith, e))) ∙ ap (λ m. others_from own 0 o ++ m ∷ []) (let z : 0 + o ≡ o = omega arith in z)));
  untaken = subst (AllByRecursion (λ (rx : RingRx HandoffFrame). taken rx ≡ [])) (sym inputs) is.untaken;
  fresh =
      subst (AllByRecursion (λ (t : RingTx HandoffFrame). (put t ≡ []) × (tx_slots t ≡ slots))) (sym outputs)
      (all_push (λ (t : RingTx HandoffFrame). (put t ≡ []) × (tx_slots t ≡ slots)) l.outputs.items tx is.fresh (none_put, slots_are));
}

more_input : (slots : ℕ) (ring : ℕ → ℕ → TableId) (own i o : ℕ) (l new : WorkerLinks (RingTx HandoffFrame)) (rx : RingRx HandoffFrame) → i ≢ own → Linked slots ring own i o l
    → new.outputs.items ≡ l.outputs.items → new.inputs.items ≡ l.inputs.items ++ rx ∷ [] → taken rx ≡ [] → rx_ring rx ≡ ring i own → Linked slots ring own (suc i) o new
more_input slots ring own i o l new rx differs is outputs inputs none_taken ring_is = record {
  inputs_are =
      ap (map rx_ring) inputs ∙ map_push rx_ring l.inputs.items rx ∙ (λ k. is.inputs_are k ++ ring_is k ∷ []) ∙ sym (map_push (λ from. ring from own) (others_from own 0 i) i)
      ∙ ap (map (λ from. ring from own)) (sym (other_last own 0 i (λ e. differs (omega (arith, e))) ∙ ap (λ m. others_from own 0 i ++ m ∷ []) (let z : 0 + i ≡ i = omega arith in z)));
  outputs_are = ap (map tx_ring) outputs ∙ is.outputs_are;
  untaken = subst (AllByRecursion (λ (r : RingRx HandoffFrame). taken r ≡ [])) (sym inputs) (all_push (λ (r : RingRx HandoffFrame). taken r ≡ []) l.inputs.items rx is.untaken none_taken);
  fresh = subst (AllByRecursion (λ (t : RingTx HandoffFrame). (put t ≡ []) × (tx_slots t ≡ slots))) (sym outputs) is.fresh;
}

-- all workers so far, by rings
abbrev AreBy : (slots : ℕ) (ring : ℕ → ℕ → TableId) (workers from inputs_to outputs_to : ℕ) → List (WorkerLinks (RingTx HandoffFrame)) → Type 0
AreBy slots ring workers from inputs_to outputs_to links =
    AllAt (λ own l. Linked slots ring own (next_from from inputs_to own) (outputs_up_to workers from outputs_to own) l) 0 links

-- a queue from the one to the other: first its one end is put, and then its other
output_put : (slots : ℕ) (ring : ℕ → ℕ → TableId) (workers from to : ℕ) (links : List (WorkerLinks (RingTx HandoffFrame))) (l new : WorkerLinks (RingTx HandoffFrame)) (tx : RingTx HandoffFrame)
    → to ≢ from → from < length links → l ≡ get_or links from l → AreBy slots ring workers from to to links → new.inputs.items ≡ l.inputs.items → new.outputs.items ≡ l.outputs.items ++ tx ∷ []
    → put tx ≡ [] → tx_slots tx ≡ slots → AreBy slots (with_ring ring from to (tx_ring tx)) workers from to (suc to) (set links from new)
output_put slots ring workers from to links l new tx differs within is all inputs outputs none_put slots_are =
    let rings = with_ring ring from to (tx_ring tx) in
    let before = first_get (λ own l. Linked slots ring own (next_from from to own) (outputs_up_to workers from to own) l) links from l all (get_is links from l within is) in
    first_set_with (λ own l. Linked slots ring own (next_from from to own) (outputs_up_to workers from to own) l)
    (λ own l. Linked slots rings own (next_from from to own) (outputs_up_to workers from (suc to) own) l) links from new all
    (λ own x other linked.
    let apart : own ≢ from = other in
    elim (same_or_other own to) [
      | inl same ↦
          linked_as slots ring rings own _ _ _ _ x linked refl (out_other workers from to (suc to) own apart)
          (λ m h. sym (other_ring_from ring from to (tx_ring tx) m own (let low : next_from from to own ≡ from = next_above from to own (omega (arith, same)) in λ e. omega (arith, e, h, low))))
          (λ m h. sym (other_ring_from ring from to (tx_ring tx) own m apart))
      | inr apart_to ↦
          linked_as slots ring rings own _ _ _ _ x linked refl (out_other workers from to (suc to) own apart) (λ m h. sym (other_ring_to ring from to (tx_ring tx) m own apart_to))
          (λ m h. sym (other_ring_from ring from to (tx_ring tx) own m apart))
    ])
    (let here : Linked slots rings from (next_from from to from) to l =
    linked_as slots ring rings from _ _ _ _ l before refl (out_own workers from to) (λ m h. sym (other_ring_to ring from to (tx_ring tx) m from (λ e. differs (sym e))))
    (λ m h. sym (other_ring_to ring from to (tx_ring tx) from m (let few = out_own workers from to in λ e. omega (arith, e, h, few)))) in
    let done = more_output slots rings from (next_from from to from) to l new tx differs here inputs outputs none_put slots_are (sym (this_ring ring from to (tx_ring tx))) in
    subst (λ o. Linked slots rings from (next_from from to from) o new) (sym (out_own workers from (suc to))) done)

input_put : (slots : ℕ) (ring : ℕ → ℕ → TableId) (workers from to : ℕ) (links : List (WorkerLinks (RingTx HandoffFrame))) (l new : WorkerLinks (RingTx HandoffFrame)) (rx : RingRx HandoffFrame)
    → to ≢ from → to < length links → l ≡ get_or links to l → AreBy slots ring workers from to (suc to) links → new.outputs.items ≡ l.outputs.items → new.inputs.items ≡ l.inputs.items ++ rx ∷ []
    → taken rx ≡ [] → rx_ring rx ≡ ring from to → AreBy slots ring workers from (suc to) (suc to) (set links to new)
input_put slots ring workers from to links l new rx differs within is all outputs inputs none_taken ring_is =
    let before = first_get (λ own l. Linked slots ring own (next_from from to own) (outputs_up_to workers from (suc to) own) l) links to l all (get_is links to l within is) in
    first_set_with (λ own l. Linked slots ring own (next_from from to own) (outputs_up_to workers from (suc to) own) l)
    (λ own l. Linked slots ring own (next_from from (suc to) own) (outputs_up_to workers from (suc to) own) l) links to new all
    (λ own x other linked.
    subst (λ i. Linked slots ring own i (outputs_up_to workers from (suc to) own) x)
    (sym (next_other from to own other)) linked)
    (let here : Linked slots ring to from (outputs_up_to workers from (suc to) to) l =
    subst (λ i. Linked slots ring to i (outputs_up_to workers from (suc to) to) l) (next_above from to to (omega arith)) before in
    let done = more_input slots ring to from (outputs_up_to workers from (suc to) to) l new rx (λ e. differs (sym e)) here outputs inputs none_taken ring_is in
    subst (λ i. Linked slots ring to i (outputs_up_to workers from (suc to) to) new) (sym (next_below from (suc to) to (omega arith))) done)

-- a queue more
pub linked_more : (slots from to : ℕ) (links : List (WorkerLinks (RingTx HandoffFrame))) (l one m two : WorkerLinks (RingTx HandoffFrame)) (tx : RingTx HandoffFrame) (rx : RingRx HandoffFrame) → to ≢ from
    → from < length links → to < length links → AreLinkedUpTo slots from to to links → l ≡ get_or links from l → one.inputs.items ≡ l.inputs.items → one.outputs.items ≡ l.outputs.items ++ tx ∷ []
    → m ≡ get_or (set links from one) to m → two.outputs.items ≡ m.outputs.items → two.inputs.items ≡ m.inputs.items ++ rx ∷ [] → AreNew slots tx rx
    → AreLinkedUpTo slots from (suc to) (suc to) (set (set links from one) to two)
linked_more slots from to links l one m two tx rx differs from_within to_within so_far l_is one_in one_out m_is two_out two_in new =
    let workers : ℕ = length links in
    let first = output_put slots so_far.ring workers from to links l one tx differs from_within l_is so_far.each one_in one_out new.3 new.1 in
    let same : length (set links from one) ≡ workers = length-set links from one in
    let second = input_put slots (with_ring so_far.ring from to (tx_ring tx)) workers from to (set links from one) m two rx differs (omega (arith, same, to_within)) m_is first two_out two_in new.4
    (sym new.0 ∙ sym (this_ring so_far.ring from to (tx_ring tx))) in
    let again : length (set (set links from one) to two) ≡ workers = length-set (set links from one) to two ∙ same in
    record {
      ring = with_ring so_far.ring from to (tx_ring tx);
      each = subst (λ w. AreBy slots (with_ring so_far.ring from to (tx_ring tx)) w from (suc to) (suc to) (set (set links from one) to two)) (sym again) second;
    }

-- a worker isn't linked with itself
pub linked_past : (slots from : ℕ) (links : List (WorkerLinks (RingTx HandoffFrame))) → AreLinkedUpTo slots from from from links → AreLinkedUpTo slots from (suc from) (suc from) links
linked_past slots from links so_far = record {
  ring = so_far.ring;
  each =
      all_then (λ own l. Linked slots so_far.ring own (next_from from from own) (outputs_up_to (length links) from from own) l)
      (λ own l. Linked slots so_far.ring own (next_from from (suc from) own) (outputs_up_to (length links) from (suc from) own) l) 0 links so_far.each
      (λ own x h linked. elim (same_or_other own from) [
        | inl same ↦ subst (λ n. Linked slots so_far.ring n (next_from from (suc from) n) (outputs_up_to (length links) from (suc from) n) x) (sym same) (here x (subst (λ n. Linked slots so_far.ring n (next_from from from n) (outputs_up_to (length links) from from n) x) same linked))
        | inr other ↦
            linked_as slots so_far.ring so_far.ring own _ _ _ _ x linked (sym (next_other from from own other)) (out_other (length links) from from (suc from) own other) (λ m k. refl) (λ m k. refl)
      ]);
}
  where
    here : (x : WorkerLinks (RingTx HandoffFrame)) → Linked slots so_far.ring from (next_from from from from) (outputs_up_to (length links) from from from) x
        → Linked slots so_far.ring from (next_from from (suc from) from) (outputs_up_to (length links) from (suc from) from) x
    here x linked =
        let at = linked_as slots so_far.ring so_far.ring from _ _ _ _ x linked (next_above from from from (omega arith)) (out_own (length links) from from) (λ m k. refl) (λ m k. refl) in
        let past : others_from from 0 (suc from) ≡ others_from from 0 from = own_last from 0 from (omega arith) in
        let more : Linked slots so_far.ring from (suc from) (suc from) x = record {
          inputs_are = at.inputs_are ∙ ap (map (λ n. so_far.ring n from)) (sym past);
          outputs_are = at.outputs_are ∙ ap (map (so_far.ring from)) (sym past);
          untaken = at.untaken;
          fresh = at.fresh;
        } in
        linked_as slots so_far.ring so_far.ring from _ _ _ _ x more (sym (next_below from (suc from) from (omega arith))) (sym (out_own (length links) from (suc from))) (λ m k. refl) (λ m k. refl)

-- once a worker is linked to all, the next one comes
pub linked_next : (slots from : ℕ) (links : List (WorkerLinks (RingTx HandoffFrame))) → from < length links → AreLinkedUpTo slots from (length links) (length links) links → AreLinkedUpTo slots (suc from) 0 0 links
linked_next slots from links within so_far = record {
  ring = so_far.ring;
  each =
      first_from (λ own l. Linked slots so_far.ring own (next_from (suc from) 0 own) (outputs_up_to (length links) (suc from) 0 own) l) links
      (λ k x e.
      let low = get_within links k x e in
      linked_as slots so_far.ring so_far.ring k _ _ _ _ x
      (first_get (λ own l. Linked slots so_far.ring own (next_from from (length links) own) (outputs_up_to (length links) from (length links) own) l) links k x so_far.each e)
      (next_below from (length links) k low ∙ sym (next_above (suc from) 0 k (omega arith))) (outs k low) (λ m h. refl) (λ m h. refl));
}
  where
    outs : (k : ℕ) → k < length links → outputs_up_to (length links) from (length links) k ≡ outputs_up_to (length links) (suc from) 0 k
    outs k low = elim (cases_order k from) [
      | inl same ↦ ap (λ n. outputs_up_to (length links) from (length links) n) same ∙ out_own (length links) from (length links) ∙ sym (out_below (length links) (suc from) 0 k (omega (arith, same)))
      | inr apart ↦ elim apart [
        | inl before ↦ out_below (length links) from (length links) k before ∙ sym (out_below (length links) (suc from) 0 k (omega (arith, before)))
        | inr behind ↦ out_above (length links) from (length links) k behind ∙ sym (none k behind)
      ]
    ]
      where
        none : (k : ℕ) → from < k → outputs_up_to (length links) (suc from) 0 k ≡ 0
        none k behind = elim (same_or_other k (suc from)) [
          | inl at ↦ ap (λ n. outputs_up_to (length links) (suc from) 0 n) at ∙ out_own (length links) (suc from) 0
          | inr other ↦ out_above (length links) (suc from) 0 k (grind (arith, behind, other))
        ]

-- no worker is linked at first
pub linked_none : (slots : ℕ) (links : List (WorkerLinks (RingTx HandoffFrame)))
    → AllByRecursion (λ (l : WorkerLinks (RingTx HandoffFrame)). (l.inputs.items ≡ []) × (l.outputs.items ≡ [])) links → AreLinkedUpTo slots 0 0 0 links
linked_none slots links none = record { ring = λ a b. id; each = here 0 links none }
  where
    id : TableId
    id = record { words = 0; slots = 0; views_name = 0; atom = 0; block = 0; offset = 0; slot_names = [] }

    here : (n : ℕ) (ls : List (WorkerLinks (RingTx HandoffFrame))) → AllByRecursion (λ (l : WorkerLinks (RingTx HandoffFrame)). (l.inputs.items ≡ []) × (l.outputs.items ≡ [])) ls
        → AllAt (λ own l. Linked slots (λ a b. id) own (next_from 0 0 own) (outputs_up_to (length links) 0 0 own) l) n ls
    here n [] none = tt
    here n (l ∷ ls) none = (
      linked_as slots (λ a b. id) (λ a b. id) n 0 0 _ _ l
          (record {
            inputs_are = ap (map rx_ring) none.0.0;
            outputs_are = ap (map tx_ring) none.0.1;
            untaken = subst (AllByRecursion (λ (r : RingRx HandoffFrame). taken r ≡ [])) (sym none.0.0) tt;
            fresh = subst (AllByRecursion (λ (t : RingTx HandoffFrame). (put t ≡ []) × (tx_slots t ≡ slots))) (sym none.0.1) tt;
          })
          (sym (next_above 0 0 n (omega arith))) (sym (no_outputs n)) (λ m h. refl) (λ m h. refl),
      here (suc n) ls none.1,
    )
      where
        no_outputs : (n : ℕ) → outputs_up_to (length links) 0 0 n ≡ 0
        no_outputs n = elim (same_or_other n 0) [
          | inl at ↦ ap (λ m. outputs_up_to (length links) 0 0 m) at ∙ out_own (length links) 0 0
          | inr other ↦ out_above (length links) 0 0 n (grind (arith, other))
        ]

-- all are
pub linked_all : (slots workers : ℕ) (links : List (WorkerLinks (RingTx HandoffFrame))) → length links ≡ workers → AreLinkedUpTo slots (length links) 0 0 links
    → AreLinked put tx_ring tx_slots workers slots links
linked_all slots workers links count so_far = record {
  count = count;
  ring = so_far.ring;
  each =
      subst (λ w. AllAt (λ own l. Linked slots so_far.ring own w w l) 0 links) count
      (first_from (λ own l. Linked slots so_far.ring own (length links) (length links) l) links
      (λ k x e.
      linked_as slots so_far.ring so_far.ring k _ _ _ _ x
      (first_get (λ own l. Linked slots so_far.ring own (next_from (length links) 0 own) (outputs_up_to (length links) (length links) 0 own) l) links k x so_far.each e)
      (next_above (length links) 0 k (omega arith)) (out_below (length links) (length links) 0 k (get_within links k x e)) (λ m h. refl) (λ m h. refl)));
}
