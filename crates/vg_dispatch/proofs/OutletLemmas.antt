-- For `tick_all`, clause `ticked`, and for the ticks of a round: handoffs tick one after the other.
use Rattle.std.proofs.Common.{◌≡◌, ℕ, zero, suc, ◌+◌, ◌<◌, ◌≤◌, ◌⊎◌, inl, inr, Bool, List, [], ◌∷◌, ◌++◌, length, map, get_or, set, add-one, refl, sym, ap, subst, ◌∙◌, arith, length-append}
use Rattle.std.specs.List.{AllByRecursion}
use Rattle.vg_steps.specs.Seated.{TableId}
use Rattle.vg_steps.specs.Trails.{found}
use Rattle.vg_steps.specs.declared.notes.Found.{Found}
use Rattle.vg_ring.specs.declared.ends.RingTx.{RingTx}
use Rattle.vg_ring.specs.Ends.{put, head_seen, tx_trail}
use Rattle.vg_ring.specs.WordPlaces.{head_word}
use Rattle.vg_hands.specs.Filling.{Fills}
use Rattle.vg_hands.specs.Filling as filling
use Rattle.vg_journeys.specs.Accounts.{HandoffFrame, frames_with}
use Rattle.vg_underway.specs.Peers.{by_worker}
use Rattle.vg_underway.specs.Outlets.{Outlet, outlet_with, no_outlet, IsTicked, AreTicked}

-- what a tick says of its handoff, by the end of the ring: the frames accepted are those put and those held
pub ticked_ends : {before after : RingTx HandoffFrame} {ring : TableId} {slots new_slots held : ℕ} {accepted new_accepted : List HandoffFrame} → Fills after ring new_slots new_accepted held → new_slots ≡ slots → new_accepted ≡ accepted
    → (held ≡ 0) ⊎ filling.EndsFull before after → (held ≡ 0) ⊎ ((earlier : List Found) × (tx_trail after ≡ found head_word (head_seen after) ∷ (earlier ++ tx_trail before)) × (head_seen after + slots + held ≡ length accepted))
ticked_ends fills slots_are same (inl none) = inl none
ticked_ends {before} {after} fills slots_are same (inr full) = inr (
  full.earlier.0,
  full.read ∙ ap (λ ts. found head_word (head_seen after) ∷ ts) full.earlier.1,
  (let head = full.by_the_head in
      let all = ap length fills.in_order in
      let both = length-append (put after) fills.held in
      let held_is = fills.count in
      let size = ap length same in
      let ring_slots = fills.slots_are in
      omega (arith, head, all, both, held_is, size, ring_slots, slots_are)),
)

module _ {X : Type 0} (slots : X → ℕ) (lossless : Bool) (accepted : X → List HandoffFrame) (outlet : X → Outlet) where
  -- the first of them have ticked
  abbrev pub AreTickedTo : ℕ → List X → List X → Type 0
  AreTickedTo zero os ns = ns ≡ os
  AreTickedTo (suc k) [] ns = ns ≡ []
  AreTickedTo (suc k) (o ∷ os) [] = ⊥
  AreTickedTo (suc k) (o ∷ os) (n ∷ ns) = IsTicked (slots o) lossless (accepted o) (outlet o) (outlet n) × AreTickedTo k os ns

  ticked_next : (os xs : List X) (k : ℕ) (x d : X) → k < length xs → AreTickedTo k os xs → IsTicked (slots (get_or xs k d)) lossless (accepted (get_or xs k d)) (outlet (get_or xs k d)) (outlet x)
      → AreTickedTo (suc k) os (set xs k x)
  ticked_next os [] k x d inside all one = absurd (omega (arith, inside))
  ticked_next os (y ∷ ys) zero x d inside all one = subst (λ zs. AreTickedTo 1 zs (x ∷ ys)) all (one, refl)
  ticked_next [] (y ∷ ys) (suc k) x d inside all one = absurd (let e = ap length all in omega (arith, e))
  ticked_next (o ∷ os) (y ∷ ys) (suc k) x d inside all one = (all.0, ticked_next os ys k x d (omega (arith, inside)) all.1 one)

  -- one more ticks
  pub ticked_set : (os xs : List X) (k : ℕ) (x d : X) → k < length xs → AreTickedTo k os xs → IsTicked (slots (get_or xs k d)) lossless (accepted (get_or xs k d)) (outlet (get_or xs k d)) (outlet x)
      → AreTickedTo (k + 1) os (set xs k x)
  ticked_set os xs k x d inside all one = subst (λ n. AreTickedTo n os (set xs k x)) (sym (add-one k)) (ticked_next os xs k x d inside all one)

  -- all have ticked
  pub ticked_all : (os xs : List X) (k : ℕ) → length xs ≤ k → AreTickedTo k os xs → AreTicked slots lossless accepted outlet os xs
  ticked_all os [] zero few all = subst (λ zs. AreTicked slots lossless accepted outlet zs []) all tt
  ticked_all os (y ∷ ys) zero few all = absurd (omega (arith, few))
  ticked_all [] xs (suc k) few all = subst (AreTicked slots lossless accepted outlet []) (sym all) tt
  ticked_all (o ∷ os) [] (suc k) few all = absurd all
  ticked_all (o ∷ os) (y ∷ ys) (suc k) few all = (all.0, ticked_all os ys k (omega (arith, few)) all.1)

  -- by worker, where all have the slots of the run's queues
  none_ticked : (queue : ℕ) → IsTicked queue lossless [] no_outlet no_outlet
  none_ticked queue = record {
    head_rises = omega arith;
    still = λ e. (refl, refl);
    steps = ([], refl);
    refused = refl;
    fewer = omega arith;
    ends = inl refl;
    room = omega arith;
    gate = λ closed. closed;
  }

  abbrev TickedAt : ℕ → List X → List X → ℕ → Type 0
  TickedAt queue os ns k = IsTicked queue lossless (frames_with k (map accepted os)) (outlet_with k (map outlet os)) (outlet_with k (map outlet ns))

  ticked_at : (queue : ℕ) (os ns : List X) → AllByRecursion (λ n. n ≡ queue) (map slots os) → AreTicked slots lossless accepted outlet os ns → (k : ℕ) → TickedAt queue os ns k
  ticked_at queue [] [] sizes all k = none_ticked queue
  ticked_at queue [] (n ∷ ns) sizes all k = absurd all
  ticked_at queue (o ∷ os) [] sizes all k = absurd all
  ticked_at queue (o ∷ os) (n ∷ ns) sizes all zero = subst (λ size. IsTicked size lossless (accepted o) (outlet o) (outlet n)) sizes.0 all.0
  ticked_at queue (o ∷ os) (n ∷ ns) sizes all (suc k) = ticked_at queue os ns sizes.1 all.1 k

  pub ticked_by : (queue worker : ℕ) (os ns : List X) → AllByRecursion (λ n. n ≡ queue) (map slots os) → AreTicked slots lossless accepted outlet os ns → (to : ℕ)
      → IsTicked queue lossless (frames_with to (by_worker worker [] (map accepted os))) (outlet_with to (by_worker worker no_outlet (map outlet os))) (outlet_with to (by_worker worker no_outlet (map outlet ns)))
  ticked_by queue zero os ns sizes all zero = none_ticked queue
  ticked_by queue zero os ns sizes all (suc k) = ticked_at queue os ns sizes all k
  ticked_by queue (suc n) [] [] sizes all zero = none_ticked queue
  ticked_by queue (suc n) [] [] sizes all (suc k) = none_ticked queue
  ticked_by queue (suc n) [] (y ∷ ys) sizes all to = absurd all
  ticked_by queue (suc n) (x ∷ xs) [] sizes all to = absurd all
  ticked_by queue (suc n) (x ∷ xs) (y ∷ ys) sizes all zero = subst (λ size. IsTicked size lossless (accepted x) (outlet x) (outlet y)) sizes.0 all.0
  ticked_by queue (suc n) (x ∷ xs) (y ∷ ys) sizes all (suc k) = ticked_by queue n xs ys sizes.1 all.1 k
