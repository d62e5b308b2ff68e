-- For the clause `outcome` of `conclude`, and for what its calls require: the workers of a run at its end.
use Rattle.std.proofs.Common.{◌≡◌, ℕ, zero, suc, ◌+◌, ◌<◌, ◌≤◌, inl, inr, List, [], ◌∷◌, ◌++◌, length, map, get_or, refl, sym, ap, subst, ◌∙◌, arith, append-nil}
use Rattle.std.specs.Prelude.{Bool, slice_get, Some}
use Rattle.std.specs.List.{AllByRecursion, sum_by}
use Rattle.std.proofs.lemmas.List.{length-map, map_push}
use Rattle.std.proofs.lemmas.List.Sums.{sum_by-cons}
use Rattle.std.proofs.lemmas.Option.{none-some, same_Some}
use Rattle.vg_steps.specs.Seated.{TableId}
use Rattle.vg_model.specs.Visit.{Visit}
use Rattle.vg_capture.specs.declared.captures.Capture.{Capture}
use Rattle.vg_plan.specs.Plan.{Planned}
use Rattle.vg_ring.specs.declared.ends.RingTx.{RingTx}
use Rattle.vg_ring.specs.declared.ends.RingRx.{RingRx}
use Rattle.vg_ring.specs.declared.rest.Rest.{Rest}
use Rattle.vg_ring.specs.Ends.{put, taken, tx_ring, rx_ring}
use Rattle.vg_ring.specs.Rests.{all_put, left}
use Rattle.vg_journeys.specs.Accounts.{Account, HandoffFrame, frames_with, below}
use Rattle.vg_journeys.specs.Moments.{StandsFor, IsMoment, IsOver}
use Rattle.vg_journeys.proofs.JoinLemmas.{all_below}
use Rattle.vg_journeys.proofs.BufferLemmas.{nothing_left}
use Rattle.vg_dispatch.specs.declared.options.Options.{Options}
use Rattle.vg_dispatch.specs.declared.parcels.Stop.TheVariants as stops
use Rattle.vg_underway.specs.Peers.{by_worker}
use Rattle.vg_underway.proofs.PeerLemmas.{peers_own}
use Rattle.vg_dispatch.specs.Workers.{WorkerBook, account_of}
use Rattle.vg_dispatch.specs.Standing.{run_of, traced_of}
use Rattle.vg_workers.specs.Places.{AllAt, AllWith, others_from, pairs}
use Rattle.vg_workers.specs.Crews.{IsMember, IsCrew, HaveEnded, AreDone, account_at}
use Rattle.vg_workers.specs.Closing.{Queues, AreOutputs, AreInputs, AreEnds, IsClosed}
use Rattle.vg_workers.specs.Ended.{HasInputs, HasOutputs}
use Rattle.vg_workers.proofs.PlaceLemmas.{first_get, get_some, zip_at, with_length, with_then, with_first, entries_are, each_pair, pair_in, same_or_other}
use Rattle.vg_workers.proofs.CrewLemmas.{account_is}

-- what is known of the queues between these workers
abbrev pub queues_of : (ring : ℕ → ℕ → TableId) → List WorkerBook → Queues
queues_of ring ws = record {
  ring = ring;
  put_on = λ from to. frames_with to (account_at ws from).put;
  taken_off = λ from to. frames_with from (account_at ws to).taken;
}

-- each worker has taken what each other has put, and its queue has nothing left
pub record IsEmptied (q : Queues) (pair : ℕ × ℕ) (rest : Rest HandoffFrame) : Type 0 where
  pub put_is : all_put rest ≡ q.put_on pair.0 pair.1
  pub taken_is : q.put_on pair.0 pair.1 ≡ q.taken_off pair.0 pair.1
  pub none_left : left rest ≡ []

module _ (visit : Visit) (lossless : Bool) (plan : Planned) (capture : Capture) (options : Options) (barrier : TableId) (ws : List WorkerBook)
    (crew : IsCrew visit lossless plan capture options barrier ws) where
  -- a worker by its number
  member_at : (k : ℕ) (w : WorkerBook) → slice_get ws k ≡ Some w → IsMember visit lossless plan capture options barrier crew.ring k w
  member_at k w e = first_get (IsMember visit lossless plan capture options barrier crew.ring) ws k w crew.each e

  -- its ends of queues
  outputs_are : (k : ℕ) (w : WorkerBook) (ends : List (RingTx HandoffFrame)) → slice_get ws k ≡ Some w → HasOutputs w ends → AreOutputs (queues_of crew.ring ws) k 0 options.workers ends
  outputs_are k w ends e has =
      let member = member_at k w e in
      let f : ℕ → List HandoffFrame = λ to. frames_with to (account_at ws k).put in
      let size : length (map put ends) + 1 ≡ options.workers =
      (let one = length-map ends put in let two = length-map ends tx_ring in let three = ap length has.rings in let four = member.stands.work.outputs in omega (arith, one, two, three, four)) in
      let number : w.number ≡ k = member.number_is in
      let low : k ≤ length (map put ends) = (let within = member.stands.work.stands.within in omega (arith, within, number, size)) in
      let at : (i : ℕ) → f (0 + i) ≡ get_or (by_worker k [] (map put ends)) i [] = λ i.
      ap (λ n. frames_with n (account_at ws k).put) (let z : 0 + i ≡ i = omega arith in z) ∙ ap (λ a. frames_with i a.put) (account_is ws k w e) ∙ ap (λ ps. frames_with i ps) (sym has.puts)
      ∙ ap (λ n. get_or (by_worker n [] (map put ends)) i []) number in
      let list : others_from (0 + k) 0 (suc (length (map put ends))) ≡ others_from k 0 options.workers =
      ap (λ n. others_from n 0 (suc (length (map put ends)))) (let z : 0 + k ≡ k = omega arith in z) ∙ ap (others_from k 0) (let z : suc (length (map put ends)) ≡ options.workers = omega (arith, size) in z) in
      record {
        rings = has.rings ∙ member.outputs;
        puts = sym (entries_are f [] [] 0 k (map put ends) low at) ∙ ap (map f) list;
      }

  inputs_are : (k : ℕ) (w : WorkerBook) (ends : List (RingRx HandoffFrame)) → slice_get ws k ≡ Some w → HasInputs w ends → AreInputs (queues_of crew.ring ws) k 0 options.workers ends
  inputs_are k w ends e has =
      let member = member_at k w e in
      let f : ℕ → List HandoffFrame = λ from. frames_with from (account_at ws k).taken in
      let size : length (map taken ends) + 1 ≡ options.workers =
      (let one = length-map ends taken in let two = length-map ends rx_ring in let three = ap length has.rings in let four = member.stands.work.inputs in omega (arith, one, two, three, four)) in
      let number : w.number ≡ k = member.number_is in
      let low : k ≤ length (map taken ends) = (let within = member.stands.work.stands.within in omega (arith, within, number, size)) in
      let at : (i : ℕ) → f (0 + i) ≡ get_or (by_worker k [] (map taken ends)) i [] = λ i.
      ap (λ n. frames_with n (account_at ws k).taken) (let z : 0 + i ≡ i = omega arith in z) ∙ ap (λ a. frames_with i a.taken) (account_is ws k w e) ∙ ap (λ ps. frames_with i ps) (sym has.takens)
      ∙ ap (λ n. get_or (by_worker n [] (map taken ends)) i []) number in
      let list : others_from (0 + k) 0 (suc (length (map taken ends))) ≡ others_from k 0 options.workers =
      ap (λ n. others_from n 0 (suc (length (map taken ends)))) (let z : 0 + k ≡ k = omega arith in z) ∙ ap (others_from k 0) (let z : suc (length (map taken ends)) ≡ options.workers = omega (arith, size) in z) in
      record {
        rings = has.rings ∙ member.inputs;
        takens = sym (entries_are f [] [] 0 k (map taken ends) low at) ∙ ap (map f) list;
      }

  -- all ends
  pub ends_are : (outputs : List (List (RingTx HandoffFrame))) (inputs : List (List (RingRx HandoffFrame))) → AllWith HasOutputs ws outputs → AllWith HasInputs ws inputs
      → AreEnds (queues_of crew.ring ws) outputs inputs
  ends_are outputs inputs outs ins =
      let many_out = with_length HasOutputs ws outputs outs in
      let many_in = with_length HasInputs ws inputs ins in
      let count : options.workers ≡ length outputs = sym crew.count ∙ many_out in
      record {
        count = sym many_in ∙ many_out;
        outputs_are =
            subst (λ n. AllAt (λ own ends. AreOutputs (queues_of crew.ring ws) own 0 n ends) 0 outputs) count
            (zip_at HasOutputs (λ own ends. AreOutputs (queues_of crew.ring ws) own 0 options.workers ends) 0 ws outputs outs (λ k w ends e has.
            subst (λ own. AreOutputs (queues_of crew.ring ws) own 0 options.workers ends) (let z : k ≡ 0 + k = omega arith in z) (outputs_are k w ends e has)));
        inputs_are =
            subst (λ n. AllAt (λ own ends. AreInputs (queues_of crew.ring ws) own 0 n ends) 0 inputs) count
            (zip_at HasInputs (λ own ends. AreInputs (queues_of crew.ring ws) own 0 options.workers ends) 0 ws inputs ins (λ k w ends e has.
            subst (λ own. AreInputs (queues_of crew.ring ws) own 0 options.workers ends) (let z : k ≡ 0 + k = omega arith in z) (inputs_are k w ends e has)));
      }

  -- nothing is left in the closed queues
  pub rests_empty : (rests : List (Rest HandoffFrame)) → AreDone ws → AllWith (IsClosed (queues_of crew.ring ws)) (pairs options.workers) rests
      → AllWith (IsEmptied (queues_of crew.ring ws)) (pairs options.workers) rests
  rests_empty rests done closed =
      let q = queues_of crew.ring ws in
      with_then (IsClosed q) (IsEmptied q) (pairs options.workers) rests closed
      (each_pair (λ pair. (rest : Rest HandoffFrame) → IsClosed q pair rest → IsEmptied q pair rest) options.workers options.workers (omega arith)
      (λ a b low high differs rest closed.
      let count = crew.count in
      let as_many = done.given a (omega (arith, count, low)) b (omega (arith, count, high)) (λ e. differs (sym e)) in
      let none = nothing_left (q.put_on a b) (q.taken_off a b) (left rest) closed.left_is as_many in
      record { put_is = closed.put_is; taken_is = closed.left_is ∙ ap (λ l. q.taken_off a b ++ l) none ∙ append-nil (q.taken_off a b); none_left = none }))

  -- a worker puts nothing for itself, and takes nothing of itself
  own_put : (outputs : List (List (RingTx HandoffFrame))) → AllWith HasOutputs ws outputs → (k : ℕ) → k < length ws → frames_with k (account_at ws k).put ≡ []
  own_put outputs outs k h =
      ap (λ n. frames_with n (account_at ws k).put) (let z : k ≡ 0 + k = omega arith in z)
      ∙ here ws 0 outputs outs (λ i w e. subst (λ n. IsMember visit lossless plan capture options barrier crew.ring n w) (let z : i ≡ 0 + i = omega arith in z) (member_at i w e)) k h
    where
      here : (vs : List WorkerBook) (n : ℕ) (os : List (List (RingTx HandoffFrame))) → AllWith HasOutputs vs os
          → ((i : ℕ) (w : WorkerBook) → slice_get vs i ≡ Some w → IsMember visit lossless plan capture options barrier crew.ring (n + i) w) → (k : ℕ) → k < length vs
          → frames_with (n + k) (account_at vs k).put ≡ []
      here [] n [] all member k h = absurd (omega (arith, h))
      here [] n (o ∷ os) all member k h = absurd all
      here (v ∷ vs) n [] all member k h = absurd all
      here (v ∷ vs) n (o ∷ os) all member zero h =
          let is = member 0 v refl in
          let number : v.number ≡ n + 0 = is.number_is in
          let size = (let one = length-map o put in let two = length-map o tx_ring in let three = ap length all.0.rings in let four = is.stands.work.outputs in let five = is.stands.work.stands.within in
          let low : v.number ≤ length (map put o) = omega (arith, one, two, three, four, five) in low) in
          ap (λ m. frames_with m v.put) (sym number) ∙ ap (λ ps. frames_with v.number ps) (sym all.0.puts) ∙ peers_own v.number [] (map put o) [] size
      here (v ∷ vs) n (o ∷ os) all member (suc k) h =
          ap (λ m. frames_with m (account_at vs k).put) (let z : n + suc k ≡ suc n + k = omega arith in z)
          ∙ here vs (suc n) os all.1 (λ i w e. subst (λ m. IsMember visit lossless plan capture options barrier crew.ring m w) (let z : n + suc i ≡ suc n + i = omega arith in z) (member (suc i) w e)) k (omega (arith, h))

  own_taken : (inputs : List (List (RingRx HandoffFrame))) → AllWith HasInputs ws inputs → (k : ℕ) → k < length ws → frames_with k (account_at ws k).taken ≡ []
  own_taken inputs ins k h =
      ap (λ n. frames_with n (account_at ws k).taken) (let z : k ≡ 0 + k = omega arith in z)
      ∙ here ws 0 inputs ins (λ i w e. subst (λ n. IsMember visit lossless plan capture options barrier crew.ring n w) (let z : i ≡ 0 + i = omega arith in z) (member_at i w e)) k h
    where
      here : (vs : List WorkerBook) (n : ℕ) (os : List (List (RingRx HandoffFrame))) → AllWith HasInputs vs os
          → ((i : ℕ) (w : WorkerBook) → slice_get vs i ≡ Some w → IsMember visit lossless plan capture options barrier crew.ring (n + i) w) → (k : ℕ) → k < length vs
          → frames_with (n + k) (account_at vs k).taken ≡ []
      here [] n [] all member k h = absurd (omega (arith, h))
      here [] n (o ∷ os) all member k h = absurd all
      here (v ∷ vs) n [] all member k h = absurd all
      here (v ∷ vs) n (o ∷ os) all member zero h =
          let is = member 0 v refl in
          let number : v.number ≡ n + 0 = is.number_is in
          let size = (let one = length-map o taken in let two = length-map o rx_ring in let three = ap length all.0.rings in let four = is.stands.work.inputs in let five = is.stands.work.stands.within in
          let low : v.number ≤ length (map taken o) = omega (arith, one, two, three, four, five) in low) in
          ap (λ m. frames_with m v.taken) (sym number) ∙ ap (λ ps. frames_with v.number ps) (sym all.0.takens) ∙ peers_own v.number [] (map taken o) [] size
      here (v ∷ vs) n (o ∷ os) all member (suc k) h =
          ap (λ m. frames_with m (account_at vs k).taken) (let z : n + suc k ≡ suc n + k = omega arith in z)
          ∙ here vs (suc n) os all.1 (λ i w e. subst (λ m. IsMember visit lossless plan capture options barrier crew.ring m w) (let z : n + suc i ≡ suc n + i = omega arith in z) (member (suc i) w e)) k (omega (arith, h))

  -- the end of the run is a moment of it
  pub moment_is : (outputs : List (List (RingTx HandoffFrame))) (inputs : List (List (RingRx HandoffFrame))) (rests : List (Rest HandoffFrame)) → AllWith HasOutputs ws outputs → AllWith HasInputs ws inputs
      → AllWith (IsEmptied (queues_of crew.ring ws)) (pairs options.workers) rests
      → IsMoment (run_of visit plan capture options) (traced_of capture options) (account_at ws) (λ from to. [])
  moment_is outputs inputs rests outs ins emptied =
      let q = queues_of crew.ring ws in
      let count = crew.count in
      let at : (k : ℕ) → k < options.workers → (w : WorkerBook) × (slice_get ws k ≡ Some w) = λ k h. get_some ws k (omega (arith, h, count)) in
      record {
        stand =
            all_below (λ k. StandsFor (run_of visit plan capture options) (traced_of capture options) k (account_at ws k)) options.workers
            (λ k h.
            let found = at k h in
            let member = member_at k found.0 found.1 in
            subst (λ a. StandsFor (run_of visit plan capture options) (traced_of capture options) k a) (sym (account_is ws k found.0 found.1))
            (subst (λ n. StandsFor (run_of visit plan capture options) (traced_of capture options) n (account_of found.0)) member.number_is member.stands.work.stands));
        queues = λ from to low high. elim (same_or_other to from) [
          | inl same ↦
              (let none = own_put outputs outs from (omega (arith, low, count)) in
              let none_taken = own_taken inputs ins from (omega (arith, low, count)) in
              subst (λ t. frames_with t (account_at ws from).put ≡ frames_with from (account_at ws t).taken ++ []) (sym same) (none ∙ sym (append-nil (frames_with from (account_at ws from).taken) ∙ none_taken)))
          | inr other ↦
              pair_in (λ pair. q.put_on pair.0 pair.1 ≡ q.taken_off pair.0 pair.1) options.workers options.workers
              (with_first (IsEmptied q) (λ pair. q.put_on pair.0 pair.1 ≡ q.taken_off pair.0 pair.1) (pairs options.workers) rests emptied (λ pair rest is. is.taken_is)) from to low high other
              ∙ sym (append-nil (frames_with from (account_at ws to).taken))
        ];
        full = λ from to low high.
            let found = at from low in
            let member = member_at from found.0 found.1 in
            subst (λ a. AllByRecursion (λ frame. 1 ≤ length frame.packets) (frames_with to a.put)) (sym (account_is ws from found.0 found.1)) (member.stands.work.full to);
      }

  -- and the run is over
  pub over_is : HaveEnded ws → IsOver (run_of visit plan capture options) (account_at ws) (λ from to. [])
  over_is ended = record {
    drawn = λ k h.
        let count = crew.count in
        let low : k < length ws = omega (arith, h, count) in
        let found = get_some ws k low in
        let member = member_at k found.0 found.1 in
        let drawn = member.stands.drawn (ended_at ws ended k found.0 found.1) in
        let mark : (account_at ws k).mark ≡ found.0.mark = ap (λ a. a.mark) (account_is ws k found.0 found.1) in
        let many = length-map capture.packets (λ captured. captured.bytes) in
        omega (arith, drawn, mark, many);
    empty = λ from to low high. refl;
  }
    where
      ended_at : (vs : List WorkerBook) → HaveEnded vs → (k : ℕ) (w : WorkerBook) → slice_get vs k ≡ Some w → w.stop ≡ stops.End
      ended_at [] ended k w e = absurd (none-some w e)
      ended_at (v ∷ vs) ended zero w e = subst (λ (x : WorkerBook). x.stop ≡ stops.End) (same_Some v w e) (ended 0 v (omega arith))
      ended_at (v ∷ vs) ended (suc k) w e = ended_at vs (λ i d h. ended (suc i) d (omega (arith, h))) k w e

-- the workers' numbers
below_first : (n : ℕ) → below (suc n) ≡ 0 ∷ map suc (below n)
below_first zero = refl
below_first (suc n) = ap (λ l. l ++ suc n ∷ []) (below_first n) ∙ ap (λ l. 0 ∷ l) (sym (map_push suc (below n) n))

map_twice : {X Y Z : Type 0} (f : Y → Z) (h : X → Y) (xs : List X) → map f (map h xs) ≡ map (λ x. f (h x)) xs
map_twice f h [] = refl
map_twice f h (x ∷ xs) = ap (λ r. f (h x) ∷ r) (map_twice f h xs)

-- what all workers have, by their numbers
pub by_number : {Y : Type 0} (g : Account → Y) (ws : List WorkerBook) → map (λ (w : WorkerBook). g (account_of w)) ws ≡ map (λ k. g (account_at ws k)) (below (length ws))
by_number g [] = refl
by_number g (w ∷ ws) =
    ap (λ r. g (account_of w) ∷ r) (by_number g ws ∙ sym (map_twice (λ k. g (account_at (w ∷ ws) k)) suc (below (length ws))))
    ∙ ap (map (λ k. g (account_at (w ∷ ws) k))) (sym (below_first (length ws)))

pub sum_by_number : (g : Account → ℕ) (ws : List WorkerBook) → sum_by (λ (w : WorkerBook). g (account_of w)) ws ≡ sum_by (λ k. g (account_at ws k)) (below (length ws))
sum_by_number g ws = sym (sum_map (λ n. n) (λ (w : WorkerBook). g (account_of w)) ws) ∙ ap (sum_by (λ n. n)) (by_number g ws) ∙ sum_map (λ n. n) (λ k. g (account_at ws k)) (below (length ws))
  where
    sum_map : {X Y : Type 0} (f : Y → ℕ) (h : X → Y) (xs : List X) → sum_by f (map h xs) ≡ sum_by (λ x. f (h x)) xs
    sum_map f h [] = refl
    sum_map f h (x ∷ xs) = let rest = sum_map f h xs in omega (arith, rest, sum_by-cons f (h x) (map h xs), sum_by-cons (λ x. f (h x)) x xs)
