-- For the clauses `away` of `Work::{hand_groups, put_away}`, `dispatched` of `Work::{dispatch_next, dispatch_all}` and `round` of `Worker::round` in
-- vg_dispatch: what goes into the queues of a worker.
use Rattle.std.proofs.Common.{◌≡◌, ◌≢◌, ℕ, zero, suc, ◌+◌, ◌<◌, ◌≤◌, List, [], ◌∷◌, ◌++◌, length, set, refl, sym, ap, subst, ◌∙◌, inl, inr, arith, append_assoc, length-append}
use Rattle.std.specs.Prelude.{Bool, true, false, Option, Some, None, ◌==◌, if◌then◌else◌}
use Rattle.std.specs.List.{sum_by, AllByRecursion}
use Rattle.std.proofs.lemmas.List.{append-nil, get_or-set_same, get_or-set_other}
use Rattle.std.proofs.lemmas.List.Sums.{sum_by-append, sum_by-cons}
use Rattle.std.proofs.lemmas.Bool.{cases_eq, eq-eqb, ne_eqb}
use Rattle.vg_model.specs.declared.kinds.Step.{Step}
use Rattle.vg_model.specs.Leg.{Outcome, Sent, Dropped, Handed}
use Rattle.vg_model.specs.PoolBook.{CacheBook}
use Rattle.vg_journeys.specs.Chains.{count_some}
use Rattle.vg_journeys.specs.Trips.{Arrival, onward_by}
use Rattle.vg_journeys.specs.Treks.{IsRefusal}
use Rattle.vg_journeys.specs.Accounts.{HandoffFrame, arrivals_in, frames_with, below}
use Rattle.vg_journeys.specs.Turns.{Settled, settled_onward}
use Rattle.vg_journeys.proofs.AccountLemmas.{all_append, all_mono}
use Rattle.vg_underway.specs.declared.underway.Work.{Work}
use Rattle.vg_underway.specs.Underway.{Setting}
use Rattle.vg_underway.specs.Works.{EndsHere, StaysHere}
use Rattle.vg_journeys.specs.Counts.{IsCountAt, IsCountIn}
use Rattle.vg_underway.specs.Hands.{HandsOver, Delivers}

-- counts of a part of a stretch are counts of the whole
count_kept : (slots : ℕ) (lossless : Bool) (count before after first last : ℕ) → first ≤ before → after ≤ last → IsCountAt slots lossless count before after → IsCountAt slots lossless count first last
count_kept slots lossless count before after first last low high is = record {
  slots_most = is.slots_most;
  before_most = (let h = is.before_most in omega (arith, h, low));
  most = (let h = is.most in omega (arith, h, high));
  lossy = is.lossy;
}

counts_kept : (slots : ℕ) (lossless : Bool) (a b c d : List (List HandoffFrame)) → ((to : ℕ) → length (frames_with to c) ≤ length (frames_with to a)) → ((to : ℕ) → length (frames_with to b) ≤ length (frames_with to d))
    → (outcome : Outcome) (refused : Option ℕ) → IsCountIn slots lossless a b outcome refused → IsCountIn slots lossless c d outcome refused
counts_kept slots lossless a b c d low high (Handed node to) (Some count) is =
    count_kept slots lossless count (length (frames_with to a)) (length (frames_with to b)) (length (frames_with to c)) (length (frames_with to d)) (low to) (high to) is
counts_kept slots lossless a b c d low high (Handed node to) None is = tt
counts_kept slots lossless a b c d low high (Sent interface) refused is = tt
counts_kept slots lossless a b c d low high (Dropped node error) refused is = tt

pub queues_grow : (s : Setting) (slots : ℕ) (lossless : Bool) (settled : List Settled) (a b : List (List HandoffFrame)) → Delivers s slots lossless settled a b → (to : ℕ) → length (frames_with to a) ≤ length (frames_with to b)
queues_grow s slots lossless settled a b d to = let e = ap length (d.puts to) in let n = length-append (frames_with to a) (d.pushed to) in omega (arith, e, n)

-- one stretch and then another
pub delivers_then : (s : Setting) (slots : ℕ) (lossless : Bool) (one two : List Settled) (a b c : List (List HandoffFrame)) → Delivers s slots lossless one a b → Delivers s slots lossless two b c → Delivers s slots lossless (one ++ two) a c
delivers_then s slots lossless one two a b c first second = record {
  counts = all_append (λ x. IsCountIn slots lossless a c x.ended.outcome x.refused) one two
      (all_mono (λ x. IsCountIn slots lossless a b x.ended.outcome x.refused) (λ x. IsCountIn slots lossless a c x.ended.outcome x.refused)
      (λ x is. counts_kept slots lossless a b a c (λ to. omega arith) (queues_grow s slots lossless two b c second) x.ended.outcome x.refused is) one first.counts)
      (all_mono (λ x. IsCountIn slots lossless b c x.ended.outcome x.refused) (λ x. IsCountIn slots lossless a c x.ended.outcome x.refused)
      (λ x is. counts_kept slots lossless b c a c (queues_grow s slots lossless one a b first) (λ to. omega arith) x.ended.outcome x.refused is) two second.counts);
  went = λ count. let e = first.went count in let k = second.went count in omega (arith, e, k, sum_by-append (λ x. count_some count (settled_onward x)) one two);
  pushed = λ to. first.pushed to ++ second.pushed to;
  puts = λ to. second.puts to ∙ ap (λ fs. fs ++ second.pushed to) (first.puts to) ∙ append_assoc (frames_with to a) (first.pushed to) (second.pushed to);
  full = λ to. all_append (λ (frame : HandoffFrame). 1 ≤ length frame.packets) (first.pushed to) (second.pushed to) (first.full to) (second.full to);
}

-- the counts of refusals name what queues had accepted
pub refusals_of : (s : Setting) (slots : ℕ) (lossless : Bool) (old new : List (List HandoffFrame)) (settled : List Settled) → AllByRecursion (λ x. IsCountIn slots lossless old new x.ended.outcome x.refused) settled
    → AllByRecursion (λ x. IsRefusal slots (λ from to. length (frames_with to new)) s.worker x.ended.outcome x.refused) settled
refusals_of s slots lossless old new [] all = tt
refusals_of s slots lossless old new (x ∷ xs) all = (by x.ended.outcome x.refused all.0, refusals_of s slots lossless old new xs all.1)
  where
    by : (outcome : Outcome) (refused : Option ℕ) → IsCountIn slots lossless old new outcome refused → IsRefusal slots (λ from to. length (frames_with to new)) s.worker outcome refused
    by (Handed node to) (Some count) is = (is.slots_most, is.most)
    by (Handed node to) None is = tt
    by (Sent interface) refused is = tt
    by (Dropped node error) refused is = tt

-- sums over workers of which one is changed
pub sum_same : (f g : ℕ → ℕ) (n : ℕ) → ((k : ℕ) → k < n → f k ≡ g k) → sum_by f (below n) ≡ sum_by g (below n)
sum_same f g zero same = refl
sum_same f g (suc n) same =
    let rest = sum_same f g n (λ k h. same k (omega (arith, h))) in
    let one = same n (omega arith) in
    omega (arith, rest, one, sum_by-append f (below n) (n ∷ []), sum_by-append g (below n) (n ∷ []), sum_by-cons f n [], sum_by-cons g n [])

pub sum_changed : (f g : ℕ → ℕ) (n to : ℕ) → to < n → ((k : ℕ) → k ≢ to → f k ≡ g k) → sum_by f (below n) + g to ≡ sum_by g (below n) + f to
sum_changed f g zero to inside same = absurd (omega (arith, inside))
sum_changed f g (suc n) to inside same = elim (cases_eq to n) [
  | inl last ↦
      let rest = sum_same f g n (λ k h. same k (λ e. absurd (omega (arith, h, e, last)))) in
      let one = ap f last in
      let two = ap g last in
      omega (arith, rest, one, two, sum_by-append f (below n) (n ∷ []), sum_by-append g (below n) (n ∷ []), sum_by-cons f n [], sum_by-cons g n [])
  | inr other ↦
      let rest = sum_changed f g n to (omega (arith, inside, other)) same in
      let one = same n (λ e. other (sym e)) in
      omega (arith, rest, one, sum_by-append f (below n) (n ∷ []), sum_by-append g (below n) (n ∷ []), sum_by-cons f n [], sum_by-cons g n [])
]

count_of : (slots : ℕ) (lossless : Bool) (node to : ℕ) (old new : List (List HandoffFrame)) (outcome : Outcome) (refused : Option ℕ) → outcome ≡ Handed node to
    → ((count : ℕ) → refused ≡ Some count → IsCountAt slots lossless count (length (frames_with to old)) (length (frames_with to new))) → IsCountIn slots lossless old new outcome refused
count_of slots lossless node to old new outcome None is each = subst (λ o. IsCountIn slots lossless old new o None) (sym is) tt
count_of slots lossless node to old new outcome (Some count) is each = subst (λ o. IsCountIn slots lossless old new o (Some count)) (sym is) (each count refl)

all_counts : (slots : ℕ) (lossless : Bool) (node to : ℕ) (old new : List (List HandoffFrame)) (settled : List Settled) → AllByRecursion (λ x. x.ended.outcome ≡ Handed node to) settled
    → AllByRecursion (λ x. (count : ℕ) → x.refused ≡ Some count → IsCountAt slots lossless count (length (frames_with to old)) (length (frames_with to new))) settled
    → AllByRecursion (λ x. IsCountIn slots lossless old new x.ended.outcome x.refused) settled
all_counts slots lossless node to old new [] to_it each = tt
all_counts slots lossless node to old new (x ∷ xs) to_it each =
    (count_of slots lossless node to old new x.ended.outcome x.refused to_it.0 each.0, all_counts slots lossless node to old new xs to_it.1 each.1)

-- one queue grows
pub delivers_one : (s : Setting) (node to slots : ℕ) (lossless : Bool) (old new : Work) (old_cache new_cache : CacheBook) (old_hand new_hand : List (ℕ × Step)) (put : List (List HandoffFrame)) (new_put : List HandoffFrame) → to < s.workers → to < length put
    → (h : HandsOver s node to slots lossless old old_cache (frames_with to put) old_hand new new_cache new_put new_hand) → Delivers s slots lossless h.settled put (set put to new_put)
delivers_one s node to slots lossless old new old_cache new_cache old_hand new_hand put new_put within inside h = record {
  counts = all_counts slots lossless node to put (set put to new_put) h.settled h.to_it
      (subst (λ fs. AllByRecursion (λ x. (count : ℕ) → x.refused ≡ Some count → IsCountAt slots lossless count (length (frames_with to put)) (length fs)) h.settled) (sym here) h.refusals);
  went = λ count.
      let changed = sum_changed (λ k. sum_by count (arrivals_in k (frames_with k put))) (λ k. sum_by count (arrivals_in k (frames_with k (set put to new_put)))) s.workers to within
      (λ k other. ap (λ fs. sum_by count (arrivals_in k fs)) (sym (there k other))) in
      let e = h.went count in
      let is = ap (λ fs. sum_by count (arrivals_in to fs)) here in
      omega (arith, changed, e, is);
  pushed = λ k. if k == to then h.pushed else [];
  puts = λ k. elim (cases_eq k to) [
    | inl same ↦
        ap (λ n. frames_with n (set put to new_put)) same ∙ here ∙ h.put_is ∙ ap (λ n. frames_with n put ++ h.pushed) (sym same)
        ∙ ap (λ b. frames_with k put ++ (if b then h.pushed else [])) (sym (eq-eqb k to same))
    | inr other ↦
        there k other ∙ sym (append-nil (frames_with k put)) ∙ ap (λ b. frames_with k put ++ (if b then h.pushed else [])) (sym (ne_eqb k to other))
  ];
  full = λ k. full_if (k == to) h.pushed h.full;
}
  where
    here : frames_with to (set put to new_put) ≡ new_put
    here = get_or-set_same put to new_put [] inside

    there : (k : ℕ) → k ≢ to → frames_with k (set put to new_put) ≡ frames_with k put
    there k other = get_or-set_other put to k new_put [] other

    full_if : (b : Bool) (frames : List HandoffFrame) → AllByRecursion (λ (frame : HandoffFrame). 1 ≤ length frame.packets) frames → AllByRecursion (λ (frame : HandoffFrame). 1 ≤ length frame.packets) (if b then frames else [])
    full_if true frames all = all
    full_if false frames all = tt

onward_none : (count : Arrival → ℕ) (x : Settled) → EndsHere x → count_some count (settled_onward x) ≡ 0
onward_none count x here = by x.ended.outcome here.0
  where
    by : (outcome : Outcome) → StaysHere outcome → count_some count (onward_by x.ended.contents outcome x.refused) ≡ 0
    by (Sent interface) stays = refl
    by (Dropped node error) stays = refl
    by (Handed node worker) stays = absurd stays

none_onward : (count : Arrival → ℕ) (xs : List Settled) → AllByRecursion EndsHere xs → sum_by (λ x. count_some count (settled_onward x)) xs ≡ 0
none_onward count [] here = refl
none_onward count (x ∷ xs) here = let rest = none_onward count xs here.1 in let one = onward_none count x here.0 in omega (arith, rest, one, sum_by-cons (λ x. count_some count (settled_onward x)) x xs)

none_counted : (slots : ℕ) (lossless : Bool) (put : List (List HandoffFrame)) (xs : List Settled) → AllByRecursion EndsHere xs → AllByRecursion (λ x. IsCountIn slots lossless put put x.ended.outcome x.refused) xs
none_counted slots lossless put [] here = tt
none_counted slots lossless put (x ∷ xs) here = (by x.ended.outcome here.0.0, none_counted slots lossless put xs here.1)
  where
    by : (outcome : Outcome) → StaysHere outcome → IsCountIn slots lossless put put outcome x.refused
    by (Sent interface) stays = tt
    by (Dropped node error) stays = tt
    by (Handed node worker) stays = absurd stays

-- packets that end here put nothing into queues
pub delivers_nothing : (s : Setting) (slots : ℕ) (lossless : Bool) (settled : List Settled) (put : List (List HandoffFrame)) → AllByRecursion EndsHere settled → Delivers s slots lossless settled put put
delivers_nothing s slots lossless settled put here = record {
  counts = none_counted slots lossless put settled here;
  went = λ count. let none = none_onward count settled here in omega (arith, none);
  pushed = λ to. [];
  puts = λ to. sym (append-nil (frames_with to put));
  full = λ to. tt;
}
