-- For `laws::refused_packets_were_offered`: fates with a count are traced to the frame that came back.
use Rattle.std.proofs.Common.{◌≡◌, ℕ, zero, suc, ◌+◌, ◌<◌, ◌≤◌, ◌⊎◌, inl, inr, Bool, true, false, List, [], ◌∷◌, ◌++◌, length, map, refl, sym, ap, subst, ◌∙◌, arith, length-append, append-nil, append_assoc}
use Rattle.std.specs.Prelude.{Option, Some, None, unwrap_or, Contains, ◌==◌, if◌then◌else◌}
use Rattle.std.specs.List.{sum_by}
use Rattle.std.proofs.lemmas.List.Sums.{sum_by-cons, sum_by_more_le}
use Rattle.std.proofs.lemmas.List.Elements.{Contains-append_right}
use Rattle.std.proofs.lemmas.Bool.Decides.{nat_tests}
use Rattle.vg_model.specs.declared.fates.End.{End}
use Rattle.vg_model.specs.declared.fates.End.TheVariants as ends
use Rattle.vg_model.specs.declared.fates.Fate.{Fate}
use Rattle.vg_model.specs.Leg.{Outcome, Sent, Dropped, Handed}
use Rattle.vg_pool.specs.Contents.{Contents}
use Rattle.vg_journeys.specs.Trips.{Trip, contents_after}
use Rattle.vg_journeys.specs.Accounts.{HandoffFrame}
use Rattle.vg_journeys.proofs.FlowLemmas.{one_where, one_at, none_at, true_or_false}
use Rattle.vg_journeys.proofs.SameFates.{same_fate, same_fate_decides}
use Rattle.vg_underway.specs.Hands.{refusal}
use Rattle.vg_underway.specs.Outlets.{Outlet, Push, Accepted, CameBack, ArePushes, dropped_by, dropped_in, refused_at}
use Rattle.vg_dispatch.specs.Rounds.{trip_refused_at}
use Rattle.vg_dispatch.specs.Refusals.{came_back, accepted_by, IsSamePacket, WasOffered, WasRefused}

-- one for this fate, none for any other
pub one_of : Fate → Fate → ℕ
one_of fate = one_where (same_fate fate)

one_itself : (fate : Fate) → one_of fate fate ≡ 1
unfolding one_of
one_itself fate = one_at (same_fate fate) fate ((same_fate_decides fate fate).1 refl)

one_same : (fate other : Fate) → 0 < one_of fate other → other ≡ fate
unfolding one_of
one_same fate other some = by_test (true_or_false (same_fate fate other))
  where
    by_test : (same_fate fate other ≡ true) ⊎ (same_fate fate other ≡ false) → other ≡ fate
    by_test (inl holds) = sym ((same_fate_decides fate other).0 holds)
    by_test (inr fails) = absurd (let none = none_at (same_fate fate) other fails in omega (arith, some, none))

-- where a sum isn't 0, one of its terms isn't
some_of : {X : Type 0} (f : X → ℕ) (xs : List X) → 0 < sum_by f xs → (x : X) × Contains xs x × (0 < f x)
some_of f [] some = absurd (let h : 0 < 0 = some in omega (arith, h))
some_of {X} f (x ∷ xs) some = first (f x) refl (some_of f xs)
  where
    first : (n : ℕ) → f x ≡ n → (0 < sum_by f xs → (y : X) × Contains xs y × (0 < f y)) → (y : X) × Contains (x ∷ xs) y × (0 < f y)
    first zero e later =
        let rest = later (omega (arith, some, e, sum_by-cons f x xs)) in
        (rest.0, Contains-append_right (x ∷ []) xs rest.0 rest.1, rest.2)
    first (suc n) e later = (x, (0, omega arith, refl), omega (arith, e))

-- a term is within the sum
within : {X : Type 0} (f : X → ℕ) (xs : List X) (x : X) → Contains xs x → f x ≤ sum_by f xs
within f xs x inside =
    let more = sum_by_more_le f xs inside.0 x inside.1 in
    let at = ap f inside.2 in
    omega (arith, more, at)

sum_of_map : {X Y : Type 0} (f : Y → ℕ) (h : X → Y) (xs : List X) → sum_by f (map h xs) ≡ sum_by (λ x. f (h x)) xs
sum_of_map f h [] = refl
sum_of_map f h (x ∷ xs) = let rest = sum_of_map f h xs in omega (arith, rest, sum_by-cons f (h x) (map h xs), sum_by-cons (λ y. f (h y)) x xs)

abbrev node_of_end : End → ℕ
node_of_end (ends.Tx interface) = interface
node_of_end (ends.Dropped node error) = node

-- a refusal says of which node, with which count and of which packet it is
refusal_of : {node count node2 count2 : ℕ} (c d : Contents) → refusal node count c ≡ refusal node2 count2 d
    → (node ≡ node2) × (count ≡ count2) × IsSamePacket c d
refusal_of c d e = (
  ap (λ (f : Fate). node_of_end f.end) e,
  ap (λ (f : Fate). unwrap_or f.congested 0) e,
  record { number = ap (λ (f : Fate). f.number) e; legs = ap (λ (f : Fate). f.legs) e },
)

-- these pushes were made, from one outlet to another
pub record Made (slots : ℕ) (lossless : Bool) (put : List HandoffFrame) (before : Outlet) (pushes : List Push) (new_put : List HandoffFrame) (after : Outlet) : Type 0 where
  pub made : ArePushes slots lossless put before pushes new_put after

-- the frames that came back are what was refused
pub listed : {slots : ℕ} {lossless : Bool} {new_put : List HandoffFrame} {after : Outlet} (pushes : List Push) {put : List HandoffFrame} {before : Outlet}
    → Made slots lossless put before pushes new_put after → after.refused ≡ before.refused ++ came_back pushes
listed {slots} {lossless} {new_put} {after} [] {put} {before} m = ap (λ (o : Outlet). o.refused) m.made.1 ∙ sym (append-nil before.refused)
listed {slots} {lossless} {new_put} {after} (Accepted frame ∷ pushes) {put} {before} m =
    let rest : Made slots lossless (put ++ frame ∷ []) m.made.0 pushes new_put after = record { made = m.made.2 } in
    listed pushes rest ∙ ap (λ frames. frames ++ came_back pushes) m.made.1.refused
listed {slots} {lossless} {new_put} {after} (CameBack frame count ∷ pushes) {put} {before} m =
    let rest : Made slots lossless put m.made.0 pushes new_put after = record { made = m.made.2 } in
    listed pushes rest ∙ ap (λ frames. frames ++ came_back pushes) m.made.1.refused ∙ append_assoc before.refused (frame ∷ []) (came_back pushes)

-- one more push before these
later_by : {before node count : ℕ} {c : Contents} {pushes : List Push} (earlier : ℕ) (push : Push) → before ≡ earlier + length (accepted_by (push ∷ [])) → WasOffered before pushes node count c
    → WasOffered earlier (push ∷ pushes) node count c
later_by {before} {node} {count} {c} {pushes} earlier push more rest = record {
  earlier = push ∷ rest.earlier;
  frame = rest.frame;
  later = rest.later;
  offered = ap (λ ps. push ∷ ps) rest.offered;
  counted = by_push push more;
  its_node = rest.its_node;
  packet = rest.packet;
  inside = rest.inside;
  same = rest.same;
}
  where
    by_push : (p : Push) → before ≡ earlier + length (accepted_by (p ∷ [])) → count ≡ earlier + length (accepted_by (p ∷ rest.earlier))
    by_push (Accepted frame) e = let counted = rest.counted in omega (arith, counted, e)
    by_push (CameBack frame k) e = let counted = rest.counted in omega (arith, counted, e)

module _ {slots : ℕ} {lossless : Bool} {new_put : List HandoffFrame} {after : Outlet} (node count : ℕ) (c : Contents) where
  -- a refusal among those of the pushes is one of a packet that was offered
  pub offered : (pushes : List Push) {put : List HandoffFrame} {before : Outlet} → Made slots lossless put before pushes new_put after
      → 0 < dropped_in (one_of (refusal node count c)) pushes → WasOffered (length put) pushes node count c
  offered [] {put} {before} m some = absurd (let h : 0 < 0 = some in omega (arith, h))
  offered (Accepted frame ∷ pushes) {put} {before} m some =
      let fate = refusal node count c in
      let rest : Made slots lossless (put ++ frame ∷ []) m.made.0 pushes new_put after = record { made = m.made.2 } in
      later_by (length put) (Accepted frame) (length-append put (frame ∷ []))
      (offered pushes rest (omega (arith, some, sum_by-cons (λ push. sum_by (one_of fate) (dropped_by push)) (Accepted frame) pushes)))
  offered (CameBack frame back ∷ pushes) {put} {before} m some =
      let rest : Made slots lossless put m.made.0 pushes new_put after = record { made = m.made.2 } in
      first (sum_by (λ d. one_of (refusal node count c) (refusal frame.node back d)) frame.packets) refl (offered pushes rest)
    where
      first : (n : ℕ) → sum_by (λ d. one_of (refusal node count c) (refusal frame.node back d)) frame.packets ≡ n
          → (0 < dropped_in (one_of (refusal node count c)) pushes → WasOffered (length put) pushes node count c)
          → WasOffered (length put) (CameBack frame back ∷ pushes) node count c
      first zero e later =
          let fate = refusal node count c in
          later_by (length put) (CameBack frame back) (omega arith) (later (omega (
            arith,
            some,
            e,
            sum_of_map (one_of fate) (refusal frame.node back) frame.packets,
            sum_by-cons (λ push. sum_by (one_of fate) (dropped_by push)) (CameBack frame back) pushes,
          )))
      first (suc n) e later =
          let fate = refusal node count c in
          let found = some_of (λ d. one_of fate (refusal frame.node back d)) frame.packets (omega (arith, e)) in
          let parts = refusal_of found.0 c (one_same fate (refusal frame.node back found.0) found.2) in
          record {
            earlier = [];
            frame = frame;
            later = pushes;
            offered = ap (λ k. CameBack frame k ∷ pushes) parts.1;
            counted = let is_count = m.made.1.count_is in let same = parts.1 in omega (arith, is_count, same);
            its_node = parts.0;
            packet = found.0;
            inside = found.1;
            same = parts.2;
          }

-- a trip that a queue refused is counted among those that it refused
trip_counts : (trip : Trip) (node to count : ℕ) → trip.way.outcome ≡ Handed node to → trip.refused ≡ Some count
    → trip_refused_at (one_of (refusal node count (contents_after trip))) to trip ≡ 1
trip_counts trip node to count outcome refused =
    let fate = refusal node count (contents_after trip) in
    let yes : (to == to) ≡ true = grind (arith, nat_tests) in
    let here : refused_at (one_of fate) to (contents_after trip) (Handed node to) (Some count) ≡ 1 = rw yes (one_itself fate) in
    subst (λ o. refused_at (one_of fate) to (contents_after trip) o trip.refused ≡ 1) (sym outcome)
    (subst (λ r. refused_at (one_of fate) to (contents_after trip) (Handed node to) r ≡ 1) (sym refused) here)

-- what is counted at a queue as one refusal ended there
ends_there : (fate : Fate) (to : ℕ) (c : Contents) (outcome : Outcome) (refused : Option ℕ) → 0 < refused_at (one_of fate) to c outcome refused
    → (node : ℕ) × (count : ℕ) × (outcome ≡ Handed node to) × (refused ≡ Some count) × (refusal node count c ≡ fate)
ends_there fate to c (Handed node worker) (Some count) some = by_test (true_or_false (worker == to))
  where
    by_test : ((worker == to) ≡ true) ⊎ ((worker == to) ≡ false)
        → (n : ℕ) × (k : ℕ) × (Handed node worker ≡ Handed n to) × (Some count ≡ Some k) × (refusal n k c ≡ fate)
    by_test (inl holds) =
        let same : worker ≡ to = grind (arith, nat_tests) in
        let here : 0 < one_of fate (refusal node count c) = subst (λ b. 0 < (if b then one_of fate (refusal node count c) else 0)) holds some in
        (node, count, ap (Handed node) same, refl, one_same fate (refusal node count c) here)
    by_test (inr fails) = absurd (let h : 0 < 0 = subst (λ b. 0 < (if b then one_of fate (refusal node count c) else 0)) fails some in omega (arith, h))
ends_there fate to c (Handed node worker) None some = absurd (let h : 0 < 0 = some in omega (arith, h))
ends_there fate to c (Sent interface) refused some = absurd (let h : 0 < 0 = some in omega (arith, h))
ends_there fate to c (Dropped node error) refused some = absurd (let h : 0 < 0 = some in omega (arith, h))

-- trips and pushes of which each counts the same refusals at this queue
pub record AreSame (to : ℕ) (trips : List Trip) (pushes : List Push) : Type 0 where
  pub same : (count : Fate → ℕ) → sum_by (trip_refused_at count to) trips ≡ dropped_in count pushes

module _ {to : ℕ} {trips : List Trip} {pushes : List Push} where
  -- a trip that was refused stands among the refusals of the pushes
  pub stands_there : AreSame to trips pushes → (trip : Trip) {node count : ℕ} → Contains trips trip → trip.way.outcome ≡ Handed node to → trip.refused ≡ Some count
      → 0 < dropped_in (one_of (refusal node count (contents_after trip))) pushes
  stands_there same trip {node} {count} inside outcome refused =
      let fate = refusal node count (contents_after trip) in
      let one = trip_counts trip node to count outcome refused in
      let sums = same.same (one_of fate) in
      omega (arith, one, sums, within (trip_refused_at (one_of fate) to) trips trip inside)

  -- a packet of a frame that came back is one of a trip that was refused
  pub refused : AreSame to trips pushes → (frame : HandoffFrame) (count : ℕ) (c : Contents) → Contains pushes (CameBack frame count) → Contains frame.packets c
      → WasRefused trips frame.node to count c
  refused same frame count c pushed inside =
      let fate = refusal frame.node count c in
      let sums = same.same (one_of fate) in
      let found = some_of (trip_refused_at (one_of fate) to) trips (omega (
        arith,
        sums,
        one_itself fate,
        within (λ push. sum_by (one_of fate) (dropped_by push)) pushes (CameBack frame count) pushed,
        sum_of_map (one_of fate) (refusal frame.node count) frame.packets,
        within (λ d. one_of fate (refusal frame.node count d)) frame.packets c inside,
      )) in
      let trip = found.0 in
      let at = ends_there fate to (contents_after trip) trip.way.outcome trip.refused found.2 in
      let parts = refusal_of (contents_after trip) c at.4 in
      record {
        trip = trip;
        made = found.1;
        outcome = at.2 ∙ ap (λ node. Handed node to) parts.0;
        refused = at.3 ∙ ap Some parts.1;
        same = parts.2;
      }
