-- For the clauses of `Work::{draw_own, take_frame, put_apart, group, hand_over, dispatch_next}` that say that packets stay traced: notes with a node more.
use Rattle.std.proofs.Common.{◌≡◌, ℕ, ◌<◌, ◌≤◌, Bool, true, false, cond, ◌&&◌, List, [], ◌∷◌, ◌++◌, length, get_or, set, refl, sym, ap, subst, ◌∙◌, inl, inr, arith, append_assoc, length-append}
use Rattle.std.specs.Prelude.{◌⊎◌, nat_lt, ◌==◌, if◌then◌else◌}
use Rattle.std.proofs.Math.ListN.{length-set}
use Rattle.std.proofs.lemmas.List.{append-nil, get_or-set_same, get_or-set_other}
use Rattle.std.proofs.lemmas.Bool.{cond_both, and_parts, ltb-true, lt-ltb, cases_eq}
use Rattle.vg_model.specs.declared.fates.End.{End}
use Rattle.vg_model.specs.declared.fates.End.TheVariants as ends
use Rattle.vg_model.specs.Graph.{error_drop}
use Rattle.vg_pool.specs.Contents.{Contents}
use Rattle.vg_counters.specs.Notes.{Notes, nodes_of, noted, most_noted}
use Rattle.vg_journeys.specs.Ended.{drop_visits}
use Rattle.vg_underway.specs.Traced.{Sight, IsSeen, leg_place, nodes_noted, IsOnWay, IsNotes, noted_end}
use Rattle.vg_underway.specs.Works.{outcome_of}

-- the notes where there is room for the node
abbrev with_node : (number leg node : ℕ) → Notes → Notes
with_node number leg node notes = set notes number (set (get_or notes number []) leg (nodes_of number leg notes ++ node ∷ []))

abbrev has_room : (number leg : ℕ) → Notes → Bool
has_room number leg notes = nat_lt number (length notes) && nat_lt (length (nodes_of number leg notes)) most_noted

is_known : (number leg : ℕ) (notes : Notes) → has_room number leg notes ≡ true → number < length notes
is_known number leg notes room = ltb-true number (length notes) (and_parts _ _ room).0

-- as many packets as before
pub length-noted : (number leg node : ℕ) (notes : Notes) → length (noted number leg node notes) ≡ length notes
length-noted number leg node notes =
    cond_both (has_room number leg notes) (with_node number leg node notes) notes (λ (ns : Notes). length ns ≡ length notes) (λ room. length-set notes number _) (λ full. refl)

-- and a list for each leg
pub IsNotes-noted : (number leg node : ℕ) (notes : Notes) → IsNotes notes → IsNotes (noted number leg node notes)
IsNotes-noted number leg node notes ok =
    cond_both (has_room number leg notes) (with_node number leg node notes) notes IsNotes (λ room. rows (is_known number leg notes room)) (λ full. ok)
  where
    row : List (List ℕ)
    row = set (get_or notes number []) leg (nodes_of number leg notes ++ node ∷ [])

    rows : number < length notes → IsNotes (with_node number leg node notes)
    rows known k inside = elim (cases_eq k number) [
      | inl same ↦
          ap (λ n. length (get_or (set notes number row) n [])) same ∙ ap length (get_or-set_same notes number row [] known)
          ∙ length-set (get_or notes number []) leg _ ∙ ok number known
      | inr other ↦ ap length (get_or-set_other notes number k row [] other) ∙ ok k (subst (λ n. k < n) (length-set notes number row) inside)
    ]

-- other packets and legs have the nodes that they had
pub noted_other : (number leg node : ℕ) (notes : Notes) (n l : ℕ) → (n ≡ number → l ≡ leg → ⊥) → nodes_of n l (noted number leg node notes) ≡ nodes_of n l notes
noted_other number leg node notes n l apart =
    cond_both (has_room number leg notes) (with_node number leg node notes) notes (λ (ns : Notes). nodes_of n l ns ≡ nodes_of n l notes)
    (λ room. kept (is_known number leg notes room)) (λ full. refl)
  where
    row : List (List ℕ)
    row = set (get_or notes number []) leg (nodes_of number leg notes ++ node ∷ [])

    kept : number < length notes → nodes_of n l (with_node number leg node notes) ≡ nodes_of n l notes
    kept known = elim (cases_eq n number) [
      | inl same ↦
          ap (λ k. nodes_of k l (set notes number row)) same ∙ ap (λ r. get_or r l []) (get_or-set_same notes number row [] known)
          ∙ get_or-set_other (get_or notes number []) leg l _ [] (apart same) ∙ ap (λ k. nodes_of k l notes) (sym same)
      | inr other ↦ ap (λ r. get_or r l []) (get_or-set_other notes number n row [] other)
    ]

-- where there is room, the node stands behind the others
pub noted_same : (number leg node : ℕ) (notes : Notes) → number < length notes → leg < 4 → IsNotes notes → length (nodes_of number leg notes) < most_noted
    → nodes_of number leg (noted number leg node notes) ≡ nodes_of number leg notes ++ node ∷ []
noted_same number leg node notes known few ok room =
    let row : List (List ℕ) = set (get_or notes number []) leg (nodes_of number leg notes ++ node ∷ []) in
    let size = ok number known in
    let known_is : nat_lt number (length notes) ≡ true = lt-ltb number (length notes) known in
    let room_is : nat_lt (length (nodes_of number leg notes)) most_noted ≡ true = lt-ltb _ most_noted room in
    ap (λ b. nodes_of number leg (cond (b && nat_lt (length (nodes_of number leg notes)) most_noted) (set notes number row) notes)) known_is
    ∙ ap (λ b. nodes_of number leg (cond b (set notes number row) notes)) room_is
    ∙ ap (λ r. get_or r leg []) (get_or-set_same notes number row [] known)
    ∙ get_or-set_same (get_or notes number []) leg _ [] (omega (arith, few, size))

-- so the first of those that are still to come is noted
pub noted_first : (number leg node : ℕ) (notes : Notes) (rest all : List ℕ) → number < length notes → leg < 4 → IsNotes notes → length all ≤ most_noted
    → nodes_of number leg notes ++ node ∷ rest ≡ all → nodes_of number leg (noted number leg node notes) ++ rest ≡ all
noted_first number leg node notes rest all known few ok most is =
    let size = ap length is in
    let room : length (nodes_of number leg notes) < most_noted = omega (arith, most, size, length-append (nodes_of number leg notes) (node ∷ rest)) in
    ap (λ ns. ns ++ rest) (noted_same number leg node notes known few ok room) ∙ append_assoc (nodes_of number leg notes) (node ∷ []) rest ∙ is

-- a packet on its way, of which as much is noted and as much is to be noted
pub on_way_like : (old_whole new_whole : Sight) (old new : Notes) (c : Contents) (to_come : List ℕ) → length new ≡ length old → (IsSeen old_whole c → nodes_noted new c ≡ nodes_noted old c)
    → new_whole.nodes c.packet.number (leg_place c) ≡ old_whole.nodes c.packet.number (leg_place c) → (IsSeen new_whole c → IsSeen old_whole c) → IsOnWay old_whole old c to_come → IsOnWay new_whole new c to_come
on_way_like old_whole new_whole old new c to_come size same whole of way inside seen =
    let all = way (subst (λ n. c.packet.number < n) size inside) (of seen) in
    (ap (λ ns. ns ++ to_come) (same (of seen)) ∙ all.0 ∙ sym whole, subst (λ ns. length ns < most_noted) (sym whole) all.1)

-- a packet with another number or in another leg
pub on_way_other : (whole : Sight) (number leg node : ℕ) (notes : Notes) (c : Contents) (to_come : List ℕ) → (c.packet.number ≡ number → leg_place c ≡ leg → ⊥)
    → IsOnWay whole notes c to_come → IsOnWay whole (noted number leg node notes) c to_come
on_way_other whole number leg node notes c to_come apart way =
    on_way_like whole whole notes (noted number leg node notes) c to_come (length-noted number leg node notes) (λ seen. noted_other number leg node notes c.packet.number (leg_place c) apart) refl (λ seen. seen) way

-- and the one whose visit is noted
pub on_way_noted : (whole : Sight) (node : ℕ) (notes : Notes) (c : Contents) (rest : List ℕ) → leg_place c < 4 → IsNotes notes → IsOnWay whole notes c (node ∷ rest)
    → IsOnWay whole (noted c.packet.number (leg_place c) node notes) c rest
on_way_noted whole node notes c rest few ok way inside seen =
    let known = subst (λ n. c.packet.number < n) (length-noted c.packet.number (leg_place c) node notes) inside in
    let all = way known seen in
    (noted_first c.packet.number (leg_place c) node notes rest (whole.nodes c.packet.number (leg_place c)) known few ok (let most = all.1 in omega (arith, most)) all.0, all.1)

-- an end notes the visit that it brings
pub end_cases : (number leg : ℕ) (end : End) (notes : Notes)
    → ((noted_end number leg end notes ≡ notes) × (drop_visits (outcome_of end) ≡ []))
    ⊎ ((noted_end number leg end notes ≡ noted number leg error_drop notes) × (drop_visits (outcome_of end) ≡ error_drop ∷ []))
end_cases number leg (ends.Tx interface) notes = inl (refl, refl)
end_cases number leg (ends.Dropped node error) notes = by (node == error_drop)
  where
    by : (b : Bool)
        → (((if b then notes else noted number leg error_drop notes) ≡ notes) × ((if b then [] else error_drop ∷ []) ≡ []))
        ⊎ (((if b then notes else noted number leg error_drop notes) ≡ noted number leg error_drop notes) × ((if b then [] else error_drop ∷ []) ≡ error_drop ∷ []))
    by true = inl (refl, refl)
    by false = inr (refl, refl)

pub length-noted_end : (number leg : ℕ) (end : End) (notes : Notes) → length (noted_end number leg end notes) ≡ length notes
length-noted_end number leg end notes = elim (end_cases number leg end notes) [
  | inl none ↦ ap length none.0
  | inr one ↦ ap length one.0 ∙ length-noted number leg error_drop notes
]

pub IsNotes-noted_end : (number leg : ℕ) (end : End) (notes : Notes) → IsNotes notes → IsNotes (noted_end number leg end notes)
IsNotes-noted_end number leg end notes ok = elim (end_cases number leg end notes) [
  | inl none ↦ subst IsNotes (sym none.0) ok
  | inr one ↦ subst IsNotes (sym one.0) (IsNotes-noted number leg error_drop notes ok)
]

pub noted_end_other : (number leg : ℕ) (end : End) (notes : Notes) (n l : ℕ) → (n ≡ number → l ≡ leg → ⊥) → nodes_of n l (noted_end number leg end notes) ≡ nodes_of n l notes
noted_end_other number leg end notes n l apart = elim (end_cases number leg end notes) [
  | inl none ↦ ap (nodes_of n l) none.0
  | inr one ↦ ap (nodes_of n l) one.0 ∙ noted_other number leg error_drop notes n l apart
]

-- then all is noted
pub noted_end_last : (number leg : ℕ) (end : End) (notes : Notes) (all : List ℕ) → number < length notes → leg < 4 → IsNotes notes → length all ≤ most_noted
    → nodes_of number leg notes ++ drop_visits (outcome_of end) ≡ all → nodes_of number leg (noted_end number leg end notes) ≡ all
noted_end_last number leg end notes all known few ok most is = elim (end_cases number leg end notes) [
  | inl none ↦ ap (nodes_of number leg) none.0 ∙ sym (append-nil (nodes_of number leg notes)) ∙ ap (λ ns. nodes_of number leg notes ++ ns) (sym none.1) ∙ is
  | inr one ↦
      ap (nodes_of number leg) one.0 ∙ sym (append-nil (nodes_of number leg (noted number leg error_drop notes)))
      ∙ noted_first number leg error_drop notes [] all known few ok most (ap (λ ns. nodes_of number leg notes ++ ns) (sym one.1) ∙ is)
]
