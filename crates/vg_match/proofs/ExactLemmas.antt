-- For the clause of `match_is_exact`: nothing is left exactly where both sides have the same packets.
use Rattle.std.proofs.Common.{◌≡◌, ◌≢◌, ◌↔◌, ℕ, ◌+◌, ◌*◌, ◌≤◌, Bool, true, false, cond, List, [], ◌∷◌, ◌++◌, length, map, get_or, refl, sym, ap, subst, ◌∙◌, arith, All, bytes_eq, sum_by}
use Rattle.std.specs.List.Sorted.{IsPermutation}
use Rattle.std.proofs.lemmas.List.{map-append, length-map, length-append, nil_from_length}
use Rattle.std.proofs.lemmas.List.Elements.{All-map, All-head}
use Rattle.std.proofs.lemmas.List.Sums.{sum_by-append, sum_by-le}
use Rattle.std.proofs.lemmas.List.Sorted.{IsPermutation-map, IsPermutation-trans, IsPermutation-sym, sum_by-IsPermutation}
use Rattle.std.proofs.lemmas.Simd.{map-map}
use Rattle.std.proofs.lemmas.Slice.Eq.{bytes_eq-Decides}
use Rattle.vg_match.specs.declared.diffs.Diff.{Diff}
use Rattle.vg_match.specs.declared.fields.Field.{Field}
use Rattle.vg_match.specs.Keys.{compared}
use Rattle.vg_match.specs.Sides.{frame_at, meant_numbers}
use Rattle.vg_match.specs.Diffs.{Packets, firsts, seconds, IsDiff, AllMatch, meant_keys}
use Rattle.vg_match.proofs.DiffLemmas.{map_agrees}

-- 1 where this is the key
is_key : List ℕ → List ℕ → ℕ
is_key key other = cond (bytes_eq other key) 1 0

is_key-itself : (key : List ℕ) → is_key key key ≡ 1
unfolding is_key
is_key-itself key = ap (λ b. cond b 1 0) ((bytes_eq-Decides key key).1 refl)

is_key-other : (key other : List ℕ) → key ≢ other → is_key key other ≤ 0
unfolding is_key
is_key-other key other apart = by (bytes_eq other key) refl
  where
    by : (b : Bool) → bytes_eq other key ≡ b → cond b 1 0 ≤ 0
    by true e = elim (apart (sym ((bytes_eq-Decides other key).0 e))) [ ]
    by false e = omega arith

-- keys that are apart and count the same, each, are none
none_apart : (xs ys : List (List ℕ)) → ((key : List ℕ) → sum_by (is_key key) xs ≡ sum_by (is_key key) ys) → All (λ x. All (λ y. x ≢ y) ys) xs → length xs ≡ 0
none_apart [] ys same apart = refl
none_apart (x ∷ xs) ys same apart =
    let few : sum_by (is_key x) ys ≤ length ys * 0 = sum_by-le (is_key x) 0 ys (λ k d below. is_key-other x (get_or ys k d) (All-head (λ x. All (λ y. x ≢ y) ys) x xs apart k d below)) in
    let one : is_key x x ≡ 1 = is_key-itself x in
    let both : (0 + is_key x x) + sum_by (is_key x) xs ≡ sum_by (is_key x) ys = sym (sum_by-append (is_key x) (x ∷ []) xs) ∙ same x in
    absurd (omega (arith, few, one, both))

-- the same, seen from the other side
turned_apart : (xs ys : List (List ℕ)) → All (λ x. All (λ y. x ≢ y) ys) xs → All (λ y. All (λ x. y ≢ x) xs) ys
turned_apart xs ys apart = λ j e within k d below same. apart k d below j e within (sym same)

-- a permutation of what stands once, by keys
by_keys : (key : ℕ → List ℕ) (numbers front rest : List ℕ) → IsPermutation numbers (front ++ rest) → IsPermutation (map key numbers) (map key front ++ map key rest)
by_keys key numbers front rest once = subst (IsPermutation (map key numbers)) (map-append key front rest) (IsPermutation-map key _ _ once)

-- how often a key stands among them
counted : (count : List ℕ → ℕ) (xs front rest : List (List ℕ)) → IsPermutation xs (front ++ rest) → sum_by count xs ≡ sum_by count front + sum_by count rest
counted count xs front rest once = sym (sum_by-IsPermutation count xs (front ++ rest) once) ∙ sum_by-append count front rest

-- both sides are alike in front, and what is behind is apart: they are the same in another order exactly where nothing is behind
module _ (xs ys front rest others : List (List ℕ)) (xs_once : IsPermutation xs (front ++ rest)) (ys_once : IsPermutation ys (front ++ others))
    (apart : All (λ x. All (λ y. x ≢ y) others) rest) where
  same_counts : IsPermutation xs ys → (key : List ℕ) → sum_by (is_key key) rest ≡ sum_by (is_key key) others
  same_counts moved key =
      let one : sum_by (is_key key) xs ≡ sum_by (is_key key) front + sum_by (is_key key) rest = counted (is_key key) xs front rest xs_once in
      let two : sum_by (is_key key) ys ≡ sum_by (is_key key) front + sum_by (is_key key) others = counted (is_key key) ys front others ys_once in
      let three : sum_by (is_key key) ys ≡ sum_by (is_key key) xs = sum_by-IsPermutation (is_key key) xs ys moved in
      omega (arith, one, two, three)

  none_behind : IsPermutation xs ys → (length rest ≡ 0) × (length others ≡ 0)
  none_behind moved = (
    none_apart rest others (same_counts moved) apart,
    none_apart others rest (λ key. sym (same_counts moved key)) (turned_apart rest others apart),
  )

  all_moved : length rest ≡ 0 → length others ≡ 0 → IsPermutation xs ys
  all_moved none nothing =
      let same : front ++ rest ≡ front ++ others = ap (λ zs. front ++ zs) (nil_from_length rest none ∙ sym (nil_from_length others nothing)) in
      IsPermutation-trans xs (front ++ others) ys (subst (IsPermutation xs) same xs_once) (IsPermutation-sym ys (front ++ others) ys_once)

module _ (ignored : List Field) (packets : Packets) (diff : Diff) (is : IsDiff ignored packets diff) where
  wanted_key : ℕ → List ℕ
  wanted_key number = compared ignored (frame_at packets.wanted number)

  got_key : ℕ → List ℕ
  got_key number = compared ignored (frame_at packets.got number)

  -- what is left of both sides
  left : List ℕ
  left = firsts diff.changed.items ++ diff.missing.items

  more : List ℕ
  more = seconds diff.changed.items ++ (seconds diff.there.items ++ diff.extra.items)

  -- the keys of the pairs are the same on both sides
  same_front : map wanted_key (firsts diff.same.items) ≡ map got_key (seconds diff.same.items)
  unfolding wanted_key got_key
  same_front =
      map-map wanted_key (λ (pair : ℕ × ℕ). pair.0) diff.same.items
      ∙ map_agrees (λ (pair : ℕ × ℕ). wanted_key pair.0) (λ (pair : ℕ × ℕ). got_key pair.1) diff.same.items is.same
      ∙ sym (map-map got_key (λ (pair : ℕ × ℕ). pair.1) diff.same.items)

  keys_apart : All (λ x. All (λ y. x ≢ y) (map got_key more)) (map wanted_key left)
  unfolding wanted_key got_key left more
  keys_apart =
      All-map (λ x. All (λ y. x ≢ y) (map got_key more)) wanted_key left
      (λ k d below. All-map (λ y. wanted_key (get_or left k d) ≢ y) got_key more (is.same_greatest k d below))

  xs_are : IsPermutation (meant_keys ignored packets.only packets.wanted) (map wanted_key (firsts diff.same.items) ++ map wanted_key left)
  unfolding wanted_key left
  xs_are = by_keys wanted_key (meant_numbers packets.only 0 packets.wanted) (firsts diff.same.items) left is.wanted_once

  ys_are : IsPermutation (meant_keys ignored packets.only packets.got) (map wanted_key (firsts diff.same.items) ++ map got_key more)
  unfolding got_key more
  ys_are = subst (λ front. IsPermutation (meant_keys ignored packets.only packets.got) (front ++ map got_key more)) (sym same_front)
      (by_keys got_key (meant_numbers packets.only 0 packets.got) (seconds diff.same.items) more is.got_once)

  -- what is left has as many as the four lists
  left_length : length (map wanted_key left) ≡ length diff.changed.items + length diff.missing.items
  unfolding left
  left_length = simp (length-map, length-append)

  more_length : length (map got_key more) ≡ length diff.changed.items + (length diff.there.items + length diff.extra.items)
  unfolding more
  more_length = simp (length-map, length-append)

  pub exact : AllMatch diff ↔ IsPermutation (meant_keys ignored packets.only packets.wanted) (meant_keys ignored packets.only packets.got)
  exact = (
    (λ all. all_moved _ _ _ _ _ xs_are ys_are keys_apart (omega (arith, left_length, all.changed, all.missing)) (omega (arith, more_length, all.changed, all.there, all.extra))),
    (λ moved.
        let none : (length (map wanted_key left) ≡ 0) × (length (map got_key more) ≡ 0) = none_behind _ _ _ _ _ xs_are ys_are keys_apart moved in
        record {
          changed = omega (arith, left_length, none.0);
          missing = omega (arith, left_length, none.0);
          there = omega (arith, more_length, none.1);
          extra = omega (arith, more_length, none.1);
        }),
  )
