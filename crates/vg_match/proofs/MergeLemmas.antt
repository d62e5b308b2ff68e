-- For the clauses of `merge` and `match_up`: each step of the pass keeps that each entry stands once, and that no equal ones are left.
use Rattle.std.proofs.Common.{◌≡◌, ◌≢◌, ℕ, suc, ◌+◌, ◌-◌, ◌<◌, ◌≤◌, true, List, [], ◌∷◌, ◌++◌, map, length, get_or, take, drop, refl, sym, add-one, ap, subst, ◌∙◌, arith, append_assoc, ◌⊎◌, inl, inr, true≢false}
use Rattle.std.specs.Prelude.{All}
use Rattle.std.specs.Cmp.{IsTotalOrder, on_total}
use Rattle.std.specs.Cmp.Lexicographic.{slice_cmp}
use Rattle.std.specs.FinMap.{slice_cmp-IsAntisymmetric, nat_cmp-IsAntisymmetric}
use Rattle.std.specs.Ordering.{nat_cmp, ordering_reverse, ordering_then, is_lt}
use Rattle.std.specs.declared.cmp.Ordering.{Ordering}
use Rattle.std.specs.declared.cmp.Ordering.TheVariants.{Less, Equal, Greater}
use Rattle.std.specs.List.Sorted.{IsPermutation, IsSorted}
use Rattle.std.proofs.lemmas.Cmp.{nat_list_cmp_total, nat_cmp_total, then_total, tied_itself}
use Rattle.std.proofs.Math.Seq.{drop-cons, take-length}
use Rattle.std.proofs.lemmas.List.{append-nil, map-append, drop_all, length-drop, length-map, get_or-map, drop-map}
use Rattle.std.proofs.lemmas.List.Elements.{All-nil, All-cons, All-head, All-tail, All-append, All-push, All-weaker}
use Rattle.std.proofs.lemmas.List.Sorted.{All-permutation}
use Rattle.std.proofs.lemmas.List.Sorted.{IsPermutation-refl, IsPermutation-append_right, IsPermutation-middle, IsPermutation-trans, IsPermutation-map, sorted_far, ranks_by}
use Rattle.vg_match.specs.declared.matching.Entry.{Entry}
use Rattle.vg_match.specs.declared.matching.Hashed.{Hashed}
use Rattle.vg_match.specs.declared.matching.Matching.{Matching}
use Rattle.vg_match.specs.Hashes.{hash_of}
use Rattle.vg_match.specs.Matching.{Pair, wanted_of, got_of, AreEqual, AreApart, IsMatchingOf, keys_cmp, NotBelow, Rises, entry_of, IsHashed, hashed_cmp, AreHashed}

-- where a pass stands: what it has made, and what is left of both sides
pub record Pass : Type 0 where
  pub pairs : List Pair
  pub missing : List Entry
  pub extra : List Entry
  pub wanted : List Entry
  pub got : List Entry

-- a pass over two sides has come so far
pub record IsPass (wanted got : List Entry) (pass : Pass) : Type 0 where
  pub wanted_once : IsPermutation wanted (map wanted_of pass.pairs ++ (pass.missing ++ pass.wanted))
  pub got_once : IsPermutation got (map got_of pass.pairs ++ (pass.extra ++ pass.got))
  pub equal : All AreEqual pass.pairs
  pub missing_apart : AreApart pass.missing (pass.extra ++ pass.got)
  pub extra_apart : AreApart pass.wanted pass.extra
  pub wanted_rises : Rises pass.wanted
  pub got_rises : Rises pass.got

-- ---- keys in their order

keys_total : IsTotalOrder keys_cmp
keys_total = then_total (on_total hash_of nat_cmp_total) nat_list_cmp_total

-- the second order decides where both answer that neither is before
second_equal : (first second : Ordering) → ordering_then first second ≡ Equal → second ≡ Equal
second_equal Less second same = cc
second_equal Equal second same = same
second_equal Greater second same = cc

-- keys of which neither is before the other are the same
same_keys : (first second : List ℕ) → keys_cmp first second ≡ Equal → first ≡ second
same_keys first second equal =
    slice_cmp-IsAntisymmetric nat_cmp-IsAntisymmetric first second (second_equal (nat_cmp (hash_of first) (hash_of second)) (slice_cmp nat_cmp first second) equal)

-- the same bytes stand equal
pub same_slices : (first second : List ℕ) → first ≡ second → slice_cmp nat_cmp first second ≡ Equal
same_slices first second same = ap (slice_cmp nat_cmp first) (sym same) ∙ tied_itself nat_list_cmp_total first

-- of entries that never fall, the first is not above any other, and the others never fall
first_rises : (x : Entry) (xs : List Entry) → Rises (x ∷ xs) → All (NotBelow x) xs
first_rises x xs rises = λ k d below. rises 0 (suc k) d (omega arith) (omega arith)

others_rise : (x : Entry) (xs : List Entry) → Rises (x ∷ xs) → Rises xs
others_rise x xs rises = λ i j d before below. rises (suc i) (suc j) d (omega arith) (omega arith)

-- what holds of all holds of all but one
without_middle : (xs : List Entry) (x : Entry) (ys : List Entry) (P : Entry → Type 0) → All P (xs ++ x ∷ ys) → All P (xs ++ ys)
without_middle xs x ys P all = All-tail P x (xs ++ ys) (All-permutation P _ _ (IsPermutation-middle xs x ys) all)

-- a key that is less than the first of those that never fall is none of them
below_all : (w g : Entry) (gs : List Entry) → keys_cmp w.key.now g.key.now ≡ Less → Rises (g ∷ gs) → All (λ (y : Entry). w.key.now ≢ y.key.now) (g ∷ gs)
below_all w g gs less rises =
    All-cons (λ (y : Entry). w.key.now ≢ y.key.now) g gs
    (λ same.
    let self : keys_cmp g.key.now g.key.now ≡ Less = subst (λ key. keys_cmp key g.key.now ≡ Less) same less in
    let turned : Less ≡ Greater = sym self ∙ keys_total.antisymm g.key.now g.key.now ∙ ap ordering_reverse self in
    cc)
    (All-weaker (NotBelow g) (λ (y : Entry). w.key.now ≢ y.key.now)
    (λ y up same.
    let down : keys_cmp y.key.now g.key.now ≡ Less = subst (λ key. keys_cmp key g.key.now ≡ Less) same less in
    up (keys_total.antisymm g.key.now y.key.now ∙ ap ordering_reverse down))
    gs (first_rises g gs rises))

-- a key that is less than the first of those that never fall is none of them, seen from the other side
above_none : (w g : Entry) (ws : List Entry) → keys_cmp w.key.now g.key.now ≡ Greater → Rises (w ∷ ws) → All (λ (x : Entry). x.key.now ≢ g.key.now) (w ∷ ws)
above_none w g ws greater rises =
    All-cons (λ (x : Entry). x.key.now ≢ g.key.now) w ws
    (λ same.
    let self : keys_cmp g.key.now g.key.now ≡ Greater = subst (λ key. keys_cmp key g.key.now ≡ Greater) same greater in
    let turned : Greater ≡ Less = sym self ∙ keys_total.antisymm g.key.now g.key.now ∙ ap ordering_reverse self in
    cc)
    (All-weaker (NotBelow w) (λ (x : Entry). x.key.now ≢ g.key.now)
    (λ x up same. up (subst (λ key. keys_cmp w.key.now key ≡ Greater) (sym same) greater))
    ws (first_rises w ws rises))

-- ---- the steps of a pass

-- nothing is made yet
pub pass_begins : (wanted got : List Entry) → Rises wanted → Rises got
    → IsPass wanted got (record { pairs = []; missing = []; extra = []; wanted = wanted; got = got })
pass_begins wanted got rises climbs = record {
  wanted_once = IsPermutation-refl wanted;
  got_once = IsPermutation-refl got;
  equal = All-nil AreEqual;
  missing_apart = All-nil (λ (w : Entry). All (λ (g : Entry). w.key.now ≢ g.key.now) got);
  extra_apart = λ k d below. All-nil (λ (g : Entry). (get_or wanted k d).key.now ≢ g.key.now);
  wanted_rises = rises;
  got_rises = climbs;
}

module _ (wanted got : List Entry) (pass : Pass) (w : Entry) (ws : List Entry) (g : Entry) (gs : List Entry)
    (is : IsPass wanted got pass) (wanted_is : pass.wanted ≡ w ∷ ws) (got_is : pass.got ≡ g ∷ gs) where
  rises : Rises (w ∷ ws)
  rises = subst Rises wanted_is is.wanted_rises

  climbs : Rises (g ∷ gs)
  climbs = subst Rises got_is is.got_rises

  -- the first of the wanted ones is missing
  pub one_is_missing : keys_cmp w.key.now g.key.now ≡ Less
      → IsPass wanted got (record pass { missing = pass.missing ++ w ∷ []; wanted = ws })
  one_is_missing less = record {
    wanted_once = subst (λ rest. IsPermutation wanted (map wanted_of pass.pairs ++ rest)) (sym (append_assoc pass.missing (w ∷ []) ws))
        (subst (λ rest. IsPermutation wanted (map wanted_of pass.pairs ++ (pass.missing ++ rest))) wanted_is is.wanted_once);
    got_once = is.got_once;
    equal = is.equal;
    missing_apart = All-push (λ (w : Entry). All (λ (g : Entry). w.key.now ≢ g.key.now) (pass.extra ++ pass.got)) pass.missing w is.missing_apart
        (All-append (λ (g : Entry). w.key.now ≢ g.key.now) pass.extra pass.got
        (All-head (λ (w : Entry). All (λ (g : Entry). w.key.now ≢ g.key.now) pass.extra) w ws (subst (λ rest. AreApart rest pass.extra) wanted_is is.extra_apart))
        (subst (λ rest. All (λ (g : Entry). w.key.now ≢ g.key.now) rest) (sym got_is) (below_all w g gs less climbs)));
    extra_apart = All-tail (λ (w : Entry). All (λ (g : Entry). w.key.now ≢ g.key.now) pass.extra) w ws (subst (λ rest. AreApart rest pass.extra) wanted_is is.extra_apart);
    wanted_rises = others_rise w ws rises;
    got_rises = is.got_rises;
  }

  -- the first of those that came is one too many
  pub one_is_extra : keys_cmp w.key.now g.key.now ≡ Greater
      → IsPass wanted got (record pass { extra = pass.extra ++ g ∷ []; got = gs })
  one_is_extra greater = record {
    wanted_once = is.wanted_once;
    got_once = subst (λ rest. IsPermutation got (map got_of pass.pairs ++ rest)) (sym (append_assoc pass.extra (g ∷ []) gs))
        (subst (λ rest. IsPermutation got (map got_of pass.pairs ++ (pass.extra ++ rest))) got_is is.got_once);
    equal = is.equal;
    missing_apart = subst (λ rest. AreApart pass.missing rest) (sym (append_assoc pass.extra (g ∷ []) gs))
        (subst (λ rest. AreApart pass.missing (pass.extra ++ rest)) got_is is.missing_apart);
    extra_apart = λ k d below. All-push (λ (y : Entry). (get_or pass.wanted k d).key.now ≢ y.key.now) pass.extra g (is.extra_apart k d below)
        (subst (λ rest. All (λ (x : Entry). x.key.now ≢ g.key.now) rest) (sym wanted_is) (above_none w g ws greater rises) k d below);
    wanted_rises = is.wanted_rises;
    got_rises = others_rise g gs climbs;
  }

  -- both are the same
  pub one_pair : keys_cmp w.key.now g.key.now ≡ Equal
      → IsPass wanted got (record pass { pairs = pass.pairs ++ (w, g) ∷ []; wanted = ws; got = gs })
  one_pair equal = record {
    wanted_once = subst (λ front. IsPermutation wanted (front ++ (pass.missing ++ ws))) (sym (map-append wanted_of pass.pairs ((w, g) ∷ [])))
        (subst (IsPermutation wanted) (sym (append_assoc (map wanted_of pass.pairs) (w ∷ []) (pass.missing ++ ws)))
        (IsPermutation-trans _ _ _ (subst (λ rest. IsPermutation wanted (map wanted_of pass.pairs ++ (pass.missing ++ rest))) wanted_is is.wanted_once)
        (IsPermutation-append_right (map wanted_of pass.pairs) _ _ (IsPermutation-middle pass.missing w ws))));
    got_once = subst (λ front. IsPermutation got (front ++ (pass.extra ++ gs))) (sym (map-append got_of pass.pairs ((w, g) ∷ [])))
        (subst (IsPermutation got) (sym (append_assoc (map got_of pass.pairs) (g ∷ []) (pass.extra ++ gs)))
        (IsPermutation-trans _ _ _ (subst (λ rest. IsPermutation got (map got_of pass.pairs ++ (pass.extra ++ rest))) got_is is.got_once)
        (IsPermutation-append_right (map got_of pass.pairs) _ _ (IsPermutation-middle pass.extra g gs))));
    equal = All-push AreEqual pass.pairs (w, g) is.equal (same_keys w.key.now g.key.now equal);
    missing_apart = λ k d below. let apart = subst (λ rest. AreApart pass.missing (pass.extra ++ rest)) got_is is.missing_apart in
        without_middle pass.extra g gs (λ (y : Entry). (get_or pass.missing k d).key.now ≢ y.key.now) (apart k d below);
    extra_apart = All-tail (λ (w : Entry). All (λ (g : Entry). w.key.now ≢ g.key.now) pass.extra) w ws (subst (λ rest. AreApart rest pass.extra) wanted_is is.extra_apart);
    wanted_rises = others_rise w ws rises;
    got_rises = others_rise g gs climbs;
  }

-- one of the sides is at its end: what is left of the other is missing, or too many
pub pass_ends : (wanted got : List Entry) (pass : Pass) → IsPass wanted got pass → (pass.wanted ≡ []) ⊎ (pass.got ≡ []) → (matching : Matching)
    → matching.pairs.items ≡ pass.pairs → matching.wanted.items ≡ pass.missing ++ pass.wanted → matching.got.items ≡ pass.extra ++ pass.got
    → IsMatchingOf wanted got matching
pass_ends wanted got pass is end matching pairs_are missing_is extra_is = record {
  wanted_once = rw (pairs_are, missing_is) is.wanted_once;
  got_once = rw (pairs_are, extra_is) is.got_once;
  equal = rw pairs_are is.equal;
  greatest = rw (missing_is, extra_is) (All-append (λ (w : Entry). All (λ (g : Entry). w.key.now ≢ g.key.now) (pass.extra ++ pass.got)) pass.missing pass.wanted is.missing_apart (rest_apart end));
}
  where
    rest_apart : (pass.wanted ≡ []) ⊎ (pass.got ≡ []) → AreApart pass.wanted (pass.extra ++ pass.got)
    rest_apart (inl none) = subst (λ rest. AreApart rest (pass.extra ++ pass.got)) (sym none) (All-nil (λ (w : Entry). All (λ (g : Entry). w.key.now ≢ g.key.now) (pass.extra ++ pass.got)))
    rest_apart (inr none) = subst (AreApart pass.wanted) (sym (ap (λ rest. pass.extra ++ rest) none ∙ append-nil pass.extra)) is.extra_apart

-- ---- what a sort leaves

-- by hash, key and number, as the code has it
abbrev entries_cmp : Hashed → Hashed → Ordering
entries_cmp x y = ordering_then (nat_cmp x.hash y.hash) (ordering_then (slice_cmp nat_cmp x.entry.key.now y.entry.key.now) (nat_cmp x.entry.number y.entry.number))

entries_total : IsTotalOrder entries_cmp
entries_total =
    then_total (on_total (λ (x : Hashed). x.hash) nat_cmp_total)
    (then_total (on_total (λ (x : Hashed). x.entry.key.now) nat_list_cmp_total) (on_total (λ (x : Hashed). x.entry.number) nat_cmp_total))

-- the order of the keys is that by the hashes that stand beside them
by_hashes : (x y : Hashed) → IsHashed x → IsHashed y → hashed_cmp x y ≡ keys_cmp x.entry.key.now y.entry.key.now
by_hashes x y first second =
    ap (λ n. ordering_then (nat_cmp n y.hash) (slice_cmp nat_cmp x.entry.key.now y.entry.key.now)) first
    ∙ ap (λ n. ordering_then (nat_cmp (hash_of x.entry.key.now) n) (slice_cmp nat_cmp x.entry.key.now y.entry.key.now)) second

-- what is before by hash and key is before
before_by_key : (first second third : Ordering) → ordering_then first second ≡ Less → is_lt (ordering_then first (ordering_then second third)) ≡ true
before_by_key Less second third less = refl
before_by_key Equal Less third less = refl
before_by_key Equal Equal third less = cc
before_by_key Equal Greater third less = cc
before_by_key Greater second third less = cc

-- what is sorted has keys that never fall
pub sorted_rise : (all : List Hashed) → All IsHashed all → IsSorted entries_cmp all → AreHashed all
sorted_rise all hashes sorted = record {
  hashes = hashes;
  rise = λ i j d before below above.
      let e : Hashed = record { hash = 0; entry = d } in
      let inside : j < length all = subst (λ n. j < n) (length-map all entry_of) below in
      let x : Hashed = get_or all i e in
      let y : Hashed = get_or all j e in
      let there : keys_cmp x.entry.key.now y.entry.key.now ≡ Greater =
      ap (λ (first : Entry). keys_cmp first.key.now y.entry.key.now) (sym (get_or-map entry_of all i e d (omega arith)))
      ∙ ap (λ (second : Entry). keys_cmp (get_or (map entry_of all) i d).key.now second.key.now) (sym (get_or-map entry_of all j e d inside))
      ∙ above in
      let down : hashed_cmp y x ≡ Less = by_hashes y x (hashes j e inside) (hashes i e (omega arith)) ∙ keys_total.antisymm y.entry.key.now x.entry.key.now ∙ ap ordering_reverse there in
      let far = sorted_far _ (ranks_by entries_total (λ (x : Hashed). x)) all sorted i j e (omega arith) inside in
      true≢false (sym (before_by_key (nat_cmp y.hash x.hash) (slice_cmp nat_cmp y.entry.key.now x.entry.key.now) (nat_cmp y.entry.number x.entry.number) down) ∙ far);
}

-- the same, of what stood in another order before
pub sorted_from : (before after : List Hashed) → All IsHashed before → IsPermutation before after → IsSorted entries_cmp after → AreHashed after
sorted_from before after hashes moved sorted = sorted_rise after (All-permutation IsHashed before after moved hashes) sorted

-- the entries of what was put in another order
pub entries_moved : (entries : List Entry) (before after : List Hashed) → map entry_of before ≡ entries → IsPermutation before after → IsPermutation entries (map entry_of after)
entries_moved entries before after are moved = subst (λ xs. IsPermutation xs (map entry_of after)) are (IsPermutation-map entry_of before after moved)

-- a matching of what two sides were put in order to is one of the two sides
pub matches_before : (wanted got sorted climbing : List Entry) (matching : Matching) → IsPermutation wanted sorted → IsPermutation got climbing
    → IsMatchingOf sorted climbing matching → IsMatchingOf wanted got matching
matches_before wanted got sorted climbing matching moved shifted is = record {
  wanted_once = IsPermutation-trans _ _ _ moved is.wanted_once;
  got_once = IsPermutation-trans _ _ _ shifted is.got_once;
  equal = is.equal;
  greatest = is.greatest;
}

-- the same matching of the same entries
pub matching_at : (wanted got wanted' got' : List Entry) (matching : Matching) → wanted ≡ wanted' → got ≡ got' → IsMatchingOf wanted got matching → IsMatchingOf wanted' got' matching
matching_at wanted got wanted' got' matching same alike is = subst (λ ws. IsMatchingOf ws got' matching) same (subst (λ gs. IsMatchingOf wanted gs matching) alike is)

-- ---- the steps, by places in both sides

-- what a pass has made, and the places that it has come to
pub record Made : Type 0 where
  pub pairs : List Pair
  pub missing : List Entry
  pub extra : List Entry
  pub next : ℕ
  pub coming : ℕ

-- where a pass stands that has made this
abbrev pub pass_at : List Hashed → List Hashed → Made → Pass
pass_at wanted got made = record {
  pairs = made.pairs;
  missing = made.missing;
  extra = made.extra;
  wanted = drop made.next (map entry_of wanted);
  got = drop made.coming (map entry_of got);
}

-- a pass stands at one of each side
pub record Stands (wanted got : List Hashed) (made : Made) : Type 0 where
  pub wanted_are : AreHashed wanted
  pub got_are : AreHashed got
  pub is : IsPass (map entry_of wanted) (map entry_of got) (pass_at wanted got made)
  pub below : made.next < length wanted
  pub within : made.coming < length got

-- from a place on stand the one at that place and those from the next on
from_place : (xs : List Hashed) (i : ℕ) (d : Hashed) → i < length xs → drop i (map entry_of xs) ≡ (get_or xs i d).entry ∷ drop (i + 1) (map entry_of xs)
from_place xs i d below =
    let within : i < length (map entry_of xs) = simp length-map below in
    drop-cons (map entry_of xs) i d.entry within
    ∙ ap (λ n. get_or (map entry_of xs) i d.entry ∷ drop n (map entry_of xs)) (sym (add-one i))
    ∙ ap (λ x. x ∷ drop (i + 1) (map entry_of xs)) (get_or-map entry_of xs i d d.entry below)

module _ (wanted got : List Hashed) (made : Made) (d : Hashed) (at : Stands wanted got made) where
  by_keys : hashed_cmp (get_or wanted made.next d) (get_or got made.coming d) ≡ keys_cmp (get_or wanted made.next d).entry.key.now (get_or got made.coming d).entry.key.now
  by_keys = by_hashes (get_or wanted made.next d) (get_or got made.coming d) (at.wanted_are.hashes made.next d at.below) (at.got_are.hashes made.coming d at.within)

  pub missing_at : (now : List Entry) → Less ≡ hashed_cmp (get_or wanted made.next d) (get_or got made.coming d)
      → now ≡ made.missing ++ (get_or wanted made.next d).entry ∷ []
      → IsPass (map entry_of wanted) (map entry_of got) (pass_at wanted got (record made { missing = now; next = made.next + 1 }))
  missing_at now less are = rw are (one_is_missing (map entry_of wanted) (map entry_of got) (pass_at wanted got made) _ _ _ _ at.is
      (from_place wanted made.next d at.below) (from_place got made.coming d at.within) (sym by_keys ∙ sym less))

  pub extra_at : (now : List Entry) → Greater ≡ hashed_cmp (get_or wanted made.next d) (get_or got made.coming d)
      → now ≡ made.extra ++ (get_or got made.coming d).entry ∷ []
      → IsPass (map entry_of wanted) (map entry_of got) (pass_at wanted got (record made { extra = now; coming = made.coming + 1 }))
  extra_at now greater are = rw are (one_is_extra (map entry_of wanted) (map entry_of got) (pass_at wanted got made) _ _ _ _ at.is
      (from_place wanted made.next d at.below) (from_place got made.coming d at.within) (sym by_keys ∙ sym greater))

  pub pair_at : (now : List Pair) → Equal ≡ hashed_cmp (get_or wanted made.next d) (get_or got made.coming d)
      → now ≡ made.pairs ++ ((get_or wanted made.next d).entry, (get_or got made.coming d).entry) ∷ []
      → IsPass (map entry_of wanted) (map entry_of got) (pass_at wanted got (record made { pairs = now; next = made.next + 1; coming = made.coming + 1 }))
  pair_at now equal are = rw are (one_pair (map entry_of wanted) (map entry_of got) (pass_at wanted got made) _ _ _ _ at.is
      (from_place wanted made.next d at.below) (from_place got made.coming d at.within) (sym by_keys ∙ sym equal))

-- one of the places is behind the end
pub none_left : (wanted got : List Hashed) (made : Made) → (length wanted ≤ made.next) ⊎ (length got ≤ made.coming)
    → ((pass_at wanted got made).wanted ≡ []) ⊎ ((pass_at wanted got made).got ≡ [])
none_left wanted got made (inl behind) = inl (drop_all made.next (map entry_of wanted) (simp length-map behind))
none_left wanted got made (inr behind) = inr (drop_all made.coming (map entry_of got) (simp length-map behind))

-- the entries of as many as are left from a place on are all from there on
pub to_end : (xs : List Hashed) (n : ℕ) → map entry_of (take (length xs - n) (drop n xs)) ≡ drop n (map entry_of xs)
to_end xs n =
    let all : take (length xs - n) (drop n xs) ≡ drop n xs = rw (← length-drop n xs) (take-length (drop n xs)) in
    ap (map entry_of) all ∙ sym (drop-map entry_of n xs)
