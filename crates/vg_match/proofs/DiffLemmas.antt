-- For the clauses of `match_equal`, `match_alike` and `compare`: from entries to the numbers of packets, and the three matchings together.
use Rattle.std.proofs.Common.{◌≡◌, ◌≢◌, ℕ, suc, ◌+◌, ◌<◌, List, [], ◌∷◌, ◌++◌, length, map, get_or, refl, sym, ap, subst, ◌∙◌, arith, All, Bor, Bool, true, false, cond}
use Rattle.std.specs.List.Sorted.{IsPermutation}
use Rattle.std.proofs.lemmas.List.{map-append, get_or-map, length-map}
use Rattle.std.proofs.lemmas.Simd.{map-map}
use Rattle.std.proofs.lemmas.List.Elements.{All-map, All-append, All-weaker, All-cons, All-nil, All-tail, All-head}
use Rattle.std.proofs.lemmas.List.Sorted.{IsPermutation-refl, IsPermutation-map, IsPermutation-trans, IsPermutation-append_right, All-permutation}
use Rattle.vg_match.specs.declared.diffs.Matched.{Matched}
use Rattle.vg_match.specs.declared.fields.Field.{Field}
use Rattle.vg_match.specs.declared.keys.Likeness.{Likeness}
use Rattle.vg_match.specs.declared.keys.Likeness.TheVariants.{Datagram, Payload}
use Rattle.vg_match.specs.declared.matching.Entry.{Entry}
use Rattle.vg_match.specs.declared.matching.Hashed.{Hashed}
use Rattle.vg_match.specs.declared.matching.Matching.{Matching}
use Rattle.vg_match.specs.Keys.{compared, joined, parts_of, likeness_of}
use Rattle.vg_match.specs.Matching.{Pair, wanted_of, got_of, entry_of, IsMatchingOf}
use Rattle.vg_match.specs.Frames.{layout_of}
use Rattle.vg_match.specs.declared.ranges.Range.{Range}
use Rattle.vg_match.specs.declared.sides.Side.{Side}
use Rattle.vg_match.specs.Sides.{IsSide, IsInOrder, seen, frame_at, number_of, key_of, is_meant, meant_number, meant_numbers, alike_at, IsOf}
use Rattle.vg_match.specs.Diffs.{Packets, firsts, seconds, pair_numbers, HaveInCommon, HaveNothingInCommon, IsMatched, AreRowsOf, AreNumbersOf, IsDiff}

-- what holds of what a function makes of each holds of each
all_back : {X Y : Type 0} (P : Y → Type 0) (f : X → Y) (xs : List X) → All P (map f xs) → All (λ x. P (f x)) xs
all_back P f xs all = λ k d below. subst P (get_or-map f xs k d (f d) below) (all k (f d) (simp length-map below))

-- what holds of all holds of the front, and of the rest
all_front : {X : Type 0} (P : X → Type 0) (xs ys : List X) → All P (xs ++ ys) → All P xs
all_front P [] ys all = All-nil P
all_front P (x ∷ xs) ys all = All-cons P x xs (All-head P x (xs ++ ys) all) (all_front P xs ys (All-tail P x (xs ++ ys) all))

all_rest : {X : Type 0} (P : X → Type 0) (xs ys : List X) → All P (xs ++ ys) → All P ys
all_rest P [] ys all = all
all_rest P (x ∷ xs) ys all = all_rest P xs ys (All-tail P x (xs ++ ys) all)

-- ---- from entries to numbers

module _ (key : List ℕ → List ℕ) (first second : List (List ℕ)) (ones others : List Entry) (matching : Matching) (matched : Matched)
    (is : IsMatchingOf ones others matching) (ones_are : All (IsOf key first) ones) (others_are : All (IsOf key second) others)
    (pairs_are : matched.pairs.items ≡ map pair_numbers matching.pairs.items)
    (first_is : matched.first.items ≡ map number_of matching.wanted.items) (second_is : matched.second.items ≡ map number_of matching.got.items) where
  firsts_are : firsts matched.pairs.items ≡ map number_of (map wanted_of matching.pairs.items)
  firsts_are = ap firsts pairs_are ∙ map-map (λ (pair : ℕ × ℕ). pair.0) pair_numbers matching.pairs.items ∙ sym (map-map number_of wanted_of matching.pairs.items)

  seconds_are : seconds matched.pairs.items ≡ map number_of (map got_of matching.pairs.items)
  seconds_are = ap seconds pairs_are ∙ map-map (λ (pair : ℕ × ℕ). pair.1) pair_numbers matching.pairs.items ∙ sym (map-map number_of got_of matching.pairs.items)

  ones_after : All (IsOf key first) (map wanted_of matching.pairs.items ++ matching.wanted.items)
  ones_after = All-permutation (IsOf key first) _ _ is.wanted_once ones_are

  others_after : All (IsOf key second) (map got_of matching.pairs.items ++ matching.got.items)
  others_after = All-permutation (IsOf key second) _ _ is.got_once others_are

  wanted_are : All (IsOf key first) matching.wanted.items
  wanted_are = all_rest (IsOf key first) (map wanted_of matching.pairs.items) matching.wanted.items ones_after

  got_are : All (IsOf key second) matching.got.items
  got_are = all_rest (IsOf key second) (map got_of matching.pairs.items) matching.got.items others_after

  pairs_first : All (λ (pair : Pair). IsOf key first (wanted_of pair)) matching.pairs.items
  pairs_first = all_back (IsOf key first) wanted_of matching.pairs.items (all_front (IsOf key first) (map wanted_of matching.pairs.items) matching.wanted.items ones_after)

  pairs_second : All (λ (pair : Pair). IsOf key second (got_of pair)) matching.pairs.items
  pairs_second = all_back (IsOf key second) got_of matching.pairs.items (all_front (IsOf key second) (map got_of matching.pairs.items) matching.got.items others_after)

  -- the matching by numbers
  pub is_matched : IsMatched key first second (map number_of ones) (map number_of others) matched
  is_matched = record {
    first_once = subst (IsPermutation (map number_of ones)) (map-append number_of (map wanted_of matching.pairs.items) matching.wanted.items ∙ ap (λ front. front ++ map number_of matching.wanted.items) (sym firsts_are) ∙ ap (λ rest. firsts matched.pairs.items ++ rest) (sym first_is))
        (IsPermutation-map number_of _ _ is.wanted_once);
    second_once = subst (IsPermutation (map number_of others)) (map-append number_of (map got_of matching.pairs.items) matching.got.items ∙ ap (λ front. front ++ map number_of matching.got.items) (sym seconds_are) ∙ ap (λ rest. seconds matched.pairs.items ++ rest) (sym second_is))
        (IsPermutation-map number_of _ _ is.got_once);
    alike = subst (HaveInCommon key first second) (sym pairs_are)
        (All-map (λ (pair : ℕ × ℕ). key (frame_at first pair.0) ≡ key (frame_at second pair.1)) pair_numbers matching.pairs.items
        (λ k d below. sym ((pairs_first k d below).is) ∙ is.equal k d below ∙ (pairs_second k d below).is));
    greatest = subst (λ numbers. HaveNothingInCommon key first second numbers matched.second.items) (sym first_is)
        (All-map (λ number. All (λ other. key (frame_at first number) ≢ key (frame_at second other)) matched.second.items) number_of matching.wanted.items
        (λ k d below. subst (λ numbers. All (λ other. key (frame_at first (get_or matching.wanted.items k d).number) ≢ key (frame_at second other)) numbers) (sym second_is)
        (All-map (λ other. key (frame_at first (get_or matching.wanted.items k d).number) ≢ key (frame_at second other)) number_of matching.got.items
        (λ j e within same. is.greatest k d below j e within ((wanted_are k d below).is ∙ same ∙ sym ((got_are j e within).is))))));
  }

-- the same for entries of these numbers
pub matches_numbers : (key : List ℕ → List ℕ) (first second : List (List ℕ)) (ones others : List Entry) (matching : Matching) (matched : Matched) (numbers more : List ℕ)
    → IsMatchingOf ones others matching → All (IsOf key first) ones → All (IsOf key second) others → AreNumbersOf matching matched
    → map number_of ones ≡ numbers → map number_of others ≡ more → IsMatched key first second numbers more matched
matches_numbers key first second ones others matching matched numbers more is ones_are others_are are numbers_are more_are =
    subst (λ ns. IsMatched key first second ns more matched) numbers_are
    (subst (λ ns. IsMatched key first second (map number_of ones) ns matched) more_are
    (is_matched key first second ones others matching matched is ones_are others_are are.pairs are.first are.second))

-- the numbers of what is left are among those that were there
pub left_below : (key : List ℕ → List ℕ) (first second : List (List ℕ)) (numbers others : List ℕ) (matched : Matched) (P : ℕ → Type 0)
    → IsMatched key first second numbers others matched → All P numbers → All P matched.first.items
left_below key first second numbers others matched P is all = all_rest P (firsts matched.pairs.items) matched.first.items (All-permutation P _ _ is.first_once all)

pub more_below : (key : List ℕ → List ℕ) (first second : List (List ℕ)) (numbers others : List ℕ) (matched : Matched) (P : ℕ → Type 0)
    → IsMatched key first second numbers others matched → All P others → All P matched.second.items
more_below key first second numbers others matched P is all = all_rest P (seconds matched.pairs.items) matched.second.items (All-permutation P _ _ is.second_once all)

-- the same matching of the same numbers
pub matched_at : (key : List ℕ → List ℕ) (first second : List (List ℕ)) (ns ns' os os' : List ℕ) (matched : Matched) → ns ≡ ns' → os ≡ os'
    → IsMatched key first second ns os matched → IsMatched key first second ns' os' matched
matched_at key first second ns ns' os os' matched same alike is = subst (λ xs. IsMatched key first second xs os' matched) same (subst (λ xs. IsMatched key first second ns xs matched) alike is)

-- the matching of two sides in their order is one of what is meant of these
pub matches_in_order : {ignored : List Field} {only : List Range} {first second : List (List ℕ)} {ones others : List Hashed} {matching : Matching} {matched : Matched}
    → IsInOrder ignored only first ones → IsInOrder ignored only second others → IsMatchingOf (map entry_of ones) (map entry_of others) matching → AreNumbersOf matching matched
    → IsMatched (compared ignored) first second (meant_numbers only 0 first) (meant_numbers only 0 second) matched
matches_in_order {ignored} {only} {first} {second} {ones} {others} {matching} {matched} one other is are =
    let made : IsMatched (compared ignored) first second (map number_of (map entry_of ones)) (map number_of (map entry_of others)) matched
    = is_matched (compared ignored) first second (map entry_of ones) (map entry_of others) matching matched is one.keys other.keys are.pairs are.first are.second in
    record {
      first_once = IsPermutation-trans _ _ _ one.numbers made.first_once;
      second_once = IsPermutation-trans _ _ _ other.numbers made.second_once;
      alike = made.alike;
      greatest = made.greatest;
    }

-- ---- the three matchings

-- nothing in common stays so in another order of both
nothing_moved : (key : List ℕ → List ℕ) (first second : List (List ℕ)) (xs xs' ys ys' : List ℕ) → IsPermutation xs xs' → IsPermutation ys ys'
    → HaveNothingInCommon key first second xs ys → HaveNothingInCommon key first second xs' ys'
nothing_moved key first second xs xs' ys ys' moved shifted nothing =
    All-weaker (λ number. All (λ other. key (frame_at first number) ≢ key (frame_at second other)) ys) (λ number. All (λ other. key (frame_at first number) ≢ key (frame_at second other)) ys')
    (λ number apart. All-permutation (λ other. key (frame_at first number) ≢ key (frame_at second other)) ys ys' shifted apart) xs'
    (All-permutation (λ number. All (λ other. key (frame_at first number) ≢ key (frame_at second other)) ys) xs xs' moved nothing)

pub is_diff : (ignored : List Field) (packets : Packets) (same changed there : Matched)
    → IsMatched (compared ignored) packets.wanted packets.got (meant_numbers packets.only 0 packets.wanted) (meant_numbers packets.only 0 packets.got) same
    → IsMatched (likeness_of Datagram ignored) packets.wanted packets.got same.first.items same.second.items changed
    → IsMatched (likeness_of Payload ignored) packets.dropped packets.got (meant_numbers packets.only 0 packets.dropped) changed.second.items there
    → IsDiff ignored packets (record { same = same.pairs; changed = changed.pairs; missing = changed.first; there = there.pairs; extra = there.second })
is_diff ignored packets same changed there equal alike dropped = record {
  wanted_once = IsPermutation-trans _ _ _ equal.first_once (IsPermutation-append_right (firsts same.pairs.items) _ _ alike.first_once);
  got_once = IsPermutation-trans _ _ _ equal.second_once (IsPermutation-append_right (seconds same.pairs.items) _ _ rest);
  same = equal.alike;
  same_greatest = nothing_moved (compared ignored) packets.wanted packets.got _ _ _ _ alike.first_once rest equal.greatest;
  changed = alike.alike;
  changed_greatest = nothing_moved (likeness_of Datagram ignored) packets.wanted packets.got _ _ _ _ (IsPermutation-refl changed.first.items) dropped.second_once alike.greatest;
  there = dropped.alike;
  others = there.first.items;
  dropped_once = dropped.first_once;
  there_greatest = dropped.greatest;
}
  where
    rest : IsPermutation same.second.items (seconds changed.pairs.items ++ (seconds there.pairs.items ++ there.second.items))
    rest = IsPermutation-trans _ _ _ alike.second_once (IsPermutation-append_right (seconds changed.pairs.items) _ _ dropped.second_once)

-- ---- rows

-- functions that agree at each give the same
pub map_agrees : {X Y : Type 0} (f g : X → Y) (xs : List X) → All (λ x. f x ≡ g x) xs → map f xs ≡ map g xs
map_agrees f g [] all = refl
map_agrees f g (x ∷ xs) all =
    ap (λ y. y ∷ map f xs) (All-head (λ x. f x ≡ g x) x xs all) ∙ ap (λ ys. g x ∷ ys) (map_agrees f g xs (All-tail (λ x. f x ≡ g x) x xs all))

-- entries with these numbers and these rows are of the packets that the rows are keys of
pub entries_of_rows : (key : List ℕ → List ℕ) (packets : List (List ℕ)) (numbers : List ℕ) (rows : List (List ℕ)) (entries : List Entry)
    → AreRowsOf key packets numbers rows → map number_of entries ≡ numbers → map key_of entries ≡ rows → All (IsOf key packets) entries
entries_of_rows key packets numbers rows entries are numbers_are keys_are = λ k d below.
    let at : k < length (map number_of entries) = simp length-map below in
    let within : k < length numbers = subst (λ ns. k < length ns) numbers_are at in
    let number : get_or numbers k d.number ≡ (get_or entries k d).number = ap (λ ns. get_or ns k d.number) (sym numbers_are) ∙ get_or-map number_of entries k d d.number below in
    record {
      below = subst (λ n. n < length packets) number (are.below k d.number within);
      is = sym (get_or-map key_of entries k d d.key.now below)
          ∙ ap (λ ks. get_or ks k d.key.now) (keys_are ∙ are.rows_are)
          ∙ get_or-map (λ n. key (frame_at packets n)) numbers k d.number d.key.now within
          ∙ ap (λ n. key (frame_at packets n)) number;
    }

-- what is alike stands in rows
pub rows_alike : (likeness : Likeness) (ignored : List Field) (side : Side) (numbers : List ℕ) (rows : List (List ℕ)) → IsSide ignored side
    → All (λ number. number < length side.frames.now) numbers → rows ≡ map (alike_at likeness (seen side.frames.now) (seen side.keys.now)) numbers
    → AreRowsOf (likeness_of likeness ignored) (seen side.frames.now) numbers rows
rows_alike likeness ignored side numbers rows is all are = record {
  rows_are = are ∙ map_agrees _ _ numbers (λ k d below. ap (λ bytes. joined (parts_of likeness (layout_of (frame_at (seen side.frames.now) (get_or numbers k d)))) bytes)
      (ap (λ keys. frame_at keys (get_or numbers k d)) is.keys_are ∙ get_or-map (compared ignored) (seen side.frames.now) (get_or numbers k d) [] [] (simp length-map (all k d below))));
  below = λ k d within. simp length-map (all k d within);
}

-- the numbers of packets that are meant are below their count
below_from : (only : List Range) (number : ℕ) (frames : List (List ℕ)) → All (λ n. n < number + length frames) (meant_numbers only number frames)
below_from only number [] = All-nil (λ n. n < number + 0)
below_from only number (frame ∷ frames) =
    All-append (λ n. n < number + length (frame ∷ frames)) (meant_number only number frame) (meant_numbers only (suc number) frames)
    (here (is_meant only frame))
    (All-weaker (λ n. n < suc number + length frames) (λ n. n < number + length (frame ∷ frames)) (λ n below. omega arith) (meant_numbers only (suc number) frames) (below_from only (suc number) frames))
  where
    here : (meant : Bool) → All (λ n. n < number + length (frame ∷ frames)) (cond meant (number ∷ []) [])
    here false = All-nil (λ n. n < number + length (frame ∷ frames))
    here true = All-cons (λ n. n < number + length (frame ∷ frames)) number [] (omega arith) (All-nil (λ n. n < number + length (frame ∷ frames)))

pub meant_below : (only : List Range) (frames : List (Bor (List ℕ))) → All (λ n. n < length frames) (meant_numbers only 0 (seen frames))
meant_below only frames = All-weaker (λ n. n < 0 + length (seen frames)) (λ n. n < length frames) (λ n below. let same : length (seen frames) ≡ length frames = simp length-map in omega (arith, same, below)) (meant_numbers only 0 (seen frames)) (below_from only 0 (seen frames))
