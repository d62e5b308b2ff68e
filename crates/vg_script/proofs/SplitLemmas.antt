-- For `split_at_first`, `first_line`, `first_part`, `split_at_blank`, `Words::next` and `parse_script`: texts that are split at the first byte of a kind,
-- their lines and their words.
use Rattle.std.proofs.Common.{◌≡◌, ◌==◌, ℕ, suc, ◌+◌, ◌<◌, ◌≤◌, Bool, true, false, cond, ltb, List, [], ◌∷◌, length, take, drop, get_or, refl, sym, ap, subst, ◌∙◌, arith, ltb-true, ltb-false, lt-ltb, le-ltb, add-one, length-drop}
use Rattle.std.proofs.lemmas.List.Splits.{slice_split_first}
use Rattle.std.proofs.lemmas.List.Sums.{position_or_len_is}
use Rattle.std.specs.Prelude.{Option, Some, None, unwrap_or, filter, nat_lt}
use Rattle.std.specs.List.{position_or_len, before_first, after_first, slice_split, onto_first}
use Rattle.std.proofs.lemmas.List.{take_all, drop_all}
use Rattle.std.proofs.lemmas.Option.{none-some, same_Some}
use Rattle.std.specs.Option.{ForSome}
use Rattle.memchr.specs.Find.{IsFirstByte, is_byte}
use Rattle.vg_script.specs.Lines.{lines, is_blank, words}

-- all, and nothing
pub before_none : {X : Type 0} (p : X → Bool) (xs : List X) → length xs ≤ position_or_len p xs → before_first p xs ≡ xs
before_none p xs h = take_all (position_or_len p xs) xs h

pub after_none : {X : Type 0} (p : X → Bool) (xs : List X) → length xs ≤ position_or_len p xs → after_first p xs ≡ []
after_none p xs h = drop_all (position_or_len p xs + 1) xs (omega (arith, h))

-- what stands before the place that a search found, and what stands behind it
pub before_found : {X : Type 0} (p : X → Bool) (xs : List X) (o : Option ℕ)
    → o ≡ cond (ltb (position_or_len p xs) (length xs)) (Some (position_or_len p xs)) None
    → take (unwrap_or o (length xs)) xs ≡ before_first p xs
before_found p xs o found = by_test (ltb (position_or_len p xs) (length xs)) refl found
  where
    by_test : (b : Bool) → ltb (position_or_len p xs) (length xs) ≡ b → o ≡ cond b (Some (position_or_len p xs)) None
        → take (unwrap_or o (length xs)) xs ≡ before_first p xs
    by_test true e found = ap (λ o. take (unwrap_or o (length xs)) xs) found
    by_test false e found =
        ap (λ o. take (unwrap_or o (length xs)) xs) found ∙ take_all (length xs) xs (omega arith) ∙ sym (before_none p xs (ltb-false _ _ e))

pub after_found : {X : Type 0} (p : X → Bool) (xs : List X) (o : Option ℕ)
    → o ≡ cond (ltb (position_or_len p xs) (length xs)) (Some (position_or_len p xs)) None
    → drop (unwrap_or o (length xs) + 1) xs ≡ after_first p xs
after_found p xs o found = by_test (ltb (position_or_len p xs) (length xs)) refl found
  where
    by_test : (b : Bool) → ltb (position_or_len p xs) (length xs) ≡ b → o ≡ cond b (Some (position_or_len p xs)) None
        → drop (unwrap_or o (length xs) + 1) xs ≡ after_first p xs
    by_test true e found = ap (λ o. drop (unwrap_or o (length xs) + 1) xs) found
    by_test false e found =
        ap (λ o. drop (unwrap_or o (length xs) + 1) xs) found ∙ drop_all (length xs + 1) xs (omega arith) ∙ sym (after_none p xs (ltb-false _ _ e))

-- where `memchr` found a byte
is_not : (mark byte : ℕ) → ¬ ((byte == mark) ≡ true) → (byte == mark) ≡ false
is_not mark byte h = by_test (byte == mark) h
  where
    by_test : (b : Bool) → ¬ (b ≡ true) → b ≡ false
    by_test true h = absurd (h refl)
    by_test false h = refl

pub found_byte : (mark : ℕ) (text : List ℕ) (o : Option ℕ) → IsFirstByte (is_byte mark) text o
    → o ≡ cond (ltb (position_or_len (λ byte. byte == mark) text) (length text)) (Some (position_or_len (λ byte. byte == mark) text)) None
found_byte mark text (Some place) h =
    let is : position_or_len (λ byte. byte == mark) text ≡ place =
    position_or_len_is (λ byte. byte == mark) text place 0 (omega (arith, h.0.high)) (λ k below. is_not mark (get_or text k 0) (h.0.before k (omega arith) below)) (λ within. h.1) in
    let within : position_or_len (λ byte. byte == mark) text < length text = subst (λ n. n < length text) (sym is) h.0.high in
    sym (ap (λ b. cond b (Some (position_or_len (λ byte. byte == mark) text)) None) (lt-ltb _ _ within) ∙ ap Some is)
found_byte mark text None h =
    let is : position_or_len (λ byte. byte == mark) text ≡ length text =
    position_or_len_is (λ byte. byte == mark) text (length text) 0 (omega arith) (λ k below. is_not mark (get_or text k 0) (h k (omega arith) below)) (λ within. absurd (omega (arith, within))) in
    sym (ap (λ b. cond b (Some (position_or_len (λ byte. byte == mark) text)) None) (le-ltb _ _ (omega (arith, is))))

pub byte_within : (mark : ℕ) (text : List ℕ) (o : Option ℕ) → IsFirstByte (is_byte mark) text o → ForSome o (λ place. place < length text)
byte_within mark text (Some place) h = λ x e. subst (λ n. n < length text) (same_Some place x e) h.0.high
byte_within mark text None h = λ x e. absurd (none-some x e)

-- what is behind is shorter
pub after_shorter : {X : Type 0} (p : X → Bool) (x : X) (xs : List X) → length (after_first p (x ∷ xs)) ≤ length xs
after_shorter p x xs = omega (arith, length-drop (position_or_len p (x ∷ xs) + 1) (x ∷ xs))

-- the first element passes, or another does
first_passes : {X : Type 0} (p : X → Bool) (x : X) (xs : List X) → p x ≡ true → position_or_len p (x ∷ xs) ≡ 0
first_passes p x xs h = rw h refl

later_passes : {X : Type 0} (p : X → Bool) (x : X) (xs : List X) → p x ≡ false → position_or_len p (x ∷ xs) ≡ suc (position_or_len p xs)
later_passes p x xs h = rw h (omega arith)

pub before_first-yes : {X : Type 0} (p : X → Bool) (x : X) (xs : List X) → p x ≡ true → before_first p (x ∷ xs) ≡ []
before_first-yes p x xs h = ap (λ n. take n (x ∷ xs)) (first_passes p x xs h)

pub after_first-yes : {X : Type 0} (p : X → Bool) (x : X) (xs : List X) → p x ≡ true → after_first p (x ∷ xs) ≡ xs
after_first-yes p x xs h = ap (λ n. drop (n + 1) (x ∷ xs)) (first_passes p x xs h)

pub before_first-no : {X : Type 0} (p : X → Bool) (x : X) (xs : List X) → p x ≡ false → before_first p (x ∷ xs) ≡ x ∷ before_first p xs
before_first-no p x xs h = ap (λ n. take n (x ∷ xs)) (later_passes p x xs h)

pub after_first-no : {X : Type 0} (p : X → Bool) (x : X) (xs : List X) → p x ≡ false → after_first p (x ∷ xs) ≡ after_first p xs
after_first-no p x xs h = ap (λ n. drop (n + 1) (x ∷ xs)) (later_passes p x xs h) ∙ rw (add-one, add-one) refl

-- the first line of a text
FirstLine : List ℕ → Type 0
FirstLine bytes = lines bytes ≡ before_first (λ b. b == 10) bytes ∷ lines (after_first (λ b. b == 10) bytes)

first_line : (byte : ℕ) (bytes : List ℕ) → onto_first byte (lines bytes) ≡ (byte ∷ before_first (λ b. b == 10) bytes) ∷ lines (after_first (λ b. b == 10) bytes)
    → (b : Bool) → (byte == 10) ≡ b → FirstLine (byte ∷ bytes)
unfolding FirstLine
first_line byte bytes others true e =
    rw (before_first-yes (λ b. b == 10) byte bytes e, after_first-yes (λ b. b == 10) byte bytes e, e) refl
first_line byte bytes others false e =
    rw (before_first-no (λ b. b == 10) byte bytes e, after_first-no (λ b. b == 10) byte bytes e, e) others

pub lines-first : (byte : ℕ) (bytes : List ℕ)
    → lines (byte ∷ bytes) ≡ before_first (λ b. b == 10) (byte ∷ bytes) ∷ lines (after_first (λ b. b == 10) (byte ∷ bytes))
unfolding FirstLine
lines-first byte [] = first_line byte [] refl (byte == 10) refl
lines-first byte (next ∷ rest) = first_line byte (next ∷ rest) (ap (onto_first byte) (lines-first next rest)) (byte == 10) refl

-- a text that isn't split
not_split : (p : ℕ → Bool) (byte : ℕ) (bytes : List ℕ) → (length bytes ≤ position_or_len p bytes → slice_split p bytes ≡ bytes ∷ [])
    → length (byte ∷ bytes) ≤ position_or_len p (byte ∷ bytes) → (b : Bool) → p byte ≡ b → slice_split p (byte ∷ bytes) ≡ (byte ∷ bytes) ∷ []
not_split p byte bytes rest h true e =
    let first : position_or_len p (byte ∷ bytes) ≡ 0 = first_passes p byte bytes e in
    let long : suc (length bytes) ≤ 0 = subst (λ n. suc (length bytes) ≤ n) first h in
    absurd (omega (arith, long))
not_split p byte bytes rest h false e =
    let later : position_or_len p (byte ∷ bytes) ≡ suc (position_or_len p bytes) = later_passes p byte bytes e in
    let long : suc (length bytes) ≤ suc (position_or_len p bytes) = subst (λ n. suc (length bytes) ≤ n) later h in
    rw e (ap (onto_first byte) (rest (omega (arith, long))))

slice_split-none : (p : ℕ → Bool) (bytes : List ℕ) → length bytes ≤ position_or_len p bytes → slice_split p bytes ≡ bytes ∷ []
slice_split-none p [] h = refl
slice_split-none p (byte ∷ bytes) h = not_split p byte bytes (slice_split-none p bytes) h (p byte) refl

-- a text's parts, by the place of its first mark
pub parts_found : (p : ℕ → Bool) (text : List ℕ) (place : ℕ) → Some place ≡ cond (ltb (position_or_len p text) (length text)) (Some (position_or_len p text)) None
    → slice_split p text ≡ take place text ∷ slice_split p (drop (place + 1) text)
parts_found p text place found = by_test (ltb (position_or_len p text) (length text)) refl found
  where
    by_test : (b : Bool) → ltb (position_or_len p text) (length text) ≡ b → Some place ≡ cond b (Some (position_or_len p text)) None
        → slice_split p text ≡ take place text ∷ slice_split p (drop (place + 1) text)
    by_test true e found =
        let same : place ≡ position_or_len p text = same_Some place (position_or_len p text) found in
        slice_split_first p text 0 (ltb-true _ _ e) ∙ ap (λ n. take n text ∷ slice_split p (drop (n + 1) text)) (sym same)
    by_test false e found = absurd (none-some place (sym found))

pub parts_missing : (p : ℕ → Bool) (text : List ℕ) → None ≡ cond (ltb (position_or_len p text) (length text)) (Some (position_or_len p text)) None
    → slice_split p text ≡ text ∷ []
parts_missing p text found = by_test (ltb (position_or_len p text) (length text)) refl found
  where
    by_test : (b : Bool) → ltb (position_or_len p text) (length text) ≡ b → None ≡ cond b (Some (position_or_len p text)) None → slice_split p text ≡ text ∷ []
    by_test true e found = absurd (none-some (position_or_len p text) found)
    by_test false e found = slice_split-none p text (ltb-false _ _ e)

-- the words, with this text in front where it is a word
abbrev pub with_part : List ℕ → List (List ℕ) → List (List ℕ)
with_part part words = cond (nat_lt 0 (length part)) (part ∷ words) words

-- the words of a text are its first part, where that is a word, and the words behind
pub words-first : (bytes : List ℕ) → words bytes ≡ with_part (before_first is_blank bytes) (words (after_first is_blank bytes))
words-first bytes = by_test (ltb (position_or_len is_blank bytes) (length bytes)) refl
  where
    by_test : (b : Bool) → ltb (position_or_len is_blank bytes) (length bytes) ≡ b
        → words bytes ≡ with_part (before_first is_blank bytes) (words (after_first is_blank bytes))
    by_test true e = ap (filter (λ word. nat_lt 0 (length word))) (slice_split_first is_blank bytes 0 (ltb-true _ _ e))
    by_test false e =
        let none : length bytes ≤ position_or_len is_blank bytes = ltb-false _ _ e in
        ap (filter (λ word. nat_lt 0 (length word))) (slice_split-none is_blank bytes none)
        ∙ sym (ap (with_part (before_first is_blank bytes)) (ap words (after_none is_blank bytes none)) ∙ ap (λ part. with_part part []) (before_none is_blank bytes none))

-- a text that begins with a word, and one that doesn't
pub words-word : (bytes part behind : List ℕ) → part ≡ before_first is_blank bytes → behind ≡ after_first is_blank bytes → 0 < length part
    → words bytes ≡ part ∷ words behind
words-word bytes part behind front back some =
    words-first bytes
    ∙ ap (λ w. with_part w (words (after_first is_blank bytes))) (sym front)
    ∙ ap (λ b. with_part part (words b)) (sym back)
    ∙ ap (λ b. cond b (part ∷ words behind) (words behind)) (lt-ltb 0 (length part) some)

pub words-blank : (bytes part behind : List ℕ) → part ≡ before_first is_blank bytes → behind ≡ after_first is_blank bytes → length part ≤ 0
    → words bytes ≡ words behind
words-blank bytes part behind front back none =
    words-first bytes
    ∙ ap (λ w. with_part w (words (after_first is_blank bytes))) (sym front)
    ∙ ap (λ b. with_part part (words b)) (sym back)
    ∙ ap (λ b. cond b (part ∷ words behind) (words behind)) (le-ltb 0 (length part) none)
