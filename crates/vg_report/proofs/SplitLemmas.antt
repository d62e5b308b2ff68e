-- For the clauses of `cut_at_first` and `cut_at_near`, and of `Parts::{is_empty, next}`:
-- Texts that are cut at the first byte of a kind.
use Rattle.std.proofs.Common.{◌≡◌, ◌==◌, ℕ, suc, ◌+◌, ◌-◌, ◌<◌, ◌≤◌, Bool, true, false, List, [], ◌∷◌, length, take, drop, Bor, not, refl, sym, subst, ap, ◌∙◌, arith, eq-eqb, ne_eqb}
use Rattle.std.specs.Prelude.{Option, Some, None, is_some, get_or}
use Rattle.std.specs.Option.{option_copied}
use Rattle.std.specs.List.{position_or_len, before_first, after_first, slice_split, onto_first}
use Rattle.std.proofs.lemmas.List.{take_rest}
use Rattle.std.proofs.lemmas.List.Sums.{position_or_len_is}
use Rattle.std.proofs.lemmas.List.Splits.{slice_split_first, length-slice_split}
use Rattle.memchr.specs.Find.{IsFirstByte, is_byte}
use Rattle.vg_report.specs.Parts.{IsCut, parts_of}

-- where a search for a byte found a place, and where it found none
is_not : (mark byte : ℕ) → ¬ ((byte == mark) ≡ true) → (byte == mark) ≡ false
is_not mark byte h = by_test (byte == mark) h
  where
    by_test : (b : Bool) → ¬ (b ≡ true) → b ≡ false
    by_test true h = absurd (h refl)
    by_test false h = refl

pub at_first : (mark : ℕ) (text : List ℕ) (place : ℕ) → IsFirstByte (is_byte mark) text (Some place)
    → (place ≡ position_or_len (λ byte. byte == mark) text) × (position_or_len (λ byte. byte == mark) text < length text)
at_first mark text place h =
    let is = position_or_len_is (λ byte. byte == mark) text place 0 (omega (arith, h.0.high)) (λ k below. is_not mark (get_or text k 0) (h.0.before k (omega arith) below)) (λ within. h.1) in
    (sym is, subst (λ n. n < length text) (sym is) h.0.high)

pub at_no_first : (mark : ℕ) (text : List ℕ) → IsFirstByte (is_byte mark) text None → length text ≤ position_or_len (λ byte. byte == mark) text
at_no_first mark text h =
    let is = position_or_len_is (λ byte. byte == mark) text (length text) 0 (omega arith) (λ k below. is_not mark (get_or text k 0) (h k (omega arith) below)) (λ within. absurd (omega (arith, within))) in
    subst (λ n. length text ≤ n) (sym is) (omega arith)

-- the same, where one byte after the other was looked at
pub at_near : (mark : ℕ) (text : List ℕ) (place : ℕ) → place < length text → ((k : ℕ) → k < place → get_or text k 0 ≡ mark → ⊥) → get_or text place 0 ≡ mark
    → (place ≡ position_or_len (λ byte. byte == mark) text) × (position_or_len (λ byte. byte == mark) text < length text)
at_near mark text place high before at =
    let is = position_or_len_is (λ byte. byte == mark) text place 0 (omega (arith, high)) (λ k below. ne_eqb (get_or text k 0) mark (before k below)) (λ within. eq-eqb (get_or text place 0) mark at) in
    (sym is, subst (λ n. n < length text) (sym is) high)

pub at_none_near : (mark : ℕ) (text : List ℕ) → ((k : ℕ) → k < length text → get_or text k 0 ≡ mark → ⊥) → length text ≤ position_or_len (λ byte. byte == mark) text
at_none_near mark text none =
    let is = position_or_len_is (λ byte. byte == mark) text (length text) 0 (omega arith) (λ k below. ne_eqb (get_or text k 0) mark (none k below)) (λ within. absurd (omega (arith, within))) in
    subst (λ n. length text ≤ n) (sym is) (omega arith)

-- what stands before the place, and what stands behind it
pub before_place : {X : Type 0} (p : X → Bool) (xs : List X) (place : ℕ) → place ≡ position_or_len p xs → take place xs ≡ before_first p xs
before_place p xs place h = ap (λ n. take n xs) h

pub after_place : {X : Type 0} (p : X → Bool) (xs : List X) (place : ℕ) → place ≡ position_or_len p xs
    → take (length xs - (place + 1)) (drop (place + 1) xs) ≡ after_first p xs
after_place p xs place h = take_rest xs (place + 1) ∙ ap (λ n. drop (n + 1) xs) h

-- the parts of a text that is cut, and of one that isn't
first_passes : {X : Type 0} (p : X → Bool) (x : X) (xs : List X) → p x ≡ true → position_or_len p (x ∷ xs) ≡ 0
first_passes p x xs h = rw h refl

later_passes : {X : Type 0} (p : X → Bool) (x : X) (xs : List X) → p x ≡ false → position_or_len p (x ∷ xs) ≡ suc (position_or_len p xs)
later_passes p x xs h = rw h (omega arith)

uncut : (p : ℕ → Bool) (byte : ℕ) (bytes : List ℕ) → (length bytes ≤ position_or_len p bytes → slice_split p bytes ≡ bytes ∷ [])
    → length (byte ∷ bytes) ≤ position_or_len p (byte ∷ bytes) → (b : Bool) → p byte ≡ b → slice_split p (byte ∷ bytes) ≡ (byte ∷ bytes) ∷ []
uncut p byte bytes rest h true e =
    let first : position_or_len p (byte ∷ bytes) ≡ 0 = first_passes p byte bytes e in
    let long : suc (length bytes) ≤ 0 = subst (λ n. suc (length bytes) ≤ n) first h in
    absurd (omega (arith, long))
uncut p byte bytes rest h false e =
    let later : position_or_len p (byte ∷ bytes) ≡ suc (position_or_len p bytes) = later_passes p byte bytes e in
    let long : suc (length bytes) ≤ suc (position_or_len p bytes) = subst (λ n. suc (length bytes) ≤ n) later h in
    rw e (ap (onto_first byte) (rest (omega (arith, long))))

slice_split-uncut : (p : ℕ → Bool) (bytes : List ℕ) → length bytes ≤ position_or_len p bytes → slice_split p bytes ≡ bytes ∷ []
slice_split-uncut p [] h = refl
slice_split-uncut p (byte ∷ bytes) h = uncut p byte bytes (slice_split-uncut p bytes) h (p byte) refl

pub parts_uncut : (mark : ℕ) (text : List ℕ) → IsCut mark text None → slice_split (λ byte. byte == mark) text ≡ text ∷ []
parts_uncut mark text h = slice_split-uncut (λ byte. byte == mark) text h

pub parts_cut : (mark : ℕ) (text before after : List ℕ) → IsCut mark text (Some (before, after))
    → slice_split (λ byte. byte == mark) text ≡ before ∷ slice_split (λ byte. byte == mark) after
parts_cut mark text before after h =
    slice_split_first (λ byte. byte == mark) text 0 h.0
    ∙ ap (λ part. part ∷ slice_split (λ byte. byte == mark) (after_first (λ byte. byte == mark) text)) (sym h.1)
    ∙ ap (λ rest. before ∷ slice_split (λ byte. byte == mark) rest) (sym h.2)

-- a text has a part
pub some_part : (p : ℕ → Bool) (text : List ℕ) → slice_split p text ≡ [] → ⊥
some_part p text h = let none : length (slice_split p text) ≡ 0 = ap length h in absurd (omega (arith, none, length-slice_split p text))

pub no_part_left : (mark : ℕ) (rest : Option (Bor (List ℕ))) (b : Bool) (parts : List (List ℕ)) → is_some rest ≡ not b
    → parts_of mark (option_copied rest) ≡ parts → (b ≡ true → parts ≡ []) × (parts ≡ [] → b ≡ true)
no_part_left mark (Some text) true parts h v = absurd cc
no_part_left mark (Some text) false parts h v = ((λ e. absurd cc), λ e. absurd (some_part (λ byte. byte == mark) text.now (v ∙ e)))
no_part_left mark None true parts h v = ((λ e. sym v), λ e. refl)
no_part_left mark None false parts h v = absurd cc
