-- For `before_comment` and `first_line`: what stands before a line's comment, and plain bytes before a line feed.
use Rattle.std.proofs.Common.{◌≡◌, ◌==◌, ℕ, ◌<◌, ◌≤◌, Bool, true, false, cond, not, ◌&&◌, ltb, List, length, take, get_or}
use Rattle.std.proofs.Common.{refl, sym, ap, subst, ◌∙◌, arith, true≢false, ltb-true, ltb-false, eq-eqb, ne_eqb, eqb-true}
use Rattle.std.specs.Prelude.{Option, Some, None}
use Rattle.std.specs.List.{position_or_len, list_all}
use Rattle.std.proofs.lemmas.Bool.{and_parts, not-true, not-false}
use Rattle.std.proofs.lemmas.List.{take_all, length-take-le, get_or-take}
use Rattle.std.proofs.lemmas.List.Folds.{list_all_at}
use Rattle.std.proofs.lemmas.List.Sums.{prefix_len-le-length, position_or_len_is, fails_before_first, passes_at_first, list_all-from_AllPass, AllPass-from_list_all}
use Rattle.std.proofs.lemmas.Option.{none-some, same_Some}
use Rattle.vg_script.specs.Lines.{without_comment, is_allowed, is_plain}
use Rattle.vg_script.proofs.SplitLemmas.{before_none}
use native.Mathlib.Decide.{dec_lt}

-- the bytes before this place are plain
record ArePlain (line : List ℕ) (place : ℕ) : Type 0 where
  each : (k d : ℕ) → k < place → is_plain (get_or line k d) ≡ true

-- this byte is not plain
abbrev pub is_other : ℕ → Bool
is_other byte = not (is_plain byte)

no_mark : (byte : ℕ) → is_plain byte ≡ true → (byte == 35) ≡ false
no_mark byte h = not-true (byte == 35) (and_parts (is_allowed byte) (not (byte == 35)) h).1

plain_before : (line : List ℕ) (place : ℕ) → place ≡ position_or_len is_other line → ArePlain line place
plain_before line place is = record {
  each = λ k d below. not-false (is_plain (get_or line k d)) (fails_before_first is_other line k d (subst (λ n. k < n) is below));
}

-- plain bytes are allowed
plain_allowed : (line : List ℕ) (place : ℕ) → place ≤ length line → ArePlain line place → list_all is_allowed (take place line) ≡ true
plain_allowed line place within plain =
    list_all-from_AllPass is_allowed (take place line) (λ k d below. allowed_at k d (subst (λ n. k < n) (length-take-le place line within) below))
  where
    allowed_at : (k d : ℕ) → k < place → is_allowed (get_or (take place line) k d) ≡ true
    allowed_at k d below =
        ap is_allowed (get_or-take place line k d below)
        ∙ (and_parts (is_allowed (get_or line k d)) (not (get_or line k d == 35)) (plain.each k d below)).0

-- no comment, a comment behind plain bytes, and a byte that is not allowed
all_plain : (line : List ℕ) → ArePlain line (length line) → (line ≡ without_comment line) × (list_all is_allowed line ≡ true)
all_plain line plain =
    let is : position_or_len (λ byte. byte == 35) line ≡ length line =
    position_or_len_is (λ byte. byte == 35) line (length line) 0 (omega arith) (λ k below. no_mark (get_or line k 0) (plain.each k 0 below)) (λ within. absurd (omega (arith, within))) in (
      sym (before_none (λ byte. byte == 35) line (omega (arith, is))),
      sym (ap (list_all is_allowed) (take_all (length line) line (omega arith))) ∙ plain_allowed line (length line) (omega arith) plain,
    )

no_comment : (line : List ℕ) → length line ≤ position_or_len is_other line → (line ≡ without_comment line) × (list_all is_allowed line ≡ true)
no_comment line none =
    all_plain line (record { each = λ k d below. not-false (is_plain (get_or line k d)) (fails_before_first is_other line k d (omega (arith, none, below))) })

-- a line that is known to be plain
pub known_plain : (line : List ℕ) → list_all is_plain line ≡ true → (line ≡ without_comment line) × (list_all is_allowed line ≡ true)
known_plain line known = all_plain line (record { each = λ k d below. AllPass-from_list_all is_plain line known k d below })

a_comment : (line : List ℕ) (place : ℕ) → place < length line → ArePlain line place → get_or line place 0 ≡ 35
    → (take place line ≡ without_comment line) × (list_all is_allowed (take place line) ≡ true)
a_comment line place within plain at =
    let is : position_or_len (λ byte. byte == 35) line ≡ place =
    position_or_len_is (λ byte. byte == 35) line place 0 (omega (arith, within)) (λ k below. no_mark (get_or line k 0) (plain.each k 0 below)) (λ _. eq-eqb (get_or line place 0) 35 at) in
    (ap (λ n. take n line) (sym is), plain_allowed line place (omega (arith, within)) plain)

not_allowed : (byte : ℕ) → is_plain byte ≡ false → (byte ≡ 35 → ⊥) → is_allowed byte ≡ false
not_allowed byte other unmarked = by_test (is_allowed byte) (byte == 35) refl other
  where
    by_test : (b m : Bool) → (byte == 35) ≡ m → (b && not m) ≡ false → b ≡ false
    by_test true true e h = absurd (unmarked (eqb-true byte 35 e))
    by_test true false e h = absurd (true≢false h)
    by_test false m e h = refl

mark_behind : (line : List ℕ) (place mark : ℕ) → mark ≡ position_or_len (λ byte. byte == 35) line → place < length line → ArePlain line place
    → (get_or line place 0 ≡ 35 → ⊥) → place < mark
mark_behind line place mark is within plain unmarked = by_place (dec_lt place mark)
  where
    at_mark : mark < length line → get_or line mark 0 ≡ 35
    at_mark h =
        eqb-true (get_or line mark 0) 35
        (subst (λ n. (get_or line n 0 == 35) ≡ true) (sym is) (passes_at_first (λ byte. byte == 35) line 0 (subst (λ n. n < length line) is h)))

    not_before : mark < place → ⊥
    not_before less =
        true≢false (sym (eq-eqb (get_or line mark 0) 35 (at_mark (omega (arith, less, within)))) ∙ no_mark (get_or line mark 0) (plain.each mark 0 less))

    not_there : mark ≡ place → ⊥
    not_there same = unmarked (subst (λ n. get_or line n 0 ≡ 35) same (at_mark (omega (arith, same, within))))

    by_mark : (place < mark → ⊥) → Dec (mark < place) → place < mark
    by_mark h (yes less) = absurd (not_before less)
    by_mark h (no more) = absurd (not_there (omega (arith, h, more)))

    by_place : Dec (place < mark) → place < mark
    by_place (yes h) = h
    by_place (no h) = by_mark h (dec_lt mark place)

bad_byte : (line : List ℕ) (place : ℕ) → place < length line → ArePlain line place → is_plain (get_or line place 0) ≡ false → (get_or line place 0 ≡ 35 → ⊥)
    → list_all is_allowed (without_comment line) ≡ false
bad_byte line place within plain other unmarked =
    let behind : place < position_or_len (λ byte. byte == 35) line = mark_behind line place _ refl within plain unmarked in
    let long : length (without_comment line) ≡ position_or_len (λ byte. byte == 35) line =
    length-take-le (position_or_len (λ byte. byte == 35) line) line (prefix_len-le-length (λ byte. not (byte == 35)) line) in
    list_all_at is_allowed (without_comment line) place 0 (omega (arith, behind, long))
    (ap is_allowed (get_or-take (position_or_len (λ byte. byte == 35) line) line place 0 behind) ∙ not_allowed (get_or line place 0) other unmarked)

-- what a search for a byte that is not plain found
abbrev pub Found : List ℕ → Option ℕ → Type 0
Found line o = o ≡ cond (ltb (position_or_len is_other line) (length line)) (Some (position_or_len is_other line)) None

found_place : (line : List ℕ) (place : ℕ) → Found line (Some place) → (place ≡ position_or_len is_other line) × (place < length line)
found_place line place found = by_test (ltb (position_or_len is_other line) (length line)) refl found
  where
    by_test : (b : Bool) → ltb (position_or_len is_other line) (length line) ≡ b → Some place ≡ cond b (Some (position_or_len is_other line)) None
        → (place ≡ position_or_len is_other line) × (place < length line)
    by_test true e found =
        let same : place ≡ position_or_len is_other line = same_Some place (position_or_len is_other line) found in
        (same, subst (λ n. n < length line) (sym same) (ltb-true _ _ e))
    by_test false e found = absurd (none-some place (sym found))

pub plain_line : (line : List ℕ) → Found line None → (line ≡ without_comment line) × (list_all is_allowed line ≡ true)
plain_line line found = by_test (ltb (position_or_len is_other line) (length line)) refl found
  where
    by_test : (b : Bool) → ltb (position_or_len is_other line) (length line) ≡ b → None ≡ cond b (Some (position_or_len is_other line)) None
        → (line ≡ without_comment line) × (list_all is_allowed line ≡ true)
    by_test true e found = absurd (none-some (position_or_len is_other line) found)
    by_test false e found = no_comment line (ltb-false _ _ e)

pub commented_line : (line : List ℕ) (place : ℕ) → Found line (Some place) → get_or line place 0 ≡ 35
    → (take place line ≡ without_comment line) × (list_all is_allowed (take place line) ≡ true)
commented_line line place found at =
    let is = found_place line place found in
    a_comment line place is.1 (plain_before line place is.0) at

pub bad_line : (line : List ℕ) (place : ℕ) → Found line (Some place) → (get_or line place 0 ≡ 35 → ⊥) → list_all is_allowed (without_comment line) ≡ false
bad_line line place found unmarked =
    let is = found_place line place found in
    let here : position_or_len is_other line < length line = subst (λ n. n < length line) is.0 is.1 in
    let other : is_plain (get_or line place 0) ≡ false =
    subst (λ n. is_plain (get_or line n 0) ≡ false) (sym is.0) (not-true (is_plain (get_or line (position_or_len is_other line) 0)) (passes_at_first is_other line 0 here)) in
    bad_byte line place is.1 (plain_before line place is.0) other unmarked

-- plain bytes before a line feed are a line
no_feed : (byte : ℕ) → is_plain byte ≡ true → (byte == 10) ≡ false
no_feed byte plain = ne_eqb byte 10 (λ e. true≢false (sym plain ∙ ap is_plain e))

pub feed_place : (text : List ℕ) (place : ℕ) → Found text (Some place) → get_or text place 0 ≡ 10 → position_or_len (λ byte. byte == 10) text ≡ place
feed_place text place found at =
    let is = found_place text place found in
    let plain : ArePlain text place = plain_before text place is.0 in
    position_or_len_is (λ byte. byte == 10) text place 0 (omega (arith, is.1)) (λ k below. no_feed (get_or text k 0) (plain.each k 0 below))
    (λ _. eq-eqb (get_or text place 0) 10 at)

pub plain_up_to : (text : List ℕ) (place : ℕ) → Found text (Some place) → list_all is_plain (take place text) ≡ true
plain_up_to text place found =
    let is = found_place text place found in
    let plain : ArePlain text place = plain_before text place is.0 in
    list_all-from_AllPass is_plain (take place text) (λ k d below.
    let inside : k < place = subst (λ n. k < n) (length-take-le place text (omega (arith, is.1))) below in
    ap is_plain (get_or-take place text k d inside) ∙ plain.each k d inside)
