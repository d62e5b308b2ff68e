-- For `byte_before_dot` and `address`: the number in front of the first `.`, digit by digit.
use Rattle.std.proofs.Common.{◌≡◌, ◌≢◌, ◌==◌, ℕ, zero, suc, ◌+◌, ◌*◌, ◌-◌, ◌≤◌, Bool, true, false, cond, not, ◌&&◌, List, [], ◌∷◌}
use Rattle.std.proofs.Common.{refl, sym, ap, subst, ◌∙◌, arith, true≢false, eq-eqb, ne_eqb, eqb-true}
use Rattle.std.specs.Prelude.{Option, Some, None, option_map}
use Rattle.std.specs.Option.{option_or}
use Rattle.std.specs.Char.{is_ascii_digit}
use Rattle.std.specs.Int.{is_in_range}
use Rattle.std.specs.List.{before_first, after_first}
use Rattle.std.proofs.lemmas.Bool.{and_parts, and_from}
use Rattle.std.proofs.lemmas.Option.{same_Some}
use Rattle.vg_script.specs.Classes.{◌>>=◌, is_decimal, number_of, parted_by}
use Rattle.vg_script.specs.Fronts.{ended, with_second, with_third, number_in_front}
use Rattle.vg_script.proofs.ClassLemmas.{decimal_digits, long_decimal}
use Rattle.vg_script.proofs.NumberLemmas.{from_digits, long_number, no_decimal, range_low, leads_back}
use Rattle.vg_script.proofs.SplitLemmas.{before_none, after_none, before_first-yes, before_first-no, after_first-yes, after_first-no}

abbrev pub is_dot : ℕ → Bool
is_dot byte = byte == 46

-- a number below a thousand that was found, and what is behind it, by what stands before and after the first `.`
pub record IsFront (before after : List ℕ) (found : Option (ℕ × List ℕ)) : Type 0 where
  pub missing : found ≡ None → after ≢ [] → None ≡ number_of 0 999 before
  pub there : (number : ℕ) (rest : List ℕ) → found ≡ Some (number, rest) → (Some number ≡ number_of 0 999 before) × (rest ≡ after)

not_found : {before after : List ℕ} → (after ≢ [] → None ≡ number_of 0 999 before) → IsFront before after None
not_found {before} {after} h = record { missing = λ e. h; there = λ number rest e. absurd (let bad : ⊥ = cc in bad) }

is_found : {before after : List ℕ} {number : ℕ} → Some number ≡ number_of 0 999 before → IsFront before after (Some (number, after))
is_found {before} {after} {number} h = record {
  missing = λ e. absurd (let bad : ⊥ = cc in bad);
  there = λ n rest e.
      let pair : (number, after) ≡ (n, rest) = same_Some (number, after) (n, rest) e in
      (ap (λ p. Some p.0) (sym pair) ∙ h, ap (λ p. p.1) (sym pair));
}

-- the same of what is equal
moved : {before before' after after' : List ℕ} {found found' : Option (ℕ × List ℕ)} → before ≡ before' → after ≡ after' → found ≡ found'
    → IsFront before' after' found' → IsFront before after found
moved {before} {before'} {after} {after'} {found} {found'} b a f front =
    subst (λ x. IsFront x after found) (sym b) (subst (λ x. IsFront before' x found) (sym a) (subst (λ x. IsFront before' after' x) (sym f) front))

read_as : {before after : List ℕ} {found found' : Option (ℕ × List ℕ)} → found ≡ found' → IsFront before after found' → IsFront before after found
read_as {before} {after} {found} {found'} f front = subst (λ x. IsFront before after x) (sym f) front

-- where nothing is behind a `.`, no number was found
no_end : (before : List ℕ) → IsFront before (after_first is_dot []) None
no_end before = not_found (λ some. absurd (some (after_none is_dot [] (omega arith))))

-- a digit is no `.`
no_dot : (a : ℕ) → is_ascii_digit a ≡ true → is_dot a ≡ false
no_dot a digit = let low : 48 ≤ a = range_low 48 57 a digit in ne_eqb a 46 (λ e. omega (arith, e, low))

-- the first of several digits
leads : (a : ℕ) → is_ascii_digit a ≡ true → (a - 48 == 0) ≡ false → is_in_range 49 57 a ≡ true
leads a digit other = leads_back a digit (ap not (ne_eqb a 48 (λ e. true≢false (sym (eq-eqb (a - 48) 0 (omega (arith, e))) ∙ other))))

-- numbers of one digit, two and three
number_one : (a : ℕ) → is_ascii_digit a ≡ true → Some (a - 48) ≡ number_of 0 999 (a ∷ [])
number_one a digit = from_digits (a ∷ []) (sym (ap (λ b. cond b (Some (a - 48)) None) digit))

number_two : (a b : ℕ) → is_in_range 49 57 a ≡ true → is_ascii_digit b ≡ true → Some ((a - 48) * 10 + (b - 48)) ≡ number_of 0 999 (a ∷ b ∷ [])
number_two a b lead digit =
    from_digits (a ∷ b ∷ []) (sym (ap (λ t. cond t (Some ((a - 48) * 10 + (b - 48))) None) (and_from (is_in_range 49 57 a) (is_in_range 48 57 b) lead digit)))

number_three : (a b c : ℕ) → is_in_range 49 57 a ≡ true → is_ascii_digit b ≡ true → is_ascii_digit c ≡ true
    → Some (((a - 48) * 10 + (b - 48)) * 10 + (c - 48)) ≡ number_of 0 999 (a ∷ b ∷ c ∷ [])
number_three a b c lead second third =
    let same : ((a - 48) * 10 + (b - 48)) * 10 + (c - 48) ≡ (a - 48) * 100 + (b - 48) * 10 + (c - 48) = omega arith in
    ap Some same
    ∙ from_digits (a ∷ b ∷ c ∷ [])
    (sym (ap (λ t. cond t (Some ((a - 48) * 100 + (b - 48) * 10 + (c - 48))) None)
    (and_from (is_in_range 49 57 a && is_in_range 48 57 b) (is_in_range 48 57 c) (and_from (is_in_range 49 57 a) (is_in_range 48 57 b) lead second) third)))

-- words that are no numbers: one of the first three bytes is no digit, or the first of several is a zero
not_decimal : (word : List ℕ) → (is_decimal word ≡ true → ⊥) → None ≡ number_of 0 999 word
not_decimal word h = by_test (is_decimal word) refl
  where
    by_test : (b : Bool) → is_decimal word ≡ b → None ≡ number_of 0 999 word
    by_test true e = absurd (h e)
    by_test false e = sym (no_decimal word 999 e)

not_first : (a : ℕ) (w : List ℕ) → is_ascii_digit a ≡ false → None ≡ number_of 0 999 (a ∷ w)
not_first a w other = not_decimal (a ∷ w) (λ e. true≢false (sym (and_parts (is_ascii_digit a) _ (decimal_digits (a ∷ w) e)).0 ∙ other))

not_second : (a b : ℕ) (w : List ℕ) → is_ascii_digit b ≡ false → None ≡ number_of 0 999 (a ∷ b ∷ w)
not_second a b w other =
    not_decimal (a ∷ b ∷ w) (λ e.
    let behind = (and_parts (is_ascii_digit a) _ (decimal_digits (a ∷ b ∷ w) e)).1 in
    true≢false (sym (and_parts (is_ascii_digit b) _ behind).0 ∙ other))

not_third : (a b c : ℕ) (w : List ℕ) → is_ascii_digit c ≡ false → None ≡ number_of 0 999 (a ∷ b ∷ c ∷ w)
not_third a b c w other =
    not_decimal (a ∷ b ∷ c ∷ w) (λ e.
    let behind = (and_parts (is_ascii_digit a) _ (decimal_digits (a ∷ b ∷ c ∷ w) e)).1 in
    let last = (and_parts (is_ascii_digit b) _ behind).1 in
    true≢false (sym (and_parts (is_ascii_digit c) _ last).0 ∙ other))

zero_first : (a b : ℕ) (w : List ℕ) → is_ascii_digit a ≡ true → (a - 48 == 0) ≡ true → None ≡ number_of 0 999 (a ∷ b ∷ w)
zero_first a b w digit none =
    not_decimal (a ∷ b ∷ w) (λ e.
    let other : not (a == 48) ≡ true = long_decimal (a ∷ b ∷ w) (omega arith) (decimal_digits (a ∷ b ∷ w) e) (λ one. omega (arith, one)) ∙ e in
    let low : 49 ≤ a = range_low 49 57 a (leads_back a digit other) in
    let same : a - 48 ≡ 0 = eqb-true (a - 48) 0 none in
    omega (arith, low, same))

-- what is read at a `.`, and at another byte
dot_read : (number b : ℕ) (u : List ℕ) (others : Option (ℕ × List ℕ)) → is_dot b ≡ true → option_or (ended number (b ∷ u)) others ≡ Some (number, u)
dot_read number b u others e = ap (λ m. option_or (option_map (λ behind. (number, behind)) (cond m (Some u) None)) others) e

other_read : (number b : ℕ) (u : List ℕ) (others : Option (ℕ × List ℕ)) → is_dot b ≡ false → option_or (ended number (b ∷ u)) others ≡ others
other_read number b u others e = ap (λ m. option_or (option_map (λ behind. (number, behind)) (cond m (Some u) None)) others) e

-- a digit where the test passes, and what is read behind each digit
abbrev digit_if : Bool → ℕ → List ℕ → Option (ℕ × List ℕ)
digit_if t byte rest = cond t (Some (byte - 48, rest)) None

abbrev behind_third : ℕ → Option (ℕ × List ℕ) → Option (ℕ × List ℕ)
behind_third number found = found >>= λ third. ended (number * 10 + third.0) third.1

abbrev behind_second : ℕ → Option (ℕ × List ℕ) → Option (ℕ × List ℕ)
behind_second number found = found >>= λ second. option_or (ended (number * 10 + second.0) second.1) (with_third (number * 10 + second.0) second.1)

abbrev several : ℕ → List ℕ → Option (ℕ × List ℕ)
several number rest = cond (number == 0) None (with_second number rest)

abbrev behind_first : Option (ℕ × List ℕ) → Option (ℕ × List ℕ)
behind_first found = found >>= λ first. option_or (ended first.0 first.1) (several first.0 first.1)

-- behind three digits
fourth_is : (a b c : ℕ) (v : List ℕ) → is_in_range 49 57 a ≡ true → is_ascii_digit b ≡ true → is_ascii_digit c ≡ true
    → IsFront (a ∷ b ∷ c ∷ before_first is_dot v) (after_first is_dot v) (ended (((a - 48) * 10 + (b - 48)) * 10 + (c - 48)) v)
fourth_is a b c [] lead second third = no_end (a ∷ b ∷ c ∷ before_first is_dot [])
fourth_is a b c (d ∷ x) lead second third = by_dot (is_dot d) refl
  where
    by_dot : (m : Bool) → is_dot d ≡ m → IsFront (a ∷ b ∷ c ∷ before_first is_dot (d ∷ x)) (after_first is_dot (d ∷ x)) (ended (((a - 48) * 10 + (b - 48)) * 10 + (c - 48)) (d ∷ x))
    by_dot true e =
        moved (ap (λ w. a ∷ b ∷ c ∷ w) (before_first-yes is_dot d x e)) (after_first-yes is_dot d x e)
        (ap (λ m. option_map (λ behind. (((a - 48) * 10 + (b - 48)) * 10 + (c - 48), behind)) (cond m (Some x) None)) e)
        (is_found (number_three a b c lead second third))
    by_dot false e =
        moved (ap (λ w. a ∷ b ∷ c ∷ w) (before_first-no is_dot d x e)) (after_first-no is_dot d x e)
        (ap (λ m. option_map (λ behind. (((a - 48) * 10 + (b - 48)) * 10 + (c - 48), behind)) (cond m (Some x) None)) e)
        (not_found (λ some. long_number (a ∷ b ∷ c ∷ d ∷ before_first is_dot x) (omega arith)))

-- behind two digits
third_is : (a b : ℕ) (u : List ℕ) → is_in_range 49 57 a ≡ true → is_ascii_digit b ≡ true
    → IsFront (a ∷ b ∷ before_first is_dot u) (after_first is_dot u)
    (option_or (ended ((a - 48) * 10 + (b - 48)) u) (with_third ((a - 48) * 10 + (b - 48)) u))
third_is a b [] lead second = no_end (a ∷ b ∷ before_first is_dot [])
third_is a b (c ∷ v) lead second = by_dot (is_dot c) refl
  where
    by_digit : (t : Bool) → is_ascii_digit c ≡ t
        → IsFront (a ∷ b ∷ c ∷ before_first is_dot v) (after_first is_dot v) (with_third ((a - 48) * 10 + (b - 48)) (c ∷ v))
    by_digit true e =
        read_as (ap (λ t. behind_third ((a - 48) * 10 + (b - 48)) (digit_if t c v)) e)
        (fourth_is a b c v lead second e)
    by_digit false e =
        read_as (ap (λ t. behind_third ((a - 48) * 10 + (b - 48)) (digit_if t c v)) e)
        (not_found (λ some. not_third a b c (before_first is_dot v) e))

    by_dot : (m : Bool) → is_dot c ≡ m
        → IsFront (a ∷ b ∷ before_first is_dot (c ∷ v)) (after_first is_dot (c ∷ v))
        (option_or (ended ((a - 48) * 10 + (b - 48)) (c ∷ v)) (with_third ((a - 48) * 10 + (b - 48)) (c ∷ v)))
    by_dot true e =
        moved (ap (λ w. a ∷ b ∷ w) (before_first-yes is_dot c v e)) (after_first-yes is_dot c v e)
        (dot_read ((a - 48) * 10 + (b - 48)) c v (with_third ((a - 48) * 10 + (b - 48)) (c ∷ v)) e) (is_found (number_two a b lead second))
    by_dot false e =
        moved (ap (λ w. a ∷ b ∷ w) (before_first-no is_dot c v e)) (after_first-no is_dot c v e)
        (other_read ((a - 48) * 10 + (b - 48)) c v (with_third ((a - 48) * 10 + (b - 48)) (c ∷ v)) e) (by_digit (is_ascii_digit c) refl)

-- behind one digit
abbrev nothing : Option (ℕ × List ℕ)
nothing = None

none_either_way : (b : Bool) → cond b nothing nothing ≡ nothing
none_either_way true = refl
none_either_way false = refl

second_is : (a : ℕ) (t : List ℕ) → is_ascii_digit a ≡ true
    → IsFront (a ∷ before_first is_dot t) (after_first is_dot t) (option_or (ended (a - 48) t) (several (a - 48) t))
second_is a [] first = read_as (none_either_way (a - 48 == 0)) (no_end (a ∷ before_first is_dot []))
second_is a (b ∷ u) first = by_dot (is_dot b) refl
  where
    by_digit : (t : Bool) → is_in_range 49 57 a ≡ true → is_ascii_digit b ≡ t
        → IsFront (a ∷ b ∷ before_first is_dot u) (after_first is_dot u) (with_second (a - 48) (b ∷ u))
    by_digit true lead e =
        read_as
        (ap (λ t. behind_second (a - 48) (digit_if t b u)) e)
        (third_is a b u lead e)
    by_digit false lead e =
        read_as
        (ap (λ t. behind_second (a - 48) (digit_if t b u)) e)
        (not_found (λ some. not_second a b (before_first is_dot u) e))

    by_zero : (z : Bool) → (a - 48 == 0) ≡ z → IsFront (a ∷ b ∷ before_first is_dot u) (after_first is_dot u) (several (a - 48) (b ∷ u))
    by_zero true e =
        read_as (ap (λ z. cond z None (with_second (a - 48) (b ∷ u))) e) (not_found (λ some. zero_first a b (before_first is_dot u) first e))
    by_zero false e =
        read_as (ap (λ z. cond z None (with_second (a - 48) (b ∷ u))) e) (by_digit (is_ascii_digit b) (leads a first e) refl)

    by_dot : (m : Bool) → is_dot b ≡ m
        → IsFront (a ∷ before_first is_dot (b ∷ u)) (after_first is_dot (b ∷ u)) (option_or (ended (a - 48) (b ∷ u)) (several (a - 48) (b ∷ u)))
    by_dot true e =
        moved (ap (λ w. a ∷ w) (before_first-yes is_dot b u e)) (after_first-yes is_dot b u e)
        (dot_read (a - 48) b u (several (a - 48) (b ∷ u)) e) (is_found (number_one a first))
    by_dot false e =
        moved (ap (λ w. a ∷ w) (before_first-no is_dot b u e)) (after_first-no is_dot b u e)
        (other_read (a - 48) b u (several (a - 48) (b ∷ u)) e) (by_zero (a - 48 == 0) refl)

-- the number in front
pub front_is : (text : List ℕ) → IsFront (before_first is_dot text) (after_first is_dot text) (number_in_front text)
front_is [] = no_end (before_first is_dot [])
front_is (a ∷ t) = by_digit (is_ascii_digit a) refl
  where
    no_number : is_ascii_digit a ≡ false → (m : Bool) → is_dot a ≡ m → None ≡ number_of 0 999 (before_first is_dot (a ∷ t))
    no_number other true e = ap (number_of 0 999) (sym (before_first-yes is_dot a t e))
    no_number other false e = not_first a (before_first is_dot t) other ∙ ap (number_of 0 999) (sym (before_first-no is_dot a t e))

    by_digit : (d : Bool) → is_ascii_digit a ≡ d → IsFront (before_first is_dot (a ∷ t)) (after_first is_dot (a ∷ t)) (number_in_front (a ∷ t))
    by_digit true e =
        moved (before_first-no is_dot a t (no_dot a e)) (after_first-no is_dot a t (no_dot a e))
        (ap (λ d. behind_first (digit_if d a t)) e) (second_is a t e)
    by_digit false e =
        read_as (ap (λ d. behind_first (digit_if d a t)) e)
        (not_found (λ some. no_number e (is_dot a) refl))

-- the values of an address's parts: that of the first and those behind it
abbrev pub both : Option ℕ → Option (List ℕ) → Option (List ℕ)
both first others = first >>= λ x. others >>= λ xs. Some (x ∷ xs)

no_others : (first : Option ℕ) → both first None ≡ None
no_others None = refl
no_others (Some x) = refl

-- nothing has no parts
no_parts : (more : ℕ) → parted_by 46 (number_of 0 255) more [] ≡ None
no_parts zero = refl
no_parts (suc more) =
    ap (λ w. both (number_of 0 255 w) (parted_by 46 (number_of 0 255) more (after_first is_dot []))) (before_none is_dot [] (omega arith))

-- a first part without a value, and one with a value
pub no_byte : (text : List ℕ) (more : ℕ) → (after_first is_dot text ≢ [] → None ≡ number_of 0 255 (before_first is_dot text))
    → parted_by 46 (number_of 0 255) (suc more) text ≡ None
no_byte text more h = by_after (after_first is_dot text) refl
  where
    by_after : (after : List ℕ) → after_first is_dot text ≡ after → parted_by 46 (number_of 0 255) (suc more) text ≡ None
    by_after [] e =
        ap (λ r. both (number_of 0 255 (before_first is_dot text)) (parted_by 46 (number_of 0 255) more r)) e
        ∙ ap (both (number_of 0 255 (before_first is_dot text))) (no_parts more)
        ∙ no_others (number_of 0 255 (before_first is_dot text))
    by_after (x ∷ xs) e =
        ap (λ o. both o (parted_by 46 (number_of 0 255) more (after_first is_dot text))) (sym (h (λ nil. let bad : ⊥ = cc in bad)))

pub one_byte : (text : List ℕ) {behind : List ℕ} (more : ℕ) {byte : ℕ} → Some byte ≡ number_of 0 255 (before_first is_dot text) → behind ≡ after_first is_dot text
    → parted_by 46 (number_of 0 255) (suc more) text ≡ both (Some byte) (parted_by 46 (number_of 0 255) more behind)
one_byte text {behind} more {byte} is rest =
    ap (λ o. both o (parted_by 46 (number_of 0 255) more (after_first is_dot text))) (sym is)
    ∙ ap (λ r. both (Some byte) (parted_by 46 (number_of 0 255) more r)) (sym rest)

-- the last part
pub last_byte : (text : List ℕ) {byte : Option ℕ} → byte ≡ number_of 0 255 text → parted_by 46 (number_of 0 255) 0 text ≡ both byte (Some [])
last_byte text {byte} is = ap (λ o. both o (Some [])) (sym is)
