-- For `short_number` and `number_up_to`: numbers of at most three digits.
use Rattle.std.proofs.Common.{◌≡◌, ℕ, ◌+◌, ◌*◌, ◌-◌, ◌<◌, ◌≤◌, Bool, true, false, cond, not, ◌&&◌, ◌==◌, leb, List, [], ◌∷◌, length}
use Rattle.std.proofs.Common.{refl, sym, ap, ◌∙◌, arith, true≢false, le-leb, leb-true, eq-eqb, ne_eqb}
use Rattle.std.specs.Prelude.{Option, Some, None, slice_index}
use Rattle.std.specs.Char.{is_ascii_digit, digit_value}
use Rattle.std.specs.Int.{is_in_range}
use Rattle.std.specs.Str.Parse.{digits_value}
use Rattle.std.proofs.lemmas.Bool.{and_parts, and_from, and_right, lt-leb}
use Rattle.std.proofs.lemmas.Option.{none-some, same_Some}
use Rattle.std.proofs.lemmas.Str.{digit_value_digit}
use Rattle.std.proofs.lemmas.Str.Parse.{digits_value-take-le}
use Rattle.vg_script.specs.Classes.{is_decimal, number_of}
use Rattle.vg_script.proofs.ClassLemmas.{decimal_digits, long_decimal}
use native.Mathlib.Decide.{dec_lt}

-- a word that is no number, one that is, and one that is too large
pub no_decimal : (word : List ℕ) (most : ℕ) → is_decimal word ≡ false → number_of 0 most word ≡ None
no_decimal word most h =
    ap (λ b. cond (b && leb 0 (digits_value 10 word) && leb (digits_value 10 word) most) (Some (digits_value 10 word)) None) h

a_decimal : (word : List ℕ) (most : ℕ) → is_decimal word ≡ true → digits_value 10 word ≤ most → number_of 0 most word ≡ Some (digits_value 10 word)
a_decimal word most decimal small =
    ap (λ b. cond b (Some (digits_value 10 word)) None)
    (and_from (is_decimal word && leb 0 (digits_value 10 word)) (leb (digits_value 10 word) most)
    (and_from (is_decimal word) (leb 0 (digits_value 10 word)) decimal (le-leb 0 (digits_value 10 word) (omega arith)))
    (le-leb (digits_value 10 word) most small))

too_large : (word : List ℕ) (most : ℕ) → most < digits_value 10 word → number_of 0 most word ≡ None
too_large word most h =
    ap (λ b. cond b (Some (digits_value 10 word)) None)
    (and_right (is_decimal word && leb 0 (digits_value 10 word)) _ (lt-leb (digits_value 10 word) most h))

number_parts : (word : List ℕ) (most number : ℕ) → Some number ≡ number_of 0 most word → (is_decimal word ≡ true) × (digits_value 10 word ≡ number)
number_parts word most number is = by_test (is_decimal word) refl
  where
    by_size : is_decimal word ≡ true → Dec (most < digits_value 10 word) → (is_decimal word ≡ true) × (digits_value 10 word ≡ number)
    by_size e (yes h) = absurd (none-some number (sym (is ∙ too_large word most h)))
    by_size e (no h) = (e, same_Some (digits_value 10 word) number (sym (is ∙ a_decimal word most e (omega (arith, h)))))

    by_test : (b : Bool) → is_decimal word ≡ b → (is_decimal word ≡ true) × (digits_value 10 word ≡ number)
    by_test true e = by_size e (dec_lt most (digits_value 10 word))
    by_test false e = absurd (none-some number (sym (is ∙ no_decimal word most e)))

-- a number below a thousand, where it is at most so great
pub number_missing : (word : List ℕ) (most : ℕ) → most ≤ 999 → None ≡ number_of 0 999 word → None ≡ number_of 0 most word
number_missing word most few none = by_test (is_decimal word) refl
  where
    by_size : is_decimal word ≡ true → Dec (most < digits_value 10 word) → None ≡ number_of 0 most word
    by_size e (yes h) = sym (too_large word most h)
    by_size e (no h) = absurd (none-some (digits_value 10 word) (none ∙ a_decimal word 999 e (omega (arith, few, h))))

    by_test : (b : Bool) → is_decimal word ≡ b → None ≡ number_of 0 most word
    by_test true e = by_size e (dec_lt most (digits_value 10 word))
    by_test false e = sym (no_decimal word most e)

pub number_taken : (word : List ℕ) (most number : ℕ) → Some number ≡ number_of 0 999 word → number ≤ most → Some number ≡ number_of 0 most word
number_taken word most number is small =
    let parts = number_parts word 999 number is in
    ap Some (sym parts.1) ∙ sym (a_decimal word most parts.0 (omega (arith, parts.1, small)))

pub number_left : (word : List ℕ) (most number : ℕ) → Some number ≡ number_of 0 999 word → most < number → None ≡ number_of 0 most word
number_left word most number is large =
    let parts = number_parts word 999 number is in
    sym (too_large word most (omega (arith, parts.1, large)))

-- the number of one to three digits, by each of them
abbrev pub by_digits : List ℕ → Option ℕ
by_digits word =
    let a = slice_index word 0 in
    let b = slice_index word 1 in
    let c = slice_index word 2 in
    cond (length word == 1 && is_in_range 48 57 a) (Some (a - 48))
    (cond (length word == 2 && is_in_range 49 57 a && is_in_range 48 57 b) (Some ((a - 48) * 10 + (b - 48)))
    (cond (length word == 3 && is_in_range 49 57 a && is_in_range 48 57 b && is_in_range 48 57 c) (Some ((a - 48) * 100 + (b - 48) * 10 + (c - 48)))
    None))

-- a byte in a range
in_range : (low high n : ℕ) → low ≤ n → n ≤ high → is_in_range low high n ≡ true
in_range low high n above below = and_from (leb low n) (leb n high) (le-leb low n above) (le-leb n high below)

pub range_low : (low high n : ℕ) → is_in_range low high n ≡ true → low ≤ n
range_low low high n h = leb-true low n (and_parts (leb low n) (leb n high) h).0

range_high : (low high n : ℕ) → is_in_range low high n ≡ true → n ≤ high
range_high low high n h = leb-true n high (and_parts (leb low n) (leb n high) h).1

-- a digit, and one that leads others
digit : (a : ℕ) → is_ascii_digit a ≡ true → digit_value a ≡ a - 48
digit a h = omega (arith, digit_value_digit a (range_low 48 57 a h, range_high 48 57 a h))

leads : (a : ℕ) → is_in_range 49 57 a ≡ true → (is_ascii_digit a ≡ true) × (not (a == 48) ≡ true)
leads a h =
    let low : 49 ≤ a = range_low 49 57 a h in
    (in_range 48 57 a (omega (arith, low)) (range_high 49 57 a h), ap not (ne_eqb a 48 (λ e. omega (arith, e, low))))

pub leads_back : (a : ℕ) → is_ascii_digit a ≡ true → not (a == 48) ≡ true → is_in_range 49 57 a ≡ true
leads_back a h other =
    let low : 48 ≤ a = range_low 48 57 a h in
    let not_zero : (a ≡ 48 → ⊥) = λ e. true≢false (sym other ∙ ap not (eq-eqb a 48 e)) in
    in_range 49 57 a (omega (arith, low, not_zero)) (range_high 48 57 a h)

-- a test that says whether a word is a number
is_not : (b : Bool) → (b ≡ true → ⊥) → b ≡ false
is_not true h = absurd (h refl)
is_not false h = refl

number_by_test : (word : List ℕ) (test : Bool) (value : ℕ) → (test ≡ true → is_decimal word ≡ true) → (is_decimal word ≡ true → test ≡ true)
    → (test ≡ true → (digits_value 10 word ≡ value) × (value ≤ 999)) → cond test (Some value) None ≡ number_of 0 999 word
number_by_test word true value passes back is =
    let h = is refl in
    ap Some (sym h.0) ∙ sym (a_decimal word 999 (passes refl) (omega (arith, h.0, h.1)))
number_by_test word false value passes back is = sym (no_decimal word 999 (is_not (is_decimal word) (λ e. true≢false (sym (back e)))))

one : (a : ℕ) → by_digits (a ∷ []) ≡ number_of 0 999 (a ∷ [])
one a = number_by_test (a ∷ []) (is_in_range 48 57 a) (a - 48) passes back is
  where
    passes : is_in_range 48 57 a ≡ true → is_decimal (a ∷ []) ≡ true
    passes h = ap (λ b. (b && true) && true) h

    back : is_decimal (a ∷ []) ≡ true → is_in_range 48 57 a ≡ true
    back h = (and_parts (is_ascii_digit a) true (and_parts (is_ascii_digit a && true) true h).0).0

    is : is_in_range 48 57 a ≡ true → (digits_value 10 (a ∷ []) ≡ a - 48) × (a - 48 ≤ 999)
    is h = (omega (arith, digit a h), omega (arith, range_high 48 57 a h))

two : (a b : ℕ) → by_digits (a ∷ b ∷ []) ≡ number_of 0 999 (a ∷ b ∷ [])
two a b = number_by_test (a ∷ b ∷ []) (is_in_range 49 57 a && is_in_range 48 57 b) ((a - 48) * 10 + (b - 48)) passes back is
  where
    passes : (is_in_range 49 57 a && is_in_range 48 57 b) ≡ true → is_decimal (a ∷ b ∷ []) ≡ true
    passes h =
        let p = and_parts (is_in_range 49 57 a) (is_in_range 48 57 b) h in
        let lead = leads a p.0 in
        and_from (is_ascii_digit a && (is_ascii_digit b && true)) (not (a == 48))
        (and_from (is_ascii_digit a) (is_ascii_digit b && true) lead.0 (and_from (is_ascii_digit b) true p.1 refl)) lead.1

    back : is_decimal (a ∷ b ∷ []) ≡ true → (is_in_range 49 57 a && is_in_range 48 57 b) ≡ true
    back h =
        let p = and_parts (is_ascii_digit a && (is_ascii_digit b && true)) (not (a == 48)) h in
        let q = and_parts (is_ascii_digit a) (is_ascii_digit b && true) p.0 in
        and_from (is_in_range 49 57 a) (is_in_range 48 57 b) (leads_back a q.0 p.1) (and_parts (is_ascii_digit b) true q.1).0

    is : (is_in_range 49 57 a && is_in_range 48 57 b) ≡ true
        → (digits_value 10 (a ∷ b ∷ []) ≡ (a - 48) * 10 + (b - 48)) × ((a - 48) * 10 + (b - 48) ≤ 999)
    is h =
        let p = and_parts (is_in_range 49 57 a) (is_in_range 48 57 b) h in
        (omega (arith, digit a (leads a p.0).0, digit b p.1), omega (arith, range_high 49 57 a p.0, range_high 48 57 b p.1))

three : (a b c : ℕ) → by_digits (a ∷ b ∷ c ∷ []) ≡ number_of 0 999 (a ∷ b ∷ c ∷ [])
three a b c =
    number_by_test (a ∷ b ∷ c ∷ []) (is_in_range 49 57 a && is_in_range 48 57 b && is_in_range 48 57 c)
    ((a - 48) * 100 + (b - 48) * 10 + (c - 48)) passes back is
  where
    passes : (is_in_range 49 57 a && is_in_range 48 57 b && is_in_range 48 57 c) ≡ true → is_decimal (a ∷ b ∷ c ∷ []) ≡ true
    passes h =
        let p = and_parts (is_in_range 49 57 a && is_in_range 48 57 b) (is_in_range 48 57 c) h in
        let q = and_parts (is_in_range 49 57 a) (is_in_range 48 57 b) p.0 in
        let lead = leads a q.0 in
        and_from (is_ascii_digit a && (is_ascii_digit b && (is_ascii_digit c && true))) (not (a == 48))
        (and_from (is_ascii_digit a) (is_ascii_digit b && (is_ascii_digit c && true)) lead.0
        (and_from (is_ascii_digit b) (is_ascii_digit c && true) q.1 (and_from (is_ascii_digit c) true p.1 refl))) lead.1

    back : is_decimal (a ∷ b ∷ c ∷ []) ≡ true → (is_in_range 49 57 a && is_in_range 48 57 b && is_in_range 48 57 c) ≡ true
    back h =
        let p = and_parts (is_ascii_digit a && (is_ascii_digit b && (is_ascii_digit c && true))) (not (a == 48)) h in
        let q = and_parts (is_ascii_digit a) (is_ascii_digit b && (is_ascii_digit c && true)) p.0 in
        let r = and_parts (is_ascii_digit b) (is_ascii_digit c && true) q.1 in
        and_from (is_in_range 49 57 a && is_in_range 48 57 b) (is_in_range 48 57 c)
        (and_from (is_in_range 49 57 a) (is_in_range 48 57 b) (leads_back a q.0 p.1) r.0) (and_parts (is_ascii_digit c) true r.1).0

    is : (is_in_range 49 57 a && is_in_range 48 57 b && is_in_range 48 57 c) ≡ true
        → (digits_value 10 (a ∷ b ∷ c ∷ []) ≡ (a - 48) * 100 + (b - 48) * 10 + (c - 48)) × ((a - 48) * 100 + (b - 48) * 10 + (c - 48) ≤ 999)
    is h =
        let p = and_parts (is_in_range 49 57 a && is_in_range 48 57 b) (is_in_range 48 57 c) h in
        let q = and_parts (is_in_range 49 57 a) (is_in_range 48 57 b) p.0 in (
          omega (arith, digit a (leads a q.0).0, digit b q.1, digit c p.1),
          omega (arith, range_high 49 57 a q.0, range_high 48 57 b q.1, range_high 48 57 c p.1),
        )

-- a number of four digits or more is a thousand or more
long_none : (word : List ℕ) → 4 ≤ length word → by_digits word ≡ None
long_none word long =
    rw (ne_eqb (length word) 1 (λ e. omega (arith, e, long)), ne_eqb (length word) 2 (λ e. omega (arith, e, long)), ne_eqb (length word) 3 (λ e. omega (arith, e, long))) refl

a_thousand : (a b c d : ℕ) (ds : List ℕ) → is_decimal (a ∷ b ∷ c ∷ d ∷ ds) ≡ true → 999 < digits_value 10 (a ∷ b ∷ c ∷ d ∷ ds)
a_thousand a b c d ds decimal =
    let word : List ℕ = a ∷ b ∷ c ∷ d ∷ ds in
    let all = decimal_digits word decimal in
    let first : is_ascii_digit a ≡ true = (and_parts (is_ascii_digit a) _ all).0 in
    let other : not (a == 48) ≡ true = long_decimal word (omega arith) all (λ e. omega (arith, e)) ∙ decimal in
    let low : 49 ≤ a = range_low 49 57 a (leads_back a first other) in
    let part : digits_value 10 (a ∷ b ∷ c ∷ d ∷ []) ≤ digits_value 10 word = digits_value-take-le 10 word 4 (omega arith) in
    omega (arith, part, low, digit a first)

long : (a b c d : ℕ) (ds : List ℕ) → by_digits (a ∷ b ∷ c ∷ d ∷ ds) ≡ number_of 0 999 (a ∷ b ∷ c ∷ d ∷ ds)
long a b c d ds = long_none (a ∷ b ∷ c ∷ d ∷ ds) (omega arith) ∙ sym (by_test (is_decimal (a ∷ b ∷ c ∷ d ∷ ds)) refl)
  where
    by_test : (t : Bool) → is_decimal (a ∷ b ∷ c ∷ d ∷ ds) ≡ t → number_of 0 999 (a ∷ b ∷ c ∷ d ∷ ds) ≡ None
    by_test true e = too_large (a ∷ b ∷ c ∷ d ∷ ds) 999 (a_thousand a b c d ds e)
    by_test false e = no_decimal (a ∷ b ∷ c ∷ d ∷ ds) 999 e

by_digits_is : (word : List ℕ) → by_digits word ≡ number_of 0 999 word
by_digits_is [] = refl
by_digits_is (a ∷ []) = one a
by_digits_is (a ∷ b ∷ []) = two a b
by_digits_is (a ∷ b ∷ c ∷ []) = three a b c
by_digits_is (a ∷ b ∷ c ∷ d ∷ ds) = long a b c d ds

pub from_digits : {o : Option ℕ} (word : List ℕ) → o ≡ by_digits word → o ≡ number_of 0 999 word
from_digits {o} word read = read ∙ by_digits_is word

pub long_number : (word : List ℕ) → 4 ≤ length word → None ≡ number_of 0 999 word
long_number word more = from_digits word (sym (long_none word more))
