-- For the clauses of `begins_as_decimal`, `is_decimal`, `value_of`, `number` and `Parts::name`:
-- What words mean, in the steps in which they are read.
use Rattle.std.proofs.Common.{◌≡◌, ℕ, ◌+◌, ◌-◌, ◌*◌, ◌^◌, ◌<◌, ◌≤◌, Bool, true, false, cond, not, ◌&&◌, ◌||◌, ltb, leb, eqb, List, length, get_or, take, take_all}
use Rattle.std.proofs.Common.{refl, sym, ap, subst, ◌∙◌, arith, true≢false, ltb-true, lt-ltb, le-leb, leb-true, eq-eqb, ne_eqb, rules}
use Rattle.std.proofs.lemmas.Bool.{and_parts, and_from, and_right, lt-leb}
use Rattle.std.specs.Prelude.{Option, Some, None, is_some, IfSome, ◌↔◌}
use Rattle.std.specs.Char.{is_ascii_digit, digit_value}
use Rattle.std.specs.List.{list_all, AllPass}
use Rattle.std.specs.Str.Parse.{digits_value}
use Rattle.std.proofs.lemmas.Bool.Decides.{nat_tests}
use Rattle.std.proofs.lemmas.Int.Digits.{digits_value_more}
use Rattle.std.proofs.lemmas.List.Elements.{All-more}
use Rattle.std.proofs.lemmas.List.Sums.{AllPass-from_list_all, list_all-from_AllPass}
use Rattle.std.proofs.lemmas.Str.Parse.{IsNumeralModel, numerals_by_value, digits_value-take-le}
use Rattle.vg_model.specs.Name.{IsName, is_name, is_name_byte}
use Rattle.vg_report.specs.Words.{is_decimal, number_within, name_of}

pub decimal_digits : (word : List ℕ) → is_decimal word ≡ true → list_all is_ascii_digit word ≡ true
decimal_digits word h = (and_parts (ltb 0 (length word)) (list_all is_ascii_digit word) (and_parts (ltb 0 (length word) && list_all is_ascii_digit word) _ h).0).1

pub decimal_some : (word : List ℕ) → is_decimal word ≡ true → 0 < length word
decimal_some word h = ltb-true 0 (length word) (and_parts (ltb 0 (length word)) (list_all is_ascii_digit word) (and_parts (ltb 0 (length word) && list_all is_ascii_digit word) _ h).0).0

-- decimal digits, as `parse` reads them
pub decimals : IsNumeralModel (λ ds. list_all is_ascii_digit ds ≡ true) (digits_value 10)
decimals = numerals_by_value _ (search rules)

-- what isn't empty, and has no zero in front of more
abbrev pub begins : (word : List ℕ) → Bool
begins word = ltb 0 (length word) && (eqb (length word) 1 || not (eqb (get_or word 0 0) 48))

pub long_begins : (word : List ℕ) → 0 < length word → (length word ≡ 1 → ⊥) → not (eqb (get_or word 0 0) 48) ≡ begins word
long_begins word some long =
    sym (ap (λ b. b && (eqb (length word) 1 || not (eqb (get_or word 0 0) 48))) (lt-ltb 0 (length word) some)
    ∙ ap (λ b. b || not (eqb (get_or word 0 0) 48)) (ne_eqb (length word) 1 long))

-- a third test that passes
with_third : (a b c : Bool) → b ≡ true → (a && c) ≡ ((a && b) && c)
with_third true b c e = ap (λ x. x && c) (sym e)
with_third false b c e = refl

-- digits that begin so are decimal
pub digits_decimal : (word : List ℕ) → list_all is_ascii_digit word ≡ true → begins word ≡ is_decimal word
digits_decimal word all = with_third (ltb 0 (length word)) (list_all is_ascii_digit word) (eqb (length word) 1 || not (eqb (get_or word 0 0) 48)) all

pub decimal_begins : (word : List ℕ) → is_decimal word ≡ true → begins word ≡ true
decimal_begins word h = digits_decimal word (decimal_digits word h) ∙ h

-- the digits of a word that are read, and the number so far
pub record IsReadTo (word : List ℕ) (i number : ℕ) : Type 0 where
  pub digits : AllPass is_ascii_digit (take i word)
  pub value : number ≡ digits_value 10 (take i word)

pub none_read : (word : List ℕ) → IsReadTo word 0 0
none_read word = record { digits = λ k d below. absurd (omega (arith, below)); value = refl }

-- the number with the next digit
next_value : (word : List ℕ) (i number : ℕ) → i < length word → is_ascii_digit (get_or word i 0) ≡ true → number ≡ digits_value 10 (take i word)
    → digits_value 10 (take (i + 1) word) ≡ number * 10 + (get_or word i 0 - 48)
next_value word i number h digit value =
    let worth : digit_value (get_or word i 0) ≡ get_or word i 0 - 48 = grind (arith, nat_tests) in
    rw (digits_value_more 10 word i h, worth, value)

pub one_more_read : {word : List ℕ} {i number : ℕ} (more : ℕ) → i < length word → IsReadTo word i number
    → (is_ascii_digit (get_or word i 0) ≡ true) × (more ≡ number * 10 + (get_or word i 0 - 48)) → IsReadTo word (i + 1) more
one_more_read {word} {i} {number} more h so_far next = record {
  digits = All-more (λ byte. is_ascii_digit byte ≡ true) word i 0 h so_far.digits next.0;
  value = next.1 ∙ sym (next_value word i number h next.0 so_far.value);
}

pub all_read : (word : List ℕ) (i number : ℕ) → length word ≤ i → begins word ≡ true → IsReadTo word i number
    → (is_decimal word ≡ true) × (number ≡ digits_value 10 word)
all_read word i number end begun so_far =
    let whole : take i word ≡ word = take_all i word end in (
      sym (digits_decimal word (list_all-from_AllPass is_ascii_digit word (subst (AllPass is_ascii_digit) whole so_far.digits))) ∙ begun,
      so_far.value ∙ ap (digits_value 10) whole,
    )

-- a number that a next digit makes too large stays too large
pub grows_too_large : {word : List ℕ} {i number : ℕ} → i < length word → IsReadTo word i number
    → (is_ascii_digit (get_or word i 0) ≡ true → 2 ^ 64 ≤ number * 10 + (get_or word i 0 - 48)) → is_decimal word ≡ true → 2 ^ 64 ≤ digits_value 10 word
grows_too_large {word} {i} {number} h so_far large decimal =
    let digit : is_ascii_digit (get_or word i 0) ≡ true = AllPass-from_list_all is_ascii_digit word (decimal_digits word decimal) i 0 h in
    let next : digits_value 10 (take (i + 1) word) ≡ number * 10 + (get_or word i 0 - 48) = next_value word i number h digit so_far.value in
    let least : digits_value 10 (take (i + 1) word) ≤ digits_value 10 word = digits_value-take-le 10 word (i + 1) (omega arith) in
    let over : 2 ^ 64 ≤ number * 10 + (get_or word i 0 - 48) = large digit in
    omega (arith, next, least, over)

-- a word that says no number of 64 bits says none in a range of such numbers
pub none_within : (least most : ℕ) (word : List ℕ) → most < 2 ^ 64 → (is_decimal word ≡ true → 2 ^ 64 ≤ digits_value 10 word) → None ≡ number_within least most word
none_within least most word small large = by_test (is_decimal word) refl
  where
    by_test : (b : Bool) → is_decimal word ≡ b → None ≡ number_within least most word
    by_test true e =
        let over : 2 ^ 64 ≤ digits_value 10 word = large e in
        let test : leb (digits_value 10 word) most ≡ false = lt-leb (digits_value 10 word) most (omega (arith, over, small)) in
        sym (ap (λ b. cond b (Some (digits_value 10 word)) None) (and_right (is_decimal word && leb least (digits_value 10 word)) _ test))
    by_test false e = sym (ap (λ b. cond ((b && leb least (digits_value 10 word)) && leb (digits_value 10 word) most) (Some (digits_value 10 word)) None) e)

-- the number of a range of one
pub only_number : (next n : ℕ) (word : List ℕ) → Some n ≡ number_within next next word → (is_decimal word ≡ true) × (eqb (digits_value 10 word) next ≡ true)
only_number next n word found = by_test ((is_decimal word && leb next (digits_value 10 word)) && leb (digits_value 10 word) next) refl found
  where
    by_test : (b : Bool) → ((is_decimal word && leb next (digits_value 10 word)) && leb (digits_value 10 word) next) ≡ b
        → Some n ≡ cond b (Some (digits_value 10 word)) None → (is_decimal word ≡ true) × (eqb (digits_value 10 word) next ≡ true)
    by_test true e h =
        let front = and_parts (is_decimal word && leb next (digits_value 10 word)) (leb (digits_value 10 word) next) e in
        let low = and_parts (is_decimal word) (leb next (digits_value 10 word)) front.0 in
        let least : next ≤ digits_value 10 word = leb-true next (digits_value 10 word) low.1 in
        let most : digits_value 10 word ≤ next = leb-true (digits_value 10 word) next front.1 in
        (low.0, eq-eqb (digits_value 10 word) next (omega (arith, least, most)))
    by_test false e h = absurd cc

pub no_only_number : (next : ℕ) (word : List ℕ) → None ≡ number_within next next word → is_decimal word ≡ true → eqb (digits_value 10 word) next ≡ false
no_only_number next word missed decimal = ne_eqb (digits_value 10 word) next clash
  where
    clash : digits_value 10 word ≡ next → ⊥
    clash same =
        let low : (is_decimal word && leb next (digits_value 10 word)) ≡ true = and_from (is_decimal word) (leb next (digits_value 10 word)) decimal (le-leb next (digits_value 10 word) (omega (arith, same))) in
        let test = and_from (is_decimal word && leb next (digits_value 10 word)) (leb (digits_value 10 word) next) low (le-leb (digits_value 10 word) next (omega (arith, same))) in
        let both : None ≡ Some (digits_value 10 word) = missed ∙ ap (λ b. cond b (Some (digits_value 10 word)) None) test in
        absurd cc

-- a name, by the test
pub name_by_test : (word : List ℕ) → is_name word ≡ true → IsName word
name_by_test word h =
    let long = and_parts (leb 1 (length word) && leb (length word) 32) (list_all is_name_byte word) h in
    let bounds = and_parts (leb 1 (length word)) (leb (length word) 32) long.0 in
    record { some = leb-true 1 (length word) bounds.0; few = leb-true (length word) 32 bounds.1; each = AllPass-from_list_all is_name_byte word long.1 }

pub named : (word : List ℕ) → IsName word → is_name word ≡ true
named word name =
    and_from (leb 1 (length word) && leb (length word) 32) (list_all is_name_byte word)
    (and_from (leb 1 (length word)) (leb (length word) 32) (le-leb 1 (length word) name.some) (le-leb (length word) 32 name.few))
    (list_all-from_AllPass is_name_byte word name.each)

-- a name, by what reads it
pub name_read : (word : List ℕ) (n : Option (List ℕ)) → ((is_some n ≡ true) ↔ IsName word) → IfSome n (λ n. n ≡ word) → name_of word ≡ n
name_read word (Some n) some same =
    ap (λ b. cond b (Some word) None) (named word (some.0 refl)) ∙ ap Some (sym same)
name_read word None some same = ap (λ b. cond b (Some word) None) (no_name (is_name word) refl)
  where
    no_name : (b : Bool) → is_name word ≡ b → is_name word ≡ false
    no_name false e = e
    no_name true e = absurd (true≢false (sym (some.1 (name_by_test word e))))
