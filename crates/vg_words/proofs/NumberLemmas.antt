-- For the clauses of `is_decimal` and `number`, and for those that read numbers in vg_why and vg_drawing: decimal numbers, in the steps in which they are read.
use Rattle.std.proofs.Common.{◌≡◌, ℕ, ◌^◌, ◌<◌, true, false, cond, not, ◌&&◌, ◌||◌, ltb, leb, eqb, List, length, get_or, sym, ap, ◌∙◌, arith, ltb-true, lt-ltb, ne_eqb, rules}
use Rattle.std.proofs.lemmas.Bool.{and_parts, and_from, and_right, lt-leb}
use Rattle.std.specs.Prelude.{Some, None, Err}
use Rattle.std.specs.Char.{is_ascii_digit}
use Rattle.std.specs.List.{list_all}
use Rattle.std.specs.Str.Parse.{digits_value, ParsesUnsigned}
use Rattle.std.proofs.lemmas.Str.Parse.{IsNumeralModel, numerals_by_value, parse_digits}
use Rattle.vg_words.specs.Command.{is_decimal, number_of}
use native.Mathlib.Decide.{dec_lt}

pub decimal_digits : (word : List ℕ) → is_decimal word ≡ true → list_all is_ascii_digit word ≡ true
decimal_digits word h = (and_parts (ltb 0 (length word)) (list_all is_ascii_digit word) (and_parts (ltb 0 (length word) && list_all is_ascii_digit word) _ h).0).1

pub decimal_some : (word : List ℕ) → is_decimal word ≡ true → 0 < length word
decimal_some word h = ltb-true 0 (length word) (and_parts (ltb 0 (length word)) (list_all is_ascii_digit word) (and_parts (ltb 0 (length word) && list_all is_ascii_digit word) _ h).0).0

-- decimal digits, as `parse` reads them
pub decimals : IsNumeralModel (λ ds. list_all is_ascii_digit ds ≡ true) (digits_value 10)
decimals = numerals_by_value _ (search rules)

-- a number that `parse` doesn't read is too large
pub no_number : (E : Type 0) (least most : ℕ) (word : List ℕ) (e : E) → most < 2 ^ 64 → is_decimal word ≡ true → ParsesUnsigned 64 10 word (Err e)
    → None ≡ number_of least most word
no_number E least most word e small decimal failed =
    let not_read = parse_digits decimals 64 word (Err e) failed (decimal_digits word decimal) in
    let large : most < digits_value 10 word = too_large (dec_lt (digits_value 10 word) (2 ^ 64)) not_read in
    let test : leb (digits_value 10 word) most ≡ false = lt-leb (digits_value 10 word) most large in
    sym (ap (λ b. cond b (Some (digits_value 10 word)) None) (and_right (is_decimal word && leb least (digits_value 10 word)) _ test))
  where
    too_large : Dec (digits_value 10 word < 2 ^ 64) → ((0 < length word) × (digits_value 10 word < 2 ^ 64) → ⊥) → most < digits_value 10 word
    too_large (yes h) not_read = absurd (not_read (decimal_some word decimal, h))
    too_large (no h) not_read = omega (arith, h, small)

-- several digits without a zero in front
pub long_decimal : (word : List ℕ) → 0 < length word → list_all is_ascii_digit word ≡ true → (length word ≡ 1 → ⊥)
    → not (eqb (get_or word 0 0) 48) ≡ is_decimal word
long_decimal word some all long =
    sym (ap (λ b. b && (eqb (length word) 1 || not (eqb (get_or word 0 0) 48))) (and_from (ltb 0 (length word)) (list_all is_ascii_digit word) (lt-ltb 0 (length word) some) all)
    ∙ ap (λ b. b || not (eqb (get_or word 0 0) 48)) (ne_eqb (length word) 1 long))
