-- For `put_group` and `print_script`: the text of a group of an IPv6 address, by the number of its digits.
use Rattle.std.proofs.Common.{◌≡◌, ℕ, ◌/◌, ◌%◌, ◌<◌, ◌≤◌, false, ◌==◌, List, [], ◌∷◌, ◌++◌, refl, ap, ◌∙◌, arith}
use Rattle.std.proofs.lemmas.Bool.{agree_below_at, ne_eqb}
use Rattle.std.specs.Char.{digit_char}
use Rattle.std.specs.Prelude.{if◌then◌else◌}
use Rattle.vg_script.specs.Plain.{pair_text, without_zeros, group_text}

-- only the digit of 0 is a zero
zero_digit : (d : ℕ) → d < 16 → (digit_char d == 48) ≡ (d == 0)
zero_digit d h = agree_below_at (λ n. digit_char n == 48) (λ n. n == 0) 16 d refl h

no_zero : (d : ℕ) → 0 < d → d < 16 → (digit_char d == 48) ≡ false
no_zero d some h = zero_digit d h ∙ ne_eqb d 0 (λ e. omega (arith, some, e))

-- four digits of these values
abbrev text_of : (a b c d : ℕ) → List ℕ
text_of a b c d = without_zeros (digit_char a ∷ digit_char b ∷ digit_char c ∷ digit_char d ∷ [])

pub one_digit_group : (n : ℕ) → n < 16 → group_text n ≡ digit_char n ∷ []
one_digit_group n h =
    let a : n / 256 / 16 ≡ 0 = omega (arith, h) in
    let b : n / 256 % 16 ≡ 0 = omega (arith, h) in
    let c : n % 256 / 16 ≡ 0 = omega (arith, h) in
    let d : n % 256 % 16 ≡ n = omega (arith, h) in
    ap (λ x. text_of x (n / 256 % 16) (n % 256 / 16) (n % 256 % 16)) a
    ∙ ap (λ x. text_of 0 x (n % 256 / 16) (n % 256 % 16)) b
    ∙ ap (λ x. text_of 0 0 x (n % 256 % 16)) c
    ∙ ap (λ x. digit_char x ∷ []) d

pub two_digit_group : (n : ℕ) → 16 ≤ n → n < 256 → group_text n ≡ pair_text n
two_digit_group n least h =
    let a : n / 256 / 16 ≡ 0 = omega (arith, h) in
    let b : n / 256 % 16 ≡ 0 = omega (arith, h) in
    let same : n % 256 ≡ n = omega (arith, h) in
    ap (λ x. text_of x (n / 256 % 16) (n % 256 / 16) (n % 256 % 16)) a
    ∙ ap (λ x. text_of 0 x (n % 256 / 16) (n % 256 % 16)) b
    ∙ ap (λ x. text_of 0 0 (x / 16) (x % 16)) same
    ∙ ap (λ t. if t then digit_char (n % 16) ∷ [] else pair_text n) (no_zero (n / 16) (omega (arith, least)) (omega (arith, h)))

pub three_digit_group : (n : ℕ) → 256 ≤ n → n < 4096 → group_text n ≡ digit_char (n / 256) ∷ pair_text (n % 256)
three_digit_group n least h =
    let a : n / 256 / 16 ≡ 0 = omega (arith, h) in
    let b : n / 256 % 16 ≡ n / 256 = omega (arith, h) in
    ap (λ x. text_of x (n / 256 % 16) (n % 256 / 16) (n % 256 % 16)) a
    ∙ ap (λ x. text_of 0 x (n % 256 / 16) (n % 256 % 16)) b
    ∙ ap (λ t. if t then without_zeros (pair_text (n % 256)) else digit_char (n / 256) ∷ pair_text (n % 256))
    (no_zero (n / 256) (omega (arith, least)) (omega (arith, h)))

pub four_digit_group : (n : ℕ) → 4096 ≤ n → n < 65536 → group_text n ≡ pair_text (n / 256) ++ pair_text (n % 256)
four_digit_group n least h =
    ap (λ t. if t then without_zeros (digit_char (n / 256 % 16) ∷ pair_text (n % 256)) else pair_text (n / 256) ++ pair_text (n % 256))
    (no_zero (n / 256 / 16) (omega (arith, least)) (omega (arith, h)))
