-- For the prefixes that `Levels` of vg_fib puts, and for `last_address` and `Known::leads` of vg_remarks: powers of two, and blocks of numbers that begin at
-- their multiples.
use Rattle.std.proofs.Common.{◌≡◌, ℕ, ◌+◌, ◌*◌, ◌/◌, ◌%◌, ◌^◌, ◌≤◌, ◌∙◌, ap, arith}
use Rattle.std.proofs.lemmas.Nat.{pow_pos, pow-add, mod-pow-add, row_fits, mod_below}

-- a power of two is a product of two
pub powers : (w j k : ℕ) → w ≡ j + k → 2 ^ w ≡ 2 ^ j * 2 ^ k
powers w j k e = ap (λ w. 2 ^ w) e ∙ pow-add 2 j k

-- the block of a multiple doesn't reach over the next higher power of two
pub block_fits : (x w j k : ℕ) → w ≡ j + k → x % 2 ^ k ≡ 0 → x % 2 ^ w + 2 ^ k ≤ 2 ^ w
block_fits x w j k e whole =
    let at : x % 2 ^ w ≡ (x / 2 ^ k % 2 ^ j) * 2 ^ k + x % 2 ^ k = ap (λ w. x % 2 ^ w) e ∙ mod-pow-add x j k in
    let row : (x / 2 ^ k % 2 ^ j) * 2 ^ k + 2 ^ k ≤ 2 ^ j * 2 ^ k =
    row_fits (x / 2 ^ k % 2 ^ j) (2 ^ k) (2 ^ j) (2 ^ k) (mod_below (x / 2 ^ k) (2 ^ j) (pow_pos j)) (omega arith) in
    omega (arith, at, row, powers w j k e, whole)
