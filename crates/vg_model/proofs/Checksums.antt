-- For `sum_may_be_folded_at_the_end`, and for `verify_header` and `lowered_checksum` of vg_packet: ones' complement sums, and the update of a checksum by
-- RFC 1624, equation 3.
use Rattle.std.proofs.Common.{◌≡◌, ℕ, zero, suc, ◌+◌, ◌-◌, ◌*◌, ◌/◌, ◌%◌, ◌<◌, ◌≤◌, List, [], ◌∷◌, length, refl, sym, ap, ◌∙◌, inl, inr, arith}
use Rattle.std.proofs.lemmas.Bool.{cases_lt, lt-ltb, le-ltb}
use Rattle.vg_model.specs.Valid.{AreBytes}
use Rattle.vg_model.specs.Header.{ones_sum, header_sum, word_sum, folded_within, folded, checksum}

-- s is the total with its carries brought back in
pub record IsFolded (total s : ℕ) : Type 0 where
  pub small : s ≤ 65535
  pub zero_at : total ≡ 0 → s ≡ 0
  pub some_at : 0 < total → 0 < s
  pub carries : ℕ
  pub is : total ≡ s + 65535 * carries

-- one word by itself
folded_one : (w : ℕ) → w ≤ 65535 → IsFolded w w
folded_one w h = record { small = h; zero_at = λ e. e; some_at = λ p. p; carries = 0; is = omega arith }

-- a sum with something in it is not 0 after folding
some_sum : (w total s : ℕ) → IsFolded total s → 0 < w + total → 0 < w + s
some_sum w total s f p = elim (cases_lt 0 total) [
  | inl q ↦ omega (arith, f.some_at q)
  | inr q ↦ omega (arith, p, q)
]

-- one more word
folded_more : (w total s : ℕ) → w ≤ 65535 → IsFolded total s → IsFolded (w + total) (ones_sum w s)
unfolding ones_sum
folded_more w total s h f = record {
  small = omega (arith, f.small);
  zero_at = λ e. omega (arith, e, f.zero_at (omega (arith, e)));
  some_at = λ p. let some : 0 < w + s = some_sum w total s f p in omega (arith, some);
  carries = f.carries + (w + s) / 65536;
  is = omega (arith, f.is);
}

-- the header's sum is the plain sum with its carries brought back in
pub header_sum_is : (h : List ℕ) → AreBytes h → IsFolded (word_sum h) (header_sum h)
header_sum_is [] b = record { small = omega arith; zero_at = λ e. refl; some_at = λ p. p; carries = 0; is = refl }
header_sum_is (high ∷ []) b = record { small = omega (arith, b.0); zero_at = λ e. e; some_at = λ p. p; carries = 0; is = omega arith }
header_sum_is (high ∷ low ∷ rest) b = folded_more (256 * high + low) (word_sum rest) (header_sum rest) (omega (arith, b.0, b.1.0)) (header_sum_is rest b.1.1)

-- totals that differ by whole carries, neither of them 0, fold alike
folded_alike : (t u s r i j : ℕ) → IsFolded t s → IsFolded u r → 0 < t → 0 < u → t + 65535 * i ≡ u + 65535 * j → s ≡ r
folded_alike t u s r i j f g p q e =
    omega (arith, f.small, f.is, f.some_at p, g.small, g.is, g.some_at q, e)

-- RFC 1624, equation 3: from the old checksum, the old word and the new one
abbrev pub updated : (check old new : ℕ) → ℕ
updated check old new = 65535 - ones_sum new (ones_sum (65535 - old) (65535 - check))

-- what the update folds
updated_folds : (check old new : ℕ) → check ≤ 65535 → old ≤ 65535 → new ≤ 65535
    → IsFolded (new + (65535 - old + (65535 - check))) (ones_sum new (ones_sum (65535 - old) (65535 - check)))
updated_folds check old new h i j = folded_more new _ _ j (folded_more (65535 - old) _ _ (omega arith) (folded_one (65535 - check) (omega arith)))

-- from totals: before, and after with the checksum field zero
agrees : (before after check old new s k : ℕ) → check ≤ 65535 → old ≤ 65535 → new + 256 ≡ old → 0 < after
    → before ≡ 65535 + 65535 * k → before ≡ after + 256 + check → IsFolded after s
    → 65535 - s ≡ updated check old new
agrees before after check old new s k h i j p e f g =
    ap (λ x. 65535 - x) (folded_alike after (new + (65535 - old + (65535 - check))) s _ 1 k g
    (updated_folds check old new h i (omega (arith, j))) p (omega (arith, j, i)) (omega (arith, e, f, j, i, h)))

-- a header that verifies, with the byte of its time to live less by one: the update is the checksum computed anew
pub updated_is : (b0 b1 b2 b3 b4 b5 b6 b7 ttl b9 check_high check_low : ℕ) (rest : List ℕ)
    → AreBytes (b0 ∷ b1 ∷ b2 ∷ b3 ∷ b4 ∷ b5 ∷ b6 ∷ b7 ∷ suc ttl ∷ b9 ∷ check_high ∷ check_low ∷ rest) → 0 < b0
    → header_sum (b0 ∷ b1 ∷ b2 ∷ b3 ∷ b4 ∷ b5 ∷ b6 ∷ b7 ∷ suc ttl ∷ b9 ∷ check_high ∷ check_low ∷ rest) ≡ 65535
    → checksum (b0 ∷ b1 ∷ b2 ∷ b3 ∷ b4 ∷ b5 ∷ b6 ∷ b7 ∷ ttl ∷ b9 ∷ check_high ∷ check_low ∷ rest)
    ≡ updated (256 * check_high + check_low) (256 * suc ttl + b9) (256 * ttl + b9)
updated_is b0 b1 b2 b3 b4 b5 b6 b7 ttl b9 check_high check_low rest b some e =
    let header : List ℕ = b0 ∷ b1 ∷ b2 ∷ b3 ∷ b4 ∷ b5 ∷ b6 ∷ b7 ∷ suc ttl ∷ b9 ∷ check_high ∷ check_low ∷ rest in
    let anew : List ℕ = b0 ∷ b1 ∷ b2 ∷ b3 ∷ b4 ∷ b5 ∷ b6 ∷ b7 ∷ ttl ∷ b9 ∷ 0 ∷ 0 ∷ rest in
    let old : IsFolded (word_sum header) (header_sum header) = header_sum_is header b in
    let new : IsFolded (word_sum anew) (header_sum anew) = header_sum_is anew
    (b.0, (b.1.0, (b.1.1.0, (b.1.1.1.0, (b.1.1.1.1.0, (b.1.1.1.1.1.0, (b.1.1.1.1.1.1.0, (b.1.1.1.1.1.1.1.0, (omega (arith, b.1.1.1.1.1.1.1.1.0), (b.1.1.1.1.1.1.1.1.1.0, (omega arith, (omega arith, b.1.1.1.1.1.1.1.1.1.1.1.1)))))))))))) in
    agrees (word_sum header) (word_sum anew) (256 * check_high + check_low) (256 * suc ttl + b9) (256 * ttl + b9) (header_sum anew) old.carries
    (omega (arith, b.1.1.1.1.1.1.1.1.1.1.0, b.1.1.1.1.1.1.1.1.1.1.1.0)) (omega (arith, b.1.1.1.1.1.1.1.1.0, b.1.1.1.1.1.1.1.1.1.0)) (omega arith) (omega (arith, some))
    (omega (arith, old.is, e)) (omega arith) new

-- the carries of a sum brought back in, once
abbrev pub folded_once : ℕ → ℕ
folded_once s = s % 65536 + s / 65536

-- bringing carries back in changes nothing
folded_again : (t s : ℕ) → IsFolded (folded_once t) s → IsFolded t s
folded_again t s f = record {
  small = f.small;
  zero_at = λ e. f.zero_at (omega (arith, e));
  some_at = λ p. f.some_at (omega (arith, p));
  carries = f.carries + t / 65536;
  is = omega (arith, f.is);
}

-- the plain sum of so many bytes is small
word_sum_small : (h : List ℕ) → AreBytes h → word_sum h ≤ 65535 * length h
word_sum_small [] b = omega arith
word_sum_small (high ∷ []) b = omega (arith, b.0)
word_sum_small (high ∷ low ∷ rest) b = omega (arith, b.0, b.1.0, word_sum_small rest b.1.1)

-- a total folds to one sum only
same_folded : (t s r : ℕ) → IsFolded t s → IsFolded t r → s ≡ r
same_folded t s r f g = elim (cases_lt 0 t) [
  | inl p ↦ folded_alike t t s r 0 0 f g p p refl
  | inr p ↦ let none : t ≡ 0 = omega (arith, p) in f.zero_at none ∙ sym (g.zero_at none)
]

-- the sum of at most 60 bytes is the plain sum of the words, with its carries brought back in twice
pub header_sum_folds : (h : List ℕ) → AreBytes h → length h ≤ 60 → header_sum h ≡ folded_once (folded_once (word_sum h))
header_sum_folds h b few =
    let t = word_sum h in
    let small : t ≤ 65535 * length h = word_sum_small h b in
    let twice : folded_once (folded_once t) ≤ 65535 = omega (arith, small, few) in
    same_folded t (header_sum h) (folded_once (folded_once t)) (header_sum_is h b) (folded_again t _ (folded_again (folded_once t) _ (folded_one (folded_once (folded_once t)) twice)))

-- folding as long as there are more than 16 bits, a sum's own number of times at most, ends with all carries brought back in
within_folds : (times sum : ℕ) → sum ≤ times → IsFolded sum (folded_within times sum)
within_folds zero sum h = record { small = omega (arith, h); zero_at = λ e. e; some_at = λ p. p; carries = 0; is = omega arith }
within_folds (suc times) sum h = elim (cases_lt 65535 sum) [
  | inl p ↦ rw (folded_within, lt-ltb 65535 sum p) (folded_again sum _ (within_folds times (folded_once sum) (omega (arith, h, p))))
  | inr p ↦ rw (folded_within, le-ltb 65535 sum p) (folded_one sum p)
]

-- the sum may be folded at the end
pub sum_folds : (header : List ℕ) → AreBytes header → header_sum header ≡ folded (word_sum header)
sum_folds header b =
    same_folded (word_sum header) _ _ (header_sum_is header b) (within_folds (word_sum header) (word_sum header) (omega arith))
