-- For `verify_header` and `raised_checksum`: sums of 16-bit words and of pairs of them, and what they fold to.
use Rattle.std.proofs.Common.{◌≡◌, ℕ, zero, suc, ◌+◌, ◌*◌, ◌%◌, ◌^◌, ◌<◌, ◌≤◌, Bool, true, false, List, [], ◌∷◌, ◌++◌, length, get_or, refl, sym, ap, ◌∙◌, inl, inr, arith}
use Rattle.std.specs.Prelude.{◌≢◌, ◌↔◌}
use Rattle.std.proofs.lemmas.Bool.{cases_lt, lt-ltb, le-ltb, eq-eqb, ne_eqb, false≢true}
use Rattle.vg_model.specs.Header.{header_sum, word_sum, verifies, folded_within, folded}
use Rattle.vg_model.specs.Valid.{AreBytes}
use Rattle.vg_model.proofs.Checksums.{IsFolded, header_sum_is, folded_once}
use Rattle.byteorder.specs.Endian.{big_number}
use Rattle.vg_packet.specs.Sums.{pair_sum}

-- a sum of at most 16 bits stays
folded_small : (times sum : ℕ) → sum ≤ 65535 → folded_within times sum ≡ sum
folded_small zero sum h = refl
folded_small (suc times) sum h = rw (folded_within, le-ltb 65535 sum h) refl

-- a sum of more bits is folded once more
folded_more : (times sum : ℕ) → 65535 < sum → folded_within (suc times) sum ≡ folded_within times (folded_once sum)
folded_more times sum h = rw (folded_within, lt-ltb 65535 sum h) refl

-- a sum of at most 16 bits is as if folded
once_small : (sum : ℕ) → sum ≤ 65535 → sum ≡ folded_once sum
once_small sum h = omega arith

-- two folds are enough for 32 bits
within_twice : (times sum : ℕ) → sum < 2 ^ 32 → folded_within (suc (suc times)) sum ≡ folded_once (folded_once sum)
within_twice times sum h = elim (cases_lt 65535 sum) [
  | inl p ↦ folded_more (suc times) sum p ∙ again times (folded_once sum) (omega (arith, h))
  | inr p ↦ folded_small (suc (suc times)) sum p ∙ once_small sum p ∙ ap folded_once (once_small sum p)
]
  where
    again : (times once : ℕ) → once ≤ 131070 → folded_within (suc times) once ≡ folded_once once
    again times once few = elim (cases_lt 65535 once) [
      | inl p ↦ folded_more times once p ∙ folded_small times (folded_once once) (omega (arith, few, p))
      | inr p ↦ folded_small (suc times) once p ∙ once_small once p
    ]

-- a sum of 32 bits is folded by two folds
pub folded_twice : (sum : ℕ) → sum < 2 ^ 32 → folded sum ≡ folded_once (folded_once sum)
folded_twice zero h = refl
folded_twice (suc zero) h = refl
folded_twice (suc (suc times)) h = within_twice times (suc (suc times)) h

-- nothing has the sum 0
pub word_sum-none : (rest : List ℕ) → length rest < 2 → length rest % 2 ≡ 0 → word_sum rest ≡ 0
word_sum-none [] few even = refl
word_sum-none (one ∷ []) few even = absurd (omega (arith, even))
word_sum-none (high ∷ low ∷ rest) few even = absurd (omega (arith, few))

-- a list of which each element read is a byte is of bytes
pub bytes_of_reads : (bytes : List ℕ) → ((i : ℕ) → get_or bytes i 0 < 256) → AreBytes bytes
bytes_of_reads [] h = tt
bytes_of_reads (byte ∷ bytes) h = (h 0, bytes_of_reads bytes (λ i. h (suc i)))

-- nothing has the sum 0
pub pair_sum-none : (rest : List ℕ) → length rest < 4 → length rest % 4 ≡ 0 → pair_sum rest ≡ 0
pair_sum-none [] few whole = refl
pair_sum-none (a ∷ rest) few whole = absurd (omega (arith, few, whole))

-- the next pair of words, and those behind it
pub pair_sum-next : (pair rest : List ℕ) → length pair ≡ 4 → pair_sum (pair ++ rest) ≡ big_number 4 pair + pair_sum rest
pair_sum-next [] rest four = absurd (omega (arith, four))
pair_sum-next (a ∷ []) rest four = absurd (omega (arith, four))
pair_sum-next (a ∷ b ∷ []) rest four = absurd (omega (arith, four))
pair_sum-next (a ∷ b ∷ c ∷ []) rest four = absurd (omega (arith, four))
pair_sum-next (a ∷ b ∷ c ∷ d ∷ []) rest four = omega arith
pair_sum-next (a ∷ b ∷ c ∷ d ∷ e ∷ more) rest four = absurd (omega (arith, four))

-- a sum that is a multiple of 65535 more than another, and is 0 where that is
pub record IsAlike (total sum : ℕ) : Type 0 where
  pub more : ℕ
  pub is : sum ≡ total + 65535 * more
  pub few : more ≤ total

-- the sum of pairs of words is like that of the words
pairs_are_alike : (bytes : List ℕ) → length bytes % 4 ≡ 0 → IsAlike (word_sum bytes) (pair_sum bytes)
pairs_are_alike [] whole = record { more = 0; is = refl; few = omega arith }
pairs_are_alike (a ∷ []) whole = absurd (omega (arith, whole))
pairs_are_alike (a ∷ b ∷ []) whole = absurd (omega (arith, whole))
pairs_are_alike (a ∷ b ∷ c ∷ []) whole = absurd (omega (arith, whole))
pairs_are_alike (a ∷ b ∷ c ∷ d ∷ rest) whole =
    let alike : IsAlike (word_sum rest) (pair_sum rest) = pairs_are_alike rest (omega (arith, whole)) in
    record { more = 256 * a + b + alike.more; is = omega (arith, alike.is); few = omega (arith, alike.few) }

-- the sum of two lists of words
word_sum-append : (front behind : List ℕ) → length front % 2 ≡ 0 → word_sum (front ++ behind) ≡ word_sum front + word_sum behind
word_sum-append [] behind even = omega arith
word_sum-append (high ∷ []) behind even = absurd (omega (arith, even))
word_sum-append (high ∷ low ∷ front) behind even = omega (arith, word_sum-append front behind (omega (arith, even)))

-- the pairs of words in front and the words behind have a sum like that of all the words
pub parts_are_alike : (front behind : List ℕ) (sum : ℕ) → length front % 4 ≡ 0 → sum ≡ pair_sum front + word_sum behind → IsAlike (word_sum (front ++ behind)) sum
parts_are_alike front behind sum whole is =
    let pairs : IsAlike (word_sum front) (pair_sum front) = pairs_are_alike front whole in
    let words : word_sum (front ++ behind) ≡ word_sum front + word_sum behind = word_sum-append front behind (omega (arith, whole)) in
    record { more = pairs.more; is = omega (arith, pairs.is, words, is); few = omega (arith, pairs.few, words) }

-- a sum like that of a header's words is a multiple of 65535 other than 0 exactly where the header verifies
pub verifies_where : (b : Bool) (h : List ℕ) (sum : ℕ) → AreBytes h → IsAlike (word_sum h) sum → ((b ≡ true) ↔ ((sum ≢ 0) × (sum % 65535 ≡ 0))) → b ≡ verifies h
verifies_where true h sum bytes alike iff =
    let folds : IsFolded (word_sum h) (header_sum h) = header_sum_is h bytes in
    let multiple = iff.0 refl in
    let some : 0 < word_sum h = omega (arith, alike.is, alike.few, multiple.0) in
    sym (eq-eqb (header_sum h) 65535 (omega (arith, folds.small, folds.is, folds.some_at some, alike.is, multiple.1)))
verifies_where false h sum bytes alike iff =
    let folds : IsFolded (word_sum h) (header_sum h) = header_sum_is h bytes in
    sym (ne_eqb (header_sum h) 65535 (λ e. false≢true (iff.1 (λ none. omega (arith, folds.is, alike.is, e, none), omega (arith, folds.is, alike.is, e)))))
