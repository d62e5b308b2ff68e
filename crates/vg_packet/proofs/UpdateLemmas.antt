-- For the clauses of `lower_ttl` and `lowered_checksum`, and for `lowered_header_verifies` and `update_is_the_checksum_anew`:
-- The update of a checksum as the time to live falls.
use Rattle.std.proofs.Common.{◌≡◌, ◌≢◌, ℕ, zero, suc, ◌+◌, ◌-◌, ◌*◌, ◌<◌, ◌≤◌, List, [], ◌∷◌, ◌++◌, length, take, drop, sym, ap, ◌∙◌, arith, length-drop, append_assoc}
use Rattle.std.proofs.lemmas.Bool.{eq-eqb, eqb-true}
use Rattle.std.proofs.lemmas.List.{drop_all, take_rest, drop-drop, append-nil}
use Rattle.std.proofs.Math.ListN.{length-set}
use Rattle.std.specs.Int.{w16, to_be_bytes}
use borrow.Rule.Slice.PartMut.{mid_of, put_mid}
use Rattle.std.specs.Prelude.{slice_index, slice_set}
use Rattle.vg_model.specs.Bytes.{number16_at, overwritten}
use Rattle.vg_model.specs.Header.{ones_sum, header_sum, checksum, lowered}
use Rattle.vg_model.specs.Valid.{AreBytes}
use Rattle.vg_model.proofs.Checksums.{updated_is, folded_once}
use Rattle.vg_model.proofs.Checksums.{updated as updated_word_by_word}
use Rattle.vg_model.proofs.Rewrites.{Twelve, twelve, twelve_of, with_checksum_verifies}
use Rattle.vg_packet.specs.Update.{complement, updated, LoweredVerifies, UpdatesAsAnew}
use Rattle.vg_packet.proofs.SumLemmas.{folded_twice}

-- three words added up and then folded, or with each carry added back in at once
three_words : (a b c : ℕ) → a ≤ 65535 → b ≤ 65535 → c ≤ 65535 → folded_once (folded_once (a + b + c)) ≡ ones_sum c (ones_sum b a)
unfolding ones_sum
three_words a b c h i j = omega (arith, h, i, j)

-- the update that folds at the end is the one that adds each carry back in at once
pub updated_at_the_end : (check before after : ℕ) → after ≤ 65535 → updated check before after ≡ updated_word_by_word check before after
updated_at_the_end check before after h =
    ap complement (folded_twice (complement check + complement before + after) (omega (arith, h))
    ∙ three_words (complement check) (complement before) after (omega arith) (omega arith) h)

-- what is added up for a word that is less by 256
raised_sum : (check word : ℕ) → check ≤ 65535 → 256 ≤ word → word ≤ 65535 → complement check + complement word + (word - 256) ≡ 130814 - check
raised_sum check word small some few = omega (arith, small, some, few)

-- the update for such a word, with no carry
pub raised_below : (check word : ℕ) → check + 256 < 65535 → 256 ≤ word → word ≤ 65535 → check + 256 ≡ updated check word (word - 256)
raised_below check word below some few =
    let small : check ≤ 65535 = omega (arith, below) in
    let last : complement (folded_once (folded_once (130814 - check))) ≡ check + 256 = omega (arith, below) in
    sym (ap complement (folded_twice (complement check + complement word + (word - 256)) (omega (arith, few))
    ∙ ap (λ s. folded_once (folded_once s)) (raised_sum check word small some few))
    ∙ last)

-- and with one
pub raised_above : (check word : ℕ) → check ≤ 65535 → 65535 ≤ check + 256 → 256 ≤ word → word ≤ 65535 → check + 256 - 65535 ≡ updated check word (word - 256)
raised_above check word small above some few =
    let last : complement (folded_once (folded_once (130814 - check))) ≡ check + 256 - 65535 = omega (arith, small, above) in
    sym (ap complement (folded_twice (complement check + complement word + (word - 256)) (omega (arith, few))
    ∙ ap (λ s. folded_once (folded_once s)) (raised_sum check word small some few))
    ∙ last)

-- the word of a time to live that is at least 1
pub word_of : (h : List ℕ) → Twelve h → AreBytes h → 1 ≤ slice_index h 8 → (256 ≤ number16_at h 8) × (number16_at h 8 ≤ 65535)
word_of h (twelve b0 b1 b2 b3 b4 b5 b6 b7 b8 b9 b10 b11 rest) b alive =
    (omega (arith, alive), omega (arith, b.1.1.1.1.1.1.1.1.0, b.1.1.1.1.1.1.1.1.1.0))

-- where a header verifies, the update is the checksum of the header with its time to live less by one
pub lowered_checksum_is : (h : List ℕ) → Twelve h → AreBytes h → header_sum h ≡ 65535 → slice_index h 0 ≢ 0 → 1 ≤ slice_index h 8
    → updated (number16_at h 10) (number16_at h 8) (number16_at h 8 - 256) ≡ checksum (slice_set h 8 (slice_index h 8 - 1))
lowered_checksum_is h (twelve b0 b1 b2 b3 b4 b5 b6 b7 zero b9 b10 b11 rest) b e some alive = absurd (omega (arith, alive))
lowered_checksum_is h (twelve b0 b1 b2 b3 b4 b5 b6 b7 (suc ttl) b9 b10 b11 rest) b e some alive =
    let one : b10 * 256 + b11 ≡ 256 * b10 + b11 = omega arith in
    let two : suc ttl * 256 + b9 ≡ 256 * suc ttl + b9 = omega arith in
    let three : suc ttl * 256 + b9 - 256 ≡ 256 * ttl + b9 = omega arith in
    let down : ttl ≡ suc ttl - 1 = omega arith in
    updated_at_the_end (b10 * 256 + b11) (suc ttl * 256 + b9) (suc ttl * 256 + b9 - 256) (omega (arith, b.1.1.1.1.1.1.1.1.0, b.1.1.1.1.1.1.1.1.1.0))
    ∙ ap (λ x. updated_word_by_word x (suc ttl * 256 + b9) (suc ttl * 256 + b9 - 256)) one
    ∙ ap (λ x. updated_word_by_word (256 * b10 + b11) x (suc ttl * 256 + b9 - 256)) two
    ∙ ap (λ x. updated_word_by_word (256 * b10 + b11) (256 * suc ttl + b9) x) three
    ∙ sym (updated_is b0 b1 b2 b3 b4 b5 b6 b7 ttl b9 b10 b11 rest b (omega (arith, some)) e)
    ∙ ap (λ t. checksum (b0 ∷ b1 ∷ b2 ∷ b3 ∷ b4 ∷ b5 ∷ b6 ∷ b7 ∷ t ∷ b9 ∷ b10 ∷ b11 ∷ rest)) down

-- a number written at place 10 of a slice of the bytes from there on
pub written_at : (h : List ℕ) (number : ℕ)
    → put_mid 10 (length h - 10) h (to_be_bytes w16 number ++ drop 2 (mid_of 10 (length h - 10) h)) ≡ overwritten h 10 (to_be_bytes w16 number)
written_at h number =
    let bytes = to_be_bytes w16 number in
    let behind : drop (length h - 10) (drop 10 h) ≡ [] = drop_all (length h - 10) (drop 10 h) (omega (arith, length-drop 10 h)) in
    ap (λ part. take 10 h ++ ((bytes ++ drop 2 part) ++ drop (length h - 10) (drop 10 h))) (take_rest h 10)
    ∙ ap (λ rest. take 10 h ++ ((bytes ++ drop 2 (drop 10 h)) ++ rest)) behind
    ∙ ap (λ part. take 10 h ++ part) (append-nil (bytes ++ drop 2 (drop 10 h)))
    ∙ sym (append_assoc (take 10 h) bytes (drop 2 (drop 10 h)))
    ∙ ap (λ rest. take 10 h ++ bytes ++ rest) (drop-drop 2 10 h)

-- a header keeps being of bytes as its time to live falls
bytes_less : (h : List ℕ) → Twelve h → AreBytes h → AreBytes (slice_set h 8 (slice_index h 8 - 1))
bytes_less h (twelve b0 b1 b2 b3 b4 b5 b6 b7 b8 b9 b10 b11 rest) b =
    (b.0, (b.1.0, (b.1.1.0, (b.1.1.1.0, (b.1.1.1.1.0, (b.1.1.1.1.1.0, (b.1.1.1.1.1.1.0, (b.1.1.1.1.1.1.1.0, (omega (arith, b.1.1.1.1.1.1.1.1.0), b.1.1.1.1.1.1.1.1.1)))))))))

-- a lowered header verifies
pub lowered_verifies : LoweredVerifies
lowered_verifies h b least =
    let cells : Twelve h = twelve_of h (omega (arith, least)) in
    let less : List ℕ = slice_set h 8 (slice_index h 8 - 1) in
    eq-eqb _ _ (with_checksum_verifies less (twelve_of less (omega (arith, least, length-set {A = ℕ}))) (bytes_less h cells b))

-- the word of the time to live, and the checksum, of a lowered header
lowered_fields : (h : List ℕ) → Twelve h → 1 ≤ slice_index h 8
    → (number16_at (lowered h) 8 ≡ number16_at h 8 - 256) × (number16_at (lowered h) 10 ≡ checksum (slice_set h 8 (slice_index h 8 - 1)))
lowered_fields h (twelve b0 b1 b2 b3 b4 b5 b6 b7 b8 b9 b10 b11 rest) alive = (omega (arith, alive), omega arith)

-- the update is the checksum computed anew
pub updates_as_anew : UpdatesAsAnew
updates_as_anew h b least e some alive =
    let cells : Twelve h = twelve_of h (omega (arith, least)) in
    let fields = lowered_fields h cells alive in
    ap (λ word. updated (number16_at h 10) (number16_at h 8) word) fields.0
    ∙ lowered_checksum_is h cells b (eqb-true _ _ e) some alive
    ∙ sym fields.1
