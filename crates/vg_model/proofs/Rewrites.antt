-- For `ip4_kinds_are_lawful`, and for the rewrite of vg_packet and vg_nodes: a rewritten frame still passes the header's checks.
use Rattle.std.proofs.Common.{◌≡◌, ℕ, zero, suc, ◌+◌, ◌-◌, ◌*◌, ◌/◌, ◌%◌, ◌<◌, ◌≤◌, Bool, true, false, not, ◌||◌, ◌==◌, List, [], ◌∷◌, ◌++◌, length, take, drop}
use Rattle.std.proofs.Common.{refl, sym, ap, ◌∙◌, arith, length-append, length-drop, length-take-le, take-append-drop, append_assoc}
use Rattle.std.specs.Prelude.{Option, Some, None, if◌then◌else◌, nat_lt, slice_index, slice_set}
use Rattle.std.proofs.Math.Seq.{take-append_seam, drop-append_seam, drop-append-add}
use Rattle.std.proofs.lemmas.List.{drop-drop}
use Rattle.std.specs.Int.{w16, to_be_bytes}
use Rattle.std.proofs.lemmas.Bool.{ltb-false, or_parts, eq-eqb, eqb-false, ne_eqb}
use Rattle.std.proofs.lemmas.Option.{none-some}
use Rattle.vg_model.specs.declared.kinds.DropError.{DropError}
use Rattle.vg_model.specs.declared.kinds.DropError.TheVariants as errors
use Rattle.vg_model.specs.Visit.{header_fault, version, header_len, total_len, time_to_live, rewritten}
use Rattle.vg_model.specs.Bytes.{overwritten, number16_at}
use Rattle.vg_model.specs.Header.{header_sum, word_sum, verifies, checksum, with_checksum, lowered}
use Rattle.vg_model.specs.declared.kinds.Interface.{Interface}
use Rattle.vg_model.specs.declared.kinds.Adjacency.{Adjacency}
use Rattle.vg_model.specs.Valid.{AreBytes, IsMac}
use Rattle.vg_model.proofs.Checksums.{IsFolded, header_sum_is, updated, updated_is}

-- a list of at least twelve
pub data Twelve : List ℕ → Type 0 where
  twelve : (b0 b1 b2 b3 b4 b5 b6 b7 b8 b9 b10 b11 : ℕ) (rest : List ℕ) → Twelve (b0 ∷ b1 ∷ b2 ∷ b3 ∷ b4 ∷ b5 ∷ b6 ∷ b7 ∷ b8 ∷ b9 ∷ b10 ∷ b11 ∷ rest)

-- a list of at least twelve, taken apart
pub twelve_of : (h : List ℕ) → 12 ≤ length h → Twelve h
twelve_of (b0 ∷ b1 ∷ b2 ∷ b3 ∷ b4 ∷ b5 ∷ b6 ∷ b7 ∷ b8 ∷ b9 ∷ b10 ∷ b11 ∷ rest) h = twelve b0 b1 b2 b3 b4 b5 b6 b7 b8 b9 b10 b11 rest
twelve_of [] h = absurd (omega (arith, h))
twelve_of (b0 ∷ []) h = absurd (omega (arith, h))
twelve_of (b0 ∷ b1 ∷ []) h = absurd (omega (arith, h))
twelve_of (b0 ∷ b1 ∷ b2 ∷ []) h = absurd (omega (arith, h))
twelve_of (b0 ∷ b1 ∷ b2 ∷ b3 ∷ []) h = absurd (omega (arith, h))
twelve_of (b0 ∷ b1 ∷ b2 ∷ b3 ∷ b4 ∷ []) h = absurd (omega (arith, h))
twelve_of (b0 ∷ b1 ∷ b2 ∷ b3 ∷ b4 ∷ b5 ∷ []) h = absurd (omega (arith, h))
twelve_of (b0 ∷ b1 ∷ b2 ∷ b3 ∷ b4 ∷ b5 ∷ b6 ∷ []) h = absurd (omega (arith, h))
twelve_of (b0 ∷ b1 ∷ b2 ∷ b3 ∷ b4 ∷ b5 ∷ b6 ∷ b7 ∷ []) h = absurd (omega (arith, h))
twelve_of (b0 ∷ b1 ∷ b2 ∷ b3 ∷ b4 ∷ b5 ∷ b6 ∷ b7 ∷ b8 ∷ []) h = absurd (omega (arith, h))
twelve_of (b0 ∷ b1 ∷ b2 ∷ b3 ∷ b4 ∷ b5 ∷ b6 ∷ b7 ∷ b8 ∷ b9 ∷ []) h = absurd (omega (arith, h))
twelve_of (b0 ∷ b1 ∷ b2 ∷ b3 ∷ b4 ∷ b5 ∷ b6 ∷ b7 ∷ b8 ∷ b9 ∷ b10 ∷ []) h = absurd (omega (arith, h))

-- with its checksum computed anew a header verifies
pub with_checksum_verifies : (h : List ℕ) → Twelve h → AreBytes h → header_sum (with_checksum h) ≡ 65535
with_checksum_verifies h (twelve b0 b1 b2 b3 b4 b5 b6 b7 b8 b9 b10 b11 rest) b =
    let anew : List ℕ = b0 ∷ b1 ∷ b2 ∷ b3 ∷ b4 ∷ b5 ∷ b6 ∷ b7 ∷ b8 ∷ b9 ∷ 0 ∷ 0 ∷ rest in
    let c = 65535 - header_sum anew in
    let whole : List ℕ = b0 ∷ b1 ∷ b2 ∷ b3 ∷ b4 ∷ b5 ∷ b6 ∷ b7 ∷ b8 ∷ b9 ∷ (c / 256 % 256) ∷ (c % 256) ∷ rest in
    let zeroed : IsFolded (word_sum anew) (header_sum anew) = header_sum_is anew (b.0, (b.1.0, (b.1.1.0, (b.1.1.1.0, (b.1.1.1.1.0, (b.1.1.1.1.1.0, (b.1.1.1.1.1.1.0, (b.1.1.1.1.1.1.1.0, (b.1.1.1.1.1.1.1.1.0, (b.1.1.1.1.1.1.1.1.1.0, (omega arith, (omega arith, b.1.1.1.1.1.1.1.1.1.1.1.1)))))))))))) in
    let sum : IsFolded (word_sum whole) (header_sum whole) = header_sum_is whole (b.0, (b.1.0, (b.1.1.0, (b.1.1.1.0, (b.1.1.1.1.0, (b.1.1.1.1.1.0, (b.1.1.1.1.1.1.0, (b.1.1.1.1.1.1.1.0, (b.1.1.1.1.1.1.1.1.0, (b.1.1.1.1.1.1.1.1.1.0, (omega arith, (omega arith, b.1.1.1.1.1.1.1.1.1.1.1.1)))))))))))) in
    let total : word_sum whole ≡ word_sum anew + c = omega arith in
    omega (arith, zeroed.small, zeroed.is, sum.small, sum.is, total, sum.some_at (omega (arith, total, zeroed.small, zeroed.is)))

-- bytes put in place of as many leave the length
pub length-overwritten : (xs : List ℕ) (at : ℕ) (new : List ℕ) → at + length new ≤ length xs → length (overwritten xs at new) ≡ length xs
length-overwritten xs at new h =
    length-append (take at xs ++ new) (drop (at + length new) xs)
    ∙ ap (λ n. n + length (drop (at + length new) xs)) (length-append (take at xs) new ∙ ap (λ n. n + length new) (length-take-le at xs (omega (arith, h))))
    ∙ ap (λ n. at + length new + n) (length-drop (at + length new) xs)
    ∙ omega (arith, h)

-- what stands behind them stays
pub drop-overwritten : (xs : List ℕ) (at : ℕ) (new : List ℕ) (k : ℕ) → at + length new ≤ k → at + length new ≤ length xs → drop k (overwritten xs at new) ≡ drop k xs
drop-overwritten xs at new k h l =
    let front : List ℕ = take at xs ++ new in
    let behind : List ℕ = drop (at + length new) xs in
    let size : length front ≡ at + length new = length-append (take at xs) new ∙ ap (λ n. n + length new) (length-take-le at xs (omega (arith, l))) in
    let n = k - (at + length new) in
    let is : k ≡ length front + n = omega (arith, size, h) in
    ap (λ m. drop m (front ++ behind)) is ∙ drop-append-add front behind n ∙ drop-drop n (at + length new) xs ∙ ap (λ m. drop m xs) (omega (arith, h))

-- where they stand: they and what stands behind them
pub drop_at-overwritten : (xs : List ℕ) (at : ℕ) (new : List ℕ) → at ≤ length xs → drop at (overwritten xs at new) ≡ new ++ drop (at + length new) xs
drop_at-overwritten xs at new h =
    let front : List ℕ = take at xs in
    let behind : List ℕ = drop (at + length new) xs in
    ap (drop at) (append_assoc front new behind)
    ∙ ap (λ m. drop m (front ++ (new ++ behind))) (sym (length-take-le at xs h)) ∙ drop-append_seam front (new ++ behind)

-- bytes stay bytes
bytes_append : (xs ys : List ℕ) → AreBytes xs → AreBytes ys → AreBytes (xs ++ ys)
bytes_append [] ys b c = c
bytes_append (x ∷ xs) ys b c = (b.0, bytes_append xs ys b.1 c)

-- the first of some bytes are bytes
pub bytes_take : (n : ℕ) (xs : List ℕ) → AreBytes xs → AreBytes (take n xs)
bytes_take zero xs b = tt
bytes_take (suc n) [] b = tt
bytes_take (suc n) (x ∷ xs) b = (b.0, bytes_take n xs b.1)

-- the last of some bytes are bytes
pub bytes_drop : (n : ℕ) (xs : List ℕ) → AreBytes xs → AreBytes (drop n xs)
bytes_drop zero xs b = b
bytes_drop (suc n) [] b = tt
bytes_drop (suc n) (x ∷ xs) b = bytes_drop n xs b.1

-- bytes overwritten with bytes are bytes
pub bytes-overwritten : (xs : List ℕ) (at : ℕ) (new : List ℕ) → AreBytes xs → AreBytes new → AreBytes (overwritten xs at new)
bytes-overwritten xs at new b c = bytes_append (take at xs ++ new) _ (bytes_append (take at xs) new (bytes_take at xs b) c) (bytes_drop (at + length new) xs b)

-- the checks of a header, by their tests
abbrev pub first_of : (b c d e f g : Bool) → Option DropError
first_of b c d e f g =
    if b then Some errors.Short else if c then Some errors.BadVersion else if d then Some errors.BadHeaderLength
    else if e then Some errors.BadLength else if f then Some errors.BadChecksum else if g then Some errors.TtlZero else None

-- the tests fail where none is the first
first_none : (b c d e f g : Bool) → first_of b c d e f g ≡ None → (b ≡ false) × (c ≡ false) × (d ≡ false) × (e ≡ false) × (f ≡ false) × (g ≡ false)
first_none false false false false false false h = (refl, refl, refl, refl, refl, refl)
first_none true c d e f g h = absurd (none-some _ (sym h))
first_none false true d e f g h = absurd (none-some _ (sym h))
first_none false false true e f g h = absurd (none-some _ (sym h))
first_none false false false true f g h = absurd (none-some _ (sym h))
first_none false false false false true g h = absurd (none-some _ (sym h))
first_none false false false false false true h = absurd (none-some _ (sym h))

-- the checks pass again where only the last two have changed, and pass
first_again : (b c d e f g f' g' : Bool) → first_of b c d e f g ≡ None → f' ≡ false → g' ≡ false → first_of b c d e f' g' ≡ None
first_again b c d e f g f' g' h k l =
    let n = first_none b c d e f g h in
    rw (n.0, n.1, n.2, n.3, k, l) refl

-- what a header that passes is
pub record Passes (d : List ℕ) : Type 0 where
  pub len : 20 ≤ length d
  pub header : 20 ≤ header_len d
  pub inside : header_len d ≤ length d
  pub alive : (time_to_live d == 0) ≡ false

-- a header without a fault passes
pub passes_of : (d : List ℕ) → header_fault d ≡ None → Passes d
passes_of d h =
    let n = first_none (nat_lt (length d) 20) (not (version d == 4)) (nat_lt (header_len d) 20 || nat_lt (length d) (header_len d))
    (nat_lt (total_len d) (header_len d) || nat_lt (length d) (total_len d)) (not (verifies (take (header_len d) d))) (time_to_live d == 0) h in
    let both = or_parts (nat_lt (header_len d) 20) (nat_lt (length d) (header_len d)) n.2 in
    record { len = ltb-false _ _ n.0; header = ltb-false _ _ both.0; inside = ltb-false _ _ both.1; alive = n.5 }

-- a header keeps its length when it is lowered
pub length-lowered : (h : List ℕ) → Twelve h → length (lowered h) ≡ length h
length-lowered h (twelve b0 b1 b2 b3 b4 b5 b6 b7 b8 b9 b10 b11 rest) = refl

-- a lowered header is of bytes
pub bytes_lowered : (h : List ℕ) → Twelve h → AreBytes h → AreBytes (lowered h)
bytes_lowered h (twelve b0 b1 b2 b3 b4 b5 b6 b7 b8 b9 b10 b11 rest) b =
    let behind = b.1.1.1.1.1.1.1 in
    (b.0, (b.1.0, (b.1.1.0, (b.1.1.1.0, (b.1.1.1.1.0, (b.1.1.1.1.1.0, (b.1.1.1.1.1.1.0, (behind.0, (omega (arith, behind.1.0), (behind.1.1.0, (omega arith, (omega arith, behind.1.1.1.1.1))))))))))))

-- a lowered header verifies
lowered_verifies : (h : List ℕ) → Twelve h → AreBytes h → header_sum (lowered h) ≡ 65535
lowered_verifies h (twelve b0 b1 b2 b3 b4 b5 b6 b7 b8 b9 b10 b11 rest) b =
    with_checksum_verifies (b0 ∷ b1 ∷ b2 ∷ b3 ∷ b4 ∷ b5 ∷ b6 ∷ b7 ∷ (b8 - 1) ∷ b9 ∷ b10 ∷ b11 ∷ rest) (twelve b0 b1 b2 b3 b4 b5 b6 b7 (b8 - 1) b9 b10 b11 rest)
    (b.0, (b.1.0, (b.1.1.0, (b.1.1.1.0, (b.1.1.1.1.0, (b.1.1.1.1.1.0, (b.1.1.1.1.1.1.0, (b.1.1.1.1.1.1.1.0, (omega (arith, b.1.1.1.1.1.1.1.1.0), (b.1.1.1.1.1.1.1.1.1.0, (b.1.1.1.1.1.1.1.1.1.1.0, (b.1.1.1.1.1.1.1.1.1.1.1.0, b.1.1.1.1.1.1.1.1.1.1.1.1))))))))))))

-- a number that is neither 0 nor 1 is not 0 when it is one less
not_zero : (n : ℕ) → (n == 0) ≡ false → (n == 1) ≡ false → (n - 1 == 0) ≡ false
not_zero n h k = ne_eqb (n - 1) 0 (λ e. eqb-false n 0 h (below n e (eqb-false n 1 k)))
  where
    below : (n : ℕ) → n - 1 ≡ 0 → (n ≡ 1 → ⊥) → n ≡ 0
    below zero e k = refl
    below (suc n) e k = absurd (k (omega (arith, e)))

-- a header that passes still passes when it is lowered
lowered_at : (h : List ℕ) → Twelve h → (t : List ℕ) → length h ≡ header_len (h ++ t) → AreBytes h → header_fault (h ++ t) ≡ None → (time_to_live (h ++ t) == 1) ≡ false
    → header_fault (lowered h ++ t) ≡ None
lowered_at h (twelve b0 b1 b2 b3 b4 b5 b6 b7 b8 b9 b10 b11 rest) t size b e more =
    let old : List ℕ = b0 ∷ b1 ∷ b2 ∷ b3 ∷ b4 ∷ b5 ∷ b6 ∷ b7 ∷ b8 ∷ b9 ∷ b10 ∷ b11 ∷ rest in
    let d : List ℕ = old ++ t in
    let new : List ℕ = lowered old in
    let verified : header_sum (take (header_len d) (new ++ t)) ≡ 65535 =
    ap (λ n. header_sum (take n (new ++ t))) (sym size) ∙ ap header_sum (take-append_seam new t) ∙ lowered_verifies old (twelve b0 b1 b2 b3 b4 b5 b6 b7 b8 b9 b10 b11 rest) b in
    first_again (nat_lt (length d) 20) (not (version d == 4)) (nat_lt (header_len d) 20 || nat_lt (length d) (header_len d))
    (nat_lt (total_len d) (header_len d) || nat_lt (length d) (total_len d)) (not (verifies (take (header_len d) d))) (time_to_live d == 0)
    (not (verifies (take (header_len d) (new ++ t)))) (b8 - 1 == 0) e
    (ap not (eq-eqb _ _ verified)) (not_zero b8 (passes_of d e).alive more)

-- a rewritten frame: its length, its bytes, and what stands behind the Ethernet header
pub record IsRewritten (f new : List ℕ) : Type 0 where
  pub len : length new ≡ length f
  pub bytes : AreBytes new
  pub fault : header_fault (drop 14 new) ≡ None

-- a frame without a fault, rewritten, has none
pub rewritten_is : (adjacency : Adjacency) (interface : Interface) (f : List ℕ) → IsMac adjacency.mac → IsMac interface.mac → AreBytes f
    → header_fault (drop 14 f) ≡ None → (time_to_live (drop 14 f) == 1) ≡ false → IsRewritten f (rewritten adjacency interface f)
rewritten_is adjacency interface f m1 m2 b e more =
    let d : List ℕ = drop 14 f in
    let passes : Passes d = passes_of d e in
    let h : List ℕ = take (header_len d) d in
    let t : List ℕ = drop (header_len d) d in
    let size : length h ≡ header_len d = length-take-le (header_len d) d passes.inside in
    let cells : Twelve h = twelve_of h (omega (arith, size, passes.header)) in
    let whole : h ++ t ≡ d = take-append-drop (header_len d) d in
    let behind : length d ≡ length f - 14 = length-drop 14 f in
    let six1 : length adjacency.mac.0 ≡ 6 = m1.six in
    let six2 : length interface.mac.0 ≡ 6 = m2.six in
    let to : List ℕ = overwritten f 0 adjacency.mac.0 in
    let from : List ℕ = overwritten to 6 interface.mac.0 in
    let new : List ℕ = overwritten from 14 (lowered h) in
    let len_to : length to ≡ length f = length-overwritten f 0 adjacency.mac.0 (omega (arith, six1, passes.len, behind)) in
    let len_from : length from ≡ length to = length-overwritten to 6 interface.mac.0 (omega (arith, six2, passes.len, behind, len_to)) in
    let len_low : length (lowered h) ≡ header_len d = length-lowered h cells ∙ size in
    let len_new : length new ≡ length from = length-overwritten from 14 (lowered h) (omega (arith, len_low, passes.inside, passes.len, behind, len_to, len_from)) in
    let bytes_h : AreBytes h = bytes_take (header_len d) d (bytes_drop 14 f b) in
    let tail : drop (14 + length (lowered h)) from ≡ t =
    ap (λ n. drop (14 + n) from) len_low
    ∙ drop-overwritten to 6 interface.mac.0 (14 + header_len d) (omega (arith, six2)) (omega (arith, six2, passes.len, behind, len_to))
    ∙ drop-overwritten f 0 adjacency.mac.0 (14 + header_len d) (omega (arith, six1)) (omega (arith, six1, passes.len, behind))
    ∙ sym (drop-drop (header_len d) 14 f) in
    let shape : drop 14 new ≡ lowered h ++ t = drop_at-overwritten from 14 (lowered h) (omega (arith, passes.len, behind, len_to, len_from)) ∙ ap (λ x. lowered h ++ x) tail in
    record {
      len = len_new ∙ len_from ∙ len_to;
      bytes = bytes-overwritten from 14 (lowered h) (bytes-overwritten to 6 interface.mac.0 (bytes-overwritten f 0 adjacency.mac.0 b m1.bytes) m2.bytes) (bytes_lowered h cells bytes_h);
      fault = ap header_fault shape ∙ lowered_at h cells t (size ∙ ap header_len (sym whole)) bytes_h (ap header_fault whole ∙ e) (ap (λ x. time_to_live x == 1) whole ∙ more);
    }

-- the bytes that a checksum is written as, in a header whose time to live was lowered
lowering_at : (b0 b1 b2 b3 b4 b5 b6 b7 b8 b9 b10 b11 : ℕ) (rest : List ℕ) (u : ℕ)
    → (let h = b0 ∷ b1 ∷ b2 ∷ b3 ∷ b4 ∷ b5 ∷ b6 ∷ b7 ∷ b8 ∷ b9 ∷ b10 ∷ b11 ∷ rest in
    AreBytes h → header_sum h ≡ 65535 → 0 < b0 → 0 < b8 → u ≡ updated (number16_at h 10) (number16_at h 8) (number16_at h 8 - 256)
    → b0 ∷ b1 ∷ b2 ∷ b3 ∷ b4 ∷ b5 ∷ b6 ∷ b7 ∷ (b8 - 1) ∷ b9 ∷ slice_index (to_be_bytes w16 u) 0 ∷ slice_index (to_be_bytes w16 u) 1 ∷ rest ≡ lowered h)
lowering_at b0 b1 b2 b3 b4 b5 b6 b7 zero b9 b10 b11 rest u b e some alive is = absurd (omega (arith, alive))
lowering_at b0 b1 b2 b3 b4 b5 b6 b7 (suc ttl) b9 b10 b11 rest u b e some alive is =
    let one : 256 * b10 + b11 ≡ b10 * 256 + b11 = omega arith in
    let two : 256 * suc ttl + b9 ≡ suc ttl * 256 + b9 = omega arith in
    let three : 256 * ttl + b9 ≡ suc ttl * 256 + b9 - 256 = omega arith in
    let down : suc ttl - 1 ≡ ttl = omega arith in
    let value : checksum (b0 ∷ b1 ∷ b2 ∷ b3 ∷ b4 ∷ b5 ∷ b6 ∷ b7 ∷ (suc ttl - 1) ∷ b9 ∷ b10 ∷ b11 ∷ rest) ≡ u =
    ap (λ t. checksum (b0 ∷ b1 ∷ b2 ∷ b3 ∷ b4 ∷ b5 ∷ b6 ∷ b7 ∷ t ∷ b9 ∷ b10 ∷ b11 ∷ rest)) down
    ∙ updated_is b0 b1 b2 b3 b4 b5 b6 b7 ttl b9 b10 b11 rest b some e
    ∙ ap (λ x. updated x (256 * suc ttl + b9) (256 * ttl + b9)) one
    ∙ ap (λ x. updated (b10 * 256 + b11) x (256 * ttl + b9)) two
    ∙ ap (λ x. updated (b10 * 256 + b11) (suc ttl * 256 + b9) x) three
    ∙ sym is in
    ap (λ c. b0 ∷ b1 ∷ b2 ∷ b3 ∷ b4 ∷ b5 ∷ b6 ∷ b7 ∷ (suc ttl - 1) ∷ b9 ∷ (c / 256 % 256) ∷ (c % 256) ∷ rest) (sym value)

-- a header whose time to live and checksum are written anew by the update is the header lowered
pub lowering : (h : List ℕ) → Twelve h → (u : ℕ) → AreBytes h → header_sum h ≡ 65535 → 0 < slice_index h 0 → 0 < slice_index h 8
    → u ≡ updated (number16_at h 10) (number16_at h 8) (number16_at h 8 - 256)
    → slice_set (slice_set (slice_set h 8 (slice_index h 8 - 1)) 10 (slice_index (to_be_bytes w16 u) 0)) 11 (slice_index (to_be_bytes w16 u) 1) ≡ lowered h
lowering h (twelve b0 b1 b2 b3 b4 b5 b6 b7 b8 b9 b10 b11 rest) u b e some alive is = lowering_at b0 b1 b2 b3 b4 b5 b6 b7 b8 b9 b10 b11 rest u b e some alive is
