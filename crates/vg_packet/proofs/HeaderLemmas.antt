-- For the clause of `rewrite`: a frame's headers written anew.
use Rattle.std.proofs.Common.{◌≡◌, ◌≢◌, ℕ, ◌+◌, ◌-◌, ◌≤◌, Bool, true, false, not, ◌||◌, ◌==◌, List, ◌++◌, length, take, drop, get_or, refl, sym, ap, subst, ◌∙◌, arith, length-take-le, length-drop, length-append, append_assoc}
use Rattle.std.specs.Prelude.{None, nat_lt, slice_index}
use Rattle.std.proofs.lemmas.Bool.{eqb-false}
use Rattle.std.proofs.lemmas.List.{drop-drop, get_or-take}
use borrow.Rule.Slice.PartMut.{put_mid}
use Rattle.vg_model.specs.Bytes.{overwritten}
use Rattle.vg_model.specs.Header.{verifies, lowered}
use Rattle.vg_model.specs.Visit.{header_fault, version, header_len, total_len, time_to_live}
use Rattle.vg_model.proofs.Rewrites.{first_of, Passes, passes_of, length-overwritten, drop-overwritten, length-lowered, twelve_of}

-- a part of a list put anew is the list overwritten
put_is : (at k : ℕ) (xs new : List ℕ) → length new ≡ k → put_mid at k xs new ≡ overwritten xs at new
put_is at k xs new e =
    sym (append_assoc (take at xs) new (drop k (drop at xs)))
    ∙ ap (λ rest. take at xs ++ new ++ rest) (drop-drop k at xs ∙ ap (λ n. drop (at + n) xs) (sym e))

-- the frame with both addresses written
pub with_addresses : (f to from : List ℕ) → length to ≡ 6 → length from ≡ 6 → put_mid 6 6 (to ++ drop 6 f) from ≡ overwritten (overwritten f 0 to) 6 from
with_addresses f to from six six2 =
    let first : 6 ≡ 0 + length to = omega (arith, six) in
    put_is 6 6 (to ++ drop 6 f) from six2
    ∙ ap (λ xs. overwritten xs 6 from) (ap (λ n. to ++ drop n f) first)

-- what stands behind them is as it was
pub behind_addresses : (f to from : List ℕ) → length to ≡ 6 → length from ≡ 6 → 14 ≤ length f → drop 14 (put_mid 6 6 (to ++ drop 6 f) from) ≡ drop 14 f
behind_addresses f to from six six2 long =
    let first : length (overwritten f 0 to) ≡ length f = length-overwritten f 0 to (omega (arith, six, long)) in
    ap (drop 14) (with_addresses f to from six six2)
    ∙ drop-overwritten (overwritten f 0 to) 6 from 14 (omega (arith, six2)) (omega (arith, six2, first, long))
    ∙ drop-overwritten f 0 to 14 (omega (arith, six)) (omega (arith, six, long))

-- where no check fails, the header verifies
verified : (b c d e f g : Bool) → first_of b c d e (not f) g ≡ None → f ≡ true
verified b c d e true g h = refl
verified true c d e false g h = cc
verified false true d e false g h = cc
verified false false true e false g h = cc
verified false false false true false g h = cc
verified false false false false false g h = cc

-- a header that may be lowered
pub record IsLowerable (h : List ℕ) : Type 0 where
  pub verified : verifies h ≡ true
  pub versioned : slice_index h 0 ≢ 0
  pub alive : 1 ≤ slice_index h 8

-- a header without a fault may be lowered
pub lowerable_of : (d : List ℕ) → header_fault d ≡ None → IsLowerable (take (header_len d) d)
lowerable_of d e =
    let passes : Passes d = passes_of d e in
    let first : get_or (take (header_len d) d) 0 0 ≡ get_or d 0 0 = get_or-take (header_len d) d 0 0 (omega (arith, passes.header)) in
    let ninth : get_or (take (header_len d) d) 8 0 ≡ get_or d 8 0 = get_or-take (header_len d) d 8 0 (omega (arith, passes.header)) in
    let some : get_or d 8 0 ≢ 0 = eqb-false (time_to_live d) 0 passes.alive in
    record {
      verified = verified (nat_lt (length d) 20) (not (version d == 4)) (nat_lt (header_len d) 20 || nat_lt (length d) (header_len d))
          (nat_lt (total_len d) (header_len d) || nat_lt (length d) (total_len d)) (verifies (take (header_len d) d)) (time_to_live d == 0) e;
      versioned = λ zero. let none : get_or d 0 0 ≡ 0 = sym first ∙ zero in omega (arith, passes.header, none);
      alive = omega (arith, ninth, some);
    }

-- the frame with a lowered header put into it
pub with_header : (f to from low : List ℕ) (k : ℕ) → length to ≡ 6 → length from ≡ 6 → header_fault (drop 14 f) ≡ None → k ≡ header_len (drop 14 f)
    → low ≡ lowered (take (14 + k - 14) (drop 14 (put_mid 6 6 (to ++ drop 6 f) from)))
    → put_mid 14 (14 + k - 14) (put_mid 6 6 (to ++ drop 6 f) from) low
    ≡ overwritten (overwritten (overwritten f 0 to) 6 from) 14 (lowered (take (header_len (drop 14 f)) (drop 14 f)))
with_header f to from low k six six2 sound is_len is_low =
    let d : List ℕ = drop 14 f in
    let passes : Passes d = passes_of d sound in
    let long : length d ≡ length f - 14 = length-drop 14 f in
    let h : List ℕ = take (header_len d) d in
    let size : length h ≡ header_len d = length-take-le (header_len d) d passes.inside in
    let len : 14 + k - 14 ≡ header_len d = omega (arith, is_len) in
    let behind : drop 14 (put_mid 6 6 (to ++ drop 6 f) from) ≡ d = behind_addresses f to from six six2 (omega (arith, passes.len, long)) in
    let is : low ≡ lowered h = is_low ∙ ap lowered (ap (λ n. take n (drop 14 (put_mid 6 6 (to ++ drop 6 f) from))) len ∙ ap (take (header_len d)) behind) in
    let size_low : length (lowered h) ≡ header_len d = length-lowered h (twelve_of h (omega (arith, size, passes.header))) ∙ size in
    put_is 14 (14 + k - 14) (put_mid 6 6 (to ++ drop 6 f) from) low (ap length is ∙ size_low ∙ sym len)
    ∙ ap (λ xs. overwritten xs 14 low) (with_addresses f to from six six2)
    ∙ ap (overwritten (overwritten (overwritten f 0 to) 6 from) 14) is

-- an address written over the first six bytes of a frame has six
pub address_len : (f to : List ℕ) → header_fault (drop 14 f) ≡ None → length to ≡ length (take 6 f) → length to ≡ 6
address_len f to sound e =
    let passes : Passes (drop 14 f) = passes_of (drop 14 f) sound in
    let long : length (drop 14 f) ≡ length f - 14 = length-drop 14 f in
    e ∙ length-take-le 6 f (omega (arith, passes.len, long))

-- and so has one written over the next six
pub address_len_behind : (f to from : List ℕ) → header_fault (drop 14 f) ≡ None → length to ≡ length (take 6 f) → length from ≡ length (take 6 (drop 6 (to ++ drop 6 f))) → length from ≡ 6
address_len_behind f to from sound e e2 =
    let passes : Passes (drop 14 f) = passes_of (drop 14 f) sound in
    let long : length (drop 14 f) ≡ length f - 14 = length-drop 14 f in
    let six : length to ≡ 6 = address_len f to sound e in
    let whole : length (to ++ drop 6 f) ≡ length f = length-append to (drop 6 f) ∙ omega (arith, six, length-drop 6 f, passes.len, long) in
    e2 ∙ length-take-le 6 (drop 6 (to ++ drop 6 f)) (omega (arith, length-drop 6 (to ++ drop 6 f), whole, passes.len, long))

-- the header of the frame with both addresses written may be lowered
pub lowerable_part : (f to from : List ℕ) (k : ℕ) → header_fault (drop 14 f) ≡ None → length to ≡ length (take 6 f)
    → length from ≡ length (take 6 (drop 6 (to ++ drop 6 f))) → k ≡ header_len (drop 14 f)
    → IsLowerable (take (14 + k - 14) (drop 14 (put_mid 6 6 (to ++ drop 6 f) from)))
lowerable_part f to from k sound e e2 is =
    let passes : Passes (drop 14 f) = passes_of (drop 14 f) sound in
    let long : length (drop 14 f) ≡ length f - 14 = length-drop 14 f in
    let len : 14 + k - 14 ≡ header_len (drop 14 f) = omega (arith, is) in
    let part : take (14 + k - 14) (drop 14 (put_mid 6 6 (to ++ drop 6 f) from)) ≡ take (header_len (drop 14 f)) (drop 14 f) =
    ap (λ n. take n (drop 14 (put_mid 6 6 (to ++ drop 6 f) from))) len
    ∙ ap (take (header_len (drop 14 f))) (behind_addresses f to from (address_len f to sound e) (address_len_behind f to from sound e e2) (omega (arith, passes.len, long))) in
    subst IsLowerable (sym part) (lowerable_of (drop 14 f) sound)
