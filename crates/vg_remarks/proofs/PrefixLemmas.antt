-- For `prefixes`: the last address of a prefix, and an address among prefixes of which the later ones begin no earlier and end no earlier.
use Rattle.std.proofs.Common.{◌≡◌, ℕ, ◌+◌, ◌-◌, ◌%◌, ◌<◌, ◌≤◌, Bool, true, false, List, [], ◌∷◌, ◌++◌, length, get_or, refl, sym, ap, subst, ◌∙◌, inl, inr, arith}
use Rattle.std.specs.Prelude.{◌^◌, ◌||◌, nat_le, All, Option, Some, None, slice_get}
use Rattle.std.specs.List.Sorted.{IsNonDecreasingBy, IsPartitionPoint, IsPermutation}
use Rattle.std.proofs.lemmas.Bool.{both_ways, cases_lt, false_from_ne_true, false≢true, leb-false, leb-true, ltb-false, ltb-true}
use Rattle.std.proofs.lemmas.List.{get_or_default}
use Rattle.std.proofs.lemmas.List.Folds.{list_any-append, list_any_at, list_any_none}
use Rattle.std.proofs.lemmas.List.Sorted.{IsNonDecreasingBy-push, list_any-IsPermutation}
use Rattle.std.proofs.lemmas.Nat.{pow_pos}
use Rattle.std.proofs.lemmas.Option.{get_or_from_slice_get, slice_get-get_or, slice_get_within}
use Rattle.vg_model.proofs.PowerLemmas.{block_fits}
use Rattle.vg_model.specs.declared.routes.Prefix.{Prefix}
use Rattle.vg_model.specs.Route.{covers_of, ip4}
use Rattle.vg_fib.proofs.PrefixLemmas.{are4}
use Rattle.vg_fib.proofs.SpanLemmas.{covers_from_span, span_from_covers}
use Rattle.vg_remarks.specs.Addresses.{ends_behind, is_led, last_of, IsCover}

-- ---- one prefix

-- the last address of a prefix has 32 bits
pub last_fits : (addr len : ℕ) → len ≤ 32 → addr < 4294967296 → addr % 2 ^ (32 - len) ≡ 0 → addr + (2 ^ (32 - len) - 1) < 4294967296
last_fits addr len few small whole =
    let fits : addr % 2 ^ 32 + 2 ^ (32 - len) ≤ 2 ^ 32 = block_fits addr 32 len (32 - len) (omega arith) whole in
    omega (arith, fits, pow_pos (32 - len))

-- a prefix covers the addresses from its first to its last
inside : (prefix : Prefix) (address : ℕ) → covers_of ip4 prefix address ≡ true → (prefix.addr ≤ address) × (address ≤ last_of prefix)
inside prefix address covers =
    let span : (prefix.addr ≤ address) × (address < prefix.addr + 2 ^ (32 - prefix.len)) = span_from_covers are4 prefix address covers in
    (span.0, omega arith)

covers_from_inside : (prefix : Prefix) (address : ℕ) → prefix.addr ≤ address → address ≤ last_of prefix → covers_of ip4 prefix address ≡ true
covers_from_inside prefix address from to =
    covers_from_span are4 prefix address (from, omega (arith, pow_pos (32 - prefix.len)))

-- it covers none before its first
covers_none_before : (prefix : Prefix) (address : ℕ) → address < prefix.addr → covers_of ip4 prefix address ≡ false
covers_none_before prefix address before = false_from_ne_true (covers_of ip4 prefix address) (λ covers. absurd (omega (arith, (inside prefix address covers).0)))

-- ---- one prefix more, none of those that are kept begins later

-- what adds nothing to what is covered
adds_nothing : (all one : Bool) → (one ≡ true → all ≡ true) → all ≡ (all || (one || false))
adds_nothing true one h = refl
adds_nothing false true h = h refl
adds_nothing false false h = refl

module _ (prefixes kept : List Prefix) (prefix : Prefix) (is : IsCover prefixes kept) (begun : All (λ (p : Prefix). p.addr ≤ prefix.addr) kept) where
  -- it is kept where it ends behind the last of them
  pub cover_more : ends_behind prefix (slice_get kept (length kept - 1)) ≡ true → IsCover (prefixes ++ prefix ∷ []) (kept ++ prefix ∷ [])
  cover_more behind = record {
    begins = IsNonDecreasingBy-push (λ (p : Prefix). p.addr) kept prefix is.begins (λ d some. begun (length kept - 1) d (omega arith));
    ends = IsNonDecreasingBy-push last_of kept prefix is.ends (λ d some.
        let later = ltb-true _ _ (sym (ap (ends_behind prefix) (slice_get-get_or kept (length kept - 1) d (omega arith))) ∙ behind) in
        omega (arith, later));
    same = λ address.
        list_any-append (λ (p : Prefix). covers_of ip4 p address) kept (prefix ∷ [])
        ∙ (ap (λ all. all || is_led (prefix ∷ []) address) (is.same address)
        ∙ sym (list_any-append (λ (p : Prefix). covers_of ip4 p address) prefixes (prefix ∷ [])));
  }

  -- and else the last of them covers its addresses
  covered : (last : Option Prefix) → slice_get kept (length kept - 1) ≡ last → ends_behind prefix last ≡ false → (address : ℕ)
      → covers_of ip4 prefix address ≡ true → is_led prefixes address ≡ true
  covered None at ended address covers = absurd (false≢true (sym ended))
  covered (Some last) at ended address covers =
      let within : length kept - 1 < length kept = slice_get_within kept (length kept - 1) last at in
      let read : get_or kept (length kept - 1) last ≡ last = get_or_from_slice_get kept (length kept - 1) last last at in
      let first : last.addr ≤ prefix.addr = subst (λ (p : Prefix). p.addr ≤ prefix.addr) read (begun (length kept - 1) last within) in
      let here : (prefix.addr ≤ address) × (address ≤ last_of prefix) = inside prefix address covers in
      let end : last_of prefix ≤ last_of last = ltb-false _ _ ended in
      sym (is.same address)
      ∙ list_any_at (λ (p : Prefix). covers_of ip4 p address) kept (length kept - 1) last within
      (ap (λ (p : Prefix). covers_of ip4 p address) read ∙ covers_from_inside last address (omega arith) (omega arith))

  pub cover_same : ends_behind prefix (slice_get kept (length kept - 1)) ≡ false → IsCover (prefixes ++ prefix ∷ []) kept
  cover_same ended = record {
    begins = is.begins;
    ends = is.ends;
    same = λ address.
        is.same address
        ∙ (adds_nothing (is_led prefixes address) (covers_of ip4 prefix address) (covered (slice_get kept (length kept - 1)) refl ended address)
        ∙ sym (list_any-append (λ (p : Prefix). covers_of ip4 p address) prefixes (prefix ∷ [])));
  }

-- of prefixes by their first addresses, where none of those that are kept begins behind one of them, none begins behind a later one
pub begun_more : (sorted kept : List Prefix) (i : ℕ) (prefix : Prefix) → IsNonDecreasingBy (λ (p : Prefix). p.addr) sorted → i < length sorted → prefix ≡ get_or sorted i prefix
    → All (λ (p : Prefix). p.addr ≤ prefix.addr) kept
    → (j : ℕ) (d : Prefix) → i + 1 ≤ j → j < length sorted → All (λ (p : Prefix). p.addr ≤ (get_or sorted j d).addr) kept
begun_more sorted kept i prefix rises within read begun j d from below = λ k e inside.
    let here : prefix ≡ get_or sorted i d = read ∙ get_or_default sorted i prefix d within in
    let up : (get_or sorted i d).addr ≤ (get_or sorted j d).addr = rises i j d (omega arith) below in
    let low : (get_or kept k e).addr ≤ prefix.addr = begun k e inside in
    omega (arith, ap (λ (p : Prefix). p.addr) here)

-- those that are kept of no prefixes
pub cover_none : IsCover [] []
cover_none = record {
  begins = λ i j d le lt. absurd (omega (arith, lt));
  ends = λ i j d le lt. absurd (omega (arith, lt));
  same = λ address. refl;
}

-- the order of the prefixes doesn't matter
pub cover_moved : (prefixes sorted kept : List Prefix) → IsPermutation prefixes sorted → IsCover sorted kept → IsCover prefixes kept
cover_moved prefixes sorted kept moved is = record {
  begins = is.begins;
  ends = is.ends;
  same = λ address. is.same address ∙ sym (list_any-IsPermutation (λ (p : Prefix). covers_of ip4 p address) prefixes sorted moved);
}

-- ---- an address among kept prefixes

-- of the prefixes this one is the last that begins no later than the address
pub record IsLastBegun (kept : List Prefix) (address place : ℕ) : Type 0 where
  pub within : place < length kept
  pub begins : (d : Prefix) → (get_or kept place d).addr ≤ address
  pub later : (k : ℕ) (d : Prefix) → place < k → k < length kept → address < (get_or kept k d).addr

-- the place that a binary search gives is behind it
abbrev pub IsBegunBelow : List Prefix → (address begun : ℕ) → Type 0
IsBegunBelow kept address begun = IsPartitionPoint (λ (p : Prefix). nat_le p.addr address ≡ true) (λ (p : Prefix). nat_le p.addr address ≡ false) kept begun

pub last_begun : (kept : List Prefix) (address begun : ℕ) → 0 < begun → begun ≤ length kept → IsBegunBelow kept address begun → IsLastBegun kept address (begun - 1)
last_begun kept address begun some all point = record {
  within = omega arith;
  begins = λ d. leb-true _ _ (point.0 (begun - 1) d (omega arith) (omega arith));
  later = λ k d behind below. leb-false _ _ (point.1 k d (omega arith) below);
}

module _ (prefixes kept : List Prefix) (address : ℕ) (is : IsCover prefixes kept) where
  -- where all begin later none covers the address
  pub not_found : IsBegunBelow kept address 0 → is_led prefixes address ≡ false
  not_found point =
      sym (is.same address)
      ∙ list_any_none (λ (p : Prefix). covers_of ip4 p address) kept
      (λ k d below. covers_none_before (get_or kept k d) address (leb-false _ _ (point.1 k d (omega arith) below)))

  -- and else one covers it where the last that begins no later does
  module _ (place : ℕ) (at : IsLastBegun kept address place) where
    -- an earlier one ends no later than that, and so covers the address only where that does
    earlier : (k : ℕ) (d : Prefix) → k ≤ place → covers_of ip4 (get_or kept k d) address ≡ true → covers_of ip4 (get_or kept place d) address ≡ true
    earlier k d before covers =
        let here : ((get_or kept k d).addr ≤ address) × (address ≤ last_of (get_or kept k d)) = inside (get_or kept k d) address covers in
        covers_from_inside (get_or kept place d) address (at.begins d) (omega (arith, here.1, is.ends k place d before at.within))

    none_covers : (last : Prefix) → get_or kept place last ≡ last → covers_of ip4 last address ≡ false → (k : ℕ) (d : Prefix) → k < length kept → covers_of ip4 (get_or kept k d) address ≡ false
    none_covers last read not k d below = elim (cases_lt place k) [
      | inl behind ↦ covers_none_before (get_or kept k d) address (at.later k d behind below)
      | inr before ↦
          let same : get_or kept place d ≡ last = get_or_default kept place d last at.within ∙ read in
          false_from_ne_true (covers_of ip4 (get_or kept k d) address)
          (λ covers. both_ways (covers_of ip4 last address) not (sym (ap (λ (p : Prefix). covers_of ip4 p address) same) ∙ earlier k d before covers))
    ]

    found_as : (last : Prefix) → get_or kept place last ≡ last → (b : Bool) → covers_of ip4 last address ≡ b → b ≡ is_led prefixes address
    found_as last read true covers =
        sym (list_any_at (λ (p : Prefix). covers_of ip4 p address) kept place last at.within (ap (λ (p : Prefix). covers_of ip4 p address) read ∙ covers)) ∙ is.same address
    found_as last read false not = sym (list_any_none (λ (p : Prefix). covers_of ip4 p address) kept (none_covers last read not)) ∙ is.same address

    pub found : (last : Prefix) → last ≡ get_or kept place last → covers_of ip4 last address ≡ is_led prefixes address
    found last read = found_as last (sym read) (covers_of ip4 last address) refl
