-- For `Levels::{put_short, put_middle, put_long}` and `Spans::put`, and for prefixes in vg_story and vg_remarks:
-- The addresses that a prefix covers are a span, and where it lies in the levels of a trie.
use Rattle.std.proofs.Common.{◌≡◌, ℕ, ◌+◌, ◌-◌, ◌*◌, ◌/◌, ◌%◌, ◌^◌, ◌<◌, ◌≤◌, true, false, refl, sym, ◌∙◌, ap, subst, arith}
use Rattle.std.proofs.Math.Nat.{div-add-mod}
use Rattle.std.proofs.lemmas.Bool.{eqb-true, eq-eqb, false≢true}
use Rattle.std.proofs.lemmas.Nat.{pow_pos, mod-pow-add, div-add-mod', div-mul-add, mod_below}
use Rattle.std.specs.Prelude.{if◌then◌else◌}
use Rattle.vg_model.proofs.PowerLemmas.{powers, block_fits}
use Rattle.vg_model.specs.declared.routes.Prefix.{Prefix}
use Rattle.vg_model.specs.Route.{PrefixKind, covers_of}
use Rattle.vg_fib.proofs.PrefixLemmas.{ArePrefixes}

-- how many addresses a prefix covers
abbrev pub addresses : Prefix → ℕ
addresses prefix = 2 ^ (32 - prefix.len)

-- an address is in the span of a prefix
abbrev pub InSpan : {P : Type 0} → PrefixKind P → P → ℕ → Type 0
InSpan kind prefix address = (kind.addr prefix ≤ address) × (address < kind.addr prefix + 2 ^ (kind.width - kind.len prefix))

by_parts : (x y d m n r : ℕ) → m + 0 ≡ x → n + r ≡ y → m ≡ n → r < d → (x ≤ y) × (y < x + d)
by_parts x y d m n r e f g h = (omega arith, omega arith)

-- a number with the quotient of a multiple lies less than the divisor behind it
quotient_span : (x y d : ℕ) → 0 < d → x % d ≡ 0 → x / d ≡ y / d → (x ≤ y) × (y < x + d)
quotient_span x y d pos whole same =
    let first : d * (x / d) + 0 ≡ x = subst (λ r. d * (x / d) + r ≡ x) whole (div-add-mod x d) in
    by_parts x y d (d * (x / d)) (d * (y / d)) (y % d) first (div-add-mod y d) (ap (λ q. d * q) same) (mod_below y d pos)

-- a number that lies less than the divisor behind a multiple has its quotient
span_quotient : (x y d : ℕ) → x % d ≡ 0 → x ≤ y → y < x + d → x / d ≡ y / d
span_quotient x y d whole low high =
    let first : x / d * d + x % d ≡ x = div-add-mod' x d in
    let behind : y - x < d = omega arith in
    let is : x / d * d + (y - x) ≡ y = omega arith in
    sym (subst (λ z. z / d ≡ x / d) is (div-mul-add (x / d) d (y - x) behind))

module _ {P : Type 0} {kind : PrefixKind P} (are : ArePrefixes kind) where
  -- a covered address is in the span
  pub span_from_covers : (prefix : P) (address : ℕ) → covers_of kind prefix address ≡ true → InSpan kind prefix address
  span_from_covers prefix address covers =
      quotient_span (kind.addr prefix) address (2 ^ (kind.width - kind.len prefix)) (pow_pos (kind.width - kind.len prefix)) (are.host_bits prefix) (eqb-true _ _ covers)

  -- an address in the span is covered
  pub covers_from_span : (prefix : P) (address : ℕ) → InSpan kind prefix address → covers_of kind prefix address ≡ true
  covers_from_span prefix address inside =
      eq-eqb _ _ (span_quotient (kind.addr prefix) address (2 ^ (kind.width - kind.len prefix)) (are.host_bits prefix) inside.0 inside.1)

  -- a choice by whether a prefix covers, from its two cases
  pub chosen_by_span : (prefix : P) (address number old new : ℕ)
      → (InSpan kind prefix address → new ≡ number) → ((InSpan kind prefix address → ⊥) → new ≡ old)
      → new ≡ (if covers_of kind prefix address then number else old)
  chosen_by_span prefix address number old new inside outside =
      elim (covers_of kind prefix address) as (λ b. covers_of kind prefix address ≡ b → new ≡ (if b then number else old)) [
        | true ↦ λ e. inside (span_from_covers prefix address e)
        | false ↦ λ e. outside (λ there. false≢true (sym e ∙ covers_from_span prefix address there))
      ] refl

-- a multiple of a power of two is one of each lower power, and so is its quotient by that
split : (x w j k : ℕ) → w ≡ j + k → x % 2 ^ w ≡ 0 → (x % 2 ^ k ≡ 0) × (x / 2 ^ k % 2 ^ j ≡ 0)
split x w j k e whole =
    let both : x % 2 ^ (j + k) ≡ 0 = subst (λ w. x % 2 ^ w ≡ 0) e whole in
    let parts : (x / 2 ^ k % 2 ^ j) * 2 ^ k + x % 2 ^ k ≡ 0 = sym (mod-pow-add x j k) ∙ both in
    let low : x % 2 ^ k ≡ 0 = omega arith in
    let high : (x / 2 ^ k % 2 ^ j) * 2 ^ k ≡ 0 = omega arith in
    (low, grind (arith, pow_pos k, high))

-- where a prefix of at most 16 bits lies in the first level
pub record IsShort (address size count : ℕ) : Type 0 where
  pub at : address ≡ 65536 * (address / 65536)
  pub is : size ≡ 65536 * count
  pub some : 0 < count
  pub fits : address / 65536 + count ≤ 65536

pub short_span : (prefix : Prefix) → prefix.addr < 2 ^ 32 → prefix.len ≤ 16 → IsShort prefix.addr (addresses prefix) (2 ^ (16 - prefix.len))
short_span prefix bound short =
    let parts = split prefix.addr (32 - prefix.len) (16 - prefix.len) 16 (omega arith) prefix.host_bits in
    let fit = block_fits (prefix.addr / 65536) 16 prefix.len (16 - prefix.len) (omega arith) parts.1 in
    let size = powers (32 - prefix.len) (16 - prefix.len) 16 (omega arith) in
    record {
      at = omega (arith, parts.0);
      is = omega (arith, size);
      some = pow_pos (16 - prefix.len);
      fits = omega (arith, fit);
    }

-- where a prefix of 17 to 24 bits lies in the second level
pub record IsMiddle (address size count : ℕ) : Type 0 where
  pub at : address ≡ 256 * (address / 256)
  pub is : size ≡ 256 * count
  pub some : 0 < count
  pub fits : address / 256 % 256 + count ≤ 256

pub middle_span : (prefix : Prefix) → 16 < prefix.len → prefix.len ≤ 24 → IsMiddle prefix.addr (addresses prefix) (2 ^ (24 - prefix.len))
middle_span prefix longer middle =
    let parts = split prefix.addr (32 - prefix.len) (24 - prefix.len) 8 (omega arith) prefix.host_bits in
    let fit = block_fits (prefix.addr / 256) 8 (prefix.len - 16) (24 - prefix.len) (omega arith) parts.1 in
    let size = powers (32 - prefix.len) (24 - prefix.len) 8 (omega arith) in
    record {
      at = omega (arith, parts.0);
      is = omega (arith, size);
      some = pow_pos (24 - prefix.len);
      fits = omega (arith, fit);
    }

-- where a prefix of 25 to 32 bits lies in the third level
pub long_span : (prefix : Prefix) → 24 < prefix.len → prefix.addr % 256 + addresses prefix ≤ 256
long_span prefix longer = block_fits prefix.addr 8 (prefix.len - 24) (32 - prefix.len) (omega (arith, prefix.few)) prefix.host_bits
