-- For the laws of routes, and for the functions of `Fib` and `Fib6`:
-- Prefixes that are the same, and the addresses that they cover.
use Rattle.std.proofs.Common.{◌≡◌, ℕ, ◌-◌, ◌/◌, ◌%◌, ◌^◌, ◌<◌, ◌≤◌, true, refl, sym, ◌∙◌, ap, subst, arith}
use Rattle.std.proofs.Math.Nat.{div-add-mod, ℕ_set}
use Rattle.std.proofs.Math.Bridge.{le_prop}
use Rattle.std.proofs.lemmas.Bool.{eqb-true, eq-eqb}
use Rattle.std.proofs.lemmas.Bool.Decides.{nat_tests}
use Rattle.std.specs.Cmp.{IsEquivalence}
use Rattle.vg_model.specs.declared.routes.Prefix.{Prefix}
use Rattle.vg_model.specs.declared.routes.Prefix6.{Prefix6}
use Rattle.vg_model.specs.Route.{PrefixKind, ip4, ip6, is_same, covers_of}

-- what holds of the prefixes of a kind
pub record ArePrefixes {P : Type 0} (kind : PrefixKind P) : Type 0 where
  pub narrow : kind.width < 256
  pub few : (p : P) → kind.len p ≤ kind.width
  pub host_bits : (p : P) → kind.addr p % 2 ^ (kind.width - kind.len p) ≡ 0
  pub one : (p q : P) → is_same kind p q ≡ true → p ≡ q
  -- a prefix, for lists that have no route
  pub some : P

-- a prefix is its bits: it has its facts in one way
module _ {P : Type 0} (width : ℕ) (prefix : (addr len : ℕ) → len ≤ width → addr % 2 ^ (width - len) ≡ 0 → P) where
  one_fact : (addr len : ℕ) (few few' : len ≤ width) (host host' : addr % 2 ^ (width - len) ≡ 0) → prefix addr len few host ≡ prefix addr len few' host'
  one_fact addr len few few' host host' =
      ap (λ f. prefix addr len f host) (le_prop few few') ∙ ap (λ h. prefix addr len few' h) (ℕ_set _ _ host host')

  one_len : (addr len len' : ℕ) → len ≡ len' → (few : len ≤ width) (few' : len' ≤ width)
      (host : addr % 2 ^ (width - len) ≡ 0) (host' : addr % 2 ^ (width - len') ≡ 0) → prefix addr len few host ≡ prefix addr len' few' host'
  one_len addr len len' e few =
      subst (λ l. (few' : l ≤ width) (host : addr % 2 ^ (width - len) ≡ 0) (host' : addr % 2 ^ (width - l) ≡ 0) → prefix addr len few host ≡ prefix addr l few' host')
      e (λ few' host host'. one_fact addr len few few' host host')

  one_addr : (addr addr' len len' : ℕ) → addr ≡ addr' → len ≡ len' → (few : len ≤ width) (few' : len' ≤ width)
      (host : addr % 2 ^ (width - len) ≡ 0) (host' : addr' % 2 ^ (width - len') ≡ 0) → prefix addr len few host ≡ prefix addr' len' few' host'
  one_addr addr addr' len len' e l few few' host =
      subst (λ a. (host' : a % 2 ^ (width - len') ≡ 0) → prefix addr len few host ≡ prefix a len' few' host')
      e (λ host'. one_len addr len len' l few few' host host')

-- prefixes of these bits
prefix4 : (addr len : ℕ) → len ≤ 32 → addr % 2 ^ (32 - len) ≡ 0 → Prefix
prefix4 addr len few host_bits = record { addr = addr; len = len; few = few; host_bits = host_bits }

prefix6 : (addr len : ℕ) → len ≤ 128 → addr % 2 ^ (128 - len) ≡ 0 → Prefix6
prefix6 addr len few host_bits = record { addr = addr; len = len; few = few; host_bits = host_bits }

-- two prefixes with the same bits are one
one_prefix4 : (p q : Prefix) → is_same ip4 p q ≡ true → p ≡ q
unfolding prefix4
one_prefix4 p q same =
    let addr : p.addr ≡ q.addr = grind (arith, nat_tests) in
    let len : p.len ≡ q.len = grind (arith, nat_tests) in
    one_addr 32 prefix4 p.addr q.addr p.len q.len addr len p.few q.few p.host_bits q.host_bits

one_prefix6 : (p q : Prefix6) → is_same ip6 p q ≡ true → p ≡ q
unfolding prefix6
one_prefix6 p q same =
    let addr : p.addr ≡ q.addr = grind (arith, nat_tests) in
    let len : p.len ≡ q.len = grind (arith, nat_tests) in
    one_addr 128 prefix6 p.addr q.addr p.len q.len addr len p.few q.few p.host_bits q.host_bits

-- both kinds are kinds of prefixes
pub are4 : ArePrefixes ip4
are4 = record {
  narrow = omega arith;
  few = λ p. p.few;
  host_bits = λ p. p.host_bits;
  one = one_prefix4;
  some = prefix4 0 0 (omega arith) refl;
}

pub are6 : ArePrefixes ip6
are6 = record {
  narrow = omega arith;
  few = λ p. p.few;
  host_bits = λ p. p.host_bits;
  one = one_prefix6;
  some = prefix6 0 0 (omega arith) refl;
}

-- a number with no remainder is given by its quotient
given_by_quotient : (x y a d : ℕ) → x / d ≡ a → y / d ≡ a → x % d ≡ 0 → y % d ≡ 0 → x ≡ y
given_by_quotient x y a d p q r s =
    sym (div-add-mod x d) ∙ (rw (p, r) (sym (rw (q, s) refl)) ∙ div-add-mod y d)

module _ {P : Type 0} {kind : PrefixKind P} (are : ArePrefixes kind) where
  -- a prefix is the same as itself
  pub same_itself : (p : P) → is_same kind p p ≡ true
  same_itself p = rw (eq-eqb (kind.addr p) (kind.addr p) refl, eq-eqb (kind.len p) (kind.len p) refl) refl

  -- to be the same prefix is an equivalence
  pub same_equivalence : IsEquivalence (is_same kind)
  same_equivalence = record {
    refl = same_itself;
    symm = λ p q. grind (arith, nat_tests);
    congr = λ p q r e. ap (λ x. is_same kind x r) (are.one p q e);
  }

  -- two prefixes of one length that cover an address are the same, since their host bits are zero
  pub covering_is_one : (p q : P) (address : ℕ) → covers_of kind p address ≡ true → covers_of kind q address ≡ true
      → kind.len p ≡ kind.len q → is_same kind p q ≡ true
  covering_is_one p q address over under len =
      let quotient : kind.addr p / 2 ^ (kind.width - kind.len p) ≡ address / 2 ^ (kind.width - kind.len p) = eqb-true _ _ over in
      let other : kind.addr q / 2 ^ (kind.width - kind.len p) ≡ address / 2 ^ (kind.width - kind.len p) = rw len (eqb-true _ _ under) in
      let rest : kind.addr q % 2 ^ (kind.width - kind.len p) ≡ 0 = rw len (are.host_bits q) in
      let addr : kind.addr p ≡ kind.addr q =
      given_by_quotient (kind.addr p) (kind.addr q) (address / 2 ^ (kind.width - kind.len p)) (2 ^ (kind.width - kind.len p)) quotient other (are.host_bits p) rest in
      rw (eq-eqb (kind.addr p) (kind.addr q) addr, eq-eqb (kind.len p) (kind.len q) len) refl
