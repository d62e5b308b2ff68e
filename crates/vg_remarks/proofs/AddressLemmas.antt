-- For `addresses`: what is known of prefixes.
use Rattle.std.proofs.Common.{◌≡◌, ℕ, ◌-◌, ◌/◌, ◌≤◌, Bool, true, false, List, [], ◌∷◌, refl, sym, ap, ◌∙◌, inl, inr, arith}
use Rattle.std.specs.Prelude.{◌^◌, ◌&&◌, ◌||◌, not, cond, nat_lt, filter, Some, None, is_some, if◌then◌else◌}
use Rattle.std.specs.List.{list_any}
use Rattle.std.proofs.Math.Nat.{div-div-eq-div-mul}
use Rattle.std.proofs.lemmas.Bool.{cases_lt, lt-ltb, eqb-true}
use Rattle.std.proofs.lemmas.Map.Views.{any-filter_same}
use Rattle.vg_model.proofs.PowerLemmas.{powers}
use Rattle.vg_model.specs.declared.routes.Prefix.{Prefix}
use Rattle.vg_model.specs.Route.{covers_of, ip4}
use Rattle.vg_remarks.specs.declared.addresses.Class.TheVariants as classes
use Rattle.vg_remarks.specs.Addresses.{class_of, is_multicast, is_directed, is_led, has_group, is_special, special_class, may_be_special}

-- what two addresses have in common in their first bits they have in the first eight of them
same_byte : (x y len : ℕ) → 8 ≤ len → len ≤ 32 → x / 2 ^ (32 - len) ≡ y / 2 ^ (32 - len) → x / 2 ^ 24 ≡ y / 2 ^ 24
same_byte x y len long few e = narrower x ∙ (ap (λ q. q / 2 ^ (len - 8)) e ∙ sym (narrower y))
  where
    narrower : (z : ℕ) → z / 2 ^ 24 ≡ z / 2 ^ (32 - len) / 2 ^ (len - 8)
    narrower z = ap (λ d. z / d) (powers 24 (32 - len) (len - 8) (omega arith)) ∙ sym (div-div-eq-div-mul z (2 ^ (32 - len)) (2 ^ (len - 8)))

or_true : (b : Bool) → (b || true) ≡ true
or_true true = refl
or_true false = refl

-- a prefix that covers an address of a class wherever it occurs is one of those that may
covering : (prefix : Prefix) (address : ℕ) → is_special (address / 2 ^ 24) ≡ true → covers_of ip4 prefix address ≡ true → may_be_special prefix ≡ true
covering prefix address special covers = elim (cases_lt prefix.len 8) [
  | inl short ↦ ap (λ b. b || is_special (prefix.addr / 2 ^ 24)) (lt-ltb prefix.len 8 short)
  | inr long ↦
      let same = same_byte prefix.addr address prefix.len long prefix.few
      (eqb-true (prefix.addr / 2 ^ (32 - prefix.len)) (address / 2 ^ (32 - prefix.len)) covers) in
      ap (λ b. nat_lt prefix.len 8 || b) (ap is_special same ∙ special) ∙ or_true (nat_lt prefix.len 8)
]

-- so none of the others leads such an address
pub led_special : (led : List Prefix) (address : ℕ) → is_special (address / 2 ^ 24) ≡ true → is_led (filter may_be_special led) address ≡ is_led led address
led_special led address special = any-filter_same (λ prefix. covers_of ip4 prefix address) may_be_special true (λ prefix covers. covering prefix address special covers) led

-- of elements those that pass one test are asked for another
any_of_filtered : {X : Type 0} (p q : X → Bool) (xs : List X) → list_any p (filter q xs) ≡ list_any (λ x. q x && p x) xs
any_of_filtered p q [] = refl
any_of_filtered {X} p q (x ∷ xs) = first (q x) (any_of_filtered p q xs)
  where
    first : (b : Bool) → list_any p (filter q xs) ≡ list_any (λ (x : X). q x && p x) xs
        → list_any p (cond b (x ∷ filter q xs) (filter q xs)) ≡ ((b && p x) || list_any (λ (x : X). q x && p x) xs)
    first true rest = ap (λ r. p x || r) rest
    first false rest = rest

-- a group has a route where one of the prefixes of multicast addresses alone covers it
pub group_led : (led : List Prefix) (address : ℕ) → is_led (filter is_multicast led) address ≡ has_group led address
group_led led address = any_of_filtered (λ prefix. covers_of ip4 prefix address) is_multicast led

-- an address whose first byte is an ordinary one has a class where it is the last one of a network
pub class_elsewhere : (led : List Prefix) (address : ℕ) → is_special (address / 2 ^ 24) ≡ false → is_some (class_of led address) ≡ is_directed led address
class_elsewhere led address ordinary =
    ap (λ b. is_some (if b then (if is_led led address && not (has_group led address) then Some (special_class address) else None) else if is_directed led address then Some classes.DirectedBroadcast else None)) ordinary
    ∙ directed (is_directed led address)
  where
    directed : (b : Bool) → is_some (if b then Some classes.DirectedBroadcast else None) ≡ b
    directed true = refl
    directed false = refl
