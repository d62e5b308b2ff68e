-- For `read_is_lawful` and `parse_script`: what words of each class mean.
use Rattle.std.proofs.Common.{◌≡◌, ℕ, zero, suc, ◌+◌, ◌-◌, ◌%◌, ◌^◌, ◌<◌, ◌≤◌, Bool, true, false, cond, ◌&&◌, ltb, leb, eqb, List, [], ◌∷◌, ◌++◌, length, take, drop, replicate, refl, ap, arith, leb-true, le-leb, eqb-true, length-append}
use Rattle.std.proofs.Math.Dec.{T}
use Rattle.std.proofs.lemmas.Bool.{and_parts, and_from}
use Rattle.std.proofs.lemmas.List.{length-replicate}
use Rattle.std.proofs.lemmas.List.Splits.{length-slice_split}
use Rattle.std.specs.Prelude.{Option, Some, None, option_map, unwrap_or, is_some, IsSome, IfSome, find, bytes_eq, codes, decimal}
use Rattle.std.specs.Option.{option_or}
use Rattle.std.specs.Char.{is_ascii_hexdigit}
use Rattle.std.specs.Int.{w32, from_be_bytes}
use Rattle.std.specs.List.{AllByRecursion, before_first, after_first, list_all, slice_split}
use Rattle.std.specs.Str.Parse.{digits_value}
use Rattle.vg_model.specs.declared.kinds.Kind.{Kind}
use Rattle.vg_model.specs.declared.kinds.Kind.TheVariants as kinds
use Rattle.vg_model.specs.declared.routes.Prefix.{Prefix}
use Rattle.vg_model.specs.declared.routes.Prefix6.{Prefix6}
use Rattle.vg_model.specs.declared.vlans.VlanId.{VlanId}
use Rattle.vg_model.specs.Graph.{kind_entry, plain_kinds}
use Rattle.vg_model.specs.KindWord.{numbered_word}
use Rattle.vg_model.specs.Members.{AreMembers}
use Rattle.vg_model.specs.Name.{IsName, is_name}
use Rattle.vg_model.specs.Valid.{IsMac}
use Rattle.vg_script.specs.Address6.{group_of, groups_of_parts, groups_of, around_gap, if_eight, filled_up, eight_groups, number_of_groups, address6_of}
use Rattle.vg_script.specs.Classes.{◌>>=◌, name_of, names_of, is_decimal, number_of, parted_by, pair_of, mac_of, address_of, given, prefix, prefix_of, prefix6, prefix6_of, is_word_for, kind_of, number_behind, vlan_behind, numbered_kind}
use Rattle.vg_script.proofs.ClassLemmas.{name_by_test, pair_small, group_small}
use Rattle.vg_script.proofs.RoundTripLines.{each-append}

-- a name
pub name_value : (word : List ℕ) → IfSome (name_of word) IsName
name_value word = by_test (is_name word) refl
  where
    by_test : (b : Bool) → is_name word ≡ b → IfSome (cond b (Some word) None) IsName
    by_test true e = name_by_test word e
    by_test false e = tt

-- names
abbrev pub AreNames : List (List ℕ) → Type 0
AreNames names = AreMembers names × AllByRecursion IsName names

each_name : (parts : List (List ℕ)) → list_all is_name parts ≡ true → AllByRecursion IsName parts
each_name [] h = tt
each_name (part ∷ parts) h = let both = and_parts (is_name part) (list_all is_name parts) h in (name_by_test part both.0, each_name parts both.1)

pub names_value : (word : List ℕ) → IfSome (names_of word) AreNames
names_value word = by_test (leb (length parts) 16 && list_all is_name parts) refl
  where
    parts : List (List ℕ)
    parts = slice_split (λ byte. eqb byte 44) word

    by_test : (b : Bool) → (leb (length parts) 16 && list_all is_name parts) ≡ b → IfSome (cond b (Some parts) None) AreNames
    by_test true e =
        let both = and_parts (leb (length parts) 16) (list_all is_name parts) e in
        let some : 1 ≤ length parts = omega (arith, length-slice_split (λ byte. eqb byte 44) word) in
        (record { some = some; few = leb-true (length parts) 16 both.0 }, each_name parts both.1)
    by_test false e = tt

-- a number
abbrev pub IsWithin : (least most : ℕ) → ℕ → Type 0
IsWithin least most n = (least ≤ n) × (n ≤ most)

pub number_value : (least most : ℕ) (word : List ℕ) → IfSome (number_of least most word) (IsWithin least most)
number_value least most word = by_test ((is_decimal word && leb least (digits_value 10 word)) && leb (digits_value 10 word) most) refl
  where
    by_test : (b : Bool) → ((is_decimal word && leb least (digits_value 10 word)) && leb (digits_value 10 word) most) ≡ b
        → IfSome (cond b (Some (digits_value 10 word)) None) (IsWithin least most)
    by_test true e =
        let parts = and_parts (is_decimal word && leb least (digits_value 10 word)) (leb (digits_value 10 word) most) e in (
          leb-true least (digits_value 10 word) (and_parts (is_decimal word) (leb least (digits_value 10 word)) parts.0).1,
          leb-true (digits_value 10 word) most parts.1,
        )
    by_test false e = tt

-- a byte
pair_value : (text : List ℕ) → IfSome (pair_of text) (λ n. n < 256)
pair_value text = by_test (eqb (length text) 2 && list_all is_ascii_hexdigit text) refl
  where
    by_test : (b : Bool) → (eqb (length text) 2 && list_all is_ascii_hexdigit text) ≡ b → IfSome (cond b (Some (digits_value 16 text)) None) (λ n. n < 256)
    by_test true e =
        let parts = and_parts (eqb (length text) 2) (list_all is_ascii_hexdigit text) e in
        pair_small text (eqb-true (length text) 2 parts.0) parts.1
    by_test false e = tt

byte_value : (text : List ℕ) → IfSome (number_of 0 255 text) (λ n. n < 256)
byte_value text = by_option (number_of 0 255 text) (number_value 0 255 text)
  where
    by_option : (o : Option ℕ) → IfSome o (IsWithin 0 255) → IfSome o (λ n. n < 256)
    by_option (Some n) p = omega (arith, p.1)
    by_option None p = tt

-- so many bytes
abbrev AreSoMany : ℕ → List ℕ → Type 0
AreSoMany n bytes = (length bytes ≡ n) × AllByRecursion (λ b. b < 256) bytes

last_value : (o : Option ℕ) → IfSome o (λ n. n < 256) → IfSome (o >>= λ last. Some (last ∷ [])) (AreSoMany 1)
last_value (Some n) p = (refl, (p, tt))
last_value None p = tt

more_values : (more : ℕ) (o : Option ℕ) (os : Option (List ℕ)) → IfSome o (λ n. n < 256) → IfSome os (AreSoMany (suc more))
    → IfSome (o >>= λ first. os >>= λ others. Some (first ∷ others)) (AreSoMany (suc (suc more)))
more_values more (Some n) (Some ns) p q = (ap suc q.0, (p, q.1))
more_values more (Some n) None p q = tt
more_values more None os p q = tt

parted_value : (mark : ℕ) (class : List ℕ → Option ℕ) → ((text : List ℕ) → IfSome (class text) (λ n. n < 256)) → (more : ℕ) (text : List ℕ)
    → IfSome (parted_by mark class more text) (AreSoMany (suc more))
parted_value mark class h zero text = last_value (class text) (h text)
parted_value mark class h (suc more) text =
    more_values more (class (before_first (λ byte. eqb byte mark) text)) (parted_by mark class more (after_first (λ byte. eqb byte mark) text))
    (h (before_first (λ byte. eqb byte mark) text)) (parted_value mark class h more (after_first (λ byte. eqb byte mark) text))

-- a link-layer address
mac_bytes : (o : Option (List ℕ)) → IfSome o (AreSoMany 6) → IfSome (option_map (λ bytes. record { 0 = bytes }) o) IsMac
mac_bytes (Some bytes) p = record { six = p.0; bytes = p.1 }
mac_bytes None p = tt

pub mac_value : (word : List ℕ) → IfSome (mac_of word) IsMac
mac_value word = mac_bytes (parted_by 58 pair_of 5 word) (parted_value 58 pair_of pair_value 5 word)

-- an address
small_address : (bytes : List ℕ) → AreSoMany 4 bytes → from_be_bytes w32 bytes < 2 ^ 32
small_address [] p = absurd (omega (arith, p.0))
small_address (a ∷ []) p = absurd (omega (arith, p.0))
small_address (a ∷ b ∷ []) p = absurd (omega (arith, p.0))
small_address (a ∷ b ∷ c ∷ []) p = absurd (omega (arith, p.0))
small_address (a ∷ b ∷ c ∷ d ∷ e ∷ others) p = absurd (omega (arith, p.0))
small_address (a ∷ b ∷ c ∷ d ∷ []) p =
    let first : a < 256 = p.1.0 in
    let second : b < 256 = p.1.1.0 in
    let third : c < 256 = p.1.1.1.0 in
    let fourth : d < 256 = p.1.1.1.1.0 in
    omega (arith, first, second, third, fourth)

address_bytes : (o : Option (List ℕ)) → IfSome o (AreSoMany 4) → IfSome (option_map (from_be_bytes w32) o) (λ addr. addr < 2 ^ 32)
address_bytes (Some bytes) p = small_address bytes p
address_bytes None p = tt

address_value : (text : List ℕ) → IfSome (address_of text) (λ addr. addr < 2 ^ 32)
address_value text = address_bytes (parted_by 46 (number_of 0 255) 3 text) (parted_value 46 (number_of 0 255) byte_value 3 text)

-- a prefix
abbrev pub HasAddress : Prefix → Type 0
HasAddress p = p.addr < 2 ^ 32

given_value : {X : Type 0} (P : X → Type 0) (test : Bool) (f : T test → Option X) → ((h : T test) → IfSome (f h) P) → IfSome (given test f) P
given_value P true f h = h tt
given_value P false f h = tt

len_value : (addr : ℕ) → addr < 2 ^ 32 → (o : Option ℕ)
    → IfSome (o >>= λ len. given (leb len 32) (λ few. given (eqb (addr % 2 ^ (32 - len)) 0) (λ host_bits. Some (prefix addr len few host_bits)))) HasAddress
len_value addr small (Some len) =
    given_value HasAddress (leb len 32) (λ few. given (eqb (addr % 2 ^ (32 - len)) 0) (λ host_bits. Some (prefix addr len few host_bits)))
    (λ few. given_value HasAddress (eqb (addr % 2 ^ (32 - len)) 0) (λ host_bits. Some (prefix addr len few host_bits)) (λ host_bits. small))
len_value addr small None = tt

addr_value : (o : Option ℕ) → IfSome o (λ addr. addr < 2 ^ 32) → (back : List ℕ)
    → IfSome (o >>= λ addr. number_of 0 32 back >>= λ len. given (leb len 32) (λ few. given (eqb (addr % 2 ^ (32 - len)) 0) (λ host_bits. Some (prefix addr len few host_bits)))) HasAddress
addr_value (Some addr) small back = len_value addr small (number_of 0 32 back)
addr_value None small back = tt

pub prefix_value : (word : List ℕ) → IfSome (prefix_of word) HasAddress
prefix_value word =
    addr_value (address_of (before_first (λ byte. eqb byte 47) word)) (address_value (before_first (λ byte. eqb byte 47) word))
    (after_first (λ byte. eqb byte 47) word)

-- groups of an IPv6 address
AreGroups : List ℕ → Type 0
AreGroups groups = AllByRecursion (λ group. group < 65536) groups

group_value : (text : List ℕ) → IfSome (group_of text) (λ group. group < 65536)
group_value text = by_test (ltb 0 (length text) && leb (length text) 4 && list_all is_ascii_hexdigit text) refl
  where
    by_test : (b : Bool) → (ltb 0 (length text) && leb (length text) 4 && list_all is_ascii_hexdigit text) ≡ b
        → IfSome (cond b (Some (digits_value 16 text)) None) (λ group. group < 65536)
    by_test true e =
        let parts = and_parts (ltb 0 (length text) && leb (length text) 4) (list_all is_ascii_hexdigit text) e in
        group_small text (leb-true (length text) 4 (and_parts (ltb 0 (length text)) (leb (length text) 4) parts.0).1) parts.1
    by_test false e = tt

groups_step : (o : Option ℕ) (os : Option (List ℕ)) → IfSome o (λ group. group < 65536) → IfSome os AreGroups
    → IfSome (o >>= λ group. os >>= λ groups. Some (group ∷ groups)) AreGroups
unfolding AreGroups
groups_step (Some group) (Some groups) p q = (p, q)
groups_step (Some group) None p q = tt
groups_step None os p q = tt

parts_value : (parts : List (List ℕ)) → IfSome (groups_of_parts parts) AreGroups
unfolding AreGroups
parts_value [] = tt
parts_value (part ∷ parts) = groups_step (group_of part) (groups_of_parts parts) (group_value part) (parts_value parts)

groups_value : (text : List ℕ) → IfSome (groups_of text) AreGroups
unfolding AreGroups
groups_value [] = tt
groups_value (byte ∷ bytes) = parts_value (slice_split (λ b. eqb b 58) (byte ∷ bytes))

-- eight groups
AreEightGroups : List ℕ → Type 0
AreEightGroups groups = (length groups ≡ 8) × AllByRecursion (λ group. group < 65536) groups

eight_value : (o : Option (List ℕ)) → IfSome o AreGroups → IfSome (o >>= if_eight) AreEightGroups
unfolding AreGroups AreEightGroups
eight_value None p = tt
eight_value (Some groups) p = by_test (eqb (length groups) 8) refl
  where
    by_test : (b : Bool) → eqb (length groups) 8 ≡ b → IfSome (cond b (Some groups) None) AreEightGroups
    by_test true e = (eqb-true (length groups) 8 e, p)
    by_test false e = tt

zeros_value : (count : ℕ) → AllByRecursion (λ group. group < 65536) (replicate count 0)
zeros_value zero = tt
zeros_value (suc count) = (omega arith, zeros_value count)

filled_value : (o os : Option (List ℕ)) → IfSome o AreGroups → IfSome os AreGroups
    → IfSome (o >>= λ before. os >>= λ behind. filled_up before behind) AreEightGroups
unfolding AreGroups AreEightGroups
filled_value None os p q = tt
filled_value (Some before) None p q = tt
filled_value (Some before) (Some behind) p q = by_test (leb (length before + length behind) 7) refl
  where
    by_test : (b : Bool) → leb (length before + length behind) 7 ≡ b
        → IfSome (cond b (Some (before ++ replicate (8 - (length before + length behind)) 0 ++ behind)) None) AreEightGroups
    by_test true e =
        let few = leb-true (length before + length behind) 7 e in
        let zeros : List ℕ = replicate (8 - (length before + length behind)) 0 in
        let count : length zeros ≡ 8 - (length before + length behind) = length-replicate (8 - (length before + length behind)) 0 in (
          omega (arith, few, length-append (before ++ zeros) behind, length-append before zeros, count),
          each-append (λ group. group < 65536) (before ++ zeros) behind
              (each-append (λ group. group < 65536) before zeros p (zeros_value (8 - (length before + length behind)))) q,
        )
    by_test false e = tt

sides_value : (text : List ℕ) (sides : Option (List ℕ × List ℕ)) → IfSome (eight_groups text sides) AreEightGroups
sides_value text None = eight_value (groups_of text) (groups_value text)
sides_value text (Some sides) = filled_value (groups_of sides.0) (groups_of sides.1) (groups_value sides.0) (groups_value sides.1)

eight_small : (groups : List ℕ) → AreEightGroups groups → number_of_groups groups < 2 ^ 128
unfolding AreEightGroups
eight_small (a ∷ b ∷ c ∷ d ∷ e ∷ f ∷ g ∷ h ∷ []) p =
    let first : a < 65536 = p.1.0 in
    let second : b < 65536 = p.1.1.0 in
    let third : c < 65536 = p.1.1.1.0 in
    let fourth : d < 65536 = p.1.1.1.1.0 in
    let fifth : e < 65536 = p.1.1.1.1.1.0 in
    let sixth : f < 65536 = p.1.1.1.1.1.1.0 in
    let seventh : g < 65536 = p.1.1.1.1.1.1.1.0 in
    let eighth : h < 65536 = p.1.1.1.1.1.1.1.1.0 in
    omega (arith, first, second, third, fourth, fifth, sixth, seventh, eighth)
eight_small [] p = absurd (omega (arith, p.0))
eight_small (a ∷ []) p = absurd (omega (arith, p.0))
eight_small (a ∷ b ∷ []) p = absurd (omega (arith, p.0))
eight_small (a ∷ b ∷ c ∷ []) p = absurd (omega (arith, p.0))
eight_small (a ∷ b ∷ c ∷ d ∷ []) p = absurd (omega (arith, p.0))
eight_small (a ∷ b ∷ c ∷ d ∷ e ∷ []) p = absurd (omega (arith, p.0))
eight_small (a ∷ b ∷ c ∷ d ∷ e ∷ f ∷ []) p = absurd (omega (arith, p.0))
eight_small (a ∷ b ∷ c ∷ d ∷ e ∷ f ∷ g ∷ []) p = absurd (omega (arith, p.0))
eight_small (a ∷ b ∷ c ∷ d ∷ e ∷ f ∷ g ∷ h ∷ i ∷ others) p = absurd (omega (arith, p.0))

number_small : (o : Option (List ℕ)) → IfSome o AreEightGroups → IfSome (option_map number_of_groups o) (λ addr. addr < 2 ^ 128)
number_small (Some groups) p = eight_small groups p
number_small None p = tt

address6_value : (text : List ℕ) → IfSome (address6_of text) (λ addr. addr < 2 ^ 128)
address6_value text = number_small (eight_groups text (around_gap text)) (sides_value text (around_gap text))

-- an IPv6 prefix
abbrev pub HasAddress6 : Prefix6 → Type 0
HasAddress6 p = p.addr < 2 ^ 128

len6_value : (addr : ℕ) → addr < 2 ^ 128 → (o : Option ℕ)
    → IfSome (o >>= λ len. given (leb len 128) (λ few. given (eqb (addr % 2 ^ (128 - len)) 0) (λ host_bits. Some (prefix6 addr len few host_bits)))) HasAddress6
len6_value addr small (Some len) =
    given_value HasAddress6 (leb len 128) (λ few. given (eqb (addr % 2 ^ (128 - len)) 0) (λ host_bits. Some (prefix6 addr len few host_bits)))
    (λ few. given_value HasAddress6 (eqb (addr % 2 ^ (128 - len)) 0) (λ host_bits. Some (prefix6 addr len few host_bits)) (λ host_bits. small))
len6_value addr small None = tt

addr6_value : (o : Option ℕ) → IfSome o (λ addr. addr < 2 ^ 128) → (back : List ℕ)
    → IfSome (o >>= λ addr. number_of 0 128 back >>= λ len. given (leb len 128) (λ few. given (eqb (addr % 2 ^ (128 - len)) 0) (λ host_bits. Some (prefix6 addr len few host_bits)))) HasAddress6
addr6_value (Some addr) small back = len6_value addr small (number_of 0 128 back)
addr6_value None small back = tt

pub prefix6_value : (word : List ℕ) → IfSome (prefix6_of word) HasAddress6
prefix6_value word =
    addr6_value (address6_of (before_first (λ byte. eqb byte 47) word)) (address6_value (before_first (λ byte. eqb byte 47) word))
    (after_first (λ byte. eqb byte 47) word)

-- a kind
found_passes : {X : Type 0} (test : X → Bool) (P : X → Type 0) (xs : List X) → ((x : X) → test x ≡ true → P x) → IfSome (find test xs) P
found_passes test P [] h = tt
found_passes test P (x ∷ xs) h = by_test (test x) refl (found_passes test P xs h)
  where
    by_test : (b : Bool) → test x ≡ b → IfSome (find test xs) P → IfSome (cond b (Some x) (find test xs)) P
    by_test true e others = h x e
    by_test false e others = others

has_word : (word : List ℕ) (own : Option (List ℕ)) → unwrap_or (option_map (bytes_eq word) own) false ≡ true → is_some own ≡ true
has_word word (Some own) h = refl
has_word word None h = absurd cc

HasWord : Kind → Type 0
HasWord kind = IsSome (kind_entry kind).word

-- the one or the other
either_value : {X : Type 0} (P : X → Type 0) (o os : Option X) → IfSome o P → IfSome os P → IfSome (option_or o os) P
either_value P (Some x) os p q = p
either_value P None os p q = q

-- a kind with a number in its range has a word
pub behind_value : (text : List ℕ) (least most : ℕ) (word : List ℕ) → IfSome (number_behind text least most word) (IsWithin least most)
behind_value text least most word = by_test (bytes_eq (take (length text) word) text)
  where
    by_test : (b : Bool) → IfSome (cond b (number_of least most (drop (length text) word)) None) (IsWithin least most)
    by_test true = number_value least most (drop (length text) word)
    by_test false = tt

made_value : (kind : ℕ → Kind) (least most : ℕ) → ((n : ℕ) → IsWithin least most n → HasWord (kind n)) → (o : Option ℕ) → IfSome o (IsWithin least most)
    → IfSome (option_map kind o) HasWord
made_value kind least most h (Some n) p = h n p
made_value kind least most h None p = tt

in_range : (text : List ℕ) (least most n : ℕ) → IsWithin least most n → is_some (numbered_word text least most n) ≡ true
in_range text least most n h =
    ap (λ b. is_some (cond b (Some (text ++ decimal n)) None)) (and_from (leb least n) (leb n most) (le-leb least n h.0) (le-leb n most h.1))

vlan_value : (kind : VlanId → Kind) → ((id : VlanId) → HasWord (kind id)) → (o : Option VlanId) → IfSome (option_map kind o) HasWord
vlan_value kind h (Some id) = h id
vlan_value kind h None = tt

numbered_value : (word : List ℕ) → IfSome (numbered_kind word) HasWord
unfolding HasWord
numbered_value word =
    either_value HasWord (option_map kinds.Dot1qMatch (vlan_behind (codes "dot1q-match-") word)) _
    (vlan_value kinds.Dot1qMatch (λ id. in_range (codes "dot1q-match-") 1 4094 id.number (id.some, id.few)) (vlan_behind (codes "dot1q-match-") word))
    (either_value HasWord (option_map kinds.Dot1qPush (vlan_behind (codes "dot1q-push-") word)) _
    (vlan_value kinds.Dot1qPush (λ id. in_range (codes "dot1q-push-") 1 4094 id.number (id.some, id.few)) (vlan_behind (codes "dot1q-push-") word))
    (either_value HasWord (option_map kinds.Dot1qRewrite (vlan_behind (codes "dot1q-rewrite-") word)) _
    (vlan_value kinds.Dot1qRewrite (λ id. in_range (codes "dot1q-rewrite-") 1 4094 id.number (id.some, id.few)) (vlan_behind (codes "dot1q-rewrite-") word))
    (made_value kinds.CrossConnect 0 15 (in_range (codes "xconnect-") 0 15) _ (behind_value (codes "xconnect-") 0 15 word))))

pub kind_value : (word : List ℕ) → IfSome (kind_of word) (λ kind. IsSome (kind_entry kind).word)
unfolding HasWord
kind_value word =
    either_value HasWord (find (is_word_for word) plain_kinds) (numbered_kind word)
    (found_passes (is_word_for word) (λ kind. IsSome (kind_entry kind).word) plain_kinds (λ kind h. has_word word (kind_entry kind).word h))
    (numbered_value word)

-- an element that a search finds
pub found_has : {X : Type 0} (test : X → Bool) (P : X → Type 0) (xs : List X) → AllByRecursion P xs → IfSome (find test xs) P
found_has test P [] h = tt
found_has test P (x ∷ xs) h = by_test (test x) (found_has test P xs h.1)
  where
    by_test : (b : Bool) → IfSome (find test xs) P → IfSome (cond b (Some x) (find test xs)) P
    by_test true others = h.0
    by_test false others = others
