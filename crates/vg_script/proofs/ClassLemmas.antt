-- For `value_of_few`, `number`, `pair`, `group`, `mac`, `address`, `prefix`, `prefix6`, `vlan_behind` and `name`: the classes of words, in the steps in which they are read.
use Rattle.std.proofs.Common.{◌≡◌, ◌≢◌, ℕ, suc, ◌+◌, ◌*◌, ◌-◌, ◌%◌, ◌^◌, ◌<◌, ◌≤◌, Bool, true, false, cond, not, ◌&&◌, ◌||◌, ltb, leb, eqb, List, [], ◌∷◌, length, take, drop, get_or}
use Rattle.std.proofs.Common.{refl, sym, ap, subst, ◌∙◌, arith, true≢false, ltb-true, lt-ltb, le-leb, leb-true, eq-eqb, ne_eqb, IsUtf8, rules, ◌==◌}
use Rattle.std.proofs.Math.Dec.{T}
use Rattle.std.proofs.Math.Facts.{leb_yes, eqb_yes}
use Rattle.std.specs.Result.{OkIff}
use Rattle.std.proofs.lemmas.Bool.{and_parts, and_from, and_right, lt-leb}
use Rattle.std.specs.Prelude.{Option, Some, None, is_some, IfSome, ◌↔◌, Result, Ok, Err}
use Rattle.std.specs.Char.{is_ascii_digit, is_ascii_hexdigit, digit_value}
use Rattle.std.specs.List.{before_first, after_first, list_all, AllPass}
use Rattle.std.specs.Str.Parse.{AllDigits, digits_value, IsNumeral, ParsesUnsigned}
use Rattle.std.proofs.Math.Bridge.{le_prop}
use Rattle.std.proofs.Math.Nat.{ℕ_set}
use Rattle.std.proofs.lemmas.Bool.Decides.{nat_tests}
use Rattle.std.proofs.lemmas.List.{get_or_past}
use Rattle.std.proofs.lemmas.Int.Digits.{digits_value_more}
use Rattle.std.proofs.lemmas.List.Sums.{AllPass-from_list_all, list_all-from_AllPass}
use Rattle.std.proofs.lemmas.Str.{IsUtf8-from_ascii, digit_value_digit}
use Rattle.std.proofs.lemmas.Str.Parse.{IsNumeralModel, numerals_by_value, parse_digits, digits_value_short, digits_value-take-le}
use Rattle.vg_model.specs.Name.{IsName, is_name, is_name_byte}
use Rattle.vg_model.specs.declared.routes.Prefix.{Prefix}
use Rattle.vg_model.specs.declared.routes.Prefix6.{Prefix6}
use Rattle.vg_model.specs.declared.vlans.VlanId.{VlanId}
use Rattle.vg_script.specs.Address6.{group_of, address6_of}
use Rattle.vg_script.specs.Classes.{◌>>=◌, is_decimal, number_of, parted_by, pair_of, address_of, given, prefix, prefix_of, prefix6, prefix6_of, vlan_of, name_of}
use native.Mathlib.Decide.{dec_lt}

-- bytes that pass a test which only ASCII passes are UTF-8
pub ascii_is_utf8 : (test : ℕ → Bool) → ((byte : ℕ) → test byte ≡ true → byte < 128) → (bytes : List ℕ) → list_all test bytes ≡ true → IsUtf8 bytes
ascii_is_utf8 test small bytes all = IsUtf8-from_ascii bytes (λ i. small_at i (dec_lt i (length bytes)))
  where
    each : AllPass test bytes
    each = AllPass-from_list_all test bytes all

    small_at : (i : ℕ) → Dec (i < length bytes) → get_or bytes i 0 < 128
    small_at i (yes h) = small _ (each i 0 h)
    small_at i (no h) = rw (get_or_past bytes i 0 (omega (arith, h))) (omega arith)

pub digits_are_utf8 : (bytes : List ℕ) → list_all is_ascii_digit bytes ≡ true → IsUtf8 bytes
digits_are_utf8 = ascii_is_utf8 is_ascii_digit (λ byte h. grind (arith, nat_tests))

pub hexdigits_are_utf8 : (bytes : List ℕ) → list_all is_ascii_hexdigit bytes ≡ true → IsUtf8 bytes
hexdigits_are_utf8 = ascii_is_utf8 is_ascii_hexdigit (λ byte h. grind (arith, nat_tests))

pub decimal_digits : (word : List ℕ) → is_decimal word ≡ true → list_all is_ascii_digit word ≡ true
decimal_digits word h = (and_parts (ltb 0 (length word)) (list_all is_ascii_digit word) (and_parts (ltb 0 (length word) && list_all is_ascii_digit word) _ h).0).1

pub decimal_some : (word : List ℕ) → is_decimal word ≡ true → 0 < length word
decimal_some word h = ltb-true 0 (length word) (and_parts (ltb 0 (length word)) (list_all is_ascii_digit word) (and_parts (ltb 0 (length word) && list_all is_ascii_digit word) _ h).0).0

-- decimal digits, as `parse` reads them
pub decimals : IsNumeralModel (λ ds. list_all is_ascii_digit ds ≡ true) (digits_value 10)
decimals = numerals_by_value _ (search rules)

-- the number of one more of at most nineteen digits
pub one_digit_more : (word : List ℕ) (i : ℕ) → list_all is_ascii_digit word ≡ true → length word ≤ 19 → i < length word
    → (digits_value 10 (take (i + 1) word) ≡ digits_value 10 (take i word) * 10 + (get_or word i 0 - 48)) × (digits_value 10 (take (i + 1) word) < 10 ^ 19)
one_digit_more word i all few h =
    let digit : is_ascii_digit (get_or word i 0) ≡ true = AllPass-from_list_all is_ascii_digit word all i 0 h in
    let value : digit_value (get_or word i 0) ≡ get_or word i 0 - 48 = value_of_digit (get_or word i 0) digit in
    let part : digits_value 10 (take (i + 1) word) ≤ digits_value 10 word = digits_value-take-le 10 word (i + 1) (omega arith) in
    let whole : digits_value 10 word < 10 ^ 19 = digits_value_short decimals word 19 all few in
    (digits_value_more 10 word i h ∙ ap (λ d. digits_value 10 (take i word) * 10 + d) value, omega (arith, part, whole))
  where
    value_of_digit : (c : ℕ) → is_ascii_digit c ≡ true → digit_value c ≡ c - 48
    value_of_digit c h = omega (arith, digit_value_digit c (grind (arith, nat_tests, h)))

-- a number that `parse` doesn't read is too large
pub no_number : (E : Type 0) (least most : ℕ) (word : List ℕ) (e : E) → most < 2 ^ 64 → is_decimal word ≡ true → ParsesUnsigned 64 10 word (Err e)
    → None ≡ number_of least most word
no_number E least most word e small decimal failed =
    let not_read = parse_digits decimals 64 word (Err e) failed (decimal_digits word decimal) in
    let large : most < digits_value 10 word = too_large (dec_lt (digits_value 10 word) (2 ^ 64)) not_read in
    let test : leb (digits_value 10 word) most ≡ false = lt-leb (digits_value 10 word) most large in
    sym (ap (λ b. cond b (Some (digits_value 10 word)) None) (and_right (is_decimal word && leb least (digits_value 10 word)) _ test))
  where
    too_large : Dec (digits_value 10 word < 2 ^ 64) → ((0 < length word) × (digits_value 10 word < 2 ^ 64) → ⊥) → most < digits_value 10 word
    too_large (yes h) not_read = absurd (not_read (decimal_some word decimal, h))
    too_large (no h) not_read = omega (arith, h, small)

-- a byte of hexadecimal digits, as `from_str_radix` reads it
hex_value : (byte : ℕ) → is_ascii_hexdigit byte ≡ true → digit_value byte < 16
hex_value byte h = grind (arith, nat_tests)

hex_no_plus : (byte : ℕ) → is_ascii_hexdigit byte ≡ true → eqb byte 43 ≡ false
hex_no_plus byte h = grind (arith, nat_tests)

pub pair_is_read : (E : Type 0) (text : List ℕ) (r : Result ℕ E) → length text ≡ 2 → list_all is_ascii_hexdigit text ≡ true → ParsesUnsigned 8 16 text r
    → r ≡ Ok (digits_value 16 text)
pair_is_read E [] r two all read = absurd (omega (arith, two))
pair_is_read E (high ∷ []) r two all read = absurd (omega (arith, two))
pair_is_read E (high ∷ low ∷ last ∷ others) r two all read = absurd (omega (arith, two))
pair_is_read E (high ∷ low ∷ []) r two all read =
    by_result r (subst (λ b. OkIff r (IsNumeral 16 (drop (cond b 1 0) (high ∷ low ∷ [])) × (digits_value 16 (drop (cond b 1 0) (high ∷ low ∷ [])) < 2 ^ 8)) (digits_value 16 (drop (cond b 1 0) (high ∷ low ∷ []))))
    (hex_no_plus high first) read)
  where
    first : is_ascii_hexdigit high ≡ true
    first = (and_parts (is_ascii_hexdigit high) _ all).0

    second : is_ascii_hexdigit low ≡ true
    second = (and_parts (is_ascii_hexdigit low) true (and_parts (is_ascii_hexdigit high) _ all).1).0

    high_digit : digit_value high < 16
    high_digit = hex_value high first

    low_digit : digit_value low < 16
    low_digit = hex_value low second

    by_result : (r : Result ℕ E) → OkIff r (IsNumeral 16 (high ∷ low ∷ []) × (digits_value 16 (high ∷ low ∷ []) < 2 ^ 8)) (digits_value 16 (high ∷ low ∷ []))
        → r ≡ Ok (digits_value 16 (high ∷ low ∷ []))
    by_result (Ok x) h = ap Ok h.1
    by_result (Err e) h = absurd (h ((omega arith, (high_digit, (low_digit, tt))), small))
      where
        small : digits_value 16 (high ∷ low ∷ []) < 2 ^ 8
        small = omega (arith, high_digit, low_digit)

pub pair-of : (text : List ℕ) → length text ≡ 2 → list_all is_ascii_hexdigit text ≡ true → pair_of text ≡ Some (digits_value 16 text)
pair-of text two all = ap (λ b. cond b (Some (digits_value 16 text)) None) (and_from (eqb (length text) 2) (list_all is_ascii_hexdigit text) (eq-eqb (length text) 2 two) all)

pub pair_ok : {E : Type 0} (text : List ℕ) (r : Result ℕ E) (byte : ℕ) → length text ≡ 2 → list_all is_ascii_hexdigit text ≡ true
    → ParsesUnsigned 8 16 text r → r ≡ Ok byte → Some byte ≡ pair_of text
pair_ok {E} text r byte two all h is =
    let read : r ≡ Ok (digits_value 16 text) = pair_is_read E text r two all h in
    let same : byte ≡ digits_value 16 text = cc in
    ap Some same ∙ sym (pair-of text two all)

pub pair_err : {E : Type 0} (text : List ℕ) (r : Result ℕ E) (e : E) → length text ≡ 2 → list_all is_ascii_hexdigit text ≡ true
    → ParsesUnsigned 8 16 text r → r ≡ Err e → None ≡ pair_of text
pair_err {E} text r e two all h is =
    let read : r ≡ Ok (digits_value 16 text) = pair_is_read E text r two all h in
    absurd cc

-- it is a byte
pub pair_small : (text : List ℕ) → length text ≡ 2 → list_all is_ascii_hexdigit text ≡ true → digits_value 16 text < 256
pair_small [] two all = absurd (omega (arith, two))
pair_small (high ∷ []) two all = absurd (omega (arith, two))
pair_small (high ∷ low ∷ last ∷ others) two all = absurd (omega (arith, two))
pair_small (high ∷ low ∷ []) two all =
    let parts = and_parts (is_ascii_hexdigit high) _ all in
    let first : digit_value high < 16 = hex_value high parts.0 in
    let second : digit_value low < 16 = hex_value low (and_parts (is_ascii_hexdigit low) true parts.1).0 in
    omega (arith, first, second)

-- a group of hexadecimal digits is read as such
pub group_small : (text : List ℕ) → length text ≤ 4 → list_all is_ascii_hexdigit text ≡ true → digits_value 16 text < 65536
group_small [] few all = omega arith
group_small (a ∷ []) few all =
    let first : digit_value a < 16 = hex_value a (and_parts (is_ascii_hexdigit a) true all).0 in
    omega (arith, first)
group_small (a ∷ b ∷ []) few all =
    let p = and_parts (is_ascii_hexdigit a) _ all in
    let first : digit_value a < 16 = hex_value a p.0 in
    let second : digit_value b < 16 = hex_value b (and_parts (is_ascii_hexdigit b) true p.1).0 in
    omega (arith, first, second)
group_small (a ∷ b ∷ c ∷ []) few all =
    let p = and_parts (is_ascii_hexdigit a) _ all in
    let q = and_parts (is_ascii_hexdigit b) _ p.1 in
    let first : digit_value a < 16 = hex_value a p.0 in
    let second : digit_value b < 16 = hex_value b q.0 in
    let third : digit_value c < 16 = hex_value c (and_parts (is_ascii_hexdigit c) true q.1).0 in
    omega (arith, first, second, third)
group_small (a ∷ b ∷ c ∷ d ∷ []) few all =
    let p = and_parts (is_ascii_hexdigit a) _ all in
    let q = and_parts (is_ascii_hexdigit b) _ p.1 in
    let r = and_parts (is_ascii_hexdigit c) _ q.1 in
    let first : digit_value a < 16 = hex_value a p.0 in
    let second : digit_value b < 16 = hex_value b q.0 in
    let third : digit_value c < 16 = hex_value c r.0 in
    let fourth : digit_value d < 16 = hex_value d (and_parts (is_ascii_hexdigit d) true r.1).0 in
    omega (arith, first, second, third, fourth)
group_small (a ∷ b ∷ c ∷ d ∷ e ∷ others) few all = absurd (omega (arith, few))

each_hex : (text : List ℕ) → list_all is_ascii_hexdigit text ≡ true → AllDigits 16 text
each_hex [] all = tt
each_hex (byte ∷ bytes) all =
    let both = and_parts (is_ascii_hexdigit byte) (list_all is_ascii_hexdigit bytes) all in
    (hex_value byte both.0, each_hex bytes both.1)

-- a text of 1 to 4 hexadecimal digits
pub record IsGroup (text : List ℕ) : Type 0 where
  pub some : 0 < length text
  pub few : length text ≤ 4
  pub digits : list_all is_ascii_hexdigit text ≡ true

group_is_read : (E : Type 0) (text : List ℕ) (r : Result ℕ E) → IsGroup text → ParsesUnsigned 16 16 text r → r ≡ Ok (digits_value 16 text)
group_is_read E [] r is read = absurd (omega (arith, is.some))
group_is_read E (byte ∷ bytes) r is read =
    by_result r (subst (λ b. OkIff r (IsNumeral 16 (drop (cond b 1 0) (byte ∷ bytes)) × (digits_value 16 (drop (cond b 1 0) (byte ∷ bytes)) < 2 ^ 16)) (digits_value 16 (drop (cond b 1 0) (byte ∷ bytes))))
    (hex_no_plus byte (and_parts (is_ascii_hexdigit byte) _ is.digits).0) read)
  where
    by_result : (r : Result ℕ E) → OkIff r (IsNumeral 16 (byte ∷ bytes) × (digits_value 16 (byte ∷ bytes) < 2 ^ 16)) (digits_value 16 (byte ∷ bytes))
        → r ≡ Ok (digits_value 16 (byte ∷ bytes))
    by_result (Ok x) h = ap Ok h.1
    by_result (Err e) h = absurd (h ((omega arith, each_hex (byte ∷ bytes) is.digits), group_small (byte ∷ bytes) is.few is.digits))

pub group-of : (text : List ℕ) → IsGroup text → group_of text ≡ Some (digits_value 16 text)
group-of text is =
    ap (λ b. cond b (Some (digits_value 16 text)) None)
    (and_from (ltb 0 (length text) && leb (length text) 4) (list_all is_ascii_hexdigit text)
    (and_from (ltb 0 (length text)) (leb (length text) 4) (lt-ltb 0 (length text) is.some) (le-leb (length text) 4 is.few)) is.digits)

pub group_ok : {E : Type 0} (text : List ℕ) (r : Result ℕ E) (group : ℕ) → IsGroup text → ParsesUnsigned 16 16 text r → r ≡ Ok group
    → Some group ≡ group_of text
group_ok {E} text r group is h ok =
    let read : r ≡ Ok (digits_value 16 text) = group_is_read E text r is h in
    let same : group ≡ digits_value 16 text = cc in
    ap Some same ∙ sym (group-of text is)

pub group_err : {E : Type 0} (text : List ℕ) (r : Result ℕ E) (e : E) → IsGroup text → ParsesUnsigned 16 16 text r → r ≡ Err e → None ≡ group_of text
group_err {E} text r e is h err =
    let read : r ≡ Ok (digits_value 16 text) = group_is_read E text r is h in
    absurd cc

-- several digits without a zero in front
pub long_decimal : (word : List ℕ) → 0 < length word → list_all is_ascii_digit word ≡ true → (length word ≡ 1 → ⊥)
    → not (eqb (get_or word 0 0) 48) ≡ is_decimal word
long_decimal word some all long =
    sym (ap (λ b. b && (eqb (length word) 1 || not (eqb (get_or word 0 0) 48))) (and_from (ltb 0 (length word)) (list_all is_ascii_digit word) (lt-ltb 0 (length word) some) all)
    ∙ ap (λ b. b || not (eqb (get_or word 0 0) 48)) (ne_eqb (length word) 1 long))

-- the values of parts
behind_value : Option (List ℕ) → Option ℕ → Option (List ℕ)
behind_value others first = first >>= λ x. others >>= λ xs. Some (x ∷ xs)

abbrev pub each : (List ℕ → Option ℕ) → List (List ℕ) → Option (List ℕ)
each class [] = Some []
each class (part ∷ parts) = class part >>= λ x. each class parts >>= λ xs. Some (x ∷ xs)

-- a text is cut at its first mark into a part and what is behind
pub record IsCutAt (mark : ℕ) (text part behind : List ℕ) : Type 0 where
  pub before : part ≡ before_first (λ byte. byte == mark) text
  pub after : behind ≡ after_first (λ byte. byte == mark) text

-- a text that is cut at so many marks has the values of these parts
pub record IsParted (mark : ℕ) (class : List ℕ → Option ℕ) (more : ℕ) (text : List ℕ) (parts : List (List ℕ)) : Type 0 where
  pub is : parted_by mark class more text ≡ each class parts

-- these are the values of the parts, or one has none
pub record HaveValues (class : List ℕ → Option ℕ) (parts : List (List ℕ)) (values : Option (List ℕ)) : Type 0 where
  pub are : each class parts ≡ values

pub parted_step : {mark : ℕ} {class : List ℕ → Option ℕ} {more : ℕ} {text part behind : List ℕ} {parts : List (List ℕ)}
    → IsCutAt mark text part behind → IsParted mark class more behind parts → IsParted mark class (suc more) text (part ∷ parts)
unfolding behind_value
parted_step {mark} {class} {more} {text} {part} {behind} {parts} cut rest = record {
  is = ap (λ t. behind_value (parted_by mark class more (after_first (λ byte. byte == mark) text)) (class t)) (sym cut.before)
      ∙ ap (λ t. behind_value (parted_by mark class more t) (class part)) (sym cut.after)
      ∙ ap (λ o. behind_value o (class part)) rest.is;
}

pub parted_last : {mark : ℕ} {class : List ℕ → Option ℕ} {text : List ℕ} → IsParted mark class 0 text (text ∷ [])
parted_last {mark} {class} {text} = record { is = refl }

pub each_none : {class : List ℕ → Option ℕ} {part : List ℕ} {parts : List (List ℕ)} → None ≡ class part → HaveValues class (part ∷ parts) None
unfolding behind_value
each_none {class} {part} {parts} h = record { are = ap (behind_value (each class parts)) (sym h) }

pub each_some : {class : List ℕ → Option ℕ} {part : List ℕ} {parts : List (List ℕ)} {x : ℕ} {others : Option (List ℕ)}
    → Some x ≡ class part → HaveValues class parts others → HaveValues class (part ∷ parts) (others >>= λ xs. Some (x ∷ xs))
unfolding behind_value
each_some {class} {part} {parts} {x} {others} h rest = record { are = ap (behind_value (each class parts)) (sym h) ∙ ap (λ o. behind_value o (Some x)) rest.are }

pub each_end : {class : List ℕ → Option ℕ} → HaveValues class [] (Some [])
each_end {class} = record { are = refl }

-- so it has them
pub parts_have : {mark : ℕ} {class : List ℕ → Option ℕ} {more : ℕ} {text : List ℕ} {parts : List (List ℕ)} {values : Option (List ℕ)}
    → IsParted mark class more text parts → HaveValues class parts values → parted_by mark class more text ≡ values
parts_have parted have = parted.is ∙ have.are

-- what is given where a test passes, and where it doesn't
given_yes : {X : Type 0} (test : Bool) (f : T test → Option X) (h : T test) → given test f ≡ f h
given_yes true f h = refl
given_yes false f h = absurd h

given_no : {X : Type 0} (test : Bool) (f : T test → Option X) → test ≡ false → given test f ≡ None
given_no true f h = absurd (true≢false h)
given_no false f h = refl

passes : (b : Bool) → b ≡ true → T b
passes b h = subst T (sym h) tt

-- a VLAN id is its number: it has its facts in one way
vlan_with : (number : ℕ) → 1 ≤ number → number ≤ 4094 → VlanId
vlan_with number some few = record { number = number; some = some; few = few }

pub vlan_is : (id : VlanId) → vlan_of id.number ≡ Some id
unfolding vlan_with
vlan_is id =
    let some : T (leb 1 id.number) = passes (leb 1 id.number) (le-leb 1 id.number id.some) in
    let few : T (leb id.number 4094) = passes (leb id.number 4094) (le-leb id.number 4094 id.few) in
    given_yes (leb 1 id.number) _ some
    ∙ given_yes (leb id.number 4094) _ few
    ∙ ap (λ s. Some (vlan_with id.number s (leb_yes few))) (le_prop (leb_yes some) id.some)
    ∙ ap (λ f. Some (vlan_with id.number id.some f)) (le_prop (leb_yes few) id.few)

-- a name, by the test
pub name_by_test : (word : List ℕ) → is_name word ≡ true → IsName word
name_by_test word h =
    let long = and_parts (leb 1 (length word) && leb (length word) 32) (list_all is_name_byte word) h in
    let bounds = and_parts (leb 1 (length word)) (leb (length word) 32) long.0 in
    record { some = leb-true 1 (length word) bounds.0; few = leb-true (length word) 32 bounds.1; each = AllPass-from_list_all is_name_byte word long.1 }

pub named : (word : List ℕ) → IsName word → is_name word ≡ true
named word name =
    and_from (leb 1 (length word) && leb (length word) 32) (list_all is_name_byte word)
    (and_from (leb 1 (length word)) (leb (length word) 32) (le-leb 1 (length word) name.some) (le-leb (length word) 32 name.few))
    (list_all-from_AllPass is_name_byte word name.each)

-- a word that is cut at its `/`: in front stands this address, behind it this length
pub record HasAddressAndLength (address : List ℕ → Option ℕ) (most : ℕ) (word : List ℕ) (addr len : ℕ) : Type 0 where
  pub front : List ℕ
  pub back : List ℕ
  pub cut : IsCutAt 47 word front back
  pub addr_is : Some addr ≡ address front
  pub len_is : Some len ≡ number_of 0 most back

-- a prefix of these bits
abbrev pub prefix_with : (addr len : ℕ) → len ≤ 32 → addr % 2 ^ (32 - len) ≡ 0 → Prefix
prefix_with addr len few host_bits = record { addr = addr; len = len; few = few; host_bits = host_bits }

-- a prefix has its facts in one way
one_fact : (addr len : ℕ) (few few' : len ≤ 32) (host host' : addr % 2 ^ (32 - len) ≡ 0)
    → prefix_with addr len few host ≡ prefix_with addr len few' host'
one_fact addr len few few' host host' =
    ap (λ f. prefix_with addr len f host) (le_prop few few') ∙ ap (λ h. prefix_with addr len few' h) (ℕ_set _ _ host host')

-- the prefix of an address and a length
given_prefix : ℕ → ℕ → Option Prefix
given_prefix addr len = given (leb len 32) (λ few. given (eqb (addr % 2 ^ (32 - len)) 0) (λ host_bits. Some (prefix addr len few host_bits)))

prefix_parts : (word : List ℕ) (addr len : ℕ) → HasAddressAndLength address_of 32 word addr len → prefix_of word ≡ given_prefix addr len
unfolding given_prefix
prefix_parts word addr len has =
    ap (λ t. address_of t >>= λ a. number_of 0 32 (after_first (λ byte. byte == 47) word) >>= λ l. given_prefix a l) (sym has.cut.before)
    ∙ ap (λ t. address_of has.front >>= λ a. number_of 0 32 t >>= λ l. given_prefix a l) (sym has.cut.after)
    ∙ ap (λ o. o >>= λ a. number_of 0 32 has.back >>= λ l. given_prefix a l) (sym has.addr_is)
    ∙ ap (λ o. o >>= λ l. given_prefix addr l) (sym has.len_is)

pub prefix_read : (word : List ℕ) (addr len : ℕ) → HasAddressAndLength address_of 32 word addr len → (few : len ≤ 32) (host : addr % 2 ^ (32 - len) ≡ 0)
    → Some (prefix_with addr len few host) ≡ prefix_of word
unfolding given_prefix
prefix_read word addr len has few host =
    let few_test : T (leb len 32) = passes (leb len 32) (le-leb len 32 few) in
    let host_test : T (eqb (addr % 2 ^ (32 - len)) 0) = passes (eqb (addr % 2 ^ (32 - len)) 0) (eq-eqb _ 0 host) in
    sym (prefix_parts word addr len has
    ∙ given_yes (leb len 32) _ few_test
    ∙ given_yes (eqb (addr % 2 ^ (32 - len)) 0) _ host_test
    ∙ ap Some (one_fact addr len (leb_yes few_test) few (eqb_yes host_test) host))

pub prefix_refused : (word : List ℕ) (addr len : ℕ) → HasAddressAndLength address_of 32 word addr len → len ≤ 32
    → addr % 2 ^ (32 - len) ≢ 0 → None ≡ prefix_of word
unfolding given_prefix
prefix_refused word addr len has few host =
    let few_test : T (leb len 32) = passes (leb len 32) (le-leb len 32 few) in
    sym (prefix_parts word addr len has
    ∙ given_yes (leb len 32) _ few_test
    ∙ given_no (eqb (addr % 2 ^ (32 - len)) 0) _ (ne_eqb (addr % 2 ^ (32 - len)) 0 host))

-- the same of IPv6 prefixes
abbrev pub prefix6_with : (addr len : ℕ) → len ≤ 128 → addr % 2 ^ (128 - len) ≡ 0 → Prefix6
prefix6_with addr len few host_bits = record { addr = addr; len = len; few = few; host_bits = host_bits }

one_fact6 : (addr len : ℕ) (few few' : len ≤ 128) (host host' : addr % 2 ^ (128 - len) ≡ 0)
    → prefix6_with addr len few host ≡ prefix6_with addr len few' host'
one_fact6 addr len few few' host host' =
    ap (λ f. prefix6_with addr len f host) (le_prop few few') ∙ ap (λ h. prefix6_with addr len few' h) (ℕ_set _ _ host host')

given_prefix6 : ℕ → ℕ → Option Prefix6
given_prefix6 addr len = given (leb len 128) (λ few. given (eqb (addr % 2 ^ (128 - len)) 0) (λ host_bits. Some (prefix6 addr len few host_bits)))

prefix6_parts : (word : List ℕ) (addr len : ℕ) → HasAddressAndLength address6_of 128 word addr len → prefix6_of word ≡ given_prefix6 addr len
unfolding given_prefix6
prefix6_parts word addr len has =
    ap (λ t. address6_of t >>= λ a. number_of 0 128 (after_first (λ byte. byte == 47) word) >>= λ l. given_prefix6 a l) (sym has.cut.before)
    ∙ ap (λ t. address6_of has.front >>= λ a. number_of 0 128 t >>= λ l. given_prefix6 a l) (sym has.cut.after)
    ∙ ap (λ o. o >>= λ a. number_of 0 128 has.back >>= λ l. given_prefix6 a l) (sym has.addr_is)
    ∙ ap (λ o. o >>= λ l. given_prefix6 addr l) (sym has.len_is)

pub prefix6_read : (word : List ℕ) (addr len : ℕ) → HasAddressAndLength address6_of 128 word addr len → (few : len ≤ 128)
    (host : addr % 2 ^ (128 - len) ≡ 0) → Some (prefix6_with addr len few host) ≡ prefix6_of word
unfolding given_prefix6
prefix6_read word addr len has few host =
    let few_test : T (leb len 128) = passes (leb len 128) (le-leb len 128 few) in
    let host_test : T (eqb (addr % 2 ^ (128 - len)) 0) = passes (eqb (addr % 2 ^ (128 - len)) 0) (eq-eqb _ 0 host) in
    sym (prefix6_parts word addr len has
    ∙ given_yes (leb len 128) _ few_test
    ∙ given_yes (eqb (addr % 2 ^ (128 - len)) 0) _ host_test
    ∙ ap Some (one_fact6 addr len (leb_yes few_test) few (eqb_yes host_test) host))

pub prefix6_refused : (word : List ℕ) (addr len : ℕ) → HasAddressAndLength address6_of 128 word addr len → len ≤ 128
    → eqb (addr % 2 ^ (128 - len)) 0 ≡ false → None ≡ prefix6_of word
unfolding given_prefix6
prefix6_refused word addr len has few host =
    let few_test : T (leb len 128) = passes (leb len 128) (le-leb len 128 few) in
    sym (prefix6_parts word addr len has
    ∙ given_yes (leb len 128) _ few_test
    ∙ given_no (eqb (addr % 2 ^ (128 - len)) 0) _ host)

-- a name, by what reads it
pub name_read : (word : List ℕ) (n : Option (List ℕ)) → ((is_some n ≡ true) ↔ IsName word) → IfSome n (λ n. n ≡ word) → name_of word ≡ n
name_read word (Some n) some same =
    ap (λ b. cond b (Some word) None) (named word (some.0 refl)) ∙ ap Some (sym same)
name_read word None some same = ap (λ b. cond b (Some word) None) (no_name (is_name word) refl)
  where
    no_name : (b : Bool) → is_name word ≡ b → is_name word ≡ false
    no_name false e = e
    no_name true e = absurd (true≢false (sym (some.1 (name_by_test word e))))
