-- For `printed_is_read_back`: the words of each class, printed and read.
use Rattle.std.proofs.Common.{◌≡◌, ℕ, zero, suc, ◌+◌, ◌*◌, ◌/◌, ◌%◌, ◌^◌, ◌<◌, ◌≤◌, true, false, ◌&&◌, ◌||◌, not, ◌==◌, nat_le}
use Rattle.std.proofs.Common.{List, [], ◌∷◌, ◌++◌, length, get_or, map, All, Option, Some, None, refl, sym, ap, subst, ◌∙◌, arith, append-nil, length-append, inl, inr}
use Rattle.std.proofs.lemmas.Bool.{and_from, and_right, le-leb, lt-ltb, eq-eqb, ne_eqb, eqb-true, not_from_false, or_right, cond-true, agree_below_at, cases_lt}
use Rattle.std.proofs.lemmas.Bool.Decides.{nat_tests}
use Rattle.std.proofs.lemmas.Fmt.{decimal_is_IsNumeral, decimal_digit, first_decimal}
use Rattle.std.proofs.lemmas.List.Elements.{recursion_from_All, All-from_recursion}
use Rattle.std.proofs.lemmas.List.Splits.{slice_split_at, slice_split_none}
use Rattle.std.proofs.lemmas.Nat.{from_be_bytes-to_be_bytes_4}
use Rattle.std.proofs.lemmas.Str.Parse.{digit_from_value}
use Rattle.std.specs.Char.{digit_char, digit_value, is_ascii_digit, is_ascii_hexdigit}
use Rattle.std.specs.Int.{w32, to_be_bytes, from_be_bytes}
use Rattle.std.specs.List.{AllByRecursion, list_all, join_with_byte, before_first, after_first, slice_split}
use Rattle.std.specs.Prelude.{decimal, option_map, fold, if◌then◌else◌}
use Rattle.std.specs.Str.Parse.{AllDigits, digits_value}
use Rattle.vg_model.specs.declared.names.Mac.{Mac}
use Rattle.vg_model.specs.declared.routes.Prefix.{Prefix}
use Rattle.vg_model.specs.declared.routes.Prefix6.{Prefix6}
use Rattle.vg_model.specs.Members.{AreMembers}
use Rattle.vg_model.specs.Name.{IsName, is_name, is_name_byte}
use Rattle.vg_model.specs.Valid.{IsMac}
use Rattle.vg_script.specs.Address6.{group_of, groups_of_parts, groups_of, around_gap, if_eight, eight_groups, number_of_groups, address6_of, low_groups, address_groups}
use Rattle.vg_script.specs.Classes.{◌>>=◌, name_of, names_of, is_decimal, number_of, parted_by, pair_of, mac_of, address_of, prefix_of, prefix6_of}
use Rattle.vg_script.specs.Plain.{pair_text, mac_text, address_text, prefix_text, group_text, address6_text, prefix6_text, names_text}
use Rattle.vg_script.proofs.ClassLemmas.{named, group-of, HasAddressAndLength, prefix_read, prefix6_read}
use Rattle.vg_script.proofs.GroupLemmas.{one_digit_group, two_digit_group, three_digit_group, four_digit_group}
use Rattle.vg_script.proofs.RoundTripLines.{each-append, each-weaker, test-from_each, before_first_at, after_first_at, is_word_byte, AreWordBytes, IsWord}

-- names
pub name_is_read : (name : List ℕ) → IsName name → name_of name ≡ Some name
name_is_read name h =
    cond-true (is_name name) (Some name) None
    (and_from _ _ (and_from _ _ (le-leb 1 (length name) h.some) (le-leb (length name) 32 h.few))
    (test-from_each is_name_byte name (recursion_from_All (λ b. is_name_byte b ≡ true) name h.each)))

name_byte : (b : ℕ) → is_name_byte b ≡ true → is_word_byte b ≡ true
name_byte b h = grind (arith, nat_tests)

pub name_is_word : (name : List ℕ) → IsName name → IsWord name
name_is_word name h = record {
  some = h.some;
  bytes = each-weaker (λ b. is_name_byte b ≡ true) (λ b. is_word_byte b ≡ true) name_byte name (recursion_from_All (λ b. is_name_byte b ≡ true) name h.each);
}

-- names parted by `,`
no_comma : (b : ℕ) → is_name_byte b ≡ true → (b == 44) ≡ false
no_comma b h = grind (arith, nat_tests)

name_without_comma : (name : List ℕ) → IsName name → All (λ b. (b == 44) ≡ false) name
name_without_comma name h =
    All-from_recursion (λ b. (b == 44) ≡ false) name
    (each-weaker (λ b. is_name_byte b ≡ true) (λ b. (b == 44) ≡ false) no_comma name (recursion_from_All (λ b. is_name_byte b ≡ true) name h.each))

split_at_commas : (name : List ℕ) (names : List (List ℕ)) → IsName name → AllByRecursion IsName names
    → slice_split (λ b. b == 44) (names_text (name ∷ names)) ≡ name ∷ names
split_at_commas name [] h k = slice_split_none (λ b. b == 44) name (name_without_comma name h)
split_at_commas name (next ∷ names) h k =
    slice_split_at (λ b. b == 44) name 44 (names_text (next ∷ names)) (name_without_comma name h) refl
    ∙ ap (λ r. name ∷ r) (split_at_commas next names k.0 k.1)

are_names : (names : List (List ℕ)) → AllByRecursion IsName names → list_all is_name names ≡ true
are_names [] h = refl
are_names (name ∷ names) h = and_from (is_name name) (list_all is_name names) (named name h.0) (are_names names h.1)

pub names_are_read : (names : List (List ℕ)) → AreMembers names → AllByRecursion IsName names → names_of (names_text names) ≡ Some names
names_are_read [] h k = absurd (omega (arith, h.some))
names_are_read (name ∷ names) h k =
    ap (λ parts. if nat_le (length parts) 16 && list_all is_name parts then Some parts else None) (split_at_commas name names k.0 k.1)
    ∙ cond-true (nat_le (length (name ∷ names)) 16 && list_all is_name (name ∷ names)) (Some (name ∷ names)) None
    (and_from _ _ (le-leb (length (name ∷ names)) 16 h.few) (are_names (name ∷ names) k))

names_bytes : (names : List (List ℕ)) → AllByRecursion IsName names → AreWordBytes (names_text names)
names_bytes [] k = tt
names_bytes (name ∷ []) k = (name_is_word name k.0).bytes
names_bytes (name ∷ next ∷ names) k =
    each-append (λ b. is_word_byte b ≡ true) name (44 ∷ names_text (next ∷ names)) (name_is_word name k.0).bytes (refl, names_bytes (next ∷ names) k.1)

some_bytes : (names : List (List ℕ)) → AreMembers names → AllByRecursion IsName names → 1 ≤ length (names_text names)
some_bytes [] h k = absurd (omega (arith, h.some))
some_bytes (name ∷ []) h k = k.0.some
some_bytes (name ∷ next ∷ names) h k = omega (arith, length-append name (44 ∷ names_text (next ∷ names)), k.0.some)

pub names_are_word : (names : List (List ℕ)) → AreMembers names → AllByRecursion IsName names → IsWord (names_text names)
names_are_word names h k = record { some = some_bytes names h k; bytes = names_bytes names k }

-- numbers
abbrev AreDigits : List ℕ → Type 0
AreDigits bytes = AllByRecursion (λ b. is_ascii_digit b ≡ true) bytes

digits_are : (bytes : List ℕ) → AllDigits 10 bytes → AreDigits bytes
digits_are [] h = tt
digits_are (b ∷ bs) h = (let within = digit_from_value b h.0 in and_from _ _ (le-leb 48 b within.0) (le-leb b 57 within.1), digits_are bs h.1)

decimal_digits : (n : ℕ) → n < 2 ^ 64 → AreDigits (decimal n)
decimal_digits n h = digits_are (decimal n) (decimal_is_IsNumeral n h).0.1

no_zero_in_front : (n : ℕ) → n < 2 ^ 64 → (length (decimal n) == 1 || not (get_or (decimal n) 0 0 == 48)) ≡ true
no_zero_in_front zero h = ap (λ w. length w == 1 || not (get_or w 0 0 == 48)) (decimal_digit 0 (omega arith))
no_zero_in_front (suc n) h =
    or_right (length (decimal (suc n)) == 1) (not (get_or (decimal (suc n)) 0 0 == 48))
    (not_from_false _ (ne_eqb _ 48 (λ e. omega (arith, e, first_decimal (suc n) (omega arith) h))))

decimal_is_decimal : (n : ℕ) → n < 2 ^ 64 → is_decimal (decimal n) ≡ true
decimal_is_decimal n h =
    and_from _ _ (and_from _ _ (lt-ltb 0 (length (decimal n)) (decimal_is_IsNumeral n h).0.0) (test-from_each is_ascii_digit (decimal n) (decimal_digits n h)))
    (no_zero_in_front n h)

number_by : (least most n : ℕ) (word : List ℕ) → is_decimal word ≡ true → digits_value 10 word ≡ n → least ≤ n → n ≤ most → number_of least most word ≡ Some n
number_by least most n word d e low high =
    cond-true (is_decimal word && nat_le least (digits_value 10 word) && nat_le (digits_value 10 word) most) (Some (digits_value 10 word)) None
    (and_from _ _ (and_from _ _ d (le-leb least (digits_value 10 word) (omega (arith, e, low)))) (le-leb (digits_value 10 word) most (omega (arith, e, high))))
    ∙ ap (λ v. Some v) e

pub number_is_read : (least most n : ℕ) → n < 2 ^ 64 → least ≤ n → n ≤ most → number_of least most (decimal n) ≡ Some n
number_is_read least most n h low high = number_by least most n (decimal n) (decimal_is_decimal n h) (decimal_is_IsNumeral n h).1 low high

digit_byte : (b : ℕ) → is_ascii_digit b ≡ true → is_word_byte b ≡ true
digit_byte b h = grind (arith, nat_tests)

no_dot : (b : ℕ) → is_ascii_digit b ≡ true → (b == 46) ≡ false
no_dot b h = grind (arith, nat_tests)

no_slash : (b : ℕ) → is_ascii_digit b ≡ true → (b == 47) ≡ false
no_slash b h = grind (arith, nat_tests)

pub number_is_word : (n : ℕ) → n < 2 ^ 64 → IsWord (decimal n)
number_is_word n h = record {
  some = (decimal_is_IsNumeral n h).0.0;
  bytes = each-weaker (λ b. is_ascii_digit b ≡ true) (λ b. is_word_byte b ≡ true) digit_byte (decimal n) (decimal_digits n h);
}

-- values of a class, parted by a byte
parted_step : (mark : ℕ) (class : List ℕ → Option ℕ) (more : ℕ) (text first rest : List ℕ) (x : ℕ) (xs : List ℕ)
    → before_first (λ b. b == mark) text ≡ first → after_first (λ b. b == mark) text ≡ rest → class first ≡ Some x → parted_by mark class more rest ≡ Some xs
    → parted_by mark class (suc more) text ≡ Some (x ∷ xs)
parted_step mark class more text first rest x xs e f g h =
    ap (λ (o : Option ℕ). o >>= (λ y. parted_by mark class more (after_first (λ b. b == mark) text) >>= (λ ys. Some (y ∷ ys)))) (ap class e ∙ g)
    ∙ ap (λ (o : Option (List ℕ)). o >>= (λ ys. Some (x ∷ ys))) (ap (parted_by mark class more) f ∙ h)

parted_is_read : (mark : ℕ) (class : List ℕ → Option ℕ) (text : ℕ → List ℕ) → ((x : ℕ) → x < 256 → class (text x) ≡ Some x)
    → ((x : ℕ) → x < 256 → AllByRecursion (λ b. (b == mark) ≡ false) (text x)) → (more : ℕ) (xs : List ℕ) → length xs ≡ suc more
    → AllByRecursion (λ x. x < 256) xs → parted_by mark class more (join_with_byte mark (map text xs)) ≡ Some xs
parted_is_read mark class text reads clean more [] e h = absurd (omega (arith, e))
parted_is_read mark class text reads clean zero (x ∷ []) e h = ap (λ (o : Option ℕ). o >>= (λ last. Some (last ∷ []))) (reads x h.0)
parted_is_read mark class text reads clean zero (x ∷ y ∷ ys) e h = absurd (omega (arith, e))
parted_is_read mark class text reads clean (suc more) (x ∷ []) e h = absurd (omega (arith, e))
parted_is_read mark class text reads clean (suc more) (x ∷ y ∷ ys) e h =
    let rest = join_with_byte mark (map text (y ∷ ys)) in
    parted_step mark class more (text x ++ mark ∷ rest) (text x) rest x (y ∷ ys)
    (before_first_at (λ b. b == mark) (text x) mark rest (clean x h.0) (eq-eqb mark mark refl))
    (after_first_at (λ b. b == mark) (text x) mark rest (clean x h.0) (eq-eqb mark mark refl))
    (reads x h.0)
    (parted_is_read mark class text reads clean more (y ∷ ys) (omega (arith, e)) h.1)

-- what holds of the bytes of each text and of the byte between them holds of the bytes of the whole
joined_bytes : (P : ℕ → Type 0) (mark : ℕ) (text : ℕ → List ℕ) → P mark → ((x : ℕ) → x < 256 → AllByRecursion P (text x)) → (xs : List ℕ)
    → AllByRecursion (λ x. x < 256) xs → AllByRecursion P (join_with_byte mark (map text xs))
joined_bytes P mark text m each [] h = tt
joined_bytes P mark text m each (x ∷ []) h = each x h.0
joined_bytes P mark text m each (x ∷ y ∷ ys) h =
    each-append P (text x) (mark ∷ join_with_byte mark (map text (y ∷ ys))) (each x h.0) (m, joined_bytes P mark text m each (y ∷ ys) h.1)

-- link-layer addresses
record IsHexDigit (d c : ℕ) : Type 0 where
  hex : is_ascii_hexdigit c ≡ true
  value : digit_value c ≡ d
  word : is_word_byte c ≡ true
  no_colon : (c == 58) ≡ false

hex_digit : (d : ℕ) → d < 16 → IsHexDigit d (digit_char d)
hex_digit d h = record {
  hex = agree_below_at (λ n. is_ascii_hexdigit (digit_char n)) (λ _. true) 16 d refl h;
  value = eqb-true _ _ (agree_below_at (λ n. digit_value (digit_char n) == n) (λ _. true) 16 d refl h);
  word = agree_below_at (λ n. is_word_byte (digit_char n)) (λ _. true) 16 d refl h;
  no_colon = agree_below_at (λ n. digit_char n == 58) (λ _. false) 16 d refl h;
}

pair_by : (high low x y n : ℕ) → IsHexDigit high x → IsHexDigit low y → n ≡ high * 16 + low → pair_of (x ∷ y ∷ []) ≡ Some n
pair_by high low x y n h l e =
    cond-true (list_all is_ascii_hexdigit (x ∷ y ∷ [])) (Some (digits_value 16 (x ∷ y ∷ []))) None (and_from _ _ h.hex (and_from _ _ l.hex refl))
    ∙ ap (λ v. Some v) (let value : digits_value 16 (x ∷ y ∷ []) ≡ n = omega (arith, h.value, l.value, e) in value)

pair_is_read : (b : ℕ) → b < 256 → pair_of (pair_text b) ≡ Some b
pair_is_read b h =
    pair_by (b / 16) (b % 16) (digit_char (b / 16)) (digit_char (b % 16)) b (hex_digit (b / 16) (omega arith)) (hex_digit (b % 16) (omega arith)) (omega arith)

pair_is_clean : (b : ℕ) → b < 256 → AllByRecursion (λ c. (c == 58) ≡ false) (pair_text b)
pair_is_clean b h = ((hex_digit (b / 16) (omega arith)).no_colon, ((hex_digit (b % 16) (omega arith)).no_colon, tt))

pair_is_visible : (b : ℕ) → b < 256 → AreWordBytes (pair_text b)
pair_is_visible b h = ((hex_digit (b / 16) (omega arith)).word, ((hex_digit (b % 16) (omega arith)).word, tt))

abbrev mac_from : List ℕ → Mac
mac_from bytes = record { 0 = bytes }

pub mac_is_read : (mac : Mac) → IsMac mac → mac_of (mac_text mac) ≡ Some mac
mac_is_read mac h = ap (option_map mac_from) (parted_is_read 58 pair_of pair_text pair_is_read pair_is_clean 5 mac.0 h.six h.bytes)

joined_some : (mark : ℕ) (text : ℕ → List ℕ) → ((x : ℕ) → x < 256 → 1 ≤ length (text x)) → (xs : List ℕ) → 1 ≤ length xs → AllByRecursion (λ x. x < 256) xs
    → 1 ≤ length (join_with_byte mark (map text xs))
joined_some mark text some [] l h = absurd (omega (arith, l))
joined_some mark text some (x ∷ []) l h = some x h.0
joined_some mark text some (x ∷ y ∷ ys) l h = longer (text x) (mark ∷ join_with_byte mark (map text (y ∷ ys))) (some x h.0)
  where
    longer : (a b : List ℕ) → 1 ≤ length a → 1 ≤ length (a ++ b)
    longer [] b k = absurd (omega (arith, k))
    longer (c ∷ cs) b k = omega arith

pub mac_is_word : (mac : Mac) → IsMac mac → IsWord (mac_text mac)
mac_is_word mac h = record {
  some = joined_some 58 pair_text (λ x k. omega arith) mac.0 (omega (arith, h.six)) h.bytes;
  bytes = joined_bytes (λ b. is_word_byte b ≡ true) 58 pair_text refl pair_is_visible mac.0 h.bytes;
}

-- prefixes
address_bytes : (addr : ℕ) → AllByRecursion (λ x. x < 256) (to_be_bytes w32 addr)
address_bytes addr = (omega arith, (omega arith, (omega arith, (omega arith, tt))))

address_is_read : (addr : ℕ) → addr < 2 ^ 32 → address_of (address_text addr) ≡ Some addr
address_is_read addr h =
    ap (option_map (from_be_bytes w32)) (parted_is_read 46 (number_of 0 255) decimal (λ x k. number_is_read 0 255 x (omega arith) (omega arith) (omega arith))
    (λ x k. each-weaker (λ b. is_ascii_digit b ≡ true) (λ b. (b == 46) ≡ false) no_dot (decimal x) (decimal_digits x (omega arith))) 3 (to_be_bytes w32 addr) refl (address_bytes addr))
    ∙ ap (λ n. Some n) (from_be_bytes-to_be_bytes_4 addr h)

no_slash_in_address : (addr : ℕ) → AllByRecursion (λ b. (b == 47) ≡ false) (address_text addr)
no_slash_in_address addr =
    joined_bytes (λ b. (b == 47) ≡ false) 46 decimal refl
    (λ x k. each-weaker (λ b. is_ascii_digit b ≡ true) (λ b. (b == 47) ≡ false) no_slash (decimal x) (decimal_digits x (omega arith)))
    (to_be_bytes w32 addr) (address_bytes addr)

address_and_length : (p : Prefix) → p.addr < 2 ^ 32 → HasAddressAndLength address_of 32 (prefix_text p) p.addr p.len
address_and_length p h = record {
  front = address_text p.addr;
  back = decimal p.len;
  cut = record {
    before = sym (before_first_at (λ b. b == 47) (address_text p.addr) 47 (decimal p.len) (no_slash_in_address p.addr) refl);
    after = sym (after_first_at (λ b. b == 47) (address_text p.addr) 47 (decimal p.len) (no_slash_in_address p.addr) refl);
  };
  addr_is = sym (address_is_read p.addr h);
  len_is = sym (number_is_read 0 32 p.len (omega (arith, p.few)) (omega arith) p.few);
}

pub prefix_is_read : (p : Prefix) → p.addr < 2 ^ 32 → prefix_of (prefix_text p) ≡ Some p
prefix_is_read p h = sym (prefix_read (prefix_text p) p.addr p.len (address_and_length p h) p.few p.host_bits)

pub prefix_is_word : (p : Prefix) → IsWord (prefix_text p)
prefix_is_word p = record {
  some = longer (address_text p.addr) 47 (decimal p.len);
  bytes =
      each-append (λ b. is_word_byte b ≡ true) (address_text p.addr) (47 ∷ decimal p.len)
      (joined_bytes (λ b. is_word_byte b ≡ true) 46 decimal refl (λ x k. (number_is_word x (omega arith)).bytes) (to_be_bytes w32 p.addr) (address_bytes p.addr))
      (refl, (number_is_word p.len (omega (arith, p.few))).bytes);
}
  where
    longer : (a : List ℕ) (b : ℕ) (c : List ℕ) → 1 ≤ length (a ++ b ∷ c)
    longer [] b c = omega arith
    longer (x ∷ xs) b c = omega arith

-- groups of an IPv6 address
group_by : (text : List ℕ) (n : ℕ) → 0 < length text → length text ≤ 4 → list_all is_ascii_hexdigit text ≡ true → digits_value 16 text ≡ n → group_of text ≡ Some n
group_by text n some few all e = group-of text (record { some = some; few = few; digits = all }) ∙ ap (λ v. Some v) e

-- what is known of the text of a group
record IsGroupText (n : ℕ) (text : List ℕ) : Type 0 where
  read : group_of text ≡ Some n
  some : 1 ≤ length text
  no_colon : AllByRecursion (λ c. (c == 58) ≡ false) text
  no_slash : AllByRecursion (λ c. (c == 47) ≡ false) text
  word : AreWordBytes text

hex_no_slash : (d : ℕ) → d < 16 → (digit_char d == 47) ≡ false
hex_no_slash d h = agree_below_at (λ n. digit_char n == 47) (λ _. false) 16 d refl h

one_digit : (n : ℕ) → n < 16 → IsGroupText n (digit_char n ∷ [])
one_digit n h =
    let a = hex_digit n h in
    record {
      read = group_by (digit_char n ∷ []) n (omega arith) (omega arith) (and_from _ _ a.hex refl) (let v : digits_value 16 (digit_char n ∷ []) ≡ n = omega (arith, a.value) in v);
      some = omega arith;
      no_colon = (a.no_colon, tt);
      no_slash = (hex_no_slash n h, tt);
      word = (a.word, tt);
    }

two_digits : (n : ℕ) → n < 256 → IsGroupText n (pair_text n)
two_digits n h =
    let a = hex_digit (n / 16) (omega arith) in
    let b = hex_digit (n % 16) (omega arith) in
    record {
      read =
          group_by (pair_text n) n (omega arith) (omega arith) (and_from _ _ a.hex (and_from _ _ b.hex refl))
          (let v : digits_value 16 (pair_text n) ≡ n = omega (arith, a.value, b.value) in v);
      some = omega arith;
      no_colon = (a.no_colon, (b.no_colon, tt));
      no_slash = (hex_no_slash (n / 16) (omega arith), (hex_no_slash (n % 16) (omega arith), tt));
      word = (a.word, (b.word, tt));
    }

three_digits : (n : ℕ) → n < 4096 → IsGroupText n (digit_char (n / 256) ∷ pair_text (n % 256))
three_digits n h =
    let a = hex_digit (n / 256) (omega arith) in
    let b = hex_digit (n % 256 / 16) (omega arith) in
    let c = hex_digit (n % 256 % 16) (omega arith) in
    record {
      read =
          group_by (digit_char (n / 256) ∷ pair_text (n % 256)) n (omega arith) (omega arith) (and_from _ _ a.hex (and_from _ _ b.hex (and_from _ _ c.hex refl)))
          (let v : digits_value 16 (digit_char (n / 256) ∷ pair_text (n % 256)) ≡ n = omega (arith, a.value, b.value, c.value) in v);
      some = omega arith;
      no_colon = (a.no_colon, (b.no_colon, (c.no_colon, tt)));
      no_slash = (hex_no_slash (n / 256) (omega arith), (hex_no_slash (n % 256 / 16) (omega arith), (hex_no_slash (n % 256 % 16) (omega arith), tt)));
      word = (a.word, (b.word, (c.word, tt)));
    }

four_digits : (n : ℕ) → n < 65536 → IsGroupText n (pair_text (n / 256) ++ pair_text (n % 256))
four_digits n h =
    let a = hex_digit (n / 256 / 16) (omega arith) in
    let b = hex_digit (n / 256 % 16) (omega arith) in
    let c = hex_digit (n % 256 / 16) (omega arith) in
    let d = hex_digit (n % 256 % 16) (omega arith) in
    record {
      read =
          group_by (pair_text (n / 256) ++ pair_text (n % 256)) n (omega arith) (omega arith)
          (and_from _ _ a.hex (and_from _ _ b.hex (and_from _ _ c.hex (and_from _ _ d.hex refl))))
          (let v : digits_value 16 (pair_text (n / 256) ++ pair_text (n % 256)) ≡ n = omega (arith, a.value, b.value, c.value, d.value) in v);
      some = omega arith;
      no_colon = (a.no_colon, (b.no_colon, (c.no_colon, (d.no_colon, tt))));
      no_slash = (hex_no_slash (n / 256 / 16) (omega arith), (hex_no_slash (n / 256 % 16) (omega arith), (hex_no_slash (n % 256 / 16) (omega arith), (hex_no_slash (n % 256 % 16) (omega arith), tt))));
      word = (a.word, (b.word, (c.word, (d.word, tt))));
    }

group_is_text : (n : ℕ) → n < 65536 → IsGroupText n (group_text n)
group_is_text n h =
    elim (cases_lt n 16) [
      | inl few ↦ subst (IsGroupText n) (sym (one_digit_group n few)) (one_digit n few)
      | inr some ↦ elim (cases_lt n 256) [
        | inl few ↦ subst (IsGroupText n) (sym (two_digit_group n some few)) (two_digits n few)
        | inr more ↦ elim (cases_lt n 4096) [
          | inl few ↦ subst (IsGroupText n) (sym (three_digit_group n more few)) (three_digits n few)
          | inr most ↦ subst (IsGroupText n) (sym (four_digit_group n most h)) (four_digits n h)
        ]
      ]
    ]

-- groups
abbrev AreGroups : List ℕ → Type 0
AreGroups groups = AllByRecursion (λ group. group < 65536) groups

abbrev joined_groups : List ℕ → List ℕ
joined_groups groups = join_with_byte 58 (map group_text groups)

-- a text that doesn't begin with `:`
abbrev BeginsPlain : List ℕ → Type 0
BeginsPlain [] = Unit {0}
BeginsPlain (byte ∷ bytes) = (byte == 58) ≡ false

begins_behind : (text rest : List ℕ) → 1 ≤ length text → AllByRecursion (λ c. (c == 58) ≡ false) text → BeginsPlain (text ++ rest)
begins_behind [] rest h k = absurd (omega (arith, h))
begins_behind (byte ∷ bytes) rest h k = k.0

joined_begins : (groups : List ℕ) → AreGroups groups → BeginsPlain (joined_groups groups)
joined_begins [] h = tt
joined_begins (a ∷ []) h =
    let t = group_is_text a h.0 in
    subst BeginsPlain (append-nil (group_text a)) (begins_behind (group_text a) [] t.some t.no_colon)
joined_begins (a ∷ b ∷ groups) h =
    let t = group_is_text a h.0 in
    begins_behind (group_text a) (58 ∷ joined_groups (b ∷ groups)) t.some t.no_colon

-- a byte in front of a text without `::`
abbrev not_two : ℕ → ℕ → List ℕ → Option (List ℕ × List ℕ) → Option (List ℕ × List ℕ)
not_two a b bytes o = if a == 58 && b == 58 then Some ([], bytes) else option_map (λ (sides : List ℕ × List ℕ). (a ∷ sides.0, sides.1)) o

in_front_of_plain : (a : ℕ) (rest : List ℕ) → BeginsPlain rest → around_gap rest ≡ None → around_gap (a ∷ rest) ≡ None
in_front_of_plain a [] h e = refl
in_front_of_plain a (b ∷ rest) h e =
    ap (λ t. if t then Some ([], rest) else option_map (λ (sides : List ℕ × List ℕ). (a ∷ sides.0, sides.1)) (around_gap (b ∷ rest))) (and_right (a == 58) (b == 58) h)
    ∙ ap (option_map (λ (sides : List ℕ × List ℕ). (a ∷ sides.0, sides.1))) e

plain_in_front : (a : ℕ) (rest : List ℕ) → (a == 58) ≡ false → around_gap rest ≡ None → around_gap (a ∷ rest) ≡ None
plain_in_front a [] h e = refl
plain_in_front a (b ∷ rest) h e =
    ap (λ t. if t && b == 58 then Some ([], rest) else option_map (λ (sides : List ℕ × List ℕ). (a ∷ sides.0, sides.1)) (around_gap (b ∷ rest))) h
    ∙ ap (option_map (λ (sides : List ℕ × List ℕ). (a ∷ sides.0, sides.1))) e

text_in_front : (text rest : List ℕ) → AllByRecursion (λ c. (c == 58) ≡ false) text → around_gap rest ≡ None → around_gap (text ++ rest) ≡ None
text_in_front [] rest h e = e
text_in_front (a ∷ text) rest h e = plain_in_front a (text ++ rest) h.0 (text_in_front text rest h.1 e)

no_gap : (groups : List ℕ) → AreGroups groups → around_gap (joined_groups groups) ≡ None
no_gap [] h = refl
no_gap (a ∷ []) h = ap around_gap (sym (append-nil (group_text a))) ∙ text_in_front (group_text a) [] (group_is_text a h.0).no_colon refl
no_gap (a ∷ b ∷ groups) h =
    text_in_front (group_text a) (58 ∷ joined_groups (b ∷ groups)) (group_is_text a h.0).no_colon
    (in_front_of_plain 58 (joined_groups (b ∷ groups)) (joined_begins (b ∷ groups) h.1) (no_gap (b ∷ groups) h.1))

without_colon : (n : ℕ) → n < 65536 → All (λ b. (b == 58) ≡ false) (group_text n)
without_colon n h = All-from_recursion (λ b. (b == 58) ≡ false) (group_text n) (group_is_text n h).no_colon

split_at_colons : (a : ℕ) (groups : List ℕ) → AreGroups (a ∷ groups) → slice_split (λ b. b == 58) (joined_groups (a ∷ groups)) ≡ map group_text (a ∷ groups)
split_at_colons a [] h = slice_split_none (λ b. b == 58) (group_text a) (without_colon a h.0)
split_at_colons a (b ∷ groups) h =
    slice_split_at (λ b. b == 58) (group_text a) 58 (joined_groups (b ∷ groups)) (without_colon a h.0) refl
    ∙ ap (λ r. group_text a ∷ r) (split_at_colons b groups h.1)

groups_step : (part : List ℕ) (parts : List (List ℕ)) (a : ℕ) (groups : List ℕ) → group_of part ≡ Some a → groups_of_parts parts ≡ Some groups
    → groups_of_parts (part ∷ parts) ≡ Some (a ∷ groups)
groups_step part parts a groups e f = rw (e, f) refl

parts_are_read : (groups : List ℕ) → AreGroups groups → groups_of_parts (map group_text groups) ≡ Some groups
parts_are_read [] h = refl
parts_are_read (a ∷ groups) h = groups_step (group_text a) (map group_text groups) a groups (group_is_text a h.0).read (parts_are_read groups h.1)

-- a text that isn't empty
some_text : (text : List ℕ) → 1 ≤ length text → groups_of text ≡ groups_of_parts (slice_split (λ b. b == 58) text)
some_text [] h = absurd (omega (arith, h))
some_text (byte ∷ bytes) h = refl

joined_some_groups : (a : ℕ) (groups : List ℕ) → AreGroups (a ∷ groups) → 1 ≤ length (joined_groups (a ∷ groups))
joined_some_groups a [] h = (group_is_text a h.0).some
joined_some_groups a (b ∷ groups) h = omega (arith, length-append (group_text a) (58 ∷ joined_groups (b ∷ groups)), (group_is_text a h.0).some)

groups_are_read : (a : ℕ) (groups : List ℕ) → AreGroups (a ∷ groups) → groups_of (joined_groups (a ∷ groups)) ≡ Some (a ∷ groups)
groups_are_read a groups h =
    some_text (joined_groups (a ∷ groups)) (joined_some_groups a groups h)
    ∙ ap groups_of_parts (split_at_colons a groups h)
    ∙ parts_are_read (a ∷ groups) h

-- an address's groups
low_are_groups : (count number : ℕ) (others : List ℕ) → AreGroups others → AreGroups (low_groups count number others)
low_are_groups zero number others h = h
low_are_groups (suc count) number others h = low_are_groups count (number / 65536) (number % 65536 ∷ others) (omega arith, h)

low_length : (count number : ℕ) (others : List ℕ) → length (low_groups count number others) ≡ count + length others
low_length zero number others = omega arith
low_length (suc count) number others = let rest = low_length count (number / 65536) (number % 65536 ∷ others) in omega (arith, rest)

-- 65536 so many times
powers : ℕ → ℕ
powers zero = 1
powers (suc count) = 65536 * powers count

low_number : (count number : ℕ) (others : List ℕ) → number < powers count
    → number_of_groups (low_groups count number others) ≡ fold (λ n group. n * 65536 + group) number others
unfolding powers
low_number zero number others h = ap (λ n. fold (λ n group. n * 65536 + group) n others) (let none : 0 ≡ number = omega (arith, h) in none)
low_number (suc count) number others h =
    low_number count (number / 65536) (number % 65536 ∷ others) (omega (arith, h))
    ∙ ap (λ n. fold (λ n group. n * 65536 + group) n others) (let same : number / 65536 * 65536 + number % 65536 ≡ number = omega arith in same)

-- a text without `::`, and its eight groups
record HasEightGroups (text groups : List ℕ) : Type 0 where
  no_gap : around_gap text ≡ None
  read : groups_of text ≡ Some groups
  eight : length groups ≡ 8

address6_by : (text groups : List ℕ) → HasEightGroups text groups → address6_of text ≡ Some (number_of_groups groups)
address6_by text groups has =
    ap (λ o. option_map number_of_groups (eight_groups text o)) has.no_gap
    ∙ ap (λ o. option_map number_of_groups (o >>= if_eight)) has.read
    ∙ ap (λ b. option_map number_of_groups (if b then Some groups else None)) (eq-eqb (length groups) 8 has.eight)

-- by the list of an address's groups, of which there are eight
by_groups : (groups : List ℕ) → AreGroups groups → length groups ≡ 8 → address6_of (joined_groups groups) ≡ Some (number_of_groups groups)
by_groups [] h eight = absurd (omega (arith, eight))
by_groups (a ∷ groups) h eight =
    address6_by (joined_groups (a ∷ groups)) (a ∷ groups) (record { no_gap = no_gap (a ∷ groups) h; read = groups_are_read a groups h; eight = eight })

address6_is_read : (addr : ℕ) → addr < 2 ^ 128 → address6_of (address6_text addr) ≡ Some addr
unfolding powers
address6_is_read addr h =
    by_groups (address_groups addr) (low_are_groups 8 addr [] tt) (low_length 8 addr []) ∙ ap (λ n. Some n) (low_number 8 addr [] h)

-- what holds of each byte of the groups and of what parts them holds of all
each_group_byte : (P : ℕ → Type 0) → P 58 → ((n : ℕ) → n < 65536 → AllByRecursion P (group_text n)) → (groups : List ℕ) → AreGroups groups
    → AllByRecursion P (joined_groups groups)
each_group_byte P m each [] h = tt
each_group_byte P m each (a ∷ []) h = each a h.0
each_group_byte P m each (a ∷ b ∷ groups) h =
    each-append P (group_text a) (58 ∷ joined_groups (b ∷ groups)) (each a h.0) (m, each_group_byte P m each (b ∷ groups) h.1)

address6_groups : (addr : ℕ) → AreGroups (address_groups addr)
address6_groups addr = low_are_groups 8 addr [] tt

no_slash_in_address6 : (addr : ℕ) → AllByRecursion (λ b. (b == 47) ≡ false) (address6_text addr)
no_slash_in_address6 addr = each_group_byte (λ b. (b == 47) ≡ false) refl (λ n h. (group_is_text n h).no_slash) (address_groups addr) (address6_groups addr)

address6_and_length : (p : Prefix6) → p.addr < 2 ^ 128 → HasAddressAndLength address6_of 128 (prefix6_text p) p.addr p.len
address6_and_length p h = record {
  front = address6_text p.addr;
  back = decimal p.len;
  cut = record {
    before = sym (before_first_at (λ b. b == 47) (address6_text p.addr) 47 (decimal p.len) (no_slash_in_address6 p.addr) refl);
    after = sym (after_first_at (λ b. b == 47) (address6_text p.addr) 47 (decimal p.len) (no_slash_in_address6 p.addr) refl);
  };
  addr_is = sym (address6_is_read p.addr h);
  len_is = sym (number_is_read 0 128 p.len (omega (arith, p.few)) (omega arith) p.few);
}

pub prefix6_is_read : (p : Prefix6) → p.addr < 2 ^ 128 → prefix6_of (prefix6_text p) ≡ Some p
prefix6_is_read p h = sym (prefix6_read (prefix6_text p) p.addr p.len (address6_and_length p h) p.few p.host_bits)

pub prefix6_is_word : (p : Prefix6) → IsWord (prefix6_text p)
prefix6_is_word p = record {
  some = longer (address6_text p.addr) 47 (decimal p.len);
  bytes =
      each-append (λ b. is_word_byte b ≡ true) (address6_text p.addr) (47 ∷ decimal p.len)
      (each_group_byte (λ b. is_word_byte b ≡ true) refl (λ n h. (group_is_text n h).word) (address_groups p.addr) (address6_groups p.addr))
      (refl, (number_is_word p.len (omega (arith, p.few))).bytes);
}
  where
    longer : (a : List ℕ) (b : ℕ) (c : List ℕ) → 1 ≤ length (a ++ b ∷ c)
    longer [] b c = omega arith
    longer (x ∷ xs) b c = omega arith
