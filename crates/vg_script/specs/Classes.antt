-- The classes of words: what a word of a class means, and None where it isn't one (this project's profile).
use Rattle.std.specs.Prelude.{ℕ, zero, suc, ◌-◌, ◌%◌, ◌^◌, Bool, true, false, not, ◌&&◌, ◌||◌, ◌==◌, nat_lt, nat_le, List, [], ◌∷◌, length, take, drop, slice_index, bytes_eq, find, Option, Some, None, option_map, unwrap_or, if◌then◌else◌}
use Rattle.std.specs.Option.{option_or}
use Rattle.std.specs.Char.{is_ascii_digit, is_ascii_hexdigit}
use Rattle.std.specs.Int.{w32, from_be_bytes}
use Rattle.std.specs.List.{before_first, after_first, list_all, slice_split}
use Rattle.std.specs.Str.Parse.{digits_value}
use Rattle.std.proofs.Math.Dec.{T}
use Rattle.std.proofs.Math.Facts.{leb_yes, eqb_yes}
use Rattle.vg_model.specs.declared.kinds.Kind.{Kind}
use Rattle.vg_model.specs.declared.kinds.Kind.TheVariants as kinds
use Rattle.vg_model.specs.declared.names.Mac.{Mac}
use Rattle.vg_model.specs.declared.routes.Prefix.{Prefix}
use Rattle.vg_model.specs.declared.routes.Prefix6.{Prefix6}
use Rattle.vg_model.specs.declared.vlans.VlanId.{VlanId}
use Rattle.vg_model.specs.KindWord.{NumberedWords, least_vlan, most_vlan, vlan, with_vlan, match_words, push_words, rewrite_words, connect_words}
use Rattle.vg_model.specs.Graph.{kind_entry, plain_kinds}
use Rattle.vg_model.specs.Members.{most_members}
use Rattle.vg_model.specs.Name.{is_name}
use Rattle.vg_script.specs.Address6.{address6_of}
pub use Rattle.vg_script.specs.Address6.{◌>>=◌}

-- NAME
abbrev pub name_of : List ℕ → Option (List ℕ)
name_of word = if is_name word then Some word else None

-- NAMES: 1 to 16 names parted by `,`
abbrev pub names_of : List ℕ → Option (List (List ℕ))
names_of word =
    let parts = slice_split (λ byte. byte == 44) word in
    if nat_le (length parts) most_members && list_all is_name parts then Some parts else None

-- decimal digits, the first of several not 0
abbrev pub is_decimal : List ℕ → Bool
is_decimal word = nat_lt 0 (length word) && list_all is_ascii_digit word && (length word == 1 || not (slice_index word 0 == 48))

-- NUMBER, with its least and its greatest value
abbrev pub number_of : (least most : ℕ) → List ℕ → Option ℕ
number_of least most word =
    let number = digits_value 10 word in
    if is_decimal word && nat_le least number && nat_le number most then Some number else None

-- values of a class, `more` behind the first, parted by this byte
abbrev pub parted_by : ℕ → (List ℕ → Option ℕ) → (more : ℕ) → List ℕ → Option (List ℕ)
parted_by mark class zero text = do
  last ← class text
  Some (last ∷ [])
parted_by mark class (suc more) text = do
  first ← class (before_first (λ byte. byte == mark) text)
  others ← parted_by mark class more (after_first (λ byte. byte == mark) text)
  Some (first ∷ others)

-- two hexadecimal digits, of either case
abbrev pub pair_of : List ℕ → Option ℕ
pair_of text = if length text == 2 && list_all is_ascii_hexdigit text then Some (digits_value 16 text) else None

-- MAC: six pairs parted by `:`
abbrev pub mac_of : List ℕ → Option Mac
mac_of word = option_map (λ bytes. record { 0 = bytes }) (parted_by 58 pair_of 5 word)

-- an address: four numbers parted by `.`, the highest first
abbrev pub address_of : List ℕ → Option ℕ
address_of text = option_map (from_be_bytes w32) (parted_by 46 (number_of 0 255) 3 text)

-- a value where a test holds
abbrev pub given : {X : Type 0} → (test : Bool) → (T test → Option X) → Option X
given true f = f tt
given false f = None

-- the prefix of an address that has no host bits
abbrev pub prefix : (addr len : ℕ) → T (nat_le len 32) → T (addr % 2 ^ (32 - len) == 0) → Prefix
prefix addr len few host_bits = record { addr = addr; len = len; few = leb_yes few; host_bits = eqb_yes host_bits }

-- PREFIX: an address, `/`, and the number of bits that it has; the bits behind them are 0
abbrev pub prefix_of : List ℕ → Option Prefix
prefix_of word = do
  addr ← address_of (before_first (λ byte. byte == 47) word)
  len ← number_of 0 32 (after_first (λ byte. byte == 47) word)
  given (nat_le len 32) (λ few. given (addr % 2 ^ (32 - len) == 0) (λ host_bits. Some (prefix addr len few host_bits)))

-- the IPv6 prefix of an address that has no host bits
abbrev pub prefix6 : (addr len : ℕ) → T (nat_le len 128) → T (addr % 2 ^ (128 - len) == 0) → Prefix6
prefix6 addr len few host_bits = record { addr = addr; len = len; few = leb_yes few; host_bits = eqb_yes host_bits }

-- PREFIX6: an IPv6 address, `/`, and the number of bits that it has; the bits behind them are 0
abbrev pub prefix6_of : List ℕ → Option Prefix6
prefix6_of word = do
  addr ← address6_of (before_first (λ byte. byte == 47) word)
  len ← number_of 0 128 (after_first (λ byte. byte == 47) word)
  given (nat_le len 128) (λ few. given (addr % 2 ^ (128 - len) == 0) (λ host_bits. Some (prefix6 addr len few host_bits)))

-- the word is that of the kind, by the table of kinds
abbrev pub is_word_for : List ℕ → Kind → Bool
is_word_for word kind = unwrap_or (option_map (bytes_eq word) (kind_entry kind).word) false

-- the number behind a text, in its range
abbrev pub number_behind : (text : List ℕ) → (least most : ℕ) → List ℕ → Option ℕ
number_behind text least most word =
    if bytes_eq (take (length text) word) text then number_of least most (drop (length text) word) else None

-- the number of words with a number
abbrev pub number_in : NumberedWords → List ℕ → Option ℕ
number_in words word = number_behind words.text words.least words.most word

-- the VLAN id of a number
abbrev pub vlan_of : ℕ → Option VlanId
vlan_of number = given (nat_le least_vlan number) (λ some. given (nat_le number most_vlan) (λ few. Some (vlan number some few)))

-- the VLAN id behind a text
abbrev pub vlan_behind : (text : List ℕ) → List ℕ → Option VlanId
vlan_behind text word = number_in (with_vlan text) word >>= vlan_of

-- the kinds with a number, by their words in the table of kinds: a VLAN id, or that of an interface
abbrev pub numbered_kind : List ℕ → Option Kind
numbered_kind word =
    option_or (option_map kinds.Dot1qMatch (vlan_behind match_words.text word))
    (option_or (option_map kinds.Dot1qPush (vlan_behind push_words.text word))
    (option_or (option_map kinds.Dot1qRewrite (vlan_behind rewrite_words.text word))
    (option_map kinds.CrossConnect (number_in connect_words word))))

-- KIND
abbrev pub kind_of : List ℕ → Option Kind
kind_of word = option_or (find (is_word_for word) plain_kinds) (numbered_kind word)
