-- IPv6 addresses in words (RFC 4291, section 2.2, forms 1 and 2).
use Rattle.std.specs.Prelude.{ℕ, zero, suc, ◌+◌, ◌-◌, ◌*◌, ◌/◌, ◌%◌, ◌&&◌, ◌==◌, nat_lt, nat_le, List, [], ◌∷◌, ◌++◌, length, fold, replicate, Option, Some, None, option_map, if◌then◌else◌}
use Rattle.std.specs.Char.{is_ascii_hexdigit}
use Rattle.std.specs.List.{list_all, slice_split}
use Rattle.std.specs.Str.Parse.{digits_value}

-- what follows a value; none stays none
infixl 10 ◌>>=◌
abbrev pub ◌>>=◌ : {X Y : Type 0} → Option X → (X → Option Y) → Option Y
(Some x) >>= f = f x
None >>= f = None

-- a group: 1 to 4 hexadecimal digits, of either case
abbrev pub group_of : List ℕ → Option ℕ
group_of text =
    if nat_lt 0 (length text) && nat_le (length text) 4 && list_all is_ascii_hexdigit text then Some (digits_value 16 text) else None

-- the groups that these parts are
abbrev pub groups_of_parts : List (List ℕ) → Option (List ℕ)
groups_of_parts [] = Some []
groups_of_parts (part ∷ parts) = do
  group ← group_of part
  groups ← groups_of_parts parts
  Some (group ∷ groups)

-- groups parted by `:`; no text has none
abbrev pub groups_of : List ℕ → Option (List ℕ)
groups_of [] = Some []
groups_of (byte ∷ bytes) = groups_of_parts (slice_split (λ b. b == 58) (byte ∷ bytes))

-- what stands before the first `::`, and what stands behind it
abbrev pub around_gap : List ℕ → Option (List ℕ × List ℕ)
around_gap [] = None
around_gap (byte ∷ []) = None
around_gap (byte ∷ next ∷ bytes) =
    if byte == 58 && next == 58 then Some ([], bytes) else option_map (λ sides. (byte ∷ sides.0, sides.1)) (around_gap (next ∷ bytes))

-- groups are eight
abbrev pub if_eight : List ℕ → Option (List ℕ)
if_eight groups = if length groups == 8 then Some groups else None

-- groups with as many zeros between them as make them eight, at least one
abbrev pub filled_up : List ℕ → List ℕ → Option (List ℕ)
filled_up before behind =
    if nat_le (length before + length behind) 7 then Some (before ++ replicate (8 - (length before + length behind)) 0 ++ behind) else None

-- the eight groups of an address, by what stands around its `::`, where it has one
abbrev pub eight_groups : List ℕ → Option (List ℕ × List ℕ) → Option (List ℕ)
eight_groups text None = groups_of text >>= if_eight
eight_groups text (Some sides) = do
  before ← groups_of sides.0
  behind ← groups_of sides.1
  filled_up before behind

-- the number whose digits to the base 65536 these groups are, the highest first
abbrev pub number_of_groups : List ℕ → ℕ
number_of_groups groups = fold (λ number group. number * 65536 + group) 0 groups

-- an address: eight groups parted by `:`, of which one `::` may stand for one or more that are zero
abbrev pub address6_of : List ℕ → Option ℕ
address6_of text = option_map number_of_groups (eight_groups text (around_gap text))

-- so many groups of a number, the lowest ones, in front of others
abbrev pub low_groups : (count number : ℕ) → List ℕ → List ℕ
low_groups zero number others = others
low_groups (suc count) number others = low_groups count (number / 65536) (number % 65536 ∷ others)

-- the eight groups of an address, the highest first
abbrev pub address_groups : ℕ → List ℕ
address_groups addr = low_groups 8 addr []
