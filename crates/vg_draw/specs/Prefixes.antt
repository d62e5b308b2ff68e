-- The prefixes that stand at a neighbor: those of the routes that lead over it.
use Rattle.std.specs.Prelude.{ℕ, zero, suc, ◌+◌, ◌-◌, ◌/◌, ◌%◌, ◌==◌, nat_le, Bool, false, not, ◌&&◌, List, [], ◌∷◌, ◌++◌, map, flat_map, take, count_by, codes, decimal, if◌then◌else◌}
use Rattle.std.specs.Char.{digit_char}
use Rattle.std.specs.Int.{w32, to_be_bytes}
use Rattle.std.specs.List.{join_with_byte, list_any}
use Rattle.vg_model.specs.declared.routes.Prefix.{Prefix}
use Rattle.vg_model.specs.declared.routes.Prefix6.{Prefix6}
use Rattle.vg_model.specs.declared.routes.RouteTo.{RouteTo}
use Rattle.vg_model.specs.declared.routes.RouteTo.TheVariants as targets
use Rattle.vg_model.specs.Graph.{Graph}
use Rattle.vg_draw.specs.declared.prefixes.Routes.{Routes}
use Rattle.vg_model.specs.Route.{PrefixKind, RoutesOf, ip4, ip6, is_same}

-- a byte as two hexadecimal digits
abbrev pub pair_text : ℕ → List ℕ
pair_text byte = digit_char (byte / 16) ∷ digit_char (byte % 16) ∷ []

-- digits without zeros in front; the last digit stays
abbrev pub without_zeros : List ℕ → List ℕ
without_zeros [] = []
without_zeros (digit ∷ []) = digit ∷ []
without_zeros (digit ∷ next ∷ digits) = if digit == 48 then without_zeros (next ∷ digits) else digit ∷ next ∷ digits

-- a group of an IPv6 address: four hexadecimal digits, without zeros in front
abbrev pub group_text : ℕ → List ℕ
group_text group = without_zeros (pair_text (group / 256) ++ pair_text (group % 256))

-- so many groups of a number, the lowest ones, in front of others
abbrev pub low_groups : (count number : ℕ) → List ℕ → List ℕ
low_groups zero number others = others
low_groups (suc count) number others = low_groups count (number / 65536) (number % 65536 ∷ others)

-- the eight groups of an address, the highest first
abbrev pub address_groups : ℕ → List ℕ
address_groups addr = low_groups 8 addr []

-- how many groups have bits of a prefix of this length
abbrev pub groups_within : ℕ → ℕ
groups_within len = (len + 15) / 16

-- groups parted by `:`
abbrev pub groups_text : List ℕ → List ℕ
groups_text groups = join_with_byte 58 (map group_text groups)

-- the address of an IPv6 prefix of this length, by its groups. Where at most six of them have bits of the prefix, `::` stands for the others, which are 0
abbrev pub address6_text : List ℕ → ℕ → List ℕ
address6_text groups len = if nat_le (groups_within len) 6 then groups_text (take (groups_within len) groups) ++ codes "::" else groups_text groups

-- an IPv6 prefix: an address, `/`, and the number of bits
abbrev pub prefix6_text : Prefix6 → List ℕ
prefix6_text prefix = address6_text (address_groups prefix.addr) prefix.len ++ 47 ∷ decimal prefix.len

-- an IPv4 prefix: four numbers parted by `.`, `/`, and the number of bits
abbrev pub prefix_text : Prefix → List ℕ
prefix_text prefix = join_with_byte 46 (map decimal (to_be_bytes w32 prefix.addr)) ++ 47 ∷ decimal prefix.len

-- a route leads over a neighbor, alone or among several
abbrev pub leads_over : ℕ → RouteTo → Bool
leads_over number (targets.Via members) = list_any (λ member. member == number) members
leads_over number target = false

-- a route of this prefix leads over a neighbor
abbrev pub has_over : {P : Type 0} → PrefixKind P → ℕ → RoutesOf P → P → Bool
has_over kind number routes prefix = list_any (λ route. is_same kind route.0 prefix && leads_over number route.1) routes

-- a further line of a label: a text, in bold where it is new
abbrev pub prefix_line : Bool → List ℕ → List ℕ
prefix_line new text = codes "<BR/>" ++ (if new then codes "<B>" ++ (text ++ codes "</B>") else text)

-- the line of a route at a neighbor that it leads over, and none at another; it is new where no route of its prefix led over the neighbor before
abbrev pub line_over : {P : Type 0} → PrefixKind P → (P → List ℕ) → ℕ → RoutesOf P → P × RouteTo → List (List ℕ)
line_over kind text number before route =
    if leads_over number route.1 then prefix_line (not (has_over kind number before route.0)) (text route.0) ∷ [] else []

-- the lines of a table's routes at a neighbor, in their order
abbrev pub lines_over : {P : Type 0} → PrefixKind P → (P → List ℕ) → ℕ → (before routes : RoutesOf P) → List (List ℕ)
lines_over kind text number before routes = flat_map (line_over kind text number before) routes

-- how many routes of a table lead over a neighbor
abbrev pub count_over : {P : Type 0} → ℕ → RoutesOf P → ℕ
count_over number routes = count_by (λ route. leads_over number route.1) routes

-- the tables of routes of a graph
pub record Tables : Type 0 where
  pub routes : RoutesOf Prefix
  pub routes6 : RoutesOf Prefix6

abbrev pub tables_of : Graph → Tables
tables_of g = record { routes = g.routes; routes6 = g.routes6 }

-- the same behind references
abbrev pub seen : Routes → Tables
seen tables = record { routes = tables.ip4.now; routes6 = tables.ip6.now }

-- how many prefixes stand at a neighbor at most
abbrev pub most_shown : ℕ
most_shown = 8

-- how many more there are
abbrev pub more_text : ℕ → List ℕ
more_text n = if n == 0 then [] else codes "<BR/>and " ++ (decimal n ++ codes " more")

-- the prefixes at a neighbor, those of IPv4 first: eight of them, and how many more there are
abbrev pub prefixes_text : ℕ → (before now : Tables) → List ℕ
prefixes_text number before now =
    flat_map (λ line. line) (take most_shown (lines_over ip4 prefix_text number before.routes now.routes))
    ++ (flat_map (λ line. line) (take (most_shown - count_over number now.routes) (lines_over ip6 prefix6_text number before.routes6 now.routes6))
    ++ more_text (count_over number now.routes + count_over number now.routes6 - most_shown))
