-- IPv4 addresses that a router does not forward to (RFC 1812, sections 5.3.5.1, 5.3.7 and 5.3.10; RFC 2644).
use Rattle.std.specs.Prelude.{◌≡◌, ℕ, ◌+◌, ◌-◌, ◌/◌, ◌^◌, Bool, true, not, ◌&&◌, ◌||◌, ◌==◌, nat_lt, nat_le, List, length, filter, Option, Some, None, if◌then◌else◌}
use Rattle.std.specs.List.{list_any}
use Rattle.std.specs.List.Sorted.{IsNonDecreasingBy}
use Rattle.vg_model.specs.Bytes.{number16_at, number32_at}
use Rattle.vg_model.specs.Route.{covers_of, ip4}
use Rattle.vg_model.specs.declared.routes.Prefix.{Prefix}
use Rattle.vg_remarks.specs.declared.addresses.Class.{Class}
use Rattle.vg_remarks.specs.declared.addresses.Class.TheVariants as classes
use Rattle.vg_remarks.specs.declared.addresses.Known.{Known}
use Rattle.vg_remarks.specs.declared.prefixes.AddressSet.{AddressSet}
use Rattle.vg_remarks.specs.Lasts.{has}

-- ---- prefixes

-- a prefix that may be that of a network: 1 to 30 bits
abbrev pub is_network : Prefix → Bool
is_network prefix = nat_le 1 prefix.len && nat_le prefix.len 30

-- the last address of a prefix: where it is a network's, its directed broadcast
abbrev pub last_of : Prefix → ℕ
last_of prefix = prefix.addr + (2 ^ (32 - prefix.len) - 1)

-- a prefix of multicast addresses alone: one within 224.0.0.0/4
abbrev pub is_multicast : Prefix → Bool
is_multicast prefix = nat_le 4 prefix.len && prefix.addr / 2 ^ 28 == 14

-- one of the prefixes is a network's that has this last address
abbrev pub is_directed : List Prefix → ℕ → Bool
is_directed led address = list_any (λ prefix. is_network prefix && last_of prefix == address) led

-- one of the prefixes covers this address
abbrev pub is_led : List Prefix → ℕ → Bool
is_led led address = list_any (λ prefix. covers_of ip4 prefix address) led

-- one of the prefixes, of multicast addresses alone, covers this address
abbrev pub has_group : List Prefix → ℕ → Bool
has_group led address = list_any (λ prefix. is_multicast prefix && covers_of ip4 prefix address) led

-- ---- addresses

-- the first byte of an address that is of a class wherever it occurs
abbrev pub is_special : ℕ → Bool
is_special byte = byte == 0 || (byte == 127 || nat_le 224 byte)

-- the class of an address with such a first byte
abbrev pub special_class : ℕ → Class
special_class address =
    if address == 4294967295 then classes.LimitedBroadcast
    else if address / 2 ^ 24 == 0 then classes.ThisNetwork
    else if address / 2 ^ 24 == 127 then classes.Loopback
    else if nat_le 240 (address / 2 ^ 24) then classes.Reserved
    else classes.Multicast

-- of which class an address is that a router does not forward to, though routes, which lead these prefixes to neighbors, lead it there. A group that has
-- a route of its own is of none
abbrev pub class_of : List Prefix → ℕ → Option Class
class_of led address =
    if is_special (address / 2 ^ 24) then (if is_led led address && not (has_group led address) then Some (special_class address) else None)
    else if is_directed led address then Some classes.DirectedBroadcast
    else None

-- the destination of a frame that has an IPv4 header, behind its type or behind one VLAN tag more
abbrev pub destination : List ℕ → Option ℕ
destination frame =
    if nat_lt (length frame) 34 then None
    else if number16_at frame 12 == 0x0800 then Some (number32_at frame 30)
    else if nat_lt (length frame) 38 then None
    else if number16_at frame 12 == 0x8100 && number16_at frame 16 == 0x0800 then Some (number32_at frame 34)
    else None

-- ---- what is kept of prefixes

-- a prefix ends behind the last of others, or there are none
abbrev pub ends_behind : Prefix → Option Prefix → Bool
ends_behind prefix None = true
ends_behind prefix (Some last) = nat_lt (last_of last) (last_of prefix)

-- kept prefixes cover what some prefixes cover; of two kept ones the later one begins no earlier, and ends no earlier
pub record IsCover (prefixes kept : List Prefix) : Type 0 where
  pub begins : IsNonDecreasingBy (λ (p : Prefix). p.addr) kept
  pub ends : IsNonDecreasingBy last_of kept
  pub same : (address : ℕ) → is_led kept address ≡ is_led prefixes address

-- the addresses that some prefixes cover
abbrev pub IsSetOf : List Prefix → AddressSet → Type 0
IsSetOf prefixes addresses = IsCover prefixes addresses.prefixes.items

-- a prefix that may cover an address that is of a class wherever it occurs
abbrev pub may_be_special : Prefix → Bool
may_be_special prefix = nat_lt prefix.len 8 || is_special (prefix.addr / 2 ^ 24)

-- what is known of the prefixes that routes lead to neighbors
pub record IsKnown (led : List Prefix) (known : Known) : Type 0 where
  pub directed : (address : ℕ) → has known.lasts address ≡ is_directed led address
  pub special : IsSetOf (filter may_be_special led) known.special
  pub groups : IsSetOf (filter is_multicast led) known.groups
