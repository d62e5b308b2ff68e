-- Which nodes were noted for a packet, leg by leg.
use Rattle.std.specs.Prelude.{◌≡◌, ℕ, List, [], ◌∷◌, ◌++◌, length, replicate, slice_index_or, slice_set, flat_map, nat_lt, ◌&&◌, if◌then◌else◌, All}

-- by packet, and in it by leg: the nodes that were noted, in order
abbrev pub Notes : Type 0
Notes = List (List (List ℕ))

-- how many legs a packet has at most
abbrev pub count_of_legs : ℕ
count_of_legs = 4

-- how many nodes are noted for a leg at most
abbrev pub most_noted : ℕ
most_noted = 68

-- nothing is noted yet
abbrev pub nothing_noted : ℕ → Notes
nothing_noted packets = replicate packets (replicate count_of_legs [])

-- the nodes noted for a packet and one of its legs, which are counted from 0
abbrev pub nodes_of : ℕ → ℕ → Notes → List ℕ
nodes_of number leg notes = slice_index_or (slice_index_or notes number []) leg []

-- a node is noted behind the others of its packet and leg, where the packet is one of those noted and there is room
abbrev pub noted : ℕ → ℕ → ℕ → Notes → Notes
noted number leg node notes =
    if nat_lt number (length notes) && nat_lt (length (nodes_of number leg notes)) most_noted
    then slice_set notes number (slice_set (slice_index_or notes number []) leg (nodes_of number leg notes ++ node ∷ []))
    else notes

-- the legs of a packet, counted from 0
abbrev pub all_legs : List ℕ
all_legs = 0 ∷ 1 ∷ 2 ∷ 3 ∷ []

-- the nodes of a packet: leg by leg, in each leg by the order of the parts, and then in order
abbrev pub merged : ℕ → List Notes → List ℕ
merged number parts = flat_map (λ leg. flat_map (nodes_of number leg) parts) all_legs

-- all are for as many packets as the first
abbrev pub AreOneLength : List Notes → Type 0
AreOneLength parts = (d : Notes) → All (λ part. length part ≡ length (slice_index_or parts 0 d)) parts

-- by packet: its nodes in all the parts
pub record IsMerged (parts : List Notes) (lists : List (List ℕ)) : Type 0 where
  pub packets : All (λ part. length lists ≡ length part) parts
  pub nodes : (number : ℕ) → slice_index_or lists number [] ≡ merged number parts
