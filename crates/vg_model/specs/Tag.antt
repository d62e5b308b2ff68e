-- The VLAN tag of a frame (IEEE 802.1Q): a type, three bits of priority, one that marks what may be dropped first, and twelve bits
-- of VLAN id. It stands behind the two addresses, and the type of what the frame carries behind it. Only the first tag counts.
use Rattle.std.specs.Prelude.{ℕ, ◌+◌, ◌-◌, ◌*◌, ◌/◌, ◌%◌, Bool, false, ◌&&◌, ◌==◌, nat_le, List, ◌++◌, length, take, drop}
use Rattle.std.specs.Int.{w16, to_be_bytes}
use Rattle.vg_model.specs.Bytes.{number16_at, overwritten}
use Rattle.vg_model.specs.Packet.{Packet}

-- how many bytes the two addresses take
abbrev pub addresses_len : ℕ
addresses_len = 12

-- how many bytes a tag takes
abbrev pub tag_len : ℕ
tag_len = 4

-- the type that begins a tag
abbrev pub tag_type : ℕ
tag_type = 0x8100

-- where the priority, the mark and the id stand
abbrev pub control_at : ℕ
control_at = 14

-- how many numbers twelve bits have
abbrev pub vlan_ids : ℕ
vlan_ids = 4096

-- the frame has a whole tag and the type behind it
abbrev pub is_tagged : Packet → Bool
is_tagged p = nat_le 18 (length p.bytes) && number16_at p.bytes addresses_len == tag_type

-- the VLAN id of a tagged frame
abbrev pub vlan_id : Packet → ℕ
vlan_id p = number16_at p.bytes control_at % vlan_ids

-- the tag of a VLAN: priority 0, and not marked
abbrev pub tag_of : ℕ → List ℕ
tag_of id = to_be_bytes w16 tag_type ++ to_be_bytes w16 id

-- the packet without its tag: the room grows by the tag, and the mark `checked` goes
abbrev pub cut : Packet → Packet
cut p = record p { bytes = take addresses_len p.bytes ++ drop (addresses_len + tag_len) p.bytes; room = p.room + tag_len; checked = false }

-- the packet with a tag of this VLAN: the room falls by the tag, and the mark `checked` goes
abbrev pub tagged : ℕ → Packet → Packet
tagged id p = record p { bytes = take addresses_len p.bytes ++ tag_of id ++ drop addresses_len p.bytes; room = p.room - tag_len; checked = false }

-- the tagged packet with another VLAN id: its priority and the mark of the tag stay, and the mark `checked` goes
abbrev pub renumbered : ℕ → Packet → Packet
renumbered id p =
    record p { bytes = overwritten p.bytes control_at (to_be_bytes w16 (number16_at p.bytes control_at / vlan_ids * vlan_ids + id)); checked = false }
