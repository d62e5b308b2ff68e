-- The visit of `dot1q-match-N`: the tag of one VLAN is taken off (IEEE 802.1Q; VPP: a sub-interface).
use Rattle.std.specs.Prelude.{ℕ, ◌-◌, ◌||◌, ◌==◌, nat_lt, not, if◌then◌else◌}
use Rattle.vg_model.specs.declared.kinds.DropError.TheVariants as errors
use Rattle.vg_model.specs.declared.kinds.Step.{Step}
use Rattle.vg_model.specs.declared.kinds.Step.TheVariants.{Next}
use Rattle.vg_model.specs.Packet.{Packet}
use Rattle.vg_model.specs.Tag.{tag_len, is_tagged, vlan_id, cut}
use Rattle.vg_model.specs.Valid.{most_room}
use Rattle.vg_model.specs.Visit.{dropped}

-- what isn't of this VLAN goes on over the second slot as it is; no packet gets more room than a buffer has
abbrev pub dot1q_match : ℕ → Packet → Step × Packet
dot1q_match id p =
    if not (is_tagged p) || not (vlan_id p == id) then (Next 1, p)
    else if nat_lt (most_room - tag_len) p.room then dropped errors.BadLength p
    else (Next 0, cut p)
