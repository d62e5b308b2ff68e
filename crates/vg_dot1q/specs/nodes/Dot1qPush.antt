-- The visit of `dot1q-push-N`: a tag is put on (IEEE 802.1Q).
use Rattle.std.specs.Prelude.{ℕ, nat_lt, length, if◌then◌else◌}
use Rattle.vg_model.specs.declared.kinds.DropError.TheVariants as errors
use Rattle.vg_model.specs.declared.kinds.Step.{Step}
use Rattle.vg_model.specs.Packet.{Packet}
use Rattle.vg_model.specs.Tag.{tag_len, tagged}
use Rattle.vg_model.specs.Visit.{next, dropped, ethernet_len}

-- where there are two addresses and a type, and room for a tag
abbrev pub dot1q_push : ℕ → Packet → Step × Packet
dot1q_push id p =
    if nat_lt (length p.bytes) ethernet_len then dropped errors.Short p
    else if nat_lt p.room tag_len then dropped errors.TooLong p
    else next (tagged id p)
