-- The visit of `dot1q-rewrite-N`: a tag gets another VLAN id (IEEE 802.1Q).
use Rattle.std.specs.Prelude.{ℕ, not, if◌then◌else◌}
use Rattle.vg_model.specs.declared.kinds.DropError.TheVariants as errors
use Rattle.vg_model.specs.declared.kinds.Step.{Step}
use Rattle.vg_model.specs.Packet.{Packet}
use Rattle.vg_model.specs.Tag.{is_tagged, renumbered}
use Rattle.vg_model.specs.Visit.{next, dropped}

-- the mark goes also where the id was this one before
abbrev pub dot1q_rewrite : ℕ → Packet → Step × Packet
dot1q_rewrite id p = if not (is_tagged p) then dropped errors.UnknownType p else next (renumbered id p)
