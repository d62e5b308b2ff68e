-- Whether a packet was transmitted.
use Rattle.std.specs.Prelude.{Bool, true, false}
use Rattle.vg_model.specs.declared.fates.End.{End}
use Rattle.vg_model.specs.declared.fates.End.TheVariants as ends

-- a packet that ended so was transmitted
abbrev pub is_sent_at : End → Bool
is_sent_at (ends.Tx interface) = true
is_sent_at (ends.Dropped node error) = false
