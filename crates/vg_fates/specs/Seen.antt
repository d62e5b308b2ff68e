-- Fates, seen through references.
use Rattle.std.specs.Prelude.{[], ◌∷◌, None}
use Rattle.vg_model.specs.declared.fates.Fate.{Fate}
use Rattle.vg_fates.specs.declared.logs.FateRef.{FateRef}
use Rattle.vg_fates.specs.declared.logs.FateRef.TheVariants as refs

-- what became of the packet
abbrev pub fate_seen : FateRef → Fate
fate_seen (refs.Plain number leg end) = record { number = number; legs = leg ∷ []; congested = None; end = end }
fate_seen (refs.Other fate) = fate.now
