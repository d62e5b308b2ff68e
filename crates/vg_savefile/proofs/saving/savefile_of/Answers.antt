use Rattle.std.proofs.Common.{ℕ, ◌<◌, ◌^◌, List, length, subst}
use Rattle.std.specs.Prelude.{All}
use Rattle.vg_savefile.proofs.PackedLemmas.{numbered_of}
use Rattle.vg_savefile.proofs.saving.savefile_of.Goals as goal

pub in_place-requires-clause-numbers : goal.in_place-requires-clause-numbers
in_place-requires-clause-numbers c =
    numbered_of (length c.args.capture.now.packets) c.in-Ok.one.0.items c.in-Ok.one.1.items
    (subst (λ sent. All (λ (packet : ℕ × List ℕ). (packet.0 < length c.args.capture.now.packets) × (length packet.1 < 2 ^ 32)) sent) c.in-Ok.ensures.1 c.requires)
