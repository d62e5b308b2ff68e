use Rattle.std.proofs.Common.{length}
use Rattle.vg_savefile.proofs.PackedLemmas.{IsSpread}
use Rattle.vg_savefile.proofs.saving.spread.Given as goal

abbrev pub invariant-packets : goal.invariant-packets
invariant-packets l = IsSpread l.capture.packets l.fn.entries.items l.entries.items l.fn.list l.list l.end

abbrev pub decreases-packets : goal.decreases-packets
decreases-packets l = length l.entries.items
