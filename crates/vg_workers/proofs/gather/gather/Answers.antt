use Rattle.std.proofs.Common.{sym, subst}
use Rattle.vg_counters.specs.Tally.{AreOneSize}
use Rattle.vg_workers.proofs.gather.gather.Goals as goal

pub total-requires-clause-size : goal.total-requires-clause-size
total-requires-clause-size c = subst AreOneSize (sym c.as_slice.ensures.value) c.requires.size.0
