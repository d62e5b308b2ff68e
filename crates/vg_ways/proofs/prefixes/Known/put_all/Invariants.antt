-- For `Known::put_all`: its loop.
use Rattle.vg_ways.proofs.PrefixLemmas.{AreOnTheWay}
use Rattle.vg_ways.proofs.prefixes.Known.put_all.Given as goal

abbrev pub invariant-loop-edit : goal.invariant-loop-edit
invariant-loop-edit l = AreOnTheWay l.initial.self l.edit-items l.edit-index l.self
