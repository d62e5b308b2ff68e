use Rattle.std.proofs.Common.{length}
use Rattle.vg_script.proofs.ReadLemmas.{IsRead}
use Rattle.vg_script.proofs.reading.parse_script.Given as goal

abbrev pub invariant-loop-rest : goal.invariant-loop-rest
invariant-loop-rest l = IsRead l.text l.line l.rest l.reader

abbrev pub decreases-loop-rest : goal.decreases-loop-rest
decreases-loop-rest l = length l.rest
