use Rattle.vg_report.proofs.WordLemmas.{IsReadTo}
use Rattle.vg_report.proofs.words.value_of.Given as goal

abbrev pub invariant-loop-byte : goal.invariant-loop-byte
invariant-loop-byte l = IsReadTo l.word l.byte-index l.number
