use Rattle.vg_script.proofs.PartLemmas.{NoGapBefore}
use Rattle.vg_script.proofs.address6.gap.Given as goal

abbrev pub invariant-loop-place : goal.invariant-loop-place
invariant-loop-place l = NoGapBefore l.text l.place
