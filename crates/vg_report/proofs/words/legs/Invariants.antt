use Rattle.std.proofs.Common.{◌≡◌, length}
use Rattle.vg_report.specs.Words.{with_legs, legs_of}
use Rattle.vg_report.proofs.words.legs.Given as goal

abbrev pub invariant-loop-text : goal.invariant-loop-text
invariant-loop-text l = legs_of l.workers l.generations l.word ≡ with_legs l.workers l.generations l.legs l.texts

abbrev pub decreases-loop-text : goal.decreases-loop-text
decreases-loop-text l = length l.texts
