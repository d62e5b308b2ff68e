use Rattle.std.proofs.Common.{◌≡◌, length}
use Rattle.vg_script.specs.Lines.{words}
use Rattle.vg_script.proofs.words.Words.next.Given as goal

abbrev pub invariant-loop-self : goal.invariant-loop-self
invariant-loop-self l = words l.self-inside.0.now ≡ words l.initial.self-inside.0.now

abbrev pub decreases-loop-self : goal.decreases-loop-self
decreases-loop-self l = length l.self-inside.0.now
