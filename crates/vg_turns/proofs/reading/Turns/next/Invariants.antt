use Rattle.std.proofs.Common.{◌≡◌, length}
use Rattle.vg_turns.specs.Turns.{steps_said}
use Rattle.vg_turns.proofs.reading.Turns.next.Given as goal

-- the bytes read so far say no step
abbrev pub invariant-loop-self : goal.invariant-loop-self
invariant-loop-self l = steps_said l.self-inside.workers l.self-inside.rest.now ≡ l.fn.self

abbrev pub decreases-loop-self : goal.decreases-loop-self
decreases-loop-self l = length l.self-inside.rest.now
