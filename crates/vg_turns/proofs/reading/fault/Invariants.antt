use Rattle.std.proofs.Common.{◌≡◌, ◌≤◌, length}
use Rattle.vg_turns.specs.Turns.{fault_from}
use Rattle.vg_turns.proofs.reading.fault.Given as goal

-- the bytes before the place may stand
abbrev pub invariant-loop-rest : goal.invariant-loop-rest
invariant-loop-rest l = (fault_from l.workers l.place l.rest ≡ fault_from l.fn.workers 0 l.fn.file) × (l.place ≤ 1048576)

abbrev pub decreases-loop-rest : goal.decreases-loop-rest
decreases-loop-rest l = length l.rest
