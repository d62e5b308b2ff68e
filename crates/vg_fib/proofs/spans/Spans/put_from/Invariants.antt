use Rattle.std.proofs.Common.{◌+◌}
use Rattle.vg_fib.proofs.CutLemmas.{HasPut, slots_of}
use Rattle.vg_fib.proofs.spans.Spans.put_from.Given as goal

-- the first so many places of the order are put in too
abbrev pub invariant-loop-place : goal.invariant-loop-place
invariant-loop-place l = HasPut l.slots (l.empty + l.known) (slots_of l.empty l.place-items) l.place-index l.self
