use Rattle.std.proofs.Common.{length}
use Rattle.vg_capture.proofs.PlaceLemmas.{IsSoFar}
use Rattle.vg_capture.proofs.reading.read_places.Given as goal

abbrev pub invariant-loop-rest : goal.invariant-loop-rest
invariant-loop-rest g l = IsSoFar g.T.ByteOrder.number_of l.big l.file l.place l.rest l.places.items

abbrev pub decreases-loop-rest : goal.decreases-loop-rest
decreases-loop-rest g l = length l.rest
