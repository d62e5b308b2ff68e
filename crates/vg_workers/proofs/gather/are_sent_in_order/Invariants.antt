use Rattle.std.proofs.Common.{ℕ, List, map}
use Rattle.vg_workers.proofs.OrderLemmas.{AreSoFarInOrder}
use Rattle.vg_workers.proofs.gather.are_sent_in_order.Given as goal

abbrev pub invariant-loop-k : goal.invariant-loop-k
invariant-loop-k l = AreSoFarInOrder (map (λ (packet : ℕ × List ℕ). packet.0) l.sent) l.k l.least
