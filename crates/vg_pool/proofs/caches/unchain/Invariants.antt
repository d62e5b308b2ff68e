use Rattle.std.proofs.Common.{◌≡◌, ◌+◌, length}
use Rattle.std.specs.Prelude.{vec_len, vec_capacity}
use Rattle.vg_pool.proofs.caches.unchain.Given as goal

abbrev pub invariant-loop-spare : goal.invariant-loop-spare
invariant-loop-spare l = (vec_len l.items + length l.rest ≡ vec_len l.initial.items + length l.initial.rest) × (vec_capacity l.items ≡ vec_capacity l.initial.items)

abbrev pub decreases-loop-spare : goal.decreases-loop-spare
decreases-loop-spare l = length l.rest
