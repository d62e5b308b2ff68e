use Rattle.std.specs.Prelude.{◌≡◌, map, length}
use Rattle.arrayvec.specs.ArrayVec.{array_vec_len}
use Rattle.vg_pool.specs.Settlement.{counts_of}
use Rattle.vg_pool.proofs.SettleLemmas.{IsSettled}
use Rattle.vg_pool.proofs.pools.Pool.settle.Given as goal

abbrev pub invariant-loop-cache : goal.invariant-loop-cache
invariant-loop-cache g l =
    (IsSettled g.T.PoolLedger.total l.fn.self l.self l.yielded l.taken.parts l.taken.amount l.given.parts l.given.amount l.allocated)
    × (l.counts.items ≡ map counts_of l.yielded) × (array_vec_len l.counts ≡ length l.yielded)
