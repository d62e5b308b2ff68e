use Rattle.std.specs.Prelude.{◌≡◌, ◌≤◌, length, vec_len, vec_capacity}
use Rattle.vg_pool.proofs.pools.buffers.Given as goal

abbrev pub invariant-loop-plot : goal.invariant-loop-plot
invariant-loop-plot l = (vec_len l.list ≡ length l.yielded) × (l.fn.total ≤ vec_capacity l.list)
