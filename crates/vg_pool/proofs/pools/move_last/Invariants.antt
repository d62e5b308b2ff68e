use Rattle.std.specs.Prelude.{◌≡◌, ◌+◌, vec_len, vec_capacity}
use Rattle.vg_pool.proofs.pools.move_last.Given as goal

abbrev pub invariant-loop : goal.invariant-loop
invariant-loop l =
    (vec_len l.from + l.counter ≡ vec_len l.fn.from) × (vec_len l.to ≡ vec_len l.fn.to + l.counter)
    × (vec_capacity l.from ≡ vec_capacity l.fn.from) × (vec_capacity l.to ≡ vec_capacity l.fn.to)
