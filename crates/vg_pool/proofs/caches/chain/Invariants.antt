use Rattle.std.proofs.Common.{◌≡◌, ◌+◌}
use Rattle.std.specs.Prelude.{vec_len, vec_capacity}
use Rattle.vg_pool.specs.Contents.{nothing}
use Rattle.vg_pool.proofs.caches.chain.Given as goal

abbrev pub invariant-loop : goal.invariant-loop
invariant-loop l = (l.buffer ≡ nothing l.counter) × (vec_len l.items + l.counter ≡ vec_len l.fn.items) × (vec_capacity l.items ≡ vec_capacity l.fn.items)
