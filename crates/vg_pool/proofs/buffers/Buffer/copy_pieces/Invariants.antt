use Rattle.std.proofs.Common.{◌≡◌, ◌≤◌, ◌++◌, take}
use Rattle.std.specs.Prelude.{vec_capacity}
use Rattle.vg_pool.specs.Contents.{begins}
use Rattle.vg_pool.proofs.buffers.Buffer.copy_pieces.Given as goal

abbrev pub invariant-loop-k : goal.invariant-loop-k
invariant-loop-k l = (l.list.items ≡ l.fn.list.items ++ take (begins l.self.packet.room l.k) l.self.packet.bytes) × (vec_capacity l.fn.list ≤ vec_capacity l.list)
