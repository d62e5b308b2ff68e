-- What a memory has once a buffer that it lent comes back.
use Rattle.std.specs.Prelude.{ℕ, List, Option, Some, slice_set}
use Rattle.std.specs.Borrow.{Lends, MutBor, Fml}
use Rattle.vg_pool.specs.Contents.{Contents}
use Rattle.vg_pool.specs.contracts.buffers.Buffer.{the_row as buffer_row}
use Rattle.vg_frame.specs.contracts.memory.BufferMemory.{the_row}

-- the index has what was last written through the borrow, and every other index has what it had
abbrev pub LendsBuffer : MutBor (List (Option Contents)) → ℕ → MutBor Contents → Fml
LendsBuffer memory index buffer =
    Lends the_row buffer_row memory buffer (λ contents. slice_set memory.now index (Some contents))
