use Rattle.std.proofs.Common.{◌≡◌, ℕ, suc, ◌-◌, ◌<◌, length, get_or, [], sym, ap, ◌∙◌, arith}
use Rattle.vg_pool.specs.Contents.{Contents, part}
use Rattle.vg_pool.specs.declared.buffers.Block.{Block}
use Rattle.vg_pool.proofs.BlockLemmas.{first_part, further_part}
use Rattle.vg_pool.proofs.buffers.Buffer.piece.Goals as goal

pub returns-then-k-eq0 : goal.returns-then-k-eq0
returns-then-k-eq0 c =
    let b : Block = c.self.inside.block.value in
    let bytes : c.bytes.result.now ≡ b.area.bytes = c.bytes.ensures ∙ ap (λ (k : Block). k.area.bytes) c.deref-block.ensures in
    bytes ∙ sym (first_part b c.self.invariant.block) ∙ ap (λ (k : Contents). part k.packet 0) c.self.view_is ∙ ap (part c.args.self.now.packet) (sym c.if-k-eq0.true)

pub returns-else-k-eq0 : goal.returns-else-k-eq0
returns-else-k-eq0 c =
    let b : Block = c.self.inside.block.value in
    let j : ℕ = c.args.k - 1 in
    let is : suc j ≡ c.args.k = omega arith in
    let pieces : suc (length b.rest) ≡ c.args.self.now.pieces = ap (λ (k : Contents). k.pieces) c.self.view_is in
    let below : j < length b.rest = omega (arith, pieces, c.requires, is) in
    let bytes : c.part.result.now ≡ get_or b.rest j [] = c.part.ensures ∙ ap (λ (k : Block). get_or k.rest j []) c.deref-block.ensures in
    bytes ∙ sym (further_part b c.self.invariant.block j below) ∙ ap (λ (k : Contents). part k.packet (suc j)) c.self.view_is ∙ ap (part c.args.self.now.packet) is
