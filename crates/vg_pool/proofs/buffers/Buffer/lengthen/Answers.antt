use Rattle.std.proofs.Common.{◌≡◌, ℕ, suc, List, length, sym, ap, subst, ◌∙◌, arith}
use Rattle.vg_pool.specs.Blocks.{contents, IsAlone}
use Rattle.vg_pool.specs.Contents.{Contents, nothing}
use Rattle.vg_pool.specs.declared.buffers.Block.{Block}
use Rattle.vg_pool.proofs.BlockLemmas.{with_one_more}
use Rattle.vg_pool.proofs.buffers.Buffer.lengthen.Goals as goal

pub invariant_of-self : goal.invariant_of-self
invariant_of-self c =
    let b : Block = c.deref_mut.result.now in
    let is : IsAlone b = subst IsAlone (sym c.deref_mut.ensures.value) c.self.invariant in
    let view : contents b ≡ c.args.self.now = ap contents c.deref_mut.ensures.value ∙ c.self.view_is in
    let pieces : suc (length b.rest) ≡ c.args.self.now.pieces = ap (λ (k : Contents). k.pieces) view in
    let none : contents b ≡ nothing (suc (length b.rest)) = view ∙ c.requires.empty ∙ ap nothing (sym pieces) in
    subst (λ (parts : List (List ℕ)). IsAlone (record b { rest = parts })) (sym c.push.ensures)
    (with_one_more b is none (omega (arith, pieces, c.requires.few)))
