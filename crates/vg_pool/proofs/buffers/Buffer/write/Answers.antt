use Rattle.std.proofs.Common.{◌≡◌, ℕ, ◌+◌, ◌≤◌, true, List, length, refl, sym, ap, subst, ◌∙◌}
use Rattle.vg_model.specs.Bytes.{overwritten}
use Rattle.vg_model.proofs.Rewrites.{length-overwritten}
use Rattle.vg_pool.specs.Areas.{Held}
use Rattle.vg_pool.specs.Blocks.{contents, IsAlone}
use Rattle.vg_pool.specs.Contents.{Contents, Passes, written, head_of}
use Rattle.vg_pool.specs.declared.buffers.Block.{Block}
use Rattle.vg_pool.proofs.BlockLemmas.{head_is, with_area, written_head}
use Rattle.vg_pool.proofs.buffers.Buffer.write.Goals as goal

pub invariant_of-self : goal.invariant_of-self
invariant_of-self c =
    let b : Block = c.deref_mut.result.now in
    let w : List ℕ = c.args.bytes.now in
    let at : ℕ = c.args.at in
    let is : IsAlone b = subst IsAlone (sym c.deref_mut.ensures.value) c.self.invariant in
    let view : contents b ≡ c.args.self.now = ap contents c.deref_mut.ensures.value ∙ c.self.view_is in
    let within : at + length w ≤ length (head_of (contents b).packet) = subst (λ (k : Contents). at + length w ≤ length (head_of k.packet)) (sym view) c.requires.within in
    let fits : at + length w ≤ length b.area.bytes = subst (λ (h : List ℕ). at + length w ≤ length h) (head_is b is.block) within in
    let new : Held = record b.area { bytes = overwritten b.area.bytes at w } in
    let sound : b.checked ≡ true → Passes (written (contents b).packet at w) = subst (λ (k : Contents). k.packet.checked ≡ true → Passes (written k.packet at w)) (sym view) c.requires.sound in
    subst (λ (a : Held). IsAlone (record b { area = a })) (sym c.write.ensures)
    (with_area b new is refl (length-overwritten b.area.bytes at w fits) (λ checked. written_head b at w fits (sound checked)))
