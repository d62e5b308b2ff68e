use Rattle.std.proofs.Common.{◌≡◌, suc, List, length, sym, ap, subst, ◌∙◌, arith}
use Rattle.vg_model.specs.declared.fates.Leg.{Leg}
use Rattle.vg_pool.specs.Areas.{Held}
use Rattle.vg_pool.specs.Blocks.{contents, IsAlone}
use Rattle.vg_pool.specs.Contents.{Contents, laid}
use Rattle.vg_pool.specs.declared.buffers.Block.{Block}
use Rattle.vg_pool.proofs.BlockLemmas.{Laying, IsLaying, filled_block, filled_view, filled_is}
use Rattle.vg_pool.proofs.buffers.Buffer.lay.Goals as goal

pub invariant_of-self : goal.invariant_of-self
invariant_of-self c =
    let b : Block = c.deref_mut-block.result.now in
    let alone : IsAlone b = subst IsAlone (sym c.deref_mut-block.ensures.value) c.self.invariant in
    let pieces : suc (length b.rest) ≡ c.args.self.now.pieces = ap (λ (k : Block). suc (length k.rest)) c.deref_mut-block.ensures.value ∙ ap (λ (k : Contents). k.pieces) c.self.view_is in
    let l : Laying = record { number = c.args.number; room = c.args.room; bytes = c.args.bytes.now; first = c.min-first.result; parts = c.fill-2.new.self } in
    let is : IsLaying b l = record { small = c.requires.room; least = c.min-first.ensures; over = c.fill-2.ensures; enough = omega (arith, c.requires.fits, pieces) } in
    let filled : Block = filled_block b l is in
    subst (λ (a : Held). IsAlone (record filled { area = a; legs = c.new-block.result })) (sym c.fill.ensures)
    (subst (λ (legs : List Leg). IsAlone (record filled { legs = legs })) (sym c.new-block.ensures) (filled_is b l is alone c.requires.len c.know_bytes.ensures))

pub returns : goal.returns
returns c =
    let b : Block = c.deref_mut-block.result.now in
    let pieces : suc (length b.rest) ≡ c.args.self.now.pieces = ap (λ (k : Block). suc (length k.rest)) c.deref_mut-block.ensures.value ∙ ap (λ (k : Contents). k.pieces) c.self.view_is in
    let l : Laying = record { number = c.args.number; room = c.args.room; bytes = c.args.bytes.now; first = c.min-first.result; parts = c.fill-2.new.self } in
    let is : IsLaying b l = record { small = c.requires.room; least = c.min-first.ensures; over = c.fill-2.ensures; enough = omega (arith, c.requires.fits, pieces) } in
    let filled : Block = filled_block b l is in
    let with_area : Held → Contents = λ a. contents (record filled { area = a; legs = c.new-block.result }) in
    let with_legs : List Leg → Contents = λ legs. contents (record filled { legs = legs }) in
    ap with_area c.fill.ensures ∙ ap with_legs c.new-block.ensures ∙ filled_view b l is ∙ ap (λ n. laid n c.args.number c.args.room c.args.bytes.now) pieces
