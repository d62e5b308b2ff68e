use Rattle.std.proofs.Common.{◌≡◌, ◌-◌, ◌≤◌, ◌++◌, length, List, ℕ, ap, ◌∙◌, arith}
use Rattle.std.proofs.lemmas.Bool.{MatchBool-at_true}
use Rattle.std.proofs.lemmas.List.{take_all}
use Rattle.vg_pool.specs.Contents.{Contents}
use Rattle.vg_pool.proofs.buffers.Buffer.copy_into.Goals as goal

pub returns-then-is_single-clause-bytes : goal.returns-then-is_single-clause-bytes
returns-then-is_single-clause-bytes c =
    let b : Contents = c.args.self.now in
    let one : b.pieces ≡ 1 = MatchBool-at_true _ _ c.if-is_single.true c.is_single.ensures in
    let fits : length b.packet.bytes ≤ 2112 - b.packet.room = (let all = c.head.ensures.kept.fits in omega (arith, one, all)) in
    c.append.ensures.items
    ∙ ap (λ (l : List ℕ). c.args.list.now.items ++ l) (c.head.ensures.head ∙ take_all (2112 - b.packet.room) b.packet.bytes fits)
