use Rattle.std.proofs.Common.{◌≡◌, ◌+◌, ◌≤◌, length, sym, ap, subst, arith}
use Rattle.vg_pool.specs.Contents.{Contents, head_of}
use Rattle.vg_dot1q.proofs.nodes.dot1q_rewrite.dot1q_rewrite.Goals as goal

pub write-requires-clause-within : goal.write-requires-clause-within
write-requires-clause-within c =
    let two : length c.renumbered-control.result ≡ 2 = ap length c.renumbered-control.ensures in
    let long : 18 ≤ length (head_of c.args.buffer.now.packet) = c.know_tag.ensures in
    subst (λ (b : Contents). 14 + length c.renumbered-control.result ≤ length (head_of b.packet)) (sym c.unmark.ensures) (omega (arith, two, long))
