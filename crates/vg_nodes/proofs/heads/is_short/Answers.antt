use Rattle.std.proofs.Common.{ℕ, ◌-◌, List, length, ap, ◌∙◌, arith}
use Rattle.std.specs.Prelude.{nat_lt}
use Rattle.vg_nodes.proofs.HeadLemmas.{shorter_than, head_room}
use Rattle.vg_nodes.proofs.heads.is_short.Goals as goal

pub returns : goal.returns
returns c =
    let p = c.args.buffer.now.packet in
    let big = head_room c.args.buffer.now c.head.ensures.kept in
    ap (λ (h : List ℕ). nat_lt (length h) 14) c.head.ensures.head ∙ shorter_than (2112 - p.room) 14 p.bytes (omega (arith, big))
