use Rattle.std.proofs.Common.{ℕ, ◌-◌, List, ap, ◌∙◌, arith}
use Rattle.vg_model.specs.Bytes.{number16_at}
use Rattle.vg_nodes.proofs.HeadLemmas.{number16_of_first, head_room}
use Rattle.vg_nodes.proofs.heads.type_of.Goals as goal

pub returns : goal.returns
returns c =
    let p = c.args.buffer.now.packet in
    let big = head_room c.args.buffer.now c.head.ensures.kept in
    c.u16_at.ensures ∙ ap (λ (h : List ℕ). number16_at h 12) c.head.ensures.head ∙ number16_of_first (2112 - p.room) 12 p.bytes (omega (arith, big))
