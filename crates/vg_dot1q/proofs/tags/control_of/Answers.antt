use Rattle.std.proofs.Common.{◌≡◌, ℕ, ◌≤◌, List, length, ap, ◌∙◌, arith}
use Rattle.vg_model.specs.Bytes.{number16_at}
use Rattle.vg_pool.specs.Contents.{head_of}
use Rattle.vg_dot1q.proofs.HeadLemmas.{tag_head, control_head}
use Rattle.vg_dot1q.proofs.tags.control_of.Goals as goal

pub u16_at-requires : goal.u16_at-requires
u16_at-requires c =
    let long : 18 ≤ length (head_of c.args.buffer.now.packet) = tag_head c.args.buffer.now c.head.ensures.kept c.requires in
    let same : length c.head.result.now ≡ length (head_of c.args.buffer.now.packet) = ap length c.head.ensures.head in
    omega (arith, long, same)

pub returns : goal.returns
returns c =
    c.u16_at.ensures ∙ ap (λ (h : List ℕ). number16_at h 14) c.head.ensures.head ∙ control_head c.args.buffer.now c.head.ensures.kept
