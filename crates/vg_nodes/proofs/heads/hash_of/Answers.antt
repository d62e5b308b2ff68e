use Rattle.std.proofs.Common.{◌-◌, ap, ◌∙◌, arith}
use Rattle.vg_model.specs.Hash.{flow_hash}
use Rattle.vg_nodes.proofs.HeadLemmas.{hash_of_first, head_room}
use Rattle.vg_nodes.proofs.heads.hash_of.Goals as goal

pub returns : goal.returns
returns c =
    let p = c.args.buffer.now.packet in
    let big = head_room c.args.buffer.now c.head.ensures.kept in
    c.flow_hash.ensures ∙ ap (flow_hash c.args.kind) c.head.ensures.head ∙ hash_of_first c.args.kind (2112 - p.room) p.bytes (omega (arith, big))
