use Rattle.std.proofs.Common.{◌-◌, ap, ◌∙◌, arith}
use Rattle.vg_model.specs.Visit.{is_foreign}
use Rattle.vg_nodes.proofs.HeadLemmas.{foreign_of_first, head_room}
use Rattle.vg_nodes.proofs.heads.is_foreign_to.Goals as goal

pub returns : goal.returns
returns c =
    let p = c.args.buffer.now.packet in
    let big = head_room c.args.buffer.now c.head.ensures.kept in
    c.is_foreign.ensures ∙ ap (is_foreign c.args.interface.now) c.head.ensures.head ∙ foreign_of_first c.args.interface.now (2112 - p.room) p.bytes (omega (arith, big))
