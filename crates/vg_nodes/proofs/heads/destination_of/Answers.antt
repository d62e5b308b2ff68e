use Rattle.std.proofs.Common.{ℕ, ◌≤◌, List, length, drop, sym, ap, subst, ◌∙◌}
use Rattle.vg_model.specs.Visit.{destination}
use Rattle.vg_nodes.proofs.HeadLemmas.{head_long, datagram_long, destination_head}
use Rattle.vg_nodes.proofs.heads.destination_of.Goals as goal

pub datagram_in-requires : goal.datagram_in-requires
datagram_in-requires c =
    let kept = c.head.ensures.kept in
    head_long c.args.buffer.now kept c.head.result.now c.head.ensures.head (kept.packet.sound c.requires)

pub destination-requires : goal.destination-requires
destination-requires c =
    let sound = c.head.ensures.kept.packet.sound c.requires in
    subst (λ (d : List ℕ). 20 ≤ length d) (sym (c.datagram_in.ensures ∙ ap (drop 14) c.head.ensures.head)) (datagram_long c.args.buffer.now c.head.ensures.kept sound)

pub returns : goal.returns
returns c =
    c.destination.ensures ∙ ap destination (c.datagram_in.ensures ∙ ap (drop 14) c.head.ensures.head) ∙ destination_head c.args.buffer.now c.head.ensures.kept
