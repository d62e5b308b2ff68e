use Rattle.std.proofs.Common.{ℕ, ◌≤◌, List, length, drop, sym, ap, subst, ◌∙◌}
use Rattle.vg_ip6.specs.Header as headers
use Rattle.vg_ip6.proofs.HeadLemmas.{datagram_long6, destination6_head}
use Rattle.vg_ip6.proofs.heads.destination_of.Goals as goal

pub destination6-requires : goal.destination6-requires
destination6-requires c =
    subst (λ (d : List ℕ). 40 ≤ length d) (sym (c.datagram.ensures ∙ ap (drop 14) c.head.ensures.head)) (datagram_long6 c.args.buffer.now c.head.ensures.kept c.requires)

pub returns : goal.returns
returns c =
    c.destination6.ensures ∙ ap headers.destination6 (c.datagram.ensures ∙ ap (drop 14) c.head.ensures.head) ∙ destination6_head c.args.buffer.now c.head.ensures.kept
