use Rattle.std.proofs.Common.{ℕ, ◌≤◌, List, length, drop, sym, ap, subst, ◌∙◌}
use Rattle.vg_ip6.specs.Header as headers
use Rattle.vg_ip6.proofs.HeadLemmas.{datagram_long6, hash6_head}
use Rattle.vg_ip6.proofs.heads.flow_hash_of.Goals as goal

pub flow_hash6-requires : goal.flow_hash6-requires
flow_hash6-requires c =
    subst (λ (d : List ℕ). 40 ≤ length d) (sym (c.datagram.ensures ∙ ap (drop 14) c.head.ensures.head)) (datagram_long6 c.args.buffer.now c.head.ensures.kept c.requires)

pub returns : goal.returns
returns c =
    c.flow_hash6.ensures ∙ ap headers.flow_hash6 (c.datagram.ensures ∙ ap (drop 14) c.head.ensures.head) ∙ hash6_head c.args.buffer.now c.head.ensures.kept
