use Rattle.std.proofs.Common.{ℕ, ◌≤◌, List, length, drop, sym, ap, subst, ◌∙◌}
use Rattle.vg_ip6.specs.Header as headers
use Rattle.vg_ip6.proofs.HeadLemmas.{datagram_long6, hops_head}
use Rattle.vg_ip6.proofs.heads.hop_limit_of.Goals as goal

pub hop_limit-requires : goal.hop_limit-requires
hop_limit-requires c =
    subst (λ (d : List ℕ). 40 ≤ length d) (sym (c.datagram.ensures ∙ ap (drop 14) c.head.ensures.head)) (datagram_long6 c.args.buffer.now c.head.ensures.kept c.requires)

pub returns : goal.returns
returns c =
    c.hop_limit.ensures ∙ ap headers.hop_limit (c.datagram.ensures ∙ ap (drop 14) c.head.ensures.head) ∙ hops_head c.args.buffer.now c.head.ensures.kept
