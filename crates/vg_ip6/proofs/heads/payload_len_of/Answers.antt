use Rattle.std.proofs.Common.{ℕ, ◌≤◌, List, length, drop, sym, ap, subst, ◌∙◌}
use Rattle.vg_ip6.specs.Header as headers
use Rattle.vg_ip6.proofs.HeadLemmas.{datagram_long6, payload_head}
use Rattle.vg_ip6.proofs.heads.payload_len_of.Goals as goal

pub payload_len-requires : goal.payload_len-requires
payload_len-requires c =
    subst (λ (d : List ℕ). 40 ≤ length d) (sym (c.datagram.ensures ∙ ap (drop 14) c.head.ensures.head)) (datagram_long6 c.args.buffer.now c.head.ensures.kept c.requires)

pub returns : goal.returns
returns c =
    c.payload_len.ensures ∙ ap headers.payload_len (c.datagram.ensures ∙ ap (drop 14) c.head.ensures.head) ∙ payload_head c.args.buffer.now c.head.ensures.kept
