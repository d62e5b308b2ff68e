use Rattle.std.proofs.Common.{drop, ap, ◌∙◌}
use Rattle.vg_ip6.specs.Header as headers
use Rattle.vg_ip6.proofs.HeadLemmas.{lacks_head}
use Rattle.vg_ip6.proofs.heads.lacks_header.Goals as goal

pub returns : goal.returns
returns c =
    c.is_no_header.ensures ∙ ap headers.lacks_header (c.datagram.ensures ∙ ap (drop 14) c.head.ensures.head) ∙ lacks_head c.args.buffer.now c.head.ensures.kept
