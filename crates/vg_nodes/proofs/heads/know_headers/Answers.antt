use Rattle.vg_nodes.proofs.HeadLemmas.{header_long}
use Rattle.vg_nodes.proofs.heads.know_headers.Goals as goal

pub returns : goal.returns
returns c = header_long c.args.buffer.now c.know_contents.ensures (c.know_contents.ensures.packet.sound c.requires)
