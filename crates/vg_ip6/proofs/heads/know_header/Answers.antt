use Rattle.vg_ip6.proofs.HeadLemmas.{head_long6, unmarked}
use Rattle.vg_ip6.proofs.heads.know_header.Goals as goal

pub returns-clause-plain : goal.returns-clause-plain
returns-clause-plain c = unmarked c.args.buffer.now.packet c.know_contents.ensures.packet c.requires

pub returns-clause-long : goal.returns-clause-long
returns-clause-long c = head_long6 c.args.buffer.now c.know_contents.ensures c.requires
