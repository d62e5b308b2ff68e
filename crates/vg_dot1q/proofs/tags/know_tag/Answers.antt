use Rattle.vg_dot1q.proofs.HeadLemmas.{tag_head}
use Rattle.vg_dot1q.proofs.tags.know_tag.Goals as goal

pub returns : goal.returns
returns c = tag_head c.args.buffer.now c.know_contents.ensures c.requires
