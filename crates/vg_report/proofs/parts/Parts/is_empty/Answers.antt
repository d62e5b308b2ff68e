use Rattle.vg_report.proofs.SplitLemmas.{no_part_left}
use Rattle.vg_report.proofs.parts.Parts.is_empty.Goals as goal

pub returns : goal.returns
returns c = no_part_left c.self.inside.mark c.self.inside.rest c.is_none.result c.args.self.now c.is_none.ensures c.self.view_is
