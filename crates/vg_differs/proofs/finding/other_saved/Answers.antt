-- For `other_saved`: the savefile of the packets' ways, and the place that is another.
use Rattle.std.proofs.Common.{arith}
use Rattle.vg_check.specs.Verdicts.{Case}
use Rattle.vg_differs.specs.Findings.{case_checked}
use Rattle.vg_differs.proofs.FindingLemmas.{file_found}
use Rattle.vg_differs.proofs.finding.other_saved.Goals as goal

pub other_file-requires : goal.other_file-requires
other_file-requires g c = let e = c.in_ok-replayed.ensures.many in omega (arith, e)

pub returns : goal.returns
returns g c =
    let case : Case = case_checked g.K.KindSet.meaning c.args.checked.now in
    file_found case c.in_ok-replayed.field-0-0 c.in_ok-replayed.replayed c.in_ok-replayed.ensures c.in_ok-other.other c.in_ok-other.ensures
