-- For `find_difference`: the packet at fault is there, the packets have their ways, and what is found belongs to the verdict.
use Rattle.std.proofs.Common.{ap, subst, ◌∙◌}
use Rattle.vg_script.specs.Events.{events, generation_at}
use Rattle.vg_check.specs.declared.verdicts.Verdict.TheVariants as verdicts
use Rattle.vg_check.specs.Verdicts.{Case, IsVerdict}
use Rattle.vg_differs.specs.Findings.{case_checked}
use Rattle.vg_differs.proofs.FindingLemmas.{fault_within}
use Rattle.vg_differs.proofs.finding.find_difference.Goals as goal

pub time-time-requires : goal.time-time-requires
time-time-requires g c =
    let case : Case = case_checked g.K.KindSet.meaning c.args.checked.now in
    let v : IsVerdict case (verdicts.Choices c.in-Choices.number) = subst (IsVerdict case) c.in-Choices.is c.requires in
    fault_within case v.0 c.in-Choices.number v.2

pub other_text-requires : goal.other_text-requires
other_text-requires g c =
    let case : Case = case_checked g.K.KindSet.meaning c.args.checked.now in
    let v : IsVerdict case verdicts.Text = subst (IsVerdict case) c.in-Text.is c.requires in
    record { report = v.0; js = v.1; pushed = v.2 }

pub other_saved-requires : goal.other_saved-requires
other_saved-requires g c =
    let case : Case = case_checked g.K.KindSet.meaning c.args.checked.now in
    let v : IsVerdict case verdicts.Tx = subst (IsVerdict case) c.in-Tx.is c.requires in
    record { report = v.0; js = v.1; pushed = v.2 }

pub returns-in-Choices : goal.returns-in-Choices
returns-in-Choices g c = (c.in-Choices.is, (c.time-time.ensures, c.generation_of.ensures ∙ ap (generation_at (events c.args.checked.now.plan.now.script)) c.time-time.ensures))
