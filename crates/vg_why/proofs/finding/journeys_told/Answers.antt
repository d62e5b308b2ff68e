-- For `journeys_told`: its clauses `stop` and `text`.
use Rattle.std.proofs.Common.{◌≡◌, true, sym, ap, ◌∙◌, length}
use Rattle.vg_check.specs.Verdicts.{Case, task_by}
use Rattle.vg_why.specs.Asked.{Asked, asked_shown, are_below}
use Rattle.vg_why.specs.Texts.{case_with, IsChoiceRefusal, IsUntold}
use Rattle.vg_why.proofs.FoundLemmas.{untold_choice}
use Rattle.vg_why.proofs.RunLemmas.{on_refusal}
use Rattle.vg_why.proofs.finding.journeys_told.Goals as goal

pub returns-in-Err-clause-stop : goal.returns-in-Err-clause-stop
returns-in-Err-clause-stop c = λ bytes.
    let asked : Asked = asked_shown c.args.asked.now in
    let case : Case = case_with c.args.plan.now c.args.capture.now bytes in
    let below : are_below asked (length c.args.capture.now.packets) ≡ true = ap (are_below asked) (sym c.count.ensures) ∙ sym c.are_below.ensures ∙ c.if-not-are_below.false in
    on_refusal (IsChoiceRefusal (task_by case c.args.report.now)) (IsUntold asked case c.args.report.now) c.in-Err.stop
    (λ refusal h. untold_choice asked case c.args.report.now refusal below h) c.in-Err.ensures.stop

pub returns-in-Ok-text_of-clause-text : goal.returns-in-Ok-text_of-clause-text
returns-in-Ok-text_of-clause-text c = λ bytes.
    let asked : Asked = asked_shown c.args.asked.now in
    let below : are_below asked (length c.args.capture.now.packets) ≡ true = ap (are_below asked) (sym c.count.ensures) ∙ sym c.are_below.ensures ∙ c.if-not-are_below.false in
    let told = c.in-Ok-text_of.ensures in
    record {
      js = told.js;
      taken = told.taken;
      below = below;
      names = told.names;
      are_names = told.are_names;
      is_text = rw c.from_vec.ensures told.is_text;
    }
