-- For `one_worker_leaves_no_choice`: with one worker a run has one output.
use Rattle.std.proofs.Common.{◌≡◌, ℕ, List, sym, ap, subst, ◌∙◌, length}
use Rattle.std.proofs.lemmas.Option.{same_Some}
use Rattle.vg_model.specs.Graph.{Graph}
use Rattle.vg_model.specs.Visit.{Visit}
use Rattle.vg_model.specs.Journey.{Journey, Choice, journeys, sent}
use Rattle.vg_model.specs.Lawful.{AreLawfulChoices}
use Rattle.vg_capture.specs.declared.captures.Capture.{Capture}
use Rattle.vg_capture.specs.Savefile.{savefile}
use Rattle.vg_report.specs.declared.reports.Report.{Report}
use Rattle.vg_check.specs.Output.{Setting, IsOutput, choices_of, report_of, frames_of}
use Rattle.vg_check.specs.OneWorker.{only_choices}
use Rattle.vg_check.proofs.OneWorkerLemmas.{only_from}

-- nothing is left to choose
pub only : (visit : Visit) (graphs : List Graph) (slots : ℕ) (first : ℕ → ℕ) (packets : List (List ℕ)) (choices : List Choice) (js : List Journey)
    → AreLawfulChoices visit graphs 1 slots first packets choices js → choices ≡ only_choices first 0 packets
only visit graphs slots first packets choices js lawful =
    only_from visit graphs (length graphs) first 0 packets choices js lawful.are_journeys lawful.lawful.generations

-- so two outputs are one
pub one_output : (visit : Visit) (graphs : List Graph) (first : ℕ → ℕ) (setting : Setting) (capture : Capture) (report other : Report) (tx other_tx : List ℕ) → setting.workers ≡ 1
    → IsOutput visit graphs first setting capture report tx → IsOutput visit graphs first setting capture other other_tx → (report ≡ other) × (tx ≡ other_tx)
one_output visit graphs first setting capture report other tx other_tx one a b =
    let lawful : AreLawfulChoices visit graphs 1 setting.queue first (frames_of capture) (choices_of report) a.js =
    subst (λ w. AreLawfulChoices visit graphs w setting.queue first (frames_of capture) (choices_of report) a.js) one a.lawful in
    let other_lawful : AreLawfulChoices visit graphs 1 setting.queue first (frames_of capture) (choices_of other) b.js =
    subst (λ w. AreLawfulChoices visit graphs w setting.queue first (frames_of capture) (choices_of other) b.js) one b.lawful in
    let same : choices_of report ≡ choices_of other =
    only visit graphs setting.queue first (frames_of capture) (choices_of report) a.js lawful
    ∙ sym (only visit graphs setting.queue first (frames_of capture) (choices_of other) b.js other_lawful) in
    let js : a.js ≡ b.js = same_Some _ _ (sym lawful.are_journeys ∙ (ap (journeys visit graphs 1 (frames_of capture)) same ∙ other_lawful.are_journeys)) in
    (a.reported ∙ (ap (report_of setting graphs) js ∙ sym b.reported), a.saved ∙ (ap (λ (l : List Journey). savefile capture (sent l)) js ∙ sym b.saved))
