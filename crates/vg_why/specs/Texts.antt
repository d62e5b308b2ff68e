-- What is shown of a report, against a plan and a capture; step by step.
use Rattle.std.specs.Prelude.{◌≡◌, ℕ, true, false, List, [], length}
use Rattle.vg_model.specs.Graph.{Graph}
use Rattle.vg_model.specs.Journey.{Journey}
use Rattle.vg_capture.specs.declared.captures.Capture.{Capture}
use Rattle.vg_plan.specs.Plan.{Planned}
use Rattle.vg_report.specs.declared.reports.Report.{Report}
use Rattle.vg_replay.specs.declared.inputs.Input.{Input}
use Rattle.vg_replay.specs.Tasks.{Task, AreTaken, IsFirstFault}
use Rattle.vg_replay.specs.Replays.{task_of}
use Rattle.vg_check.specs.declared.verdicts.Verdict.{Verdict}
use Rattle.vg_check.specs.declared.verdicts.Verdict.TheVariants as verdicts
use Rattle.vg_check.specs.Verdicts.{Case, case_of, AreTravelled, IsHeaded, task_by}
use Rattle.vg_files.specs.Kinds.{vgd_visit}
use Rattle.vg_files.specs.declared.refusals.Refusal.{Refusal}
use Rattle.vg_files.specs.declared.refusals.Refusal.TheVariants as refusals
use Rattle.vg_why.specs.Asked.{Asked, are_below}
use Rattle.vg_why.specs.Files.{gone_in, IsNoJourney}
use Rattle.vg_why.specs.Printed.{AreNamesOf, IsPrinted}
use Rattle.vg_why.specs.Trips.{gone_of}

-- a choice can't be
abbrev pub IsChoiceFault : Task → Verdict → Type 0
IsChoiceFault task (verdicts.Choices number) = IsFirstFault task number
IsChoiceFault task verdict = ⊥

abbrev pub IsChoiceRefusal : Task → Refusal → Type 0
IsChoiceRefusal task (refusals.Verdict verdict) = IsChoiceFault task verdict
IsChoiceRefusal task refusal = ⊥

-- the text is what is asked for of the journeys that were taken, by the names of the last graph
pub record IsTextOf (input : Input) (asked : Asked) (text : List ℕ) : Type 0 where
  pub js : List Journey
  pub taken : AreTaken (task_of vgd_visit input) js
  pub names : Graph
  pub are_names : AreNamesOf input.plan.now.graphs names
  pub is_text : IsPrinted (gone_of vgd_visit input js) names asked text

-- the text is what is asked for of the journeys under the choices that a report names
pub record IsToldOf (asked : Asked) (case : Case) (report : Report) (text : List ℕ) : Type 0 where
  pub js : List Journey
  pub taken : AreTaken (task_by case report) js
  pub below : are_below asked (length case.capture.packets) ≡ true
  pub names : Graph
  pub are_names : AreNamesOf case.plan.graphs names
  pub is_text : IsPrinted (gone_in case report.workers js) names asked text

-- why there is none of a report whose head fits: there is no packet of a number that is asked for, or a choice can't be
abbrev pub IsUntold : Asked → Case → Report → Refusal → Type 0
IsUntold asked case report refusals.Usage = are_below asked (length case.capture.packets) ≡ false
IsUntold asked case report (refusals.Verdict verdict) =
    IsChoiceFault (task_by case report) verdict × (are_below asked (length case.capture.packets) ≡ true)
IsUntold asked case report refusal = ⊥

-- the same of a text
pub record IsToldBy (asked : Asked) (case : Case) (text : List ℕ) : Type 0 where
  pub report : Report
  pub js : List Journey
  pub travelled : AreTravelled case report js
  pub below : are_below asked (length case.capture.packets) ≡ true
  pub names : Graph
  pub are_names : AreNamesOf case.plan.graphs names
  pub is_text : IsPrinted (gone_in case report.workers js) names asked text

abbrev pub IsUntoldBy : Asked → Case → Refusal → Type 0
IsUntoldBy asked case refusals.Usage = (report : Report) × IsHeaded case report × (are_below asked (length case.capture.packets) ≡ false)
IsUntoldBy asked case (refusals.Verdict verdict) = IsNoJourney asked case verdict
IsUntoldBy asked case refusal = ⊥

-- the case of a report's text
abbrev pub case_with : Planned → Capture → List ℕ → Case
case_with plan capture text = case_of vgd_visit plan capture 0 [] text
