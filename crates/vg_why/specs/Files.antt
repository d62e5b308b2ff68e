-- The files of a call, and what is found of them.
use Rattle.std.specs.Prelude.{◌≡◌, ◌⊎◌, ℕ, ◌+◌, true, false, List, [], length, Option}
use Rattle.vg_model.specs.Graph.{Graph}
use Rattle.vg_model.specs.Journey.{Journey}
use Rattle.vg_capture.specs.declared.captures.Capture.{Capture}
use Rattle.vg_capture.specs.Savefile.{largest_file}
use Rattle.vg_outside.specs.Files.{Files, FirstBytes}
use Rattle.vg_plan.specs.Plan.{Planned}
use Rattle.vg_report.specs.declared.reports.Report.{Report}
use Rattle.vg_script.specs.Reading.{largest_script}
use Rattle.vg_check.specs.declared.verdicts.Verdict.{Verdict}
use Rattle.vg_check.specs.declared.verdicts.Verdict.TheVariants as verdicts
use Rattle.vg_check.specs.Verdicts.{Case, case_of, IsHeaded, AreTravelled, IsVerdict}
use Rattle.vg_files.specs.Checks.{CheckBytes, AreInputs, inputs_in, largest_output}
use Rattle.vg_files.specs.Files.{IsThere}
use Rattle.vg_files.specs.Kinds.{vgd_visit}
use Rattle.vg_files.specs.Stops.{IsRefusedFor}
use Rattle.vg_files.specs.declared.refusals.Refusal.{Refusal}
use Rattle.vg_files.specs.declared.refusals.Refusal.TheVariants as refusals
use Rattle.vg_why.specs.declared.loading.WhyFiles.{WhyFiles}
use Rattle.vg_why.specs.Asked.{Ask, Asked, are_below}
use Rattle.vg_why.specs.Journeys.{Gone}
use Rattle.vg_why.specs.Printed.{AreNamesOf, IsPrinted}

-- what a folder gave for the files of a call, of each up to its greatest length and one byte more; there is no savefile of what was transmitted
pub record AreLoaded (files : Option Files) (ask : Ask) (bytes : CheckBytes) : Type 0 where
  pub capture : FirstBytes files ask.capture (largest_file + 1) bytes.capture
  pub script : FirstBytes files ask.script (largest_script + 1) bytes.script
  pub report : FirstBytes files ask.report (largest_output + 1) bytes.report
  pub no_tx : bytes.tx ≡ []

-- the file is loaded next: the capture, the script or the report, each once those before it were there
abbrev pub IsLoadedNext : Option Files → Ask → List ℕ → Type 0
IsLoadedNext files ask name =
    (name ≡ ask.capture) ⊎ (((name ≡ ask.script) × IsThere files ask.capture)
    ⊎ ((name ≡ ask.report) × IsThere files ask.capture × IsThere files ask.script))

-- what was loaded
abbrev pub bytes_of : WhyFiles → CheckBytes
bytes_of files = record { capture = files.capture; script = files.script; tx = []; report = files.report }

-- the report against the capture and the plan, as a check has them; how many slots a queue has isn't looked at
abbrev pub case_in : CheckBytes → Capture → Planned → Case
case_in bytes capture plan = case_of vgd_visit plan capture 0 bytes.tx bytes.report

-- the journeys of the packets of a case, on so many workers
abbrev pub gone_in : Case → (workers : ℕ) → List Journey → Gone
gone_in case workers js = record { visit = case.visit; plan = case.plan; capture = case.capture; workers = workers; js = js }

-- the capture and the script are accepted, the report is one whose choices give all packets their journeys, there is a packet of each number that is
-- asked for, and the text is what is asked for of these journeys: what is printed of a packet is its journey under the choices that the report names
pub record IsFound (asked : Asked) (bytes : CheckBytes) (text : List ℕ) : Type 0 where
  pub capture : Capture
  pub plan : Planned
  pub inputs : AreInputs bytes capture plan
  pub report : Report
  pub js : List Journey
  pub travelled : AreTravelled (case_in bytes capture plan) report js
  pub below : are_below asked (length capture.packets) ≡ true
  pub names : Graph
  pub are_names : AreNamesOf plan.graphs names
  pub is_text : IsPrinted (gone_in (case_in bytes capture plan) report.workers js) names asked text

-- the verdict says why a report names no journeys: it is none, its head doesn't fit, or a choice of it can't be. Choices are looked at once there is
-- a packet of each number that is asked for
abbrev pub IsNoJourney : Asked → Case → Verdict → Type 0
IsNoJourney asked case (verdicts.Report line cause) = IsVerdict case (verdicts.Report line cause)
IsNoJourney asked case verdicts.Head = IsVerdict case verdicts.Head
IsNoJourney asked case (verdicts.Choices number) = IsVerdict case (verdicts.Choices number) × (are_below asked (length case.capture.packets) ≡ true)
IsNoJourney asked case (verdicts.Queue number) = ⊥
IsNoJourney asked case verdicts.Text = ⊥
IsNoJourney asked case verdicts.Tx = ⊥
IsNoJourney asked case verdicts.Yes = ⊥

-- a report with a fitting head has no packet of a number that is asked for
pub record IsBeyond (asked : Asked) (bytes : CheckBytes) : Type 0 where
  pub capture : Capture
  pub plan : Planned
  pub inputs : AreInputs bytes capture plan
  pub report : Report
  pub headed : IsHeaded (case_in bytes capture plan) report
  pub beyond : are_below asked (length capture.packets) ≡ false

-- why nothing is printed of what was loaded: the capture, the script or the report is refused, or there is no packet of a number that is asked for
abbrev pub IsRefusedBy : Asked → CheckBytes → Refusal → Type 0
IsRefusedBy asked bytes refusals.Usage = IsBeyond asked bytes
IsRefusedBy asked bytes (refusals.Load name) = ⊥
IsRefusedBy asked bytes (refusals.Capture fault) = IsRefusedFor 1 (inputs_in bytes) (refusals.Capture fault)
IsRefusedBy asked bytes (refusals.Script error) = IsRefusedFor 1 (inputs_in bytes) (refusals.Script error)
IsRefusedBy asked bytes (refusals.Turns place) = ⊥
IsRefusedBy asked bytes (refusals.Save name) = ⊥
IsRefusedBy asked bytes (refusals.Verdict verdict) =
    (capture : Capture) × (plan : Planned) × AreInputs bytes capture plan × IsNoJourney asked (case_in bytes capture plan) verdict
