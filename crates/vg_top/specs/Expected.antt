-- Which status is to be expected of a call, from its words and the files that the folder tells.
use Rattle.std.specs.Prelude.{◌≡◌, ◌⊎◌, ℕ, List, IsSome, IfSome, Result, Ok, Err}
use Rattle.vg_outside.specs.Files.{Rose}
use Rattle.vg_capture.specs.declared.captures.Capture.{Capture}
use Rattle.vg_capture.specs.declared.errors.CaptureError.{CaptureError}
use Rattle.vg_capture.specs.Savefile.{capture_of}
use Rattle.vg_script.specs.declared.errors.ScriptError.{ScriptError}
use Rattle.vg_plan.specs.Plan.{Planned}
use Rattle.vg_check.specs.Verdicts.{Case, IsAccepted}
use Rattle.vg_words.specs.Command.{Run, Check}
use Rattle.vg_turns.specs.Turns.{turns as turns_in}
use Rattle.vg_top.specs.Command.{load_asked}
use Rattle.vg_files.specs.Plan.{graphs_of}
use Rattle.vg_files.specs.Files.{FileBytes}
use Rattle.vg_files.specs.Checks.{CheckBytes, AreInputs, case_in}
use Rattle.vg_top.specs.Run.{Call, AreLoaded, AreChecked, AsksNothing}

-- no fault of this name was counted in the call
abbrev pub HasNoFault : Call → List ℕ → Type 0
HasNoFault call name = ¬ Rose (call.faults name) (call.faults_after name)

-- the words ask for this run, the folder tells its files, those of the run are there and no fault of them was counted
pub record IsLoadable (call : Call) (run : Run) (bytes : FileBytes) : Type 0 where
  pub told : IsSome call.files
  pub loaded : AreLoaded call run bytes
  pub no_capture_fault : HasNoFault call run.capture
  pub no_script_fault : HasNoFault call run.script
  pub no_turns_fault : IfSome run.turns (HasNoFault call)

-- one status where there is an error, the other where there is none
abbrev pub by_result : {X E : Type 0} → Result X E → (at_error at_ok : ℕ) → ℕ
by_result (Ok x) at_error at_ok = at_ok
by_result (Err e) at_error at_ok = at_error

-- the status that a run's files bring: 4 where the capture is faulty, else 5 where the script is or an edit of it is refused, else 8 where
-- the turns file is faulty, else 0
abbrev pub status_by : Run → FileBytes → ℕ
status_by run bytes =
    by_result (capture_of bytes.capture) 4 (by_result (graphs_of bytes.script) 5 (by_result (turns_in run.workers bytes.turns) 8 0))

-- the words ask for this check, the folder tells its files, those of the check are there and no fault of them was counted
pub record IsCheckable (call : Call) (check : Check) (bytes : CheckBytes) : Type 0 where
  pub told : IsSome call.files
  pub loaded : AreChecked call check bytes
  pub no_capture_fault : HasNoFault call check.capture
  pub no_script_fault : HasNoFault call check.script
  pub no_tx_fault : HasNoFault call check.tx
  pub no_report_fault : HasNoFault call check.report

-- the status that a check of an accepted capture and script brings: 0 where lawful choices make the savefile and the report, else 9
abbrev pub IsVerdictStatus : Case → ℕ → Type 0
IsVerdictStatus case status = ((status ≡ 0) × IsAccepted case) ⊎ ((status ≡ 9) × ¬ IsAccepted case)

-- the status that a check's files bring: 4 where the capture is faulty, else 5 where the script is or an edit of it is refused, else that of the verdict
abbrev pub IsStatusBy : (queue : ℕ) → CheckBytes → ℕ → Type 0
IsStatusBy queue bytes status =
    ((status ≡ 4) × ((fault : CaptureError) × (capture_of bytes.capture ≡ Err fault)))
    ⊎ (((status ≡ 5) × ((capture : Capture) × (capture_of bytes.capture ≡ Ok capture)) × ((error : ScriptError) × (graphs_of bytes.script ≡ Err error)))
    ⊎ ((capture : Capture) × (plan : Planned) × AreInputs bytes capture plan × IsVerdictStatus (case_in queue bytes capture plan) status))

-- the status that the words bring, or the files: 2 where the words ask for nothing; 0 where they ask for a load, or for a run and no fault of TX
-- was counted; and what a check's files bring
abbrev pub IsExpected : Call → ℕ → Type 0
IsExpected call status =
    ((status ≡ 2) × AsksNothing call.words)
    ⊎ (((status ≡ 0) × IsSome (load_asked call.words))
    ⊎ (((run : Run) × (bytes : FileBytes) × IsLoadable call run bytes × (status ≡ status_by run bytes) × (status ≡ 0 → HasNoFault call run.tx))
    ⊎ ((check : Check) × (bytes : CheckBytes) × IsCheckable call check bytes × IsStatusBy check.queue bytes status)))
