-- What a call of the program answers and what it leaves behind.
use Rattle.std.specs.Prelude.{◌≡◌, ◌≢◌, ◌⊎◌, ℕ, ◌++◌, true, List, [], ◌∷◌, length, codes, Option, Some, None, IfSome, Ok, Err}
use Rattle.std.specs.Borrow.{Bor}
use Rattle.vg_model.specs.Graph.{Graph}
use Rattle.vg_files.specs.Kinds.{vgd_visit}
use Rattle.vg_outside.specs.Files.{Files, Rose, FailedLoad, HoldsBytes, SameElsewhere}
use Rattle.vg_capture.specs.declared.captures.Capture.{Capture}
use Rattle.vg_capture.specs.declared.errors.CaptureError.{CaptureError}
use Rattle.vg_capture.specs.declared.errors.CaptureError.TheVariants as faults
use Rattle.vg_capture.specs.Savefile.{capture_of}
use Rattle.vg_script.specs.declared.errors.ScriptError.{ScriptError}
use Rattle.vg_script.specs.declared.scripts.Script.{Script}
use Rattle.vg_script.specs.Generations.{generations_of}
use Rattle.vg_script.specs.Reading.{script_of}
use Rattle.vg_report.specs.declared.reports.Report.{Report}
use Rattle.vg_report.specs.Lawful.{IsLawful}
use Rattle.vg_report.specs.Text.{text}
use Rattle.vg_files.specs.declared.refusals.Refusal.{Refusal}
use Rattle.vg_files.specs.declared.refusals.Refusal.TheVariants as refusals
use Rattle.vg_plan.specs.Plan.{Planned, first_generation}
use Rattle.vg_words.specs.Command.{Run, Check, texts}
use Rattle.vg_turns.specs.declared.steps.Step.{Step}
use Rattle.vg_turns.specs.Turns.{turns as turns_in}
use Rattle.vg_check.specs.Output.{IsOutput, frames_of}
use Rattle.vg_check.specs.OneWorker.{alone, HasOwnEnds}
use Rattle.vg_check.specs.declared.verdicts.Verdict.{Verdict}
use Rattle.vg_check.specs.Verdicts.{IsVerdict, IsAccepted}
use Rattle.vg_remarks.specs.Remarks.{AreRemarks}
use Rattle.vg_top.specs.declared.done.RunEnd.{RunEnd}
use Rattle.vg_load.specs.declared.summaries.Load.{Load}
use Rattle.vg_load.specs.Summary.{summary}
use Rattle.vg_top.specs.Command.{run_asked, load_asked, check_asked, setting_of}
use Rattle.vg_files.specs.Plan.{graphs_of}
use Rattle.vg_files.specs.Files.{FileBytes, HoldsFiles, IsLoadedNext}
use Rattle.vg_files.specs.Checks.{CheckBytes, HoldsChecked, IsCheckedNext, AreInputs, case_in}
use Rattle.vg_files.specs.Refusals.{status_of, line_of}
use Rattle.vg_top.specs.Ended.{HasEnded}
use Rattle.vg_top.specs.Lossless.{IsLossless}

-- a call: its words, and of the folder, before and after, its files where it tells them and how often calls on a name have failed
pub record Call : Type 0 where
  pub words : List (List ℕ)
  pub files : Option Files
  pub files_after : Option Files
  pub faults : List ℕ → ℕ
  pub faults_after : List ℕ → ℕ

-- the words ask for this run, and these are the bytes of its files, where the folder tells them
pub record AreLoaded (call : Call) (run : Run) (bytes : FileBytes) : Type 0 where
  pub is_command : run_asked call.words ≡ Some run
  pub files : HoldsFiles call.files run bytes

-- the files were loaded and accepted: this capture, this script with the graphs of its generations, and turns of the run's workers
pub record AreAccepted (call : Call) (run : Run) (capture : Capture) (script : Script) (graphs : List Graph) : Type 0 where
  pub bytes : FileBytes
  pub loaded : AreLoaded call run bytes
  pub is_capture : capture_of bytes.capture ≡ Ok capture
  pub is_script : script_of bytes.script ≡ Ok script
  pub are_graphs : generations_of script ≡ Ok graphs
  pub steps : List Step
  pub are_turns : turns_in run.workers bytes.turns ≡ Ok steps

-- a run is done: the folder holds the savefile of the run, all its other files are as before, and this is the text of its report, which is lawful
pub record IsDone (call : Call) (line : List ℕ) : Type 0 where
  pub run : Run
  pub capture : Capture
  pub script : Script
  pub graphs : List Graph
  pub report : Report
  pub tx : List ℕ
  pub accepted : AreAccepted call run capture script graphs
  pub output : IsOutput vgd_visit graphs (first_generation script capture) (setting_of run) capture report tx
  pub lawful : IsLawful report
  pub printed : line ≡ text report
  pub saved : HoldsBytes call.files_after run.tx tx
  pub others : SameElsewhere call.files call.files_after run.tx
  -- where there is one generation, and no packet was dropped by a full queue or by the limit of legs, one worker saves the same
  pub alike : length graphs ≡ 1 → HasOwnEnds report
      → (other : Report) × IsOutput vgd_visit graphs (first_generation script capture) (alone (setting_of run)) capture other tx
  -- where the words ask to hold frames back, no queue refuses one
  pub lossless : run.hold ≡ true → IsLossless vgd_visit graphs (first_generation script capture) (setting_of run) capture report tx

-- and this is the end of the run whose report was printed; what is remarked, where memory sufficed for it, is what there is to remark of the run's
-- capture, its script and that report
abbrev pub IsEndOf : {call : Call} {line : List ℕ} → IsDone call line → RunEnd → Type 0
IsEndOf done end =
    HasEnded done.run.workers done.run.buffers done.graphs (frames_of done.capture) done.output.js end
    × IfSome end.remarks (AreRemarks done.capture done.script done.report)

-- a load is done: this is the text that tells of it, and the folder's files are as before
pub record IsLoadDone (call : Call) (line : List ℕ) : Type 0 where
  pub load : Load
  pub is_command : load_asked call.words ≡ Some load
  pub printed : line ≡ summary load.seed load.packets load.workers
  pub same : call.files_after ≡ call.files

-- a file that the words name couldn't be loaded; those before it were
pub record IsLoadFault (call : Call) (name : List ℕ) : Type 0 where
  pub run : Run
  pub is_command : run_asked call.words ≡ Some run
  pub named : IsLoadedNext call.files run name
  pub fault : FailedLoad call.files name (call.faults name) (call.faults_after name)

-- the capture is no savefile: this is its first check that fails
pub record IsCaptureFault (call : Call) (fault : CaptureError) : Type 0 where
  pub run : Run
  pub bytes : FileBytes
  pub loaded : AreLoaded call run bytes
  pub is_fault : capture_of bytes.capture ≡ Err fault
  pub no_memory : fault ≢ faults.Memory

-- the capture is accepted, and the script is not: this is its first faulty line, or the first of its edits that is refused
pub record IsScriptFault (call : Call) (error : ScriptError) : Type 0 where
  pub run : Run
  pub bytes : FileBytes
  pub loaded : AreLoaded call run bytes
  pub capture : Capture
  pub is_capture : capture_of bytes.capture ≡ Ok capture
  pub is_fault : graphs_of bytes.script ≡ Err error

-- the capture and the script are accepted, and the turns file is not: this is the place of its first faulty byte
pub record IsTurnsFault (call : Call) (place : ℕ) : Type 0 where
  pub run : Run
  pub bytes : FileBytes
  pub loaded : AreLoaded call run bytes
  pub capture : Capture
  pub is_capture : capture_of bytes.capture ≡ Ok capture
  pub graphs : List Graph
  pub are_graphs : graphs_of bytes.script ≡ Ok graphs
  pub is_fault : turns_in run.workers bytes.turns ≡ Err place

-- all was accepted, and the savefile couldn't be saved; the folder's other files are as before
pub record IsSaveFault (call : Call) (name : List ℕ) : Type 0 where
  pub run : Run
  pub capture : Capture
  pub script : Script
  pub graphs : List Graph
  pub accepted : AreAccepted call run capture script graphs
  pub named : name ≡ run.tx
  pub fault : Rose (call.faults name) (call.faults_after name)
  pub others : SameElsewhere call.files call.files_after name

-- the words ask for nothing
abbrev pub AsksNothing : List (List ℕ) → Type 0
AsksNothing words = (run_asked words ≡ None) × (load_asked words ≡ None) × (check_asked words ≡ None)

-- why a run is refused, or words that ask for nothing, and what it leaves of the folder
abbrev pub IsRunRefused : Call → Refusal → Type 0
IsRunRefused call refusals.Usage = AsksNothing call.words × (call.files_after ≡ call.files)
IsRunRefused call (refusals.Load name) = IsLoadFault call name.now × (call.files_after ≡ call.files)
IsRunRefused call (refusals.Capture fault) = IsCaptureFault call fault × (call.files_after ≡ call.files)
IsRunRefused call (refusals.Script error) = IsScriptFault call error × (call.files_after ≡ call.files)
IsRunRefused call (refusals.Turns place) = IsTurnsFault call place × (call.files_after ≡ call.files)
IsRunRefused call (refusals.Save name) = IsSaveFault call name.now
IsRunRefused call (refusals.Verdict verdict) = ⊥

-- the words ask for this check, and these are the bytes of its files, where the folder tells them
pub record AreChecked (call : Call) (check : Check) (bytes : CheckBytes) : Type 0 where
  pub is_command : check_asked call.words ≡ Some check
  pub files : HoldsChecked call.files check bytes

-- a check answers yes: lawful choices of the plan and the capture make the savefile and the report; the folder is as before
pub record IsCheckDone (call : Call) (line : List ℕ) : Type 0 where
  pub check : Check
  pub bytes : CheckBytes
  pub loaded : AreChecked call check bytes
  pub capture : Capture
  pub plan : Planned
  pub inputs : AreInputs bytes capture plan
  pub accepted : IsAccepted (case_in check.queue bytes capture plan)
  pub printed : line ≡ codes "yes" ++ 10 ∷ []
  pub same : call.files_after ≡ call.files

-- a check answers no: no run may have put both out, and this is the first point that fails
pub record IsDenied (call : Call) (verdict : Verdict) : Type 0 where
  pub check : Check
  pub bytes : CheckBytes
  pub loaded : AreChecked call check bytes
  pub capture : Capture
  pub plan : Planned
  pub inputs : AreInputs bytes capture plan
  pub first : IsVerdict (case_in check.queue bytes capture plan) verdict
  pub denied : ¬ IsAccepted (case_in check.queue bytes capture plan)

-- a file that the words of a check name couldn't be loaded; those before it were
pub record IsCheckLoadFault (call : Call) (name : List ℕ) : Type 0 where
  pub check : Check
  pub is_command : check_asked call.words ≡ Some check
  pub named : IsCheckedNext call.files check name
  pub fault : FailedLoad call.files name (call.faults name) (call.faults_after name)

-- the capture of a check is no savefile: this is its first check that fails
pub record IsCheckCaptureFault (call : Call) (fault : CaptureError) : Type 0 where
  pub check : Check
  pub bytes : CheckBytes
  pub loaded : AreChecked call check bytes
  pub is_fault : capture_of bytes.capture ≡ Err fault
  pub no_memory : fault ≢ faults.Memory

-- the capture of a check is accepted, and the script is not
pub record IsCheckScriptFault (call : Call) (error : ScriptError) : Type 0 where
  pub check : Check
  pub bytes : CheckBytes
  pub loaded : AreChecked call check bytes
  pub capture : Capture
  pub is_capture : capture_of bytes.capture ≡ Ok capture
  pub is_fault : graphs_of bytes.script ≡ Err error

-- why a check is refused; the folder is as before
abbrev pub IsCheckRefused : Call → Refusal → Type 0
IsCheckRefused call refusals.Usage = ⊥
IsCheckRefused call (refusals.Load name) = IsCheckLoadFault call name.now × (call.files_after ≡ call.files)
IsCheckRefused call (refusals.Capture fault) = IsCheckCaptureFault call fault × (call.files_after ≡ call.files)
IsCheckRefused call (refusals.Script error) = IsCheckScriptFault call error × (call.files_after ≡ call.files)
IsCheckRefused call (refusals.Turns place) = ⊥
IsCheckRefused call (refusals.Save name) = ⊥
IsCheckRefused call (refusals.Verdict verdict) = IsDenied call verdict × (call.files_after ≡ call.files)

-- why a call is refused, and what it leaves of the folder
abbrev pub IsRefused : Call → Refusal → Type 0
IsRefused call refusal = IsRunRefused call refusal ⊎ IsCheckRefused call refusal

-- the status that is due, but for want of memory and for faults of printing, and the text to print with it
abbrev pub IsDue : Call → ℕ → List ℕ → Type 0
IsDue call status line =
    ((status ≡ 0) × (IsDone call line ⊎ (IsLoadDone call line ⊎ IsCheckDone call line)))
    ⊎ ((refusal : Refusal) × (status ≡ status_of refusal) × (line ≡ line_of refusal) × IsRefused call refusal)

-- a call, by what its contract sees of it
abbrev pub called : List (Bor (List ℕ)) → (files files_after : Option Files) → (faults faults_after : List ℕ → ℕ) → Call
called words files files_after faults faults_after = record {
  words = texts words;
  files = files;
  files_after = files_after;
  faults = faults;
  faults_after = faults_after;
}
