-- The files of a check, and what is found of them.
use Rattle.std.specs.Prelude.{◌≡◌, ◌⊎◌, ◌↔◌, ℕ, ◌+◌, List, [], Option, Ok}
use Rattle.vg_files.specs.Kinds.{vgd_visit}
use Rattle.vg_outside.specs.Files.{Files, FirstBytes, HoldsBytes}
use Rattle.vg_capture.specs.declared.captures.Capture.{Capture}
use Rattle.vg_capture.specs.Savefile.{capture_of, largest_file}
use Rattle.vg_script.specs.Reading.{largest_script}
use Rattle.vg_plan.specs.Plan.{Planned}
use Rattle.vg_check.specs.declared.verdicts.Verdict.{Verdict}
use Rattle.vg_check.specs.declared.verdicts.Verdict.TheVariants as verdicts
use Rattle.vg_check.specs.Verdicts.{Case, case_of, IsVerdict, IsAccepted}
use Rattle.vg_words.specs.Command.{Check}
use Rattle.vg_files.specs.declared.checking.CheckFiles.{CheckFiles}
use Rattle.vg_files.specs.Files.{FileBytes, IsThere}
use Rattle.vg_files.specs.Plan.{MakesPlan}

-- the most bytes of a savefile and of a report that are checked
abbrev pub largest_output : ℕ
largest_output = 33554432

-- the bytes of a check's capture, of its script, of its savefile and of its report
pub record CheckBytes : Type 0 where
  pub capture : List ℕ
  pub script : List ℕ
  pub tx : List ℕ
  pub report : List ℕ

-- where the folder tells its files, these are the bytes of the check's; of a savefile or a report that is longer than any that is checked
-- they are those that are loaded, its greatest length and one byte more
pub record HoldsChecked (files : Option Files) (check : Check) (bytes : CheckBytes) : Type 0 where
  pub capture : HoldsBytes files check.capture bytes.capture
  pub script : HoldsBytes files check.script bytes.script
  pub tx : FirstBytes files check.tx (largest_output + 1) bytes.tx
  pub report : FirstBytes files check.report (largest_output + 1) bytes.report

-- the file is loaded next: the capture, the script, the savefile or the report, each once those before it were there
abbrev pub IsCheckedNext : Option Files → Check → List ℕ → Type 0
IsCheckedNext files check name =
    (name ≡ check.capture) ⊎ (((name ≡ check.script) × IsThere files check.capture)
    ⊎ (((name ≡ check.tx) × IsThere files check.capture × IsThere files check.script)
    ⊎ ((name ≡ check.report) × IsThere files check.capture × IsThere files check.script × IsThere files check.tx)))

-- what a folder gave for a check's files, of each up to its greatest length and one byte more
pub record AreFirstChecked (files : Option Files) (check : Check) (bytes : CheckBytes) : Type 0 where
  pub capture : FirstBytes files check.capture (largest_file + 1) bytes.capture
  pub script : FirstBytes files check.script (largest_script + 1) bytes.script
  pub tx : FirstBytes files check.tx (largest_output + 1) bytes.tx
  pub report : FirstBytes files check.report (largest_output + 1) bytes.report

-- what was loaded
abbrev pub bytes_checked : CheckFiles → CheckBytes
bytes_checked files = record { capture = files.capture; script = files.script; tx = files.tx; report = files.report }

-- the capture and the script of them, as those of a run without a turns file
abbrev pub inputs_in : CheckBytes → FileBytes
inputs_in bytes = record { capture = bytes.capture; script = bytes.script; turns = [] }

-- the capture and the script are accepted, and say this
pub record AreInputs (bytes : CheckBytes) (capture : Capture) (plan : Planned) : Type 0 where
  pub is_capture : capture_of bytes.capture ≡ Ok capture
  pub makes : MakesPlan bytes.script plan

-- what is checked, with so many slots in a queue: the savefile and the report, against the capture and the plan
abbrev pub case_in : (queue : ℕ) → CheckBytes → Capture → Planned → Case
case_in queue bytes capture plan = case_of vgd_visit plan capture queue bytes.tx bytes.report

-- the capture and the script are accepted, and this is the verdict on the savefile and the report
pub record IsJudged (queue : ℕ) (bytes : CheckBytes) (verdict : Verdict) : Type 0 where
  pub capture : Capture
  pub plan : Planned
  pub inputs : AreInputs bytes capture plan
  pub first : IsVerdict (case_in queue bytes capture plan) verdict
  pub exact : (verdict ≡ verdicts.Yes) ↔ IsAccepted (case_in queue bytes capture plan)
