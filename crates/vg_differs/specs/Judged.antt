-- What is found of a check's files.
use Rattle.std.specs.Prelude.{ℕ, IfOk}
use Rattle.vg_capture.specs.declared.captures.Capture.{Capture}
use Rattle.vg_plan.specs.Plan.{Planned}
use Rattle.vg_check.specs.Verdicts.{IsVerdict}
use Rattle.vg_files.specs.Checks.{CheckBytes, AreInputs, case_in}
use Rattle.vg_differs.specs.declared.judging.Judged.{Judged}
use Rattle.vg_differs.specs.Findings.{IsFound}

-- the capture and the script are accepted, this is the verdict on the savefile and the report, and this is found by it, where memory sufficed for that
pub record IsFoundIn (queue : ℕ) (bytes : CheckBytes) (judged : Judged) : Type 0 where
  pub capture : Capture
  pub plan : Planned
  pub inputs : AreInputs bytes capture plan
  pub first : IsVerdict (case_in queue bytes capture plan) judged.verdict
  pub found : IfOk judged.found (IsFound (case_in queue bytes capture plan) judged.verdict)
