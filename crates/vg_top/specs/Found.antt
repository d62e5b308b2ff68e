-- What is found of a check whose answer is no.
use Rattle.std.specs.Prelude.{◌≡◌, ℕ}
use Rattle.vg_capture.specs.declared.captures.Capture.{Capture}
use Rattle.vg_plan.specs.Plan.{Planned}
use Rattle.vg_check.specs.Verdicts.{IsVerdict}
use Rattle.vg_differs.specs.declared.finding.Finding.{Finding}
use Rattle.vg_differs.specs.Findings.{verdict_of, IsFinding}
use Rattle.vg_files.specs.Checks.{CheckBytes, AreInputs, case_in}
use Rattle.vg_words.specs.Command.{Check}
use Rattle.vg_top.specs.Run.{Call, AreChecked}

-- the call is a check that answers no, with this status: its first point that fails is the one by which this is found, and it is so of what was checked
pub record IsFoundOf (call : Call) (status : ℕ) (finding : Finding) : Type 0 where
  pub denied : status ≡ 9
  pub check : Check
  pub bytes : CheckBytes
  pub loaded : AreChecked call check bytes
  pub capture : Capture
  pub plan : Planned
  pub inputs : AreInputs bytes capture plan
  pub first : IsVerdict (case_in check.queue bytes capture plan) (verdict_of finding)
  pub is : IsFinding (case_in check.queue bytes capture plan) finding
