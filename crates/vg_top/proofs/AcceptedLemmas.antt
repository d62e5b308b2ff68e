-- For `what_is_done_is_accepted`: what a run that is done saved and printed is accepted.
use Rattle.std.proofs.Common.{ℕ, List, refl, inl, inr}
use Rattle.vg_words.proofs.RangeLemmas.{runs-in_range}
use Rattle.vg_check.specs.Verdicts.{IsSetting, IsAccepted}
use Rattle.vg_top.specs.Accepted.{bytes_behind, plan_behind}
use Rattle.vg_files.specs.Checks.{AreInputs, case_in}
use Rattle.vg_top.specs.Command.{setting_of}
use Rattle.vg_top.specs.Expected.{IsStatusBy}
use Rattle.vg_top.specs.Run.{Call, IsDone}
use Rattle.vg_top.proofs.WordLemmas.{in_range}

-- the capture and the script of the run are accepted
pub inputs_behind : (call : Call) (line : List ℕ) (done : IsDone call line) → AreInputs (bytes_behind done) done.capture (plan_behind done)
inputs_behind call line done = record {
  is_capture = done.accepted.is_capture;
  makes = record { is_script = done.accepted.is_script; are_graphs = done.accepted.are_graphs };
}

-- the run is set within its ranges
setting_behind : (call : Call) (line : List ℕ) (done : IsDone call line) → IsSetting (setting_of done.run)
setting_behind call line done =
    let range = in_range runs-in_range call.words done.run done.accepted.loaded.is_command in
    record { workers = range.workers; buffers = range.buffers; trace = range.trace }

-- its report and its savefile are those of lawful choices
pub accepted_behind : (call : Call) (line : List ℕ) (done : IsDone call line) → IsAccepted (case_in done.run.queue (bytes_behind done) done.capture (plan_behind done))
accepted_behind call line done = record {
  setting = setting_of done.run;
  report = done.report;
  in_range = setting_behind call line done;
  queue = refl;
  lawful = done.lawful;
  is_text = done.printed;
  output = done.output;
}

-- so the status of a check is 0
pub status_behind : (call : Call) (line : List ℕ) (done : IsDone call line) → IsStatusBy done.run.queue (bytes_behind done) 0
status_behind call line done =
    inr (inr (done.capture, plan_behind done, inputs_behind call line done, inl (refl, accepted_behind call line done)))
