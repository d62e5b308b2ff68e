-- What is due where a run stops, and where it ends.
use Rattle.std.specs.Prelude.{◌≡◌, ◌⊎◌, ℕ, Bool, true, List, length, Option, None, IfSome, IsSomeAnd}
use Rattle.vg_files.specs.Kinds.{vgd_visit}
use Rattle.vg_capture.specs.declared.captures.Capture.{Capture}
use Rattle.vg_report.specs.declared.reports.Report.{Report}
use Rattle.vg_report.specs.Lawful.{IsLawful}
use Rattle.vg_report.specs.Text.{text}
use Rattle.vg_plan.specs.Plan.{Planned, first_generation}
use Rattle.vg_dispatch.specs.declared.options.Options.{Options}
use Rattle.vg_check.specs.Output.{Setting, IsOutput, frames_of}
use Rattle.vg_check.specs.OneWorker.{alone, HasOwnEnds}
use Rattle.vg_remarks.specs.Remarks.{AreRemarks}
use Rattle.vg_files.specs.declared.refusals.Refusal.{Refusal}
use Rattle.vg_files.specs.declared.refusals.Stop.{Stop}
use Rattle.vg_files.specs.declared.refusals.Stop.TheVariants as stops
use Rattle.vg_top.specs.declared.done.RunEnd.{RunEnd}
use Rattle.vg_top.specs.declared.dues.Due.{Due}
use Rattle.vg_top.specs.declared.run.Results.{Results}
use Rattle.vg_top.specs.Ended.{HasEnded}
use Rattle.vg_top.specs.Lossless.{IsLossless}
use Rattle.vg_top.specs.Run.{Call, IsDone, IsEndOf, IsLoadDone, IsCheckDone, IsRefused}
use Rattle.vg_files.specs.Refusals.{status_of, line_of}

-- the status and the line of the refusal, and no end of a run, nor anything found; nothing is due at want of memory
abbrev pub IsDueFor : Stop → Due → Type 0
IsDueFor stops.Memory due = ⊥
IsDueFor (stops.Refused refusal) due = (due.status ≡ status_of refusal) × (due.text ≡ line_of refusal) × (due.ran ≡ None) × (due.found ≡ None)

-- what options say of the output
abbrev pub setting_in : Options → Setting
setting_in options = record { workers = options.workers; buffers = options.buffers; queue = options.queue; trace = options.trace }

-- the savefile and the text of the report of what a capture's packets become by this plan and these options, where frames that a queue
-- doesn't take are held back or not, and the end of the run that made them, with what is remarked of it
pub record AreResultsOf (plan : Planned) (options : Options) (hold : Bool) (capture : Capture) (results : Results) : Type 0 where
  pub report : Report
  pub lawful : IsLawful report
  pub is_text : results.report ≡ text report
  pub output : IsOutput vgd_visit plan.graphs (first_generation plan.script capture) (setting_in options) capture report results.tx
  pub end : HasEnded options.workers options.buffers plan.graphs (frames_of capture) output.js results.end
  pub remarks : IfSome results.end.remarks (AreRemarks capture plan.script report)
  pub alike : length plan.graphs ≡ 1 → HasOwnEnds report
      → (other : Report) × IsOutput vgd_visit plan.graphs (first_generation plan.script capture) (alone (setting_in options)) capture other results.tx
  pub lossless : hold ≡ true → IsLossless vgd_visit plan.graphs (first_generation plan.script capture) (setting_in options) capture report results.tx

-- a run is done, and this is its end; or a load or a check is, which have none
abbrev pub AreDone : Call → List ℕ → Option RunEnd → Type 0
AreDone call line ran = ((done : IsDone call line) × IsSomeAnd ran (IsEndOf done)) ⊎ ((ran ≡ None) × (IsLoadDone call line ⊎ IsCheckDone call line))

-- what is due of a call, whole: at status 0 a run is done and this is its end, or a load or a check is done; and else the call is refused. Where
-- no run is done, there is no end of one
abbrev pub IsDueOf : Call → Due → Type 0
IsDueOf call due =
    ((due.status ≡ 0) × AreDone call due.text due.ran)
    ⊎ ((due.ran ≡ None) × ((refusal : Refusal) × (due.status ≡ status_of refusal) × (due.text ≡ line_of refusal) × IsRefused call refusal))
