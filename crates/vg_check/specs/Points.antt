-- What is checked of a report that was read: its head, its choices, and the pushes that were refused.
use Rattle.std.specs.Prelude.{◌≡◌, ℕ, ◌+◌, ◌*◌, ◌≤◌, List, length, take, slice_get, Some}
use Rattle.std.specs.List.{AllByRecursion}
use Rattle.vg_model.specs.Journey.{Journey}
use Rattle.vg_model.specs.Lawful.{IsRefusalLawful}
use Rattle.vg_capture.specs.declared.captures.Capture.{Capture}
use Rattle.vg_plan.specs.Plan.{Planned}
use Rattle.vg_report.specs.declared.reports.Report.{Report}
use Rattle.vg_check.specs.Output.{Setting}

-- the head of a report fits the plan and the capture, and the buffers are as many as a run of so many workers may have
pub record IsHead (plan : Planned) (capture : Capture) (report : Report) : Type 0 where
  pub enough : 256 * report.workers + 256 ≤ report.buffers
  pub few : report.buffers ≤ 16384
  pub generations : report.generations ≡ length plan.graphs
  pub packets : length report.packets ≡ length capture.packets

-- what a run was set to that made this report, with so many frames in a handoff queue
abbrev pub setting_of : Report → ℕ → Setting
setting_of report queue = record { workers = report.workers; buffers = report.buffers; queue = queue; trace = length report.traces }

-- the push that a journey names as refused, if it names one, may have been
abbrev pub IsPushLawful : ℕ → List Journey → Journey → Type 0
IsPushLawful slots js j = IsRefusalLawful slots js j j.accepted j.course.outcome

-- all of them may have been
abbrev pub ArePushesLawful : ℕ → List Journey → Type 0
ArePushesLawful slots js = AllByRecursion (IsPushLawful slots js) js

-- it is the first journey whose refused push may not have been
pub record IsFirstRefusal (slots : ℕ) (js : List Journey) (number : ℕ) : Type 0 where
  pub j : Journey
  pub is : slice_get js number ≡ Some j
  pub unlawful : ¬ IsPushLawful slots js j
  pub before : AllByRecursion (IsPushLawful slots js) (take number js)
