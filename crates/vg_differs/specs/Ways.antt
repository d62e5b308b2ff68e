-- What came of the packets of a check that were taken through once more.
use Rattle.std.specs.Prelude.{◌≡◌, List, length}
use Rattle.vg_model.specs.Journey.{Journey, sent}
use Rattle.vg_replay.specs.declared.replaying.Replayed.{Replayed}
use Rattle.vg_report.specs.declared.reports.Report.{Report}
use Rattle.vg_check.specs.Reports.{reported, CanReport}
use Rattle.vg_check.specs.Saves.{sent_from}
use Rattle.vg_check.specs.Verdicts.{Case, report_by, ArePushed}

-- this is the report, and this came of its packets
pub record AreWays (case : Case) (report : Report) (replayed : Replayed) : Type 0 where
  pub js : List Journey
  pub pushed : ArePushed case report js
  pub can : CanReport report replayed
  pub is_reported : reported report replayed ≡ report_by case report js
  pub are_sent : sent_from 0 replayed.trips ≡ sent js
  pub many : length replayed.trips ≡ length case.capture.packets
