-- What is remarked of a run (this project's profile).
use Rattle.std.specs.Prelude.{◌≡◌, length}
use Rattle.vg_capture.specs.declared.captures.Capture.{Capture}
use Rattle.vg_script.specs.declared.scripts.Script.{Script}
use Rattle.vg_report.specs.declared.reports.Report.{Report}
use Rattle.vg_remarks.specs.declared.finding.Remarks.{Remarks}
use Rattle.vg_remarks.specs.Found.{IsFound}
use Rattle.vg_remarks.specs.Late.{late_events}
use Rattle.vg_remarks.specs.Packets.{congested, told_below}
use Rattle.vg_remarks.specs.Statements.{statements, idle_filters, led}

-- the remarks are on these and no others: how many there are of each kind, and the first
pub record AreRemarks (capture : Capture) (script : Script) (report : Report) (remarks : Remarks) : Type 0 where
  -- how many packets were dropped since a queue was full
  pub congested : remarks.congested ≡ congested report.packets
  -- the events behind the last packet
  pub late : IsFound (late_events capture script) remarks.late
  -- the lines that give an interface a filter which no packet comes to
  pub filters : IsFound (idle_filters (statements script)) remarks.filters
  -- the packets that were transmitted though a router does not forward to their destinations
  pub unforwarded : IsFound (told_below (led (statements script)) capture.packets report.packets (length report.packets)) remarks.unforwarded
