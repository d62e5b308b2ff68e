-- The report that packets come to.
use Rattle.std.specs.Prelude.{ℕ, List}
use Rattle.vg_replay.specs.declared.replaying.Replayed.{Replayed}
use Rattle.vg_report.specs.declared.reports.Report.{Report}
use Rattle.vg_report.specs.Text.{text}
use Rattle.vg_check.specs.Reports.{reported, with_counts}

-- the report of what came of packets, with the head of this one, and a count at each drop by congestion
abbrev pub wanted : Report → Replayed → Report
wanted report replayed = with_counts (reported report replayed)

-- and its text
abbrev pub wanted_text : Report → Replayed → List ℕ
wanted_text report replayed = text (wanted report replayed)
