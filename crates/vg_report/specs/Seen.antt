-- What became of a packet, seen through references.
use Rattle.std.specs.Prelude.{List, [], ◌∷◌}
use Rattle.vg_model.specs.declared.fates.Leg.{Leg}
use Rattle.vg_report.specs.declared.reports.PacketLine.{PacketLine}
use Rattle.vg_report.specs.declared.reports.PacketEnd.{PacketEnd}
use Rattle.vg_report.specs.declared.reports.PacketEnd.TheVariants as ends
use Rattle.vg_report.specs.declared.reports.EndRef.{EndRef}
use Rattle.vg_report.specs.declared.reports.EndRef.TheVariants as refs
use Rattle.vg_report.specs.declared.reports.LegsRef.{LegsRef}
use Rattle.vg_report.specs.declared.reports.LegsRef.TheVariants as ways
use Rattle.vg_report.specs.declared.reports.LineRef.{LineRef}

-- how it ended
abbrev pub end_seen : EndRef → PacketEnd
end_seen (refs.Tx interface) = ends.Tx interface.now
end_seen (refs.Dropped node error) = ends.Dropped node.now error

-- its way over the workers
abbrev pub legs_seen : LegsRef → List Leg
legs_seen (ways.One leg) = leg ∷ []
legs_seen (ways.Kept legs) = legs.now

-- what became of it
abbrev pub line_seen : LineRef → PacketLine
line_seen line = record { legs = legs_seen line.legs; congested = line.congested; end = end_seen line.end }
