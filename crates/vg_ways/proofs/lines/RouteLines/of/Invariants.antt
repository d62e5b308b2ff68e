-- For `RouteLines::of`: its loop.
use Rattle.std.proofs.Common.{◌≡◌, take}
use Rattle.vg_ways.specs.Lines.{lined}
use Rattle.vg_ways.specs.LinesView.{line_in}
use Rattle.vg_ways.proofs.lines.RouteLines.of.Given as goal

abbrev pub invariant-loop-route : goal.invariant-loop-route
invariant-loop-route l = l.lined.items ≡ lined (line_in l.self) (take l.route-index l.routes)
