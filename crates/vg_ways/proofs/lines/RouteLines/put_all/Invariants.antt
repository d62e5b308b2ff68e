-- For `RouteLines::put_all`: its loop.
use Rattle.std.proofs.Common.{take}
use Rattle.vg_ways.specs.LinesView.{AreAfter}
use Rattle.vg_ways.proofs.lines.RouteLines.put_all.Given as goal

-- the lines after the edits so far
abbrev pub invariant-loop-edit : goal.invariant-loop-edit
invariant-loop-edit l = AreAfter (take l.edit-index l.edit-items) l.initial.self l.self
