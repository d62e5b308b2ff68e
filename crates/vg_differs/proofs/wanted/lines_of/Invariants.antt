-- For `lines_of`: the lines so far, with those still to come, are all.
use Rattle.std.proofs.Common.{◌≡◌, ◌++◌, map, drop}
use Rattle.vg_check.specs.Reports.{lines_by, with_count}
use Rattle.vg_differs.proofs.wanted.lines_of.Given as goal

abbrev pub invariant-loop-number : goal.invariant-loop-number
invariant-loop-number l =
    map with_count (lines_by l.graph l.lines l.trips) ≡ l.made.items ++ map with_count (lines_by l.graph (drop l.number l.lines) (drop l.number l.trips))
