-- `late`, how many turns are late: the loop over those behind the first.
use Rattle.std.proofs.Common.{◌≡◌, ◌+◌, ◌≤◌, map, drop}
use Rattle.vg_diff.specs.Orders.{coming_with, late_behind}
use Rattle.vg_diff.proofs.flows.late.Given as goal

abbrev pub invariant-loop-turn : goal.invariant-loop-turn
invariant-loop-turn l =
    (l.count + late_behind (coming_with l.before) l.latest (map coming_with (drop l.turn-index l.others))
    ≡ late_behind (coming_with l.initial.before) l.initial.latest (map coming_with l.others))
    × (l.count ≤ l.turn-index)
