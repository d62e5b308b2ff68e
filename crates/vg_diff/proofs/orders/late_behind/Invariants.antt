-- `late_behind`, how many turns are late behind one: the loop over the others, of which each is told from the one before it.
use Rattle.std.proofs.Common.{◌≡◌, ◌+◌, ◌≤◌, map, drop}
use Rattle.vg_diff.specs.Orders.{coming, late_behind, IsHashed, AreToldBehind}
use Rattle.vg_diff.proofs.orders.late_behind.Given as goal

abbrev pub invariant-loop-turn : goal.invariant-loop-turn
invariant-loop-turn l =
    (l.count + late_behind (coming l.frames l.before) l.latest (map (coming l.frames) (drop l.turn-index l.others))
    ≡ late_behind (coming l.frames l.fn.first) l.fn.first.wanted (map (coming l.frames) l.others))
    × (l.count ≤ l.turn-index)
    × IsHashed l.frames l.before
    × (AreToldBehind l.frames l.before (drop l.turn-index l.others) → AreToldBehind l.frames l.fn.first l.others)
