use Rattle.std.proofs.Common.{◌≡◌, map}
use Rattle.vg_threads.specs.Starts.{started_tie}
use Rattle.vg_threads.proofs.driving.lead_started.Given as goal

abbrev pub invariant-loop : goal.invariant-loop
invariant-loop g l =
    (goal.iterator-loop g).can_next l.iterator' × (goal.iterator-loop g).is_finite l.iterator'
    × (l.main ≡ l.fn.main) × (map started_tie l.started.items ≡ map started_tie l.fn.started.items)
