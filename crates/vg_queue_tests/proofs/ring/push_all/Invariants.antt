use Rattle.std.proofs.Common.{◌≡◌, ◌≤◌, length}
use Rattle.vg_ring.specs.Ends.{put}
use Rattle.vg_queue_tests.proofs.ring.push_all.Given as goal

-- the numbers below `next` were put
abbrev pub invariant-loop : goal.invariant-loop
invariant-loop g l =
    (goal.iterator-loop g).can_next l.iterator' × (goal.iterator-loop g).is_finite l.iterator' × (length (put l.tx) ≡ l.next) × (l.next ≤ 100000)
