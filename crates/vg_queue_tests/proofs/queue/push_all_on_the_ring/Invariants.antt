use Rattle.std.proofs.Common.{◌≡◌, ◌≤◌, length}
use Rattle.vg_ring.specs.Ends.{put}
use Rattle.vg_queue_tests.proofs.queue.push_all_on_the_ring.Given as goal

-- the numbers below `next` were put
abbrev pub invariant-loop : goal.invariant-loop
invariant-loop g l =
    (goal.iterator-loop g).can_next l.iterator' × (goal.iterator-loop g).is_finite l.iterator' × (length (put l.tx) ≡ l.next) × (l.next ≤ 20000)
