use Rattle.std.proofs.Common.{◌≡◌, ◌≤◌, length}
use Rattle.vg_queue.specs.Ends.{put, tx_queue, rx_queue}
use Rattle.vg_ring.specs.Ends.{put as ring_put, tx_ring, rx_ring}
use Rattle.vg_queue_tests.proofs.queue.random_calls_are_answered_as_the_ring_answers_them.Given as goal

-- each of the calls puts at most one item, and the ends stay those of one queue and of one ring
abbrev pub invariant-loop : goal.invariant-loop
invariant-loop g l =
    (tx_queue l.tx ≡ rx_queue l.rx) × (tx_ring l.ring_tx ≡ rx_ring l.ring_rx)
    × (length (put l.tx) ≤ l.counter) × (length (ring_put l.ring_tx) ≤ l.counter) × (l.counter ≤ 3000)
