use Rattle.std.proofs.Common.{◌≡◌, ◌≤◌, ◌+◌, ◌++◌, [], map, vec_len, vec_capacity}
use Rattle.std.specs.Vec.Iter.{into_iter_items, into_iter_len}
use Rattle.std.specs.List.{AllByRecursion}
use Rattle.vg_ring.specs.Ends.{taken, rx_ring, rx_trail}
use Rattle.vg_underway.specs.Queues.{queue_of}
use Rattle.vg_underway.proofs.making.queues_of.Given as goal

abbrev pub invariant-loop-ring : goal.invariant-loop-ring
invariant-loop-ring l = record {
  all : l.room.items ++ map (λ rx. queue_of (rx_ring rx) (rx_trail rx)) (into_iter_items l.ring-iterator) ≡ map (λ rx. queue_of (rx_ring rx) (rx_trail rx)) l.fn.rings.items;
  new : AllByRecursion (λ rx. taken rx ≡ []) (into_iter_items l.ring-iterator);
  size : vec_len l.room + into_iter_len l.ring-iterator ≡ vec_len l.fn.rings;
  room_is : vec_len l.fn.rings ≤ vec_capacity l.room;
}
