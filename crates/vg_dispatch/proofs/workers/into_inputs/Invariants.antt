use Rattle.std.proofs.Common.{◌≡◌, ◌≤◌, ◌+◌, ◌++◌, None, map, vec_len, vec_capacity}
use Rattle.std.specs.Vec.Iter.{into_iter_items, into_iter_len}
use Rattle.std.specs.List.{AllByRecursion}
use Rattle.vg_ring.specs.Ends.{taken, rx_ring}
use Rattle.vg_underway.specs.Queues.{Queue}
use Rattle.vg_dispatch.proofs.workers.into_inputs.Given as goal

abbrev pub invariant-loop-incoming : goal.invariant-loop-incoming
invariant-loop-incoming l = record {
  rings : map rx_ring l.room.items ++ map (λ (q : Queue). q.ring) (into_iter_items l.incoming-iterator) ≡ map (λ (q : Queue). q.ring) l.fn.inputs.items;
  taken_is : map taken l.room.items ++ map (λ (q : Queue). q.taken) (into_iter_items l.incoming-iterator) ≡ map (λ (q : Queue). q.taken) l.fn.inputs.items;
  idle : AllByRecursion (λ (q : Queue). q.waits ≡ None) (into_iter_items l.incoming-iterator);
  size : vec_len l.room + into_iter_len l.incoming-iterator ≡ vec_len l.fn.inputs;
  room_is : vec_len l.fn.inputs ≤ vec_capacity l.room;
}
