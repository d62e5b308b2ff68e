use Rattle.std.proofs.Common.{◌≡◌, ◌≤◌, ◌+◌, ◌++◌, map, vec_len, vec_capacity}
use Rattle.std.specs.Vec.Iter.{into_iter_items, into_iter_len}
use Rattle.std.specs.List.{AllByRecursion}
use Rattle.vg_ring.specs.Ends.{put, tx_ring}
use Rattle.vg_dispatch.proofs.workers.into_outputs.Given as goal

abbrev pub invariant-loop-output : goal.invariant-loop-output
invariant-loop-output g l = record {
  rings : map tx_ring l.room.items ++ map (λ o. g.H.Handoff.ring o.handoff) (into_iter_items l.output-iterator) ≡ map (λ o. g.H.Handoff.ring o.handoff) l.fn.outputs.items;
  put_is : map put l.room.items ++ map (λ o. g.H.Handoff.accepted o.handoff) (into_iter_items l.output-iterator) ≡ map (λ o. g.H.Handoff.accepted o.handoff) l.fn.outputs.items;
  held : AllByRecursion (λ o. g.H.Handoff.waiting o.handoff ≡ 0) (into_iter_items l.output-iterator);
  size : vec_len l.room + into_iter_len l.output-iterator ≡ vec_len l.fn.outputs;
  room_is : vec_len l.fn.outputs ≤ vec_capacity l.room;
}
