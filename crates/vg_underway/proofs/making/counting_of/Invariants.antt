use Rattle.std.proofs.Common.{◌≡◌, ◌≤◌, ◌+◌, ◌++◌, [], map, vec_len, vec_capacity}
use Rattle.std.specs.Vec.Iter.{into_iter_items, into_iter_len}
use Rattle.std.specs.List.{AllByRecursion}
use Rattle.vg_underway.proofs.making.counting_of.Given as goal

abbrev pub invariant-loop-handoff : goal.invariant-loop-handoff
invariant-loop-handoff g l = record {
  all : map (λ o. o.handoff) l.room.items ++ into_iter_items l.handoff-iterator ≡ l.fn.handoffs.items;
  new : AllByRecursion (λ h. g.H.Handoff.accepted h ≡ []) (into_iter_items l.handoff-iterator);
  size : vec_len l.room + into_iter_len l.handoff-iterator ≡ vec_len l.fn.handoffs;
  room_is : vec_len l.fn.handoffs ≤ vec_capacity l.room;
}
