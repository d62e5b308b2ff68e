use Rattle.std.proofs.Common.{◌≡◌, ◌+◌, ◌≤◌, ◌++◌, map, vec_len, vec_capacity}
use Rattle.std.specs.Vec.Iter.{into_iter_items, into_iter_len}
use Rattle.vg_backlog.specs.Books.{empty_behind}
use Rattle.vg_backlog.proofs.backlogs.backlogs_of.Given as goal

abbrev pub invariant-loop-ring : goal.invariant-loop-ring
invariant-loop-ring l = record {
  made : l.backlogs.items ++ map (empty_behind l.slots l.room) (into_iter_items l.ring-iterator) ≡ map (empty_behind l.slots l.room) l.fn.rings.items;
  room : vec_len l.backlogs + into_iter_len l.ring-iterator ≤ vec_capacity l.backlogs;
}
