use Rattle.std.proofs.Common.{◌≡◌, ◌^◌, ◌++◌, map}
use Rattle.std.specs.Vec.Iter.{into_iter_items}
use Rattle.std.specs.List.{AllByRecursion}
use Rattle.vg_underway.specs.SentEntries.{IsBelow, moved_on}
use Rattle.vg_underway.proofs.sent.followed_by.Given as goal

abbrev pub invariant-loop-entry : goal.invariant-loop-entry
invariant-loop-entry l = record {
  all : l.entries.items ++ map (moved_on l.fn.parts) (into_iter_items l.entry-iterator) ≡ l.fn.entries.items ++ map (moved_on l.fn.parts) l.fn.others.items;
  below : AllByRecursion (IsBelow (2 ^ 16) l.fn.parts) (into_iter_items l.entry-iterator);
}
