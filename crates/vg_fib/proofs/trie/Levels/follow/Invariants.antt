use Rattle.std.proofs.Common.{◌≡◌, ◌+◌, ◌*◌, ◌≤◌, length}
use Rattle.vg_fib.specs.Trie.{HasFirst}
use Rattle.vg_fib.proofs.HeirLemmas.{HasFollowed}
use Rattle.vg_fib.proofs.trie.Levels.follow.Given as goal

-- the slots so far have the first routes of the table, and all of them are in the levels
abbrev pub invariant-loop-place : goal.invariant-loop-place
invariant-loop-place l = record {
  same_length : length l.slots.items ≡ length l.initial.slots.items;
  followed : HasFollowed l.routes l.known l.slots.items l.place;
  has : HasFirst l.slots.items (length l.slots.items) l.self;
  few : l.removed ≤ 16;
  second : length l.self.second.items ≤ length l.initial.self.second.items + 256 * l.removed;
  third : length l.self.third.items ≤ length l.initial.self.third.items + 256 * l.removed;
}
