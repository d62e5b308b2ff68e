use Rattle.std.proofs.Common.{◌≡◌, ◌≤◌, length}
use Rattle.vg_fib.specs.Spans.{HasFirst6}
use Rattle.vg_fib.proofs.HeirLemmas.{HasFollowed}
use Rattle.vg_fib.proofs.spans.Spans.follow.Given as goal

-- the slots so far have the first routes of the table, and all of them are in the spans
abbrev pub invariant-loop-place : goal.invariant-loop-place
invariant-loop-place l = record {
  same_length : length l.slots.items ≡ length l.initial.slots.items;
  followed : HasFollowed l.routes l.known l.slots.items l.place;
  has : HasFirst6 l.slots.items (length l.slots.items) l.self;
  few : l.removed ≤ 16;
}
