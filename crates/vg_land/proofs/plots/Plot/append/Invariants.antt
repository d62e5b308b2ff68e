-- For `append`: its loop.
use Rattle.std.proofs.Common.{◌≡◌, ◌+◌, ◌<◌, ◌++◌, length, take}
use Rattle.vg_land.proofs.plots.Plot.append.Given as goal

abbrev pub invariant-loop-byte : goal.invariant-loop-byte
invariant-loop-byte l = record {
  items : l.self-inside.bytes.items ≡ l.fn.self.items ++ take l.byte-index l.bytes;
  len : l.self-inside.bytes.len ≡ length l.fn.self.items + l.byte-index;
  room : l.self-inside.bytes.cap ≡ l.fn.self.cap;
  some : 0 < l.self-inside.bytes.cap;
  place : l.self-inside.tether.ptr ≡ l.self-inside.bytes.ptr;
  size : l.self-inside.tether.len ≡ l.self-inside.bytes.cap;
}
