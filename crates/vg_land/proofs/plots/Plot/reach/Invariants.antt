use Rattle.std.proofs.Common.{◌≡◌, ◌-◌, ◌<◌, ◌≤◌, ◌++◌, length, replicate}
use Rattle.vg_land.proofs.plots.Plot.reach.Given as goal

abbrev pub invariant-loop : goal.invariant-loop
invariant-loop l =
    (l.self-inside.bytes.items ≡ l.fn.self.items ++ replicate (l.counter - length l.fn.self.items) 0)
    × (l.counter - length l.fn.self.items ≤ l.len - length l.fn.self.items)
    × (l.counter ≡ l.self-inside.bytes.len) × (l.initial.counter ≤ l.counter) × (l.self-inside.bytes.cap ≡ l.fn.self.cap)
    × (0 < l.self-inside.bytes.cap) × (l.self-inside.tether.ptr ≡ l.self-inside.bytes.ptr) × (l.self-inside.tether.len ≡ l.self-inside.bytes.cap)
