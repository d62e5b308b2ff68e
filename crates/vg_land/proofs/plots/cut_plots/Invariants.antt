use Rattle.std.proofs.Common.{◌≡◌, [], length, replicate}
use Rattle.vg_land.proofs.plots.cut_plots.Given as goal

abbrev pub invariant-loop-strip : goal.invariant-loop-strip
invariant-loop-strip l = l.list.items ≡ replicate (length l.yielded) (record { items = []; cap = l.size })
