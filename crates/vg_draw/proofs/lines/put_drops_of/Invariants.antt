use Rattle.std.proofs.Common.{◌≡◌, ◌++◌, take, flat_map}
use Rattle.vg_draw.specs.Drawing.{drop_line}
use Rattle.vg_draw.proofs.lines.put_drops_of.Given as goal

abbrev pub invariant-loop-entry : goal.invariant-loop-entry
invariant-loop-entry l = l.out.items ≡ l.initial.out.items ++ flat_map (drop_line l.packets l.number l.name) (take l.entry-index l.errors)
