-- `all`, the drawings of all generations: the loop over them.
use Rattle.std.proofs.Common.{◌≡◌, ◌-◌, ◌≤◌, take, drop}
use Rattle.vg_draw.specs.Drawing.{numbered, all_of}
use Rattle.vg_drawing.specs.Drawn.{generation_drawing}
use Rattle.vg_drawing.proofs.drawings.all.Given as goal

abbrev pub invariant-loop-number : goal.invariant-loop-number
invariant-loop-number l = record {
  first : 1 ≤ l.number;
  drawn : l.out.items ≡ all_of (numbered (generation_drawing l.report l.plan) 0 (take l.number l.plan.graphs));
  before : l.earlier ≡ drop (l.number - 1) l.plan.graphs;
  left : l.generations ≡ drop (l.number - 1) l.plan.graphs;
}
