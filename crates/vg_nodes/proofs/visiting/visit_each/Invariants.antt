use Rattle.std.proofs.Common.{◌≤◌, drop}
use Rattle.vg_nodes.specs.Dispatch.{IsMeaningOf}
use Rattle.vg_nodes.proofs.UnderwayLemmas.{IsVisiting, running, between}
use Rattle.vg_nodes.proofs.visiting.visit_each.Given as goal

-- the packets from `start` on go on over the slot, and with them the lists are those of all that is visited
abbrev pub invariant-loop-at : goal.invariant-loop-at
invariant-loop-at g l = record {
  within : l.start ≤ l.at;
  visiting : IsVisiting (IsMeaningOf (goal.F-post g l.visit)) l.initial.memory l.indexes l.memory (drop l.at l.indexes) (running l.slot (between l.start l.at l.indexes) l.out);
}
