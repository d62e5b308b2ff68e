use Rattle.vg_counters.proofs.NoteLemmas.{AreMergedBelow}
use Rattle.vg_counters.proofs.tracing.merge.Given as goal

-- the packets so far have their nodes
abbrev pub invariant-loop-number : goal.invariant-loop-number
invariant-loop-number l = AreMergedBelow (λ nodes. nodes.items) l.number l.parts l.lists.items
