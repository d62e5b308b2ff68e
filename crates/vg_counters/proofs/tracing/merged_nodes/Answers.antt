use Rattle.vg_counters.proofs.NoteLemmas.{merged_more}
use Rattle.vg_counters.proofs.tracing.merged_nodes.Goals as goal

pub loop-leg-preserved : goal.loop-leg-preserved
loop-leg-preserved c = merged_more c.args.number c.loop-leg.leg c.args.parts.now _ _ c.loop-leg-test.true c.loop-leg.invariant c.in_ok-append_leg.ensures
