-- For the loop of `from_one_on`: one generation further.
use Rattle.vg_drawing.proofs.GenerationLemmas.{one_further}
use Rattle.vg_drawing.proofs.drawings.from_one_on.Goals as goal

pub loop-made-preserved : goal.loop-made-preserved
loop-made-preserved c = one_further _ _ c.args.plan.now.graphs c.loop-made.made c.loop-made.invariant c.in_ok-generations-2.ensures
