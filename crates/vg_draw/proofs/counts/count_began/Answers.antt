-- For the loop of `count_began`: one packet more.
use Rattle.std.proofs.Common.{arith}
use Rattle.vg_draw.specs.Drawing.{began_in}
use Rattle.vg_draw.proofs.CountLemmas.{count_more}
use Rattle.vg_draw.proofs.counts.count_began.Goals as goal

pub loop-number-preserved : goal.loop-number-preserved
loop-number-preserved c = record {
  count =
      count_more (began_in c.args.generation) c.args.packets.now c.loop-number.number c.loop-number.count c.with_one-count.result c.began.result c.began.ensures
      c.loop-number.invariant.count c.with_one-count.ensures.sum;
  few = omega (arith, c.with_one-count.ensures.few, c.loop-number.invariant.few);
}
