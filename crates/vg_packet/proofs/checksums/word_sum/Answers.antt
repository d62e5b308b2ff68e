use Rattle.std.proofs.Common.{◌<◌, length, arith}
use Rattle.vg_packet.proofs.SumLemmas.{word_sum-none}
use Rattle.vg_packet.proofs.checksums.word_sum.Goals as goal

pub returns : goal.returns
returns c =
    let rest = c.loop-word.word-iterator.rest.now in
    let few : length rest < 2 = omega (arith, c.loop-word.invariant.two, c.in-None.ensures.steps.1.0) in
    omega (arith, c.loop-word.invariant.whole, word_sum-none rest few c.loop-word.invariant.even)
