use Rattle.std.proofs.Common.{◌≡◌, ℕ, ◌<◌, List, length, ap, ◌∙◌, arith, length-append}
use Rattle.vg_packet.specs.Sums.{pair_sum}
use Rattle.vg_packet.proofs.SumLemmas.{pair_sum-none, pair_sum-next}
use Rattle.vg_packet.proofs.checksums.pair_sum.Goals as goal

pub loop-pair-preserved : goal.loop-pair-preserved
loop-pair-preserved c =
    let i = c.loop-pair.invariant in
    let pair : List ℕ = c.in-Some.pair.now in
    let behind : List ℕ = c.next.new.self.rest.now in
    let cut = c.in-Some.ensures.steps.1.0 in
    let four : length pair ≡ 4 = c.in-Some.ensures.steps.1.1 ∙ i.four in
    let sum = ap pair_sum cut ∙ pair_sum-next pair behind four in
    let long = ap length cut ∙ length-append pair behind in
    record {
      whole = omega (arith, i.whole, sum, c.read_u32.ensures);
      few = omega (arith, i.few, long, four);
      four_each = omega (arith, i.four_each, long, four);
      four = c.in-Some.ensures.steps.0 ∙ i.four;
    }

pub returns-clause-sum : goal.returns-clause-sum
returns-clause-sum c =
    let rest = c.loop-pair.pair-iterator.rest.now in
    let few : length rest < 4 = omega (arith, c.loop-pair.invariant.four, c.in-None.ensures.steps.1.0) in
    omega (arith, c.loop-pair.invariant.whole, pair_sum-none rest few c.loop-pair.invariant.four_each)
