-- For the loop of `all`: one generation more.
use Rattle.std.proofs.Common.{◌≡◌, ◌+◌, ◌-◌, ◌<◌, ◌≤◌, ◌++◌, length, drop, ap, ◌∙◌, arith}
use Rattle.vg_drawing.proofs.GenerationLemmas.{IsReached, one_further, one_more_generation, drawn_at}
use Rattle.vg_drawing.proofs.drawings.all.Goals as goal

pub loop-number-preserved : goal.loop-number-preserved
loop-number-preserved c =
    let graphs = c.args.plan.now.graphs in
    let number = c.loop-number.number in
    let first : 1 ≤ number = c.loop-number.invariant.first in
    let inside : number < length graphs = omega (arith, c.loop-number-test.true, c.generations-number-end.ensures.graphs) in
    let same : number - 1 + 1 ≡ number = omega (arith, first) in
    let back : number + 1 - 1 ≡ number = omega arith in
    let left : c.in_ok-generations-2.generations ≡ drop number graphs =
    one_further _ _ graphs (number - 1) c.loop-number.invariant.left c.in_ok-generations-2.ensures ∙ ap (λ n. drop n graphs) same in
    let later : c.in_ok-earlier-2.earlier ≡ drop number graphs =
    one_further _ _ graphs (number - 1) c.loop-number.invariant.before c.in_ok-earlier-2.ensures ∙ ap (λ n. drop n graphs) same in
    let reached : IsReached c.args.plan.now number c.begin_of-from.result c.loop-number.earlier c.in_ok-generations-2.generations = record {
      begin = cc (c.begin_of-from.ensures, c.as_slice.ensures.value, c.in_ok-runs.ensures, c.script.ensures.script);
      before = c.loop-number.invariant.before;
      here = left;
    } in
    record {
      first = omega arith;
      drawn = one_more_generation c.args.report.now c.args.plan.now number _ _ inside c.loop-number.invariant.drawn
          (c.in_ok-put_first-2.ensures ∙ ap (λ xs. c.loop-number.out.items ++ xs)
          (drawn_at c.args.report.now c.args.plan.now number c.begin_of-from.result c.loop-number.earlier c.in_ok-generations-2.generations reached));
      before = rw back later;
      left = rw back left;
    }
