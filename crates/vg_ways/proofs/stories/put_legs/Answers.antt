-- For `put_legs`: its loop, its clause `legs`.
use Rattle.std.proofs.Common.{◌∙◌, ap, drop, take, refl}
use Rattle.vg_model.specs.declared.fates.Leg.{Leg}
use Rattle.vg_ways.proofs.StoryLemmas.{one_leg_more, all_legs_told}
use Rattle.vg_ways.proofs.stories.put_legs.Goals as goal

pub loop-leg-init : goal.loop-leg-init
loop-leg-init g c = record { plan_is = refl; later = λ new h. h }

pub loop-leg-preserved : goal.loop-leg-preserved
loop-leg-preserved g c =
    let first : Leg = record { worker = 0; generation = 0 } in
    let rest = c.loop-leg.rest.now in
    one_leg_more _ c.loop-leg.leg-index _ _ c.loop-leg.invariant
    (record {
      d = first;
      within = c.loop-leg-test.true;
      here = c.split_at.result.0.now;
      here_is = c.split_at.ensures.front ∙ ap (λ n. take n rest) c.leg_len.ensures.len;
      rest_is = c.split_at.ensures.back ∙ ap (λ n. drop n rest) c.leg_len.ensures.len;
      same = c.in_ok-put_leg.ensures.plan;
      told = c.in_ok-put_leg.ensures.leg;
    })

pub returns-clause-legs : goal.returns-clause-legs
returns-clause-legs g c = all_legs_told _ c.loop-leg.leg-index _ c.loop-leg-test.false c.loop-leg.invariant
