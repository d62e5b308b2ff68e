-- For `forget_between`: its loop, its clause.
use Rattle.std.proofs.Common.{◌≡◌, subst, arith}
use Rattle.vg_ways.specs.Stages.{AreForgotten}
use Rattle.vg_ways.proofs.StageLemmas.{none_forgotten, forgotten_more}
use Rattle.vg_ways.proofs.stages.forget_between.Goals as goal

pub loop-place-init : goal.loop-place-init
loop-place-init c = none_forgotten c.args.from c.args.made.now.items

pub loop-place-preserved : goal.loop-place-preserved
loop-place-preserved c =
    forgotten_more c.loop-place.auto.place (let test = c.loop-place-test.true in let few = c.requires.before in omega (arith, test, few)) c.loop-place.invariant

pub returns : goal.returns
returns c =
    let most = c.loop-place.auto.place-end c.requires.from in
    let least = c.loop-place-test.false in
    let all : c.loop-place.place ≡ c.args.before = omega (arith, most, least) in
    subst (λ k. AreForgotten c.args.from k c.args.made.now.items c.loop-place.made.items) all c.loop-place.invariant
