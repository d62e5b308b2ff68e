use Rattle.std.proofs.Common.{ℕ, ◌-◌, ◌<◌, get_or, arith}
use Rattle.vg_model.specs.declared.fates.Leg.{Leg}
use Rattle.vg_check.proofs.PushLemmas.{added_none, added_more, added_few, added_all, worker_at}
use Rattle.vg_check.proofs.pushes.add_hands.Goals as goal

pub count_hand-requires-clause-few : goal.count_hand-requires-clause-few
count_hand-requires-clause-few c =
    let legs = c.args.legs.now in
    let k : ℕ = c.loop-k.k in
    let d : Leg = record { worker = 0; generation = 0 } in
    let within = c.loop-k.invariant.within in
    let some = c.loop-k-test.true in
    let from_few : (get_or legs (k - 1 - 1) d).worker < 8 = worker_at legs (k - 1 - 1) d (omega (arith, within, some)) c.requires.workers in
    let to_few : (get_or legs (k - 1) d).worker < 8 = worker_at legs (k - 1) d (omega (arith, within, some)) c.requires.workers in
    added_few legs c.args.counts.now c.loop-k.counts k (get_or legs (k - 1 - 1) d).worker (get_or legs (k - 1) d).worker c.loop-k.invariant c.requires.legs from_few to_few
    (c.requires.few (get_or legs (k - 1 - 1) d).worker (get_or legs (k - 1) d).worker from_few to_few)

pub loop-k-init : goal.loop-k-init
loop-k-init c = added_none c.args.legs.now c.args.counts.now

pub loop-k-preserved : goal.loop-k-preserved
loop-k-preserved c =
    added_more c.args.legs.now c.args.counts.now c.loop-k.counts c.count_hand.new.counts c.loop-k.k (record { worker = 0; generation = 0 }) c.loop-k.invariant c.loop-k-test.true c.count_hand.ensures

pub returns : goal.returns
returns c = added_all c.args.legs.now c.args.counts.now c.loop-k.counts c.loop-k.k c.loop-k.invariant c.loop-k-test.false
