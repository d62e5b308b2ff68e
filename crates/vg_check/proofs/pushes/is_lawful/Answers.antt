use Rattle.std.proofs.Common.{◌≡◌, ◌<◌, ◌∙◌, ap, arith, subst, sym}
use Rattle.std.proofs.lemmas.Bool.{leb-true, le-leb}
use Rattle.vg_model.specs.Leg.{Handed}
use Rattle.vg_model.specs.Lawful.{last_worker}
use Rattle.vg_replay.specs.Legs.{outcome_of}
use Rattle.vg_check.specs.Hands.{handed, IsToWorker}
use Rattle.vg_check.proofs.PushLemmas.{last_below, push_to, push_from}
use Rattle.vg_check.proofs.pushes.is_lawful.Goals as goal

pub bounds-counts-from : goal.bounds-counts-from
bounds-counts-from c =
    let last : last_worker c.args.trip.now.legs < 8 = last_below c.args.trip.now.legs c.requires.workers.legs in
    let from : c.last_worker-from.result < 8 = subst (λ n. n < 8) (sym c.last_worker-from.ensures) last in
    let to : c.in-Handed.worker < 8 = subst IsToWorker (sym c.outcome.ensures ∙ ap outcome_of c.in-Handed.is) c.requires.workers.next in
    omega (arith, c.requires.hands.size, from, to)

pub returns-then-slots-accepted : goal.returns-then-slots-accepted
returns-then-slots-accepted c =
    let t = c.args.trip.now in
    let last : last_worker t.legs < 8 = last_below t.legs c.requires.workers.legs in
    let from : c.last_worker-from.result < 8 = subst (λ n. n < 8) (sym c.last_worker-from.ensures) last in
    let to : c.in-Handed.worker < 8 = subst IsToWorker (sym c.outcome.ensures ∙ ap outcome_of c.in-Handed.is) c.requires.workers.next in
    let over : t.outcome ≡ Handed c.in-Handed.node c.in-Handed.worker = sym c.outcome.ensures ∙ ap outcome_of c.in-Handed.is in
    let count : _ ≡ handed c.args.trips.now (last_worker t.legs) c.in-Handed.worker =
    c.requires.hands.are c.last_worker-from.result c.in-Handed.worker from to ∙ ap (λ w. handed c.args.trips.now w c.in-Handed.worker) c.last_worker-from.ensures in (
      (λ h. push_to c.args.slots (handed c.args.trips.now) t.legs c.args.congested t.outcome c.in-Some.accepted c.in-Handed.node c.in-Handed.worker c.in-Some.is over
          (c.if-slots-accepted.true, (let below = leb-true _ _ h in omega (arith, below, count)))),
      (λ h. le-leb _ _ (let parts = push_from c.args.slots (handed c.args.trips.now) t.legs c.args.congested t.outcome c.in-Some.accepted c.in-Handed.node c.in-Handed.worker c.in-Some.is over h in
          let most = parts.1 in omega (arith, most, count))),
    )
