use Rattle.std.proofs.Common.{◌≡◌, ◌+◌, ◌^◌, refl, sym, ap, subst, ◌∙◌}
use Rattle.std.specs.Prelude.{Some, min}
use Rattle.vg_dispatch.specs.declared.parcels.Stop.TheVariants as stops
use Rattle.vg_dispatch.specs.Standing.{run_of}
use Rattle.vg_dispatch.specs.Workers.{WorkerBook, seat_in, seat_of, running_seat}
use Rattle.vg_dispatch.specs.Turned.{Looks}
use Rattle.vg_dispatch.proofs.TurnLemmas.{work_seat, looked_has, parcel_graph, limit_within, parcel_now, stop_no, stop_some, stopped_here, parked_here, ran_here, mark_moves, round_seen, turn_count, turns_parked, turns_stopped, turns_ran}
use Rattle.vg_dispatch.proofs.workers.Worker.turn.Goals as goal

pub returns-then-ne-2-clause-worker : goal.returns-then-ne-2-clause-worker
returns-then-ne-2-clause-worker g c =
    let sat : c.args.self.now.seat ≡ Some (seat_of c.in-Some.seat) = sym (ap (λ (w : WorkerBook). w.seat) c.self.view_is) ∙ ap seat_in (sym c.take.ensures.value ∙ c.in-Some.is) in
    let looks = subst (λ x. Looks (seat_of c.in-Some.seat) (seat_of x)) c.in-Run.is c.looked.ensures in
    stopped_here g.K.KindSet.meaning g.H.Handoff.LOSSLESS c.args.input.now.plan.now c.args.input.now.capture.now c.args.input.now.options.now c.self.view_is c.requires.worker (seat_of c.in-Some.seat) (running_seat c.in-Run.running) c.in-Run.running.parcel sat looks refl c.min-self-inside.result

pub returns-then-ne-2-clause-turn : goal.returns-then-ne-2-clause-turn
returns-then-ne-2-clause-turn g c =
    let sat : c.args.self.now.seat ≡ Some (seat_of c.in-Some.seat) = sym (ap (λ (w : WorkerBook). w.seat) c.self.view_is) ∙ ap seat_in (sym c.take.ensures.value ∙ c.in-Some.is) in
    let looks = subst (λ x. Looks (seat_of c.in-Some.seat) (seat_of x)) c.in-Run.is c.looked.ensures in
    let goes : c.args.self.now.stop ≡ stops.No = sym (ap (λ (w : WorkerBook). w.stop) c.self.view_is) ∙ stop_no c.self.inside.stop c.ne.result c.ne.ensures c.if-ne.false in
    turns_stopped (run_of g.K.KindSet.meaning c.args.input.now.plan.now c.args.input.now.capture.now c.args.input.now.options.now) g.H.Handoff.LOSSLESS c.self.view_is goes (seat_of c.in-Some.seat)
    (running_seat c.in-Run.running) c.in-Run.running.parcel sat looks refl (stop_some c.in-Run.running.parcel.stop c.ne-in-Run.result c.ne-in-Run.ensures c.if-ne-2.true) c.min-self-inside.result
    (turn_count c.self.inside.turns c.saturating_add.result c.min-self-inside.result c.saturating_add.ensures c.min-self-inside.ensures)

pub round-requires-clause-work : goal.round-requires-clause-work
round-requires-clause-work g c = work_seat g.K.KindSet.meaning g.H.Handoff.LOSSLESS c.args.input.now.plan.now c.args.input.now.capture.now c.args.input.now.options.now c.self.view_is c.requires.worker.work _ _ _

pub round-requires-clause-graph : goal.round-requires-clause-graph
round-requires-clause-graph g c =
    let sat : c.args.self.now.seat ≡ Some (seat_of c.in-Some.seat) = sym (ap (λ (w : WorkerBook). w.seat) c.self.view_is) ∙ ap seat_in (sym c.take.ensures.value ∙ c.in-Some.is) in
    let looks = subst (λ x. Looks (seat_of c.in-Some.seat) (seat_of x)) c.in-Run.is c.looked.ensures in
    let has = looked_has g.K.KindSet.meaning g.H.Handoff.LOSSLESS c.args.input.now.plan.now c.args.input.now.capture.now c.args.input.now.options.now c.self.view_is c.requires.worker (seat_of c.in-Some.seat) (running_seat c.in-Run.running) c.in-Run.running.parcel sat looks refl in
    parcel_graph c.args.input.now.plan.now c.args.input.now.capture.now c.in-Run.running.parcel has.fits

pub round-requires-clause-limit : goal.round-requires-clause-limit
round-requires-clause-limit g c =
    let sat : c.args.self.now.seat ≡ Some (seat_of c.in-Some.seat) = sym (ap (λ (w : WorkerBook). w.seat) c.self.view_is) ∙ ap seat_in (sym c.take.ensures.value ∙ c.in-Some.is) in
    let looks = subst (λ x. Looks (seat_of c.in-Some.seat) (seat_of x)) c.in-Run.is c.looked.ensures in
    let has = looked_has g.K.KindSet.meaning g.H.Handoff.LOSSLESS c.args.input.now.plan.now c.args.input.now.capture.now c.args.input.now.options.now c.self.view_is c.requires.worker (seat_of c.in-Some.seat) (running_seat c.in-Run.running) c.in-Run.running.parcel sat looks refl in
    limit_within c.args.input.now.plan.now c.args.input.now.capture.now c.in-Run.running.parcel has.fits

pub round-requires-clause-now : goal.round-requires-clause-now
round-requires-clause-now g c =
    let sat : c.args.self.now.seat ≡ Some (seat_of c.in-Some.seat) = sym (ap (λ (w : WorkerBook). w.seat) c.self.view_is) ∙ ap seat_in (sym c.take.ensures.value ∙ c.in-Some.is) in
    let looks = subst (λ x. Looks (seat_of c.in-Some.seat) (seat_of x)) c.in-Run.is c.looked.ensures in
    let has = looked_has g.K.KindSet.meaning g.H.Handoff.LOSSLESS c.args.input.now.plan.now c.args.input.now.capture.now c.args.input.now.options.now c.self.view_is c.requires.worker (seat_of c.in-Some.seat) (running_seat c.in-Run.running) c.in-Run.running.parcel sat looks refl in
    parcel_now c.args.input.now.plan.now c.args.input.now.capture.now c.in-Run.running.parcel c.self.inside.mark has.fits has.next

pub returns-in-Parked-clause-worker : goal.returns-in-Parked-clause-worker
returns-in-Parked-clause-worker g c =
    let sat : c.args.self.now.seat ≡ Some (seat_of c.in-Some.seat) = sym (ap (λ (w : WorkerBook). w.seat) c.self.view_is) ∙ ap seat_in (sym c.take.ensures.value ∙ c.in-Some.is) in
    let looks = subst (λ x. Looks (seat_of c.in-Some.seat) (seat_of x)) c.in-Parked.is c.looked.ensures in
    parked_here g.K.KindSet.meaning g.H.Handoff.LOSSLESS c.args.input.now.plan.now c.args.input.now.capture.now c.args.input.now.options.now c.self.view_is c.requires.worker (seat_of c.in-Some.seat) _ sat looks
    (stop_no c.self.inside.stop c.ne.result c.ne.ensures c.if-ne.false) c.min-self-inside.result

pub returns-else-ne-2-clause-worker : goal.returns-else-ne-2-clause-worker
returns-else-ne-2-clause-worker g c =
    let sat : c.args.self.now.seat ≡ Some (seat_of c.in-Some.seat) = sym (ap (λ (w : WorkerBook). w.seat) c.self.view_is) ∙ ap seat_in (sym c.take.ensures.value ∙ c.in-Some.is) in
    let looks = subst (λ x. Looks (seat_of c.in-Some.seat) (seat_of x)) c.in-Run.is c.looked.ensures in
    let on = stop_no c.in-Run.running.parcel.stop c.ne-in-Run.result c.ne-in-Run.ensures c.if-ne-2.false in
    ran_here g.K.KindSet.meaning g.H.Handoff.LOSSLESS c.args.input.now.plan.now c.args.input.now.capture.now c.args.input.now.options.now c.self.view_is c.requires.worker (seat_of c.in-Some.seat)
    (running_seat c.in-Run.running) c.in-Run.running.parcel sat looks refl on c.self-in-Run.view_is c.round.ensures.work c.round.ensures.same.number
    (c.round.ensures.rest.2 ∙ stop_no c.self.inside.stop c.ne.result c.ne.ensures c.if-ne.false)
    (mark_moves (run_of g.K.KindSet.meaning c.args.input.now.plan.now c.args.input.now.capture.now c.args.input.now.options.now) g.H.Handoff.LOSSLESS c.in-Run.running.parcel.fork.graph c.in-Run.running.parcel.fork.generation c.in-Run.running.parcel.limit _ c.round.new.self c.round.ensures.round)

pub returns-else-ne-2-clause-turn : goal.returns-else-ne-2-clause-turn
returns-else-ne-2-clause-turn g c =
    let sat : c.args.self.now.seat ≡ Some (seat_of c.in-Some.seat) = sym (ap (λ (w : WorkerBook). w.seat) c.self.view_is) ∙ ap seat_in (sym c.take.ensures.value ∙ c.in-Some.is) in
    let looks = subst (λ x. Looks (seat_of c.in-Some.seat) (seat_of x)) c.in-Run.is c.looked.ensures in
    let goes : c.args.self.now.stop ≡ stops.No = sym (ap (λ (w : WorkerBook). w.stop) c.self.view_is) ∙ stop_no c.self.inside.stop c.ne.result c.ne.ensures c.if-ne.false in
    let on = stop_no c.in-Run.running.parcel.stop c.ne-in-Run.result c.ne-in-Run.ensures c.if-ne-2.false in
    turns_ran (run_of g.K.KindSet.meaning c.args.input.now.plan.now c.args.input.now.capture.now c.args.input.now.options.now) g.H.Handoff.LOSSLESS c.args.self.now _ goes (seat_of c.in-Some.seat) (running_seat c.in-Run.running) c.in-Run.running.parcel sat looks refl on
    (ap (λ (w : WorkerBook). w.stop) c.self-in-Run.view_is ∙ c.round.ensures.rest.2 ∙ stop_no c.self.inside.stop c.ne.result c.ne.ensures c.if-ne.false) refl
    (ap (λ (w : WorkerBook). w.turns) c.self-in-Run.view_is ∙ c.round.ensures.rest.1 ∙ (turn_count c.self.inside.turns c.saturating_add.result c.min-self-inside.result c.saturating_add.ensures c.min-self-inside.ensures) ∙ ap (λ (w : WorkerBook). min (w.turns + 1) (2 ^ 62)) c.self.view_is)
    (round_seen (run_of g.K.KindSet.meaning c.args.input.now.plan.now c.args.input.now.capture.now c.args.input.now.options.now) g.H.Handoff.LOSSLESS c.in-Run.running.parcel.fork.graph
    c.in-Run.running.parcel.fork.generation c.in-Run.running.parcel.limit _ _ _ _ _ _ c.self.view_is c.self-in-Run.view_is c.round.ensures.round)

pub returns-in-Parked-clause-turn : goal.returns-in-Parked-clause-turn
returns-in-Parked-clause-turn g c =
    let sat : c.args.self.now.seat ≡ Some (seat_of c.in-Some.seat) = sym (ap (λ (w : WorkerBook). w.seat) c.self.view_is) ∙ ap seat_in (sym c.take.ensures.value ∙ c.in-Some.is) in
    let looks = subst (λ x. Looks (seat_of c.in-Some.seat) (seat_of x)) c.in-Parked.is c.looked.ensures in
    let goes : c.args.self.now.stop ≡ stops.No = sym (ap (λ (w : WorkerBook). w.stop) c.self.view_is) ∙ stop_no c.self.inside.stop c.ne.result c.ne.ensures c.if-ne.false in
    turns_parked (run_of g.K.KindSet.meaning c.args.input.now.plan.now c.args.input.now.capture.now c.args.input.now.options.now) g.H.Handoff.LOSSLESS c.self.view_is goes (seat_of c.in-Some.seat) _ sat looks refl c.min-self-inside.result
    (turn_count c.self.inside.turns c.saturating_add.result c.min-self-inside.result c.saturating_add.ensures c.min-self-inside.ensures)
