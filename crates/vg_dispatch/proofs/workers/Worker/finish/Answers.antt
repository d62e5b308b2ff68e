use Rattle.std.proofs.Common.{◌≡◌, refl, sym, ap, ◌∙◌}
use Rattle.std.specs.Prelude.{Some}
use Rattle.vg_plan.specs.Plan.{windows}
use Rattle.vg_dispatch.specs.Standing.{run_of}
use Rattle.vg_dispatch.specs.Workers.{WorkerBook, seat_in, running_seat}
use Rattle.vg_dispatch.proofs.TurnLemmas.{work_seat, sits, parcel_graph, parcel_now, round_seen, mark_stays, finished_here, rounds_at}
use Rattle.vg_dispatch.proofs.workers.Worker.finish.Goals as goal

pub round-requires-clause-work : goal.round-requires-clause-work
round-requires-clause-work g c = work_seat g.K.KindSet.meaning g.H.Handoff.LOSSLESS c.args.input.now.plan.now c.args.input.now.capture.now c.args.input.now.options.now c.self.view_is c.requires.worker.work _ _ _

pub round-requires-clause-graph : goal.round-requires-clause-graph
round-requires-clause-graph g c =
    let sat : c.args.self.now.seat ≡ Some (running_seat c.in-Some-Run.running) = sym (ap (λ (w : WorkerBook). w.seat) c.self.view_is) ∙ ap seat_in (sym c.take.ensures.value ∙ c.in-Some-Run.is ∙ ap Some c.in-Some-Run.field-0-is) in
    let seated = sits (windows c.args.input.now.plan.now c.args.input.now.capture.now) c.args.self.now.number c.args.self.now.mark c.args.self.now.seat (running_seat c.in-Some-Run.running) sat c.requires.worker.seated in
    parcel_graph c.args.input.now.plan.now c.args.input.now.capture.now c.in-Some-Run.running.parcel seated.parcel.fits

pub round-requires-clause-now : goal.round-requires-clause-now
round-requires-clause-now g c =
    let sat : c.args.self.now.seat ≡ Some (running_seat c.in-Some-Run.running) = sym (ap (λ (w : WorkerBook). w.seat) c.self.view_is) ∙ ap seat_in (sym c.take.ensures.value ∙ c.in-Some-Run.is ∙ ap Some c.in-Some-Run.field-0-is) in
    let seated = sits (windows c.args.input.now.plan.now c.args.input.now.capture.now) c.args.self.now.number c.args.self.now.mark c.args.self.now.seat (running_seat c.in-Some-Run.running) sat c.requires.worker.seated in
    parcel_now c.args.input.now.plan.now c.args.input.now.capture.now c.in-Some-Run.running.parcel c.self.inside.mark seated.parcel.fits (seated.parcel.next ∙ sym (ap (λ (w : WorkerBook). w.mark) c.self.view_is))

pub returns-clause-worker : goal.returns-clause-worker
returns-clause-worker g c =
    let sat : c.args.self.now.seat ≡ Some (running_seat c.in-Some-Run.running) = sym (ap (λ (w : WorkerBook). w.seat) c.self.view_is) ∙ ap seat_in (sym c.take.ensures.value ∙ c.in-Some-Run.is ∙ ap Some c.in-Some-Run.field-0-is) in
    finished_here g.K.KindSet.meaning g.H.Handoff.LOSSLESS c.args.input.now.plan.now c.args.input.now.capture.now c.args.input.now.options.now c.self.view_is c.requires.worker (running_seat c.in-Some-Run.running) sat c.self-2.view_is c.round.ensures.work
    c.round.ensures.same.number c.round.ensures.rest.2 (mark_stays (run_of g.K.KindSet.meaning c.args.input.now.plan.now c.args.input.now.capture.now c.args.input.now.options.now) g.H.Handoff.LOSSLESS
    c.in-Some-Run.running.parcel.fork.graph c.in-Some-Run.running.parcel.fork.generation _ c.round.new.self c.round.ensures.round)

pub returns-clause-mark : goal.returns-clause-mark
returns-clause-mark g c =
    ap (λ (w : WorkerBook). w.mark) c.self-2.view_is ∙ mark_stays (run_of g.K.KindSet.meaning c.args.input.now.plan.now c.args.input.now.capture.now c.args.input.now.options.now) g.H.Handoff.LOSSLESS
    c.in-Some-Run.running.parcel.fork.graph c.in-Some-Run.running.parcel.fork.generation _ c.round.new.self c.round.ensures.round ∙ ap (λ (w : WorkerBook). w.mark) c.self.view_is

pub returns-clause-round : goal.returns-clause-round
returns-clause-round g c =
    let sat : c.args.self.now.seat ≡ Some (running_seat c.in-Some-Run.running) = sym (ap (λ (w : WorkerBook). w.seat) c.self.view_is) ∙ ap seat_in (sym c.take.ensures.value ∙ c.in-Some-Run.is ∙ ap Some c.in-Some-Run.field-0-is) in
    rounds_at (run_of g.K.KindSet.meaning c.args.input.now.plan.now c.args.input.now.capture.now c.args.input.now.options.now) g.H.Handoff.LOSSLESS 0 c.args.self.now _ (running_seat c.in-Some-Run.running) c.in-Some-Run.running.parcel sat refl
    (round_seen (run_of g.K.KindSet.meaning c.args.input.now.plan.now c.args.input.now.capture.now c.args.input.now.options.now) g.H.Handoff.LOSSLESS c.in-Some-Run.running.parcel.fork.graph
    c.in-Some-Run.running.parcel.fork.generation 0 _ _ _ _ _ _ c.self.view_is c.self-2.view_is c.round.ensures.round)
