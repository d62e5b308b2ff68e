use Rattle.std.proofs.Common.{◌≡◌, ◌∙◌, get_or, rules, ap}
use Rattle.std.proofs.Math.Seq.{map-set_same}
use Rattle.vg_dispatch.specs.Workers.{WorkerBook}
use Rattle.vg_workers.proofs.CrewLemmas.{crew_at, crew_set}
use Rattle.vg_workers.proofs.crews.turn_one.Goals as goal

pub turn-requires-clause-worker : goal.turn-requires-clause-worker
turn-requires-clause-worker g c κs within =
    let was = c.index_mut.result.now in
    let is : was ≡ get_or c.args.workers.now.items c.args.k was = search rules in
    (crew_at _ _ _ _ _ _ c.args.workers.now.items c.requires.crew c.args.k was c.requires.within is).stands

pub turn-requires-clause-seat : goal.turn-requires-clause-seat
turn-requires-clause-seat g c κs within =
    let was = c.index_mut.result.now in
    let is : was ≡ get_or c.args.workers.now.items c.args.k was = search rules in
    (crew_at _ _ _ _ _ _ c.args.workers.now.items c.requires.crew c.args.k was c.requires.within is).seat

pub returns-clause-crew : goal.returns-clause-crew
returns-clause-crew g c =
    let was = c.index_mut.result.now in
    let is : was ≡ get_or c.args.workers.now.items c.args.k was = search rules in
    crew_set _ _ _ _ _ _ c.args.workers.now.items c.requires.crew c.args.k was c.turn.new.self c.requires.within is c.turn.ensures.worker c.turn.ensures.same c.turn.ensures.seat

pub returns-clause-rings : goal.returns-clause-rings
returns-clause-rings g c =
    let was = c.index_mut.result.now in
    let is : was ≡ get_or c.args.workers.now.items c.args.k was = search rules in
    map-set_same (λ (w : WorkerBook). w.outputs) c.args.workers.now.items c.args.k c.turn.new.self was (c.turn.ensures.same.outputs ∙ ap (λ (w : WorkerBook). w.outputs) is)
