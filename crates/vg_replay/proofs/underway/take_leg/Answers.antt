use Rattle.std.proofs.Common.{◌∙◌, arith}
use Rattle.std.proofs.lemmas.Option.{slice_get-map}
use Rattle.vg_capture.specs.declared.captures.Captured.{Captured}
use Rattle.vg_replay.specs.Courses.{in_hand}
use Rattle.vg_replay.specs.Replays.{task_of}
use Rattle.vg_replay.specs.Tasks.{Task}
use Rattle.vg_replay.proofs.InputLemmas.{is_none, is_some}
use Rattle.vg_replay.proofs.WalkLemmas.{IsSound, if_ok, begun_walks, taken_walks, valid_by}
use Rattle.vg_replay.proofs.underway.take_leg.Goals as goal

pub returns-then-is_empty : goal.returns-then-is_empty
returns-then-is_empty g c =
    let task : Task = task_of g.K.KindSet.meaning c.args.input.now in
    let sound : IsSound task = record { kinds = g.met.K.KindSet.lawful; graphs = c.know_graphs.ensures; workers = (let h = c.requires.input.workers.0 in omega (arith, h)) } in
    let traced = c.args.input.now.traced in
    let generation = c.args.fork.now.generation in
    let graph = c.args.fork.now.graph in
    let trip = c.args.trip.now in
    let none = is_none c.legs.result.now trip.legs c.is_empty.result c.legs.ensures.legs c.is_empty.ensures c.if-is_empty.true in
    if_ok c.begin.result _ _
    (λ there h. begun_walks task sound traced generation c.args.number graph c.requires.graph trip c.requires.here none c.bytes-bytes.result.now
    (slice_get-map (λ (p : Captured). p.bytes) c.args.input.now.capture.now.packets c.args.number ∙ c.bytes-bytes.ensures) (in_hand c.begin.new.self) there h)
    c.begin.ensures

pub step-requires-clause-valid : goal.step-requires-clause-valid
step-requires-clause-valid g c = valid_by c.args.input.now.plan.now.graphs c.know_graphs.ensures c.args.fork.now.generation c.args.fork.now.graph c.requires.graph

pub returns : goal.returns
returns g c =
    let task : Task = task_of g.K.KindSet.meaning c.args.input.now in
    let sound : IsSound task = record { kinds = g.met.K.KindSet.lawful; graphs = c.know_graphs.ensures; workers = (let h = c.requires.input.workers.0 in omega (arith, h)) } in
    let traced = c.args.input.now.traced in
    let generation = c.args.fork.now.generation in
    let graph = c.args.fork.now.graph in
    let trip = c.args.trip.now in
    let some = is_some c.legs.result.now trip.legs c.is_empty.result c.legs.ensures.legs c.is_empty.ensures c.if-is_empty.false in
    if_ok c.step.result _ _
    (λ there h. taken_walks task sound traced generation c.args.number graph c.requires.graph trip c.requires.here some (in_hand c.take_up.new.self) (in_hand c.step.new.self)
    c.in_ok-take_up.ensures there h)
    c.step.ensures
