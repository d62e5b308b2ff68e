use Rattle.std.proofs.Common.{◌<◌, ◌≤◌, length, Some, sym, ap, ◌∙◌, arith}
use Rattle.std.proofs.lemmas.Bool.{lt-ltb}
use Rattle.vg_report.specs.Seen.{line_seen}
use Rattle.vg_replay.specs.Courses.{in_hand}
use Rattle.vg_replay.specs.Replays.{task_of}
use Rattle.vg_replay.specs.Tasks.{Task}
use Rattle.vg_replay.proofs.GoLemmas.{goes_more, goes_nowhere, has_more, has_legs, ends_otherwise, goes_and_waits, goes_and_ends}
use Rattle.vg_replay.proofs.InputLemmas.{choice_at, bytes_at, leg_generation, sound_task}
use Rattle.vg_replay.proofs.WalkLemmas.{IsSound, valid_by}
use Rattle.vg_replay.proofs.underway.go_on.Goals as goal

pub returns-then-legs-k : goal.returns-then-legs-k
returns-then-legs-k g c =
    let task : Task = task_of g.K.KindSet.meaning c.args.input.now in
    let traced = c.args.input.now.traced in
    let generation = c.args.fork.now.generation in
    let number = c.args.number in
    let graph = c.args.fork.now.graph in
    let at = c.requires.graph in
    let legs = c.as_slice-legs.result.now in
    let accepted = c.get-line.result.congested in
    let sound : IsSound task = sound_task g.K.KindSet.meaning c.args.input.now g.met.K.KindSet.lawful c.know_graphs.ensures c.requires.input in
    let chosen = choice_at c.args.input.now.lines.now number (line_seen c.get-line.result) legs c.get-line.ensures c.as_slice-legs.ensures.legs in
    λ trip kept.
    goes_and_waits task sound traced generation number graph at legs accepted chosen c.bytes.result.now (bytes_at c.args.input.now.capture.now.packets number c.bytes.result.now c.bytes.ensures) c.know_bytes.ensures
    c.args.trip.now c.legs.k _ (in_hand c.legs.walker) trip
    c.legs.invariant.walked c.legs.invariant.more (leg_generation legs c.legs.k (record { worker = 0; generation = 0 }) c.legs-test.true) (λ e. c.if-legs-k.true (e ∙ sym c.generation.ensures)) kept

pub step-requires-clause-valid : goal.step-requires-clause-valid
step-requires-clause-valid g c = valid_by c.args.input.now.plan.now.graphs c.know_graphs.ensures c.args.fork.now.generation c.args.fork.now.graph c.requires.graph

pub step-requires-clause-few : goal.step-requires-clause-few
step-requires-clause-few g c =
    let task : Task = task_of g.K.KindSet.meaning c.args.input.now in
    let traced = c.args.input.now.traced in
    let generation = c.args.fork.now.generation in
    let number = c.args.number in
    let graph = c.args.fork.now.graph in
    let at = c.requires.graph in
    let legs = c.as_slice-legs.result.now in
    let accepted = c.get-line.result.congested in
    let sound : IsSound task = sound_task g.K.KindSet.meaning c.args.input.now g.met.K.KindSet.lawful c.know_graphs.ensures c.requires.input in
    let chosen = choice_at c.args.input.now.lines.now number (line_seen c.get-line.result) legs c.get-line.ensures c.as_slice-legs.ensures.legs in
    let less : c.legs.k < length legs = c.legs-test.true in
    let many = has_legs task sound traced generation number graph at legs accepted chosen c.legs.k (in_hand c.legs.walker) c.legs.invariant.walked (omega (arith, less)) in
    let few = c.as_slice-legs.ensures.few in
    omega (arith, many, few, less)

pub returns-then-not-branch-2 : goal.returns-then-not-branch-2
returns-then-not-branch-2 g c =
    let task : Task = task_of g.K.KindSet.meaning c.args.input.now in
    let traced = c.args.input.now.traced in
    let generation = c.args.fork.now.generation in
    let number = c.args.number in
    let graph = c.args.fork.now.graph in
    let at = c.requires.graph in
    let legs = c.as_slice-legs.result.now in
    let accepted = c.get-line.result.congested in
    let sound : IsSound task = sound_task g.K.KindSet.meaning c.args.input.now g.met.K.KindSet.lawful c.know_graphs.ensures c.requires.input in
    let chosen = choice_at c.args.input.now.lines.now number (line_seen c.get-line.result) legs c.get-line.ensures c.as_slice-legs.ensures.legs in
    goes_nowhere task sound traced generation number graph at legs accepted chosen c.legs.k (in_hand c.legs.walker) (in_hand c.step.new.self) c.in_ok-step.field-0 c.if-not-branch-2.true c.legs.invariant.walked
    (leg_generation legs c.legs.k (record { worker = 0; generation = 0 }) c.legs-test.true ∙ ap Some (c.if-legs-k.false ∙ c.generation.ensures)) c.in_ok-step.ensures

pub legs-preserved : goal.legs-preserved
legs-preserved g c =
    let task : Task = task_of g.K.KindSet.meaning c.args.input.now in
    let traced = c.args.input.now.traced in
    let generation = c.args.fork.now.generation in
    let number = c.args.number in
    let graph = c.args.fork.now.graph in
    let at = c.requires.graph in
    let legs = c.as_slice-legs.result.now in
    let accepted = c.get-line.result.congested in
    let sound : IsSound task = sound_task g.K.KindSet.meaning c.args.input.now g.met.K.KindSet.lawful c.know_graphs.ensures c.requires.input in
    let chosen = choice_at c.args.input.now.lines.now number (line_seen c.get-line.result) legs c.get-line.ensures c.as_slice-legs.ensures.legs in
    record {
      walked = goes_more task sound traced generation number graph at legs accepted chosen c.legs.k (in_hand c.legs.walker) (in_hand c.step.new.self) c.in_ok-step.field-0 c.if-not-branch-2.false c.legs.invariant.walked
          (leg_generation legs c.legs.k (record { worker = 0; generation = 0 }) c.legs-test.true ∙ ap Some (c.if-legs-k.false ∙ c.generation.ensures)) c.in_ok-step.ensures;
      more = (let more = c.legs.invariant.more in omega (arith, more));
    }

pub returns-then-not-goes_together : goal.returns-then-not-goes_together
returns-then-not-goes_together g c =
    let task : Task = task_of g.K.KindSet.meaning c.args.input.now in
    let traced = c.args.input.now.traced in
    let generation = c.args.fork.now.generation in
    let number = c.args.number in
    let graph = c.args.fork.now.graph in
    let at = c.requires.graph in
    let legs = c.as_slice-legs.result.now in
    let accepted = c.get-line.result.congested in
    let sound : IsSound task = sound_task g.K.KindSet.meaning c.args.input.now g.met.K.KindSet.lawful c.know_graphs.ensures c.requires.input in
    let chosen = choice_at c.args.input.now.lines.now number (line_seen c.get-line.result) legs c.get-line.ensures c.as_slice-legs.ensures.legs in
    let more = has_more task sound traced generation number graph at legs accepted chosen c.args.trip.now c.requires.here in
    let read = ap length c.legs-2.ensures.legs in
    let past : length legs ≤ c.legs.k = c.legs-test.false in
    let end : c.legs.k ≤ length legs = c.legs.auto.k-end (omega (arith, more, read)) in
    ends_otherwise task sound traced generation number graph at legs accepted chosen c.legs.k (in_hand c.legs.walker) c.legs.invariant.walked (omega (arith, past, end)) (sym c.goes_together.ensures ∙ c.if-not-goes_together.true)

pub returns : goal.returns
returns g c =
    let task : Task = task_of g.K.KindSet.meaning c.args.input.now in
    let traced = c.args.input.now.traced in
    let generation = c.args.fork.now.generation in
    let number = c.args.number in
    let graph = c.args.fork.now.graph in
    let at = c.requires.graph in
    let legs = c.as_slice-legs.result.now in
    let accepted = c.get-line.result.congested in
    let sound : IsSound task = sound_task g.K.KindSet.meaning c.args.input.now g.met.K.KindSet.lawful c.know_graphs.ensures c.requires.input in
    let chosen = choice_at c.args.input.now.lines.now number (line_seen c.get-line.result) legs c.get-line.ensures c.as_slice-legs.ensures.legs in
    let more = has_more task sound traced generation number graph at legs accepted chosen c.args.trip.now c.requires.here in
    let read = ap length c.legs-2.ensures.legs in
    let past : length legs ≤ c.legs.k = c.legs-test.false in
    let end : c.legs.k ≤ length legs = c.legs.auto.k-end (omega (arith, more, read)) in
    λ trip kept.
    goes_and_ends task sound traced generation number graph at legs accepted chosen c.bytes.result.now (bytes_at c.args.input.now.capture.now.packets number c.bytes.result.now c.bytes.ensures) c.know_bytes.ensures
    c.args.trip.now c.legs.k (in_hand c.legs.walker) trip _ c.legs.invariant.walked (omega (arith, past, end)) c.legs.invariant.more
    (sym c.goes_together.ensures ∙ c.if-not-goes_together.false) (λ h. lt-ltb number traced h) kept
