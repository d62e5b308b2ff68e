use Rattle.std.proofs.Common.{◌≡◌, ◌<◌, ◌++◌, length, refl, ◌∙◌, arith}
use Rattle.std.proofs.lemmas.Grind.{common_steps}
use Rattle.vg_frame.proofs.QueueLemmas.{left_len, left_pushed, left_none}
use Rattle.vg_frame.proofs.queues.Queue.push_each.Goals as goal

pub left-init : goal.left-init
left-init c = record { indexes = refl; frames = refl; cut = c.requires.cut }

pub push_within-requires-clause-within : goal.push_within-requires-clause-within
push_within-requires-clause-within c = omega (arith, c.room.ensures.room, c.split_at.ensures.front_len, c.min.ensures)

pub push_within-requires-clause-room : goal.push_within-requires-clause-room
push_within-requires-clause-room c =
    let i = c.left.invariant in
    let long = left_len c.args.self.now.indexes c.left.self.indexes c.args.indexes.now c.left.left.now i.indexes in
    let some : 0 < length c.left.left.now = grind (arith, common_steps, c.is_empty.ensures, c.left-test.true) in
    omega (arith, long, some, i.cut, c.requires.room)

pub push_within-requires-clause-spare : goal.push_within-requires-clause-spare
push_within-requires-clause-spare c =
    let i = c.left.invariant in
    let long = left_len c.args.self.now.indexes c.left.self.indexes c.args.indexes.now c.left.left.now i.indexes in
    let some : 0 < length c.left.left.now = grind (arith, common_steps, c.is_empty.ensures, c.left-test.true) in
    omega (arith, long, some, i.cut, i.frames, c.requires.spare)

pub left-preserved : goal.left-preserved
left-preserved c =
    let i = c.left.invariant in
    record {
      indexes = left_pushed c.left.self.indexes c.push_within.new.self.indexes c.left.left.now c.split_at.result.0.now c.split_at.result.1.now c.split_at.ensures.by_index.0 c.push_within.ensures.indexes ∙ i.indexes;
      frames = c.push_within.ensures.frames ∙ i.frames;
      cut = c.push_within.ensures.cut;
    }

pub left-smaller : goal.left-smaller
left-smaller c =
    let some : 0 < length c.left.left.now = grind (arith, common_steps, c.is_empty.ensures, c.left-test.true) in
    omega (arith, some, c.room.ensures.some, c.split_at.ensures.back_len, c.min.ensures)

pub returns-clause-indexes : goal.returns-clause-indexes
returns-clause-indexes c =
    let none : length c.left.left.now ≡ 0 = grind (arith, common_steps, c.is_empty.ensures, c.left-test.false) in
    left_none c.left.self.indexes (c.args.self.now.indexes ++ c.args.indexes.now) c.left.left.now none c.left.invariant.indexes
