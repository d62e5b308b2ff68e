use Rattle.std.proofs.Common.{◌<◌, ◌≤◌, refl, arith}
use Rattle.vg_replay.specs.Replays.{task_of}
use Rattle.vg_replay.proofs.InputLemmas.{task_long, task_lines}
use Rattle.vg_replay.proofs.ReplayLemmas.{first_fault, all_replayed}
use Rattle.vg_replay.proofs.replaying.replay.Goals as goal

pub returns-in-Ok-clause-refused : goal.returns-in-Ok-clause-refused
returns-in-Ok-clause-refused g c =
    let count = c.count.ensures in
    let long = task_long g.K.KindSet.meaning c.args.input.now in
    let less : c.in-Ok.underway.stuck < c.count.result = c.if-go_through-count.true in
    first_fault (task_of g.K.KindSet.meaning c.args.input.now) c.args.input.now.traced c.in-Ok.underway c.in-Ok.ensures.underway (omega (arith, count, long, less))

pub returns-in-Ok-2-clause-replayed : goal.returns-in-Ok-2-clause-replayed
returns-in-Ok-2-clause-replayed g c =
    let count = c.count.ensures in
    let long = task_long g.K.KindSet.meaning c.args.input.now in
    let all : c.count.result ≤ c.in-Ok.underway.stuck = c.if-go_through-count.false in
    all_replayed (task_of g.K.KindSet.meaning c.args.input.now) c.args.input.now.traced c.in-Ok.underway c.in-Ok.ensures.underway (task_lines g.K.KindSet.meaning c.args.input.now c.requires)
    (omega (arith, count, long, all)) _ refl refl c.in-Ok.ensures.last
