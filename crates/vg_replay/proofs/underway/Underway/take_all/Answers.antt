use Rattle.std.proofs.Common.{◌≤◌, length, drop, arith, length-drop}
use Rattle.vg_replay.specs.Replays.{task_of}
use Rattle.vg_replay.proofs.UnderwayLemmas.{none_left}
use Rattle.vg_replay.proofs.underway.Underway.take_all.Goals as goal

pub returns : goal.returns
returns g c =
    let past : length c.args.numbers.now ≤ c.numbers.place = c.numbers-test.false in
    let cut = length-drop c.numbers.place c.args.numbers.now in
    none_left (task_of g.K.KindSet.meaning c.args.input.now) c.args.input.now.traced c.args.fork.now.generation c.numbers.self (drop c.numbers.place c.args.numbers.now) (omega (arith, past, cut)) c.numbers.invariant
