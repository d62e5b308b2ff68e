use Rattle.std.proofs.Common.{arith}
use Rattle.vg_replay.specs.Replays.{task_of}
use Rattle.vg_replay.proofs.PassLemmas.{later_left, next_graph, last_graph}
use Rattle.vg_replay.proofs.UnderwayLemmas.{never_due}
use Rattle.vg_replay.proofs.replaying.pass_all.Goals as goal

pub pass-requires-in-generations-clause-graph : goal.pass-requires-in-generations-clause-graph
pass-requires-in-generations-clause-graph g c =
    next_graph c.args.input.now.plan.now.graphs c.generations.generations c.generations.generation c.generations.invariant.some c.generations.invariant.left c.in_ok-generations-2.generations
    c.in_ok-generations-2.ensures c.master-in-generations.result.now c.master-in-generations.ensures

pub generations-preserved : goal.generations-preserved
generations-preserved g c = record {
  underway = c.in_ok-fork-2.ensures;
  left = later_left c.args.input.now.plan.now.graphs c.generations.generations c.generations.generation c.generations.invariant.some c.generations.invariant.left c.in_ok-generations-2.generations
      c.in_ok-generations-2.ensures;
  some = omega arith;
}

pub returns-clause-underway : goal.returns-clause-underway
returns-clause-underway g c =
    let count = c.generations-generation-end.ensures.graphs in
    let past = c.generations-test.false in
    never_due (task_of g.K.KindSet.meaning c.args.input.now) c.args.input.now.traced c.generations.generation c.generations.underway (omega (arith, count, past)) c.generations.invariant.underway

pub returns-clause-last : goal.returns-clause-last
returns-clause-last g c =
    let count = c.generations-generation-end.ensures.graphs in
    let events = c.generations-generation-end.ensures.events in
    let past = c.generations-test.false in
    let end = c.generations.auto.generation-end (omega (arith, events)) in
    last_graph c.args.input.now.plan.now.graphs c.generations.generations c.generations.generation c.generations.invariant.some c.generations.invariant.left c.into_master.result
    (omega (arith, count, past, end)) c.into_master.ensures
