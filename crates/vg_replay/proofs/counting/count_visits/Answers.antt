use Rattle.std.proofs.Common.{take, get_or, refl, sym, subst}
use Rattle.std.proofs.lemmas.List.{take_more}
use Rattle.vg_replay.specs.Counts.{AddsVisits}
use Rattle.vg_replay.proofs.CountLemmas.{visits_none, visits_more, visit_can}
use Rattle.vg_replay.proofs.counting.count_visits.Goals as goal

pub loop-node-init : goal.loop-node-init
loop-node-init c = visits_none c.args.counts.now

pub visit-requires-clause-place : goal.visit-requires-clause-place
visit-requires-clause-place c =
    (visit_can c.args.visits.now c.loop-node.node-index (get_or c.args.visits.now c.loop-node.node-index 0) c.args.counts.now c.loop-node.counts c.requires c.loop-node.invariant c.loop-node-test.true refl).0

pub visit-requires-clause-room : goal.visit-requires-clause-room
visit-requires-clause-room c =
    (visit_can c.args.visits.now c.loop-node.node-index (get_or c.args.visits.now c.loop-node.node-index 0) c.args.counts.now c.loop-node.counts c.requires c.loop-node.invariant c.loop-node-test.true refl).1

pub loop-node-preserved : goal.loop-node-preserved
loop-node-preserved c =
    let node = get_or c.args.visits.now c.loop-node.node-index 0 in
    let more = take_more c.args.visits.now c.loop-node.node-index 0 c.loop-node-test.true in
    subst (λ vs. AddsVisits vs c.args.counts.now c.visit.new.self) (sym more)
    (visits_more (take c.loop-node.node-index c.args.visits.now) node c.args.counts.now c.loop-node.counts c.visit.new.self c.loop-node.invariant
    (visit_can c.args.visits.now c.loop-node.node-index node c.args.counts.now c.loop-node.counts c.requires c.loop-node.invariant c.loop-node-test.true refl).0 c.visit.ensures)
