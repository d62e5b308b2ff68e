use Rattle.std.proofs.Common.{sym}
use Rattle.vg_replay.proofs.LegLemmas.{target_within, way_starts, step_of, way_goes_on, fewer_left, way_ends}
use Rattle.vg_replay.proofs.legs.walk_leg.Goals as goal

pub nodes-init : goal.nodes-init
nodes-init g c =
    way_starts g.K.KindSet.meaning c.args.fork.now.graph c.args.at c.args.first c.args.buffer.now.packet c.args.visits.now.items g.met.K.KindSet.lawful
    c.requires.valid c.requires.target c.requires.possible

pub move_of-requires-clause-node : goal.move_of-requires-clause-node
move_of-requires-clause-node g c = target_within c.args.fork.now.graph c.nodes.node c.nodes.invariant.target

pub move_of-requires-clause-step : goal.move_of-requires-clause-step
move_of-requires-clause-step g c = step_of _ _ _ _ _ _ _ _ _ g.met.K.KindSet.lawful c.requires.valid c.nodes.invariant _ _ (sym c.visit-step.ensures.visited)

pub nodes-smaller : goal.nodes-smaller
nodes-smaller g c =
    fewer_left _ _ _ _ _ _ _ _ _ g.met.K.KindSet.lawful c.requires.valid c.nodes.invariant _ _ (sym c.visit-step.ensures.visited) c.in-Onward.next c.in-Onward.ensures

pub nodes-preserved : goal.nodes-preserved
nodes-preserved g c =
    way_goes_on _ _ _ _ _ _ _ _ _ g.met.K.KindSet.lawful c.requires.valid c.nodes.invariant _ _ (sym c.visit-step.ensures.visited) c.in-Onward.next _ c.in-Onward.ensures c.in_ok-push.ensures.items

pub returns-in-Over : goal.returns-in-Over
returns-in-Over g c =
    way_ends _ _ _ _ _ _ _ _ _ g.met.K.KindSet.lawful c.requires.valid c.nodes.invariant _ _ (sym c.visit-step.ensures.visited) c.in-Over.outcome _ c.in-Over.ensures c.in_ok-push.ensures.items
