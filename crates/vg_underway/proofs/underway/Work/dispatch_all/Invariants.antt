use Rattle.std.proofs.Common.{◌≡◌, [], map}
use Rattle.std.specs.Prelude.{replicate}
use Rattle.vg_frame.specs.Placed.{count}
use Rattle.vg_nodes.specs.Sorting.{nothing_sorted}
use Rattle.vg_underway.specs.Peers.{by_worker}
use Rattle.vg_underway.specs.Underway.{stationed}
use Rattle.vg_underway.specs.Works.{visits_left}
use Rattle.vg_underway.specs.Hands.{IsDispatched, CanHand}
use Rattle.vg_underway.specs.Outlets.{outlet_of, most_in_round, PushesOver}
use Rattle.vg_underway.proofs.underway.Work.dispatch_all.Given as goal

abbrev pub invariant-frames : goal.invariant-frames
invariant-frames g l = record {
  empty : (l.sorted ≡ nothing_sorted) × (l.groups ≡ replicate l.fn.station.workers []);
  all : IsDispatched (stationed g.K.KindSet.meaning l.fork.graph l.fork.generation l.fn.station) l.fn.station.slots g.H.Handoff.LOSSLESS
      (PushesOver l.fn.station g.H.Handoff.LOSSLESS g.H.Handoff.accepted (outlet_of g.H.Handoff.end g.H.Handoff.refusals g.H.Handoff.waiting g.H.Handoff.free_room g.H.Handoff.closes (most_in_round l.fn.station.workers)) l.fn.outputs l.fn.self.fates.items l.outputs l.self.fates.items)
      l.fn.self l.fn.cache (by_worker l.fn.station.worker [] (map g.H.Handoff.accepted l.fn.outputs)) l.self l.cache (by_worker l.fn.station.worker [] (map g.H.Handoff.accepted l.outputs));
  can : CanHand l.fn.station (count l.self.memory) (map g.H.Handoff.accepted l.outputs) (map g.H.Handoff.slots l.outputs) (map g.H.Handoff.free_room l.outputs);
  rings : map g.H.Handoff.ring l.outputs ≡ map g.H.Handoff.ring l.fn.outputs;
}

abbrev pub decreases-frames : goal.decreases-frames
decreases-frames g l = visits_left (stationed g.K.KindSet.meaning l.fork.graph l.fork.generation l.fn.station) l.self
