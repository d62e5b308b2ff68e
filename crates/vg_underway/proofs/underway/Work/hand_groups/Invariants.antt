use Rattle.std.proofs.Common.{◌≡◌, [], map}
use Rattle.vg_frame.specs.Placed.{count}
use Rattle.vg_underway.specs.Peers.{by_worker}
use Rattle.vg_underway.specs.Underway.{stationed}
use Rattle.vg_underway.specs.Hands.{CanHand, grouped}
use Rattle.vg_underway.specs.Outlets.{outlet_of, most_in_round, PushesOver}
use Rattle.vg_underway.proofs.HandGroupLemmas.{IsHandingAll}
use Rattle.vg_underway.proofs.underway.Work.hand_groups.Given as goal

abbrev pub invariant-to : goal.invariant-to
invariant-to g l = record {
  all : IsHandingAll (stationed g.K.KindSet.meaning l.fork.graph l.fork.generation l.fn.station) l.fn.node l.fn.station.slots g.H.Handoff.LOSSLESS
      (PushesOver l.fn.station g.H.Handoff.LOSSLESS g.H.Handoff.accepted (outlet_of g.H.Handoff.end g.H.Handoff.refusals g.H.Handoff.waiting g.H.Handoff.free_room g.H.Handoff.closes (most_in_round l.fn.station.workers)) l.fn.outputs l.fn.self.fates.items l.outputs l.self.fates.items)
      l.fn.self l.fn.cache (by_worker l.fn.station.worker [] (map g.H.Handoff.accepted l.fn.outputs)) (grouped 0 l.fn.groups) l.to
      l.self l.cache (by_worker l.fn.station.worker [] (map g.H.Handoff.accepted l.outputs)) l.groups;
  can : CanHand l.fn.station (count l.self.memory) (map g.H.Handoff.accepted l.outputs) (map g.H.Handoff.slots l.outputs) (map g.H.Handoff.free_room l.outputs);
  rings : map g.H.Handoff.ring l.outputs ≡ map g.H.Handoff.ring l.fn.outputs;
}
