use Rattle.std.proofs.Common.{List, [], map, refl, ◌∙◌}
use Rattle.vg_journeys.specs.Accounts.{HandoffFrame}
use Rattle.vg_underway.specs.Peers.{by_worker}
use Rattle.vg_underway.specs.Underway.{Setting, stationed}
use Rattle.vg_underway.specs.Outlets.{outlet_of, most_in_round}
use Rattle.vg_underway.proofs.AwayLemmas.{dispatched_none, dispatched_more}
use Rattle.vg_underway.proofs.PushLemmas.{pushed_none, pushed_on}
use Rattle.vg_underway.proofs.underway.Work.dispatch_all.Goals as goal

pub frames-init : goal.frames-init
frames-init g c =
    let s : Setting = stationed g.K.KindSet.meaning c.args.fork.now.graph c.args.fork.now.generation c.args.station in
    let put : List (List HandoffFrame) = by_worker c.args.station.worker [] (map g.H.Handoff.accepted c.args.outputs.now) in
    record {
      empty = c.requires.empty;
      all = dispatched_none s c.args.station.slots g.H.Handoff.LOSSLESS c.args.self.now c.args.cache.now put c.requires.steady c.requires.takes
          (pushed_none c.args.station g.H.Handoff.LOSSLESS g.H.Handoff.accepted (outlet_of g.H.Handoff.end g.H.Handoff.refusals g.H.Handoff.waiting g.H.Handoff.free_room g.H.Handoff.closes (most_in_round c.args.station.workers)) c.args.outputs.now c.args.self.now.fates.items);
      can = c.requires.can;
      rings = refl;
    }

pub dispatch_next-requires : goal.dispatch_next-requires
dispatch_next-requires g c = record {
  setting = c.requires.setting;
  can = c.frames.invariant.can;
  empty = c.frames.invariant.empty;
  steady = c.frames.invariant.all.steady;
  takes = c.frames.invariant.all.takes;
}

pub frames-preserved : goal.frames-preserved
frames-preserved g c =
    let s : Setting = stationed g.K.KindSet.meaning c.args.fork.now.graph c.args.fork.now.generation c.args.station in
    record {
      empty = c.dispatch_next.ensures.empty;
      all = dispatched_more s c.args.station.slots g.H.Handoff.LOSSLESS c.args.self.now c.frames.self c.dispatch_next.new.self c.args.cache.now c.frames.cache c.dispatch_next.new.cache
          (by_worker c.args.station.worker [] (map g.H.Handoff.accepted c.args.outputs.now)) (by_worker c.args.station.worker [] (map g.H.Handoff.accepted c.frames.outputs))
          (by_worker c.args.station.worker [] (map g.H.Handoff.accepted c.dispatch_next.new.outputs)) c.frames.invariant.all c.dispatch_next.ensures.dispatched
          (λ earlier later one two. pushed_on c.args.station g.H.Handoff.LOSSLESS g.H.Handoff.accepted
          (outlet_of g.H.Handoff.end g.H.Handoff.refusals g.H.Handoff.waiting g.H.Handoff.free_room g.H.Handoff.closes (most_in_round c.args.station.workers)) c.args.outputs.now c.frames.outputs c.dispatch_next.new.outputs
          c.args.self.now.fates.items c.frames.self.fates.items c.dispatch_next.new.self.fates.items one two);
      can = c.dispatch_next.ensures.can;
      rings = c.dispatch_next.ensures.rings ∙ c.frames.invariant.rings;
    }

pub frames-smaller : goal.frames-smaller
frames-smaller g c = c.frames-test.ensures.some

pub returns : goal.returns
returns g c =
    let s : Setting = stationed g.K.KindSet.meaning c.args.fork.now.graph c.args.fork.now.generation c.args.station in
    record {
      empty = c.dispatch_next.ensures.empty;
      dispatched = dispatched_more s c.args.station.slots g.H.Handoff.LOSSLESS c.args.self.now c.frames.self c.dispatch_next.new.self c.args.cache.now c.frames.cache c.dispatch_next.new.cache
          (by_worker c.args.station.worker [] (map g.H.Handoff.accepted c.args.outputs.now)) (by_worker c.args.station.worker [] (map g.H.Handoff.accepted c.frames.outputs))
          (by_worker c.args.station.worker [] (map g.H.Handoff.accepted c.dispatch_next.new.outputs)) c.frames.invariant.all c.dispatch_next.ensures.dispatched
          (λ earlier later one two. pushed_on c.args.station g.H.Handoff.LOSSLESS g.H.Handoff.accepted
          (outlet_of g.H.Handoff.end g.H.Handoff.refusals g.H.Handoff.waiting g.H.Handoff.free_room g.H.Handoff.closes (most_in_round c.args.station.workers)) c.args.outputs.now c.frames.outputs c.dispatch_next.new.outputs
          c.args.self.now.fates.items c.frames.self.fates.items c.dispatch_next.new.self.fates.items one two);
      can = c.dispatch_next.ensures.can;
      rings = c.dispatch_next.ensures.rings ∙ c.frames.invariant.rings;
      none = c.frames-test.ensures.some;
    }
