use Rattle.std.proofs.Common.{◌≡◌, List, [], ℕ, map, arith, ap, subst, sym}
use Rattle.vg_frame.specs.Pending.{TakesFrame, IsNothingPending}
use Rattle.vg_underway.specs.Traced.{noted_frame}
use Rattle.vg_underway.specs.Underway.{Setting, stationed}
use Rattle.vg_frame.specs.Placed.{count}
use Rattle.vg_journeys.specs.Accounts.{HandoffFrame}
use Rattle.vg_journeys.specs.Turns.{Settled}
use Rattle.vg_underway.specs.Peers.{by_worker}
use Rattle.vg_underway.specs.Works.{hand_of}
use Rattle.vg_underway.specs.declared.underway.Work.{Work}
use Rattle.vg_underway.specs.Hands.{IsDispatched}
use Rattle.vg_underway.specs.Outlets.{outlet_of, most_in_round, PushesOver}
use Rattle.vg_underway.proofs.WorkLemmas.{exchanges_none, takes_kept}
use Rattle.vg_underway.proofs.PushLemmas.{pushed_none}
use Rattle.vg_underway.proofs.HandGroupLemmas.{can_fewer}
use Rattle.vg_underway.proofs.FrameLemmas.{frame_target, frame_live, noted_live, frame_legs, frame_distinct, frame_counts}
use Rattle.vg_underway.proofs.AwayLemmas.{dispatched, put_away, dispatched_none, visits_fall}
use Rattle.vg_underway.proofs.underway.Work.dispatch_next.Goals as goal

pub visit-requires : goal.visit-requires
visit-requires g c =
    let s : Setting = stationed g.K.KindSet.meaning c.args.fork.now.graph c.args.fork.now.generation c.args.station in
    let takes : TakesFrame c.args.self.now.pending c.in-Some.node c.in-Some.frame c.next_frame.new.self = c.in-Some.ensures in
    let room = frame_counts s c.args.self.now c.in-Some.node c.in-Some.frame c.next_frame.new.self c.requires.setting c.requires.steady takes in
    let size = c.len.ensures.count in
    record { place = room.0; room = omega (arith, room, size) }

pub note_frame-requires : goal.note_frame-requires
note_frame-requires g c =
    let s : Setting = stationed g.K.KindSet.meaning c.args.fork.now.graph c.args.fork.now.generation c.args.station in
    let takes : TakesFrame c.args.self.now.pending c.in-Some.node c.in-Some.frame c.next_frame.new.self = c.in-Some.ensures in
    record {
      live = frame_live s c.args.self.now c.in-Some.node c.in-Some.frame c.next_frame.new.self c.requires.steady.held takes;
      legs = frame_legs s c.args.self.now c.in-Some.node c.in-Some.frame c.next_frame.new.self c.requires.steady.held takes;
    }

pub dispatch_frame-requires : goal.dispatch_frame-requires
dispatch_frame-requires g c =
    let s : Setting = stationed g.K.KindSet.meaning c.args.fork.now.graph c.args.fork.now.generation c.args.station in
    let takes : TakesFrame c.args.self.now.pending c.in-Some.node c.in-Some.frame c.next_frame.new.self = c.in-Some.ensures in
    record {
      target = frame_target s c.args.self.now c.in-Some.node c.in-Some.frame c.next_frame.new.self c.requires.steady.held takes;
      live = noted_live s c.args.self.now c.note_frame.new.self c.in-Some.node c.in-Some.frame c.next_frame.new.self c.visit.new.self
          (noted_frame c.args.self.now.memory c.in-Some.node c.in-Some.frame c.args.self.now.trace) c.requires.steady.held takes c.note_frame.ensures;
      distinct = frame_distinct s c.args.self.now c.in-Some.node c.in-Some.frame c.next_frame.new.self c.requires.steady.held takes;
      empty = c.requires.empty.0;
    }

pub put_away-requires : goal.put_away-requires
put_away-requires g c =
    let s : Setting = stationed g.K.KindSet.meaning c.args.fork.now.graph c.args.fork.now.generation c.args.station in
    let takes : TakesFrame c.args.self.now.pending c.in-Some.node c.in-Some.frame c.next_frame.new.self = c.in-Some.ensures in
    let after = dispatched s c.args.self.now c.in-Some.node c.in-Some.frame c.len.result c.next_frame.new.self c.dispatch_frame.new.memory c.visit.new.self c.note_frame.new.self c.dispatch_frame.new.out
    c.requires.setting c.requires.steady takes c.len.ensures.count c.visit.ensures c.note_frame.ensures c.dispatch_frame.ensures.sorted c.dispatch_frame.ensures.visited in
    let same = after.count_is in
    record {
      setting = c.requires.setting;
      can = (let fewer : count c.dispatch_frame.new.memory ≡ count c.args.self.now.memory = same in
          can_fewer c.args.station (count c.args.self.now.memory) (count c.dispatch_frame.new.memory) (map g.H.Handoff.accepted c.args.outputs.now) (map g.H.Handoff.slots c.args.outputs.now) (map g.H.Handoff.free_room c.args.outputs.now) (omega (arith, fewer)) c.requires.can);
      empty = c.requires.empty.1;
      target = frame_target s c.args.self.now c.in-Some.node c.in-Some.frame c.next_frame.new.self c.requires.steady.held takes;
      steady = after.steady;
      takes = takes_kept s c.in-Some.node [] c.args.self.now _ [] _ c.args.cache.now c.args.cache.now (record { len = c.requires.takes.len; freed = c.requires.takes.freed }) after.advances (exchanges_none c.args.cache.now);
    }

pub returns : goal.returns
returns g c =
    let s : Setting = stationed g.K.KindSet.meaning c.args.fork.now.graph c.args.fork.now.generation c.args.station in
    let takes : TakesFrame c.args.self.now.pending c.in-Some.node c.in-Some.frame c.next_frame.new.self = c.in-Some.ensures in
    let after = dispatched s c.args.self.now c.in-Some.node c.in-Some.frame c.len.result c.next_frame.new.self c.dispatch_frame.new.memory c.visit.new.self c.note_frame.new.self c.dispatch_frame.new.out
    c.requires.setting c.requires.steady takes c.len.ensures.count c.visit.ensures c.note_frame.ensures c.dispatch_frame.ensures.sorted c.dispatch_frame.ensures.visited in
    record {
      empty = (c.clear.ensures, c.put_away.ensures.empty);
      can = c.put_away.ensures.can;
      rings = c.put_away.ensures.rings;
      dispatched = subst (λ fs. IsDispatched s c.args.station.slots g.H.Handoff.LOSSLESS
          (PushesOver c.args.station g.H.Handoff.LOSSLESS g.H.Handoff.accepted
          (outlet_of g.H.Handoff.end g.H.Handoff.refusals g.H.Handoff.waiting g.H.Handoff.free_room g.H.Handoff.closes (most_in_round c.args.station.workers)) c.args.outputs.now fs c.put_away.new.outputs c.put_away.new.self.fates.items)
          c.args.self.now c.args.cache.now (by_worker c.args.station.worker [] (map g.H.Handoff.accepted c.args.outputs.now)) c.put_away.new.self c.put_away.new.cache (by_worker c.args.station.worker [] (map g.H.Handoff.accepted c.put_away.new.outputs)))
          (ap (λ (w : Work). w.fates.items) c.note_frame.ensures)
          (put_away s c.in-Some.node c.args.station.slots g.H.Handoff.LOSSLESS c.args.self.now _ c.args.cache.now (by_worker c.args.station.worker [] (map g.H.Handoff.accepted c.args.outputs.now)) (hand_of c.dispatch_frame.new.out)
          c.put_away.new.self c.put_away.new.cache (by_worker c.args.station.worker [] (map g.H.Handoff.accepted c.put_away.new.outputs)) after c.put_away.ensures.away);
      some = visits_fall s c.in-Some.node c.put_away.ensures.away.settled c.args.self.now _ c.put_away.new.self (hand_of c.dispatch_frame.new.out) after c.put_away.ensures.away.advances;
    }

pub returns-in_default-clause-dispatched : goal.returns-in_default-clause-dispatched
returns-in_default-clause-dispatched g c =
    let s : Setting = stationed g.K.KindSet.meaning c.args.fork.now.graph c.args.fork.now.generation c.args.station in
    let put : List (List HandoffFrame) = by_worker c.args.station.worker [] (map g.H.Handoff.accepted c.args.outputs.now) in
    let outlet = outlet_of g.H.Handoff.end g.H.Handoff.refusals g.H.Handoff.waiting g.H.Handoff.free_room g.H.Handoff.closes (most_in_round c.args.station.workers) in
    let told : List Settled → Type 0 = PushesOver c.args.station g.H.Handoff.LOSSLESS g.H.Handoff.accepted outlet c.args.outputs.now c.args.self.now.fates.items c.args.outputs.now c.args.self.now.fates.items in
    let none : IsNothingPending c.args.self.now.pending × (c.next_frame.new.self ≡ c.args.self.now.pending) = c.in_default.ensures in
    subst (λ (p : List (List ℕ)). IsDispatched s c.args.station.slots g.H.Handoff.LOSSLESS told c.args.self.now c.args.cache.now put (record c.args.self.now { pending = p }) c.args.cache.now put) (sym none.1)
    (dispatched_none s c.args.station.slots g.H.Handoff.LOSSLESS c.args.self.now c.args.cache.now put c.requires.steady c.requires.takes
    (pushed_none c.args.station g.H.Handoff.LOSSLESS g.H.Handoff.accepted outlet c.args.outputs.now c.args.self.now.fates.items))
