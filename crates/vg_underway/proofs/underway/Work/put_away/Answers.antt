use Rattle.std.proofs.Common.{◌≡◌, List, ℕ, [], ◌++◌, map, refl, subst, sym, arith}
use Rattle.vg_frame.specs.Placed.{count}
use Rattle.vg_journeys.specs.Accounts.{HandoffFrame}
use Rattle.vg_journeys.specs.Turns.{Settled}
use Rattle.vg_underway.specs.Peers.{by_worker}
use Rattle.vg_underway.specs.Underway.{Setting, stationed}
use Rattle.vg_underway.specs.Works.{IsSteady, TakesAll, IsPutAway, hand_of, hand_step, without_drops}
use Rattle.vg_underway.specs.Hands.{IsGrouped, grouped}
use Rattle.vg_underway.specs.Outlets.{outlet_of, most_in_round, PushesOver}
use Rattle.vg_underway.proofs.PushLemmas.{pushed_behind}
use Rattle.vg_underway.proofs.AwayLemmas.{away_then}
use Rattle.vg_underway.proofs.HandGroupLemmas.{puts_then, puts_of_away, can_fewer}
use Rattle.vg_underway.proofs.underway.Work.put_away.Goals as goal

pub group-requires-clause-station : goal.group-requires-clause-station
group-requires-clause-station g c = c.requires.can.worker

pub group-requires-clause-steady : goal.group-requires-clause-steady
group-requires-clause-steady g c =
    let s : Setting = stationed g.K.KindSet.meaning c.args.fork.now.graph c.args.fork.now.generation c.args.station in
    subst (λ (xs : List (ℕ × ℕ)). IsSteady s c.args.node c.put_apart.new.self (map hand_step xs)) (sym c.as_slice-hands.ensures.entries) c.put_apart.ensures.steady

pub group-requires-clause-takes : goal.group-requires-clause-takes
group-requires-clause-takes g c =
    let s : Setting = stationed g.K.KindSet.meaning c.args.fork.now.graph c.args.fork.now.generation c.args.station in
    subst (λ (xs : List (ℕ × ℕ)). TakesAll s c.args.node c.put_apart.new.self (map hand_step xs) c.put_apart.new.cache) (sym c.as_slice-hands.ensures.entries) c.put_apart.ensures.takes

pub hand_groups-requires : goal.hand_groups-requires
hand_groups-requires g c =
    let s : Setting = stationed g.K.KindSet.meaning c.args.fork.now.graph c.args.fork.now.generation c.args.station in
    let one = c.put_apart.ensures in
    let two : IsGrouped s c.args.node c.put_apart.new.self c.put_apart.new.cache c.as_slice-hands.result.now c.group.new.self c.group.new.cache c.group.new.groups = c.group.ensures in
    let live1 = one.advances.live in
    let live2 = two.away.advances.live in
    record {
      setting = c.requires.setting;
      target = c.requires.target;
      can = can_fewer c.args.station (count c.args.self.now.memory) (count c.group.new.self.memory) (map g.H.Handoff.accepted c.args.outputs.now) (map g.H.Handoff.slots c.args.outputs.now) (map g.H.Handoff.free_room c.args.outputs.now)
          (omega (arith, live1, live2)) c.requires.can;
      groups = record { size = two.size; few = two.few; legs = two.legs; own = two.own };
      steady = two.away.steady;
      takes = two.away.takes;
    }

pub returns-clause-away : goal.returns-clause-away
returns-clause-away g c =
    let s : Setting = stationed g.K.KindSet.meaning c.args.fork.now.graph c.args.fork.now.generation c.args.station in
    let put : List (List HandoffFrame) = by_worker c.args.station.worker [] (map g.H.Handoff.accepted c.args.outputs.now) in
    let one : IsPutAway s c.args.node c.args.self.now c.args.cache.now (hand_of c.args.sorted.now) c.put_apart.new.self c.put_apart.new.cache (without_drops c.args.sorted.now) = c.put_apart.ensures in
    let two : IsGrouped s c.args.node c.put_apart.new.self c.put_apart.new.cache c.as_slice-hands.result.now c.group.new.self c.group.new.cache c.group.new.groups = c.group.ensures in
    let away = subst (λ (xs : List (ℕ × ℕ)). IsPutAway s c.args.node c.put_apart.new.self c.put_apart.new.cache (map hand_step xs) c.group.new.self c.group.new.cache (grouped 0 c.group.new.groups)) c.as_slice-hands.ensures.entries two.away in
    let both : IsPutAway s c.args.node c.args.self.now c.args.cache.now (hand_of c.args.sorted.now) c.group.new.self c.group.new.cache (grouped 0 c.group.new.groups) =
    away_then s c.args.node c.args.self.now c.put_apart.new.self c.group.new.self c.args.cache.now c.put_apart.new.cache c.group.new.cache (hand_of c.args.sorted.now) (without_drops c.args.sorted.now) (grouped 0 c.group.new.groups) one away in
    let outlet = outlet_of g.H.Handoff.end g.H.Handoff.refusals g.H.Handoff.waiting g.H.Handoff.free_room g.H.Handoff.closes (most_in_round c.args.station.workers) in
    puts_then s c.args.node c.args.station.slots g.H.Handoff.LOSSLESS c.args.self.now c.group.new.self c.hand_groups.new.self c.args.cache.now c.group.new.cache c.hand_groups.new.cache put put
    (by_worker c.args.station.worker [] (map g.H.Handoff.accepted c.hand_groups.new.outputs)) (hand_of c.args.sorted.now) (grouped 0 c.group.new.groups) []
    (puts_of_away {told = λ (settled : List Settled). settled ≡ both.settled} s c.args.node c.args.station.slots g.H.Handoff.LOSSLESS c.args.self.now c.group.new.self c.args.cache.now c.group.new.cache put (hand_of c.args.sorted.now) (grouped 0 c.group.new.groups) both refl)
    c.hand_groups.ensures.away
    (λ earlier later is pushed.
    subst (λ settled. PushesOver c.args.station g.H.Handoff.LOSSLESS g.H.Handoff.accepted outlet c.args.outputs.now c.args.self.now.fates.items c.hand_groups.new.outputs c.hand_groups.new.self.fates.items (settled ++ later)) (sym is)
    (pushed_behind c.args.station g.H.Handoff.LOSSLESS g.H.Handoff.accepted outlet c.args.outputs.now c.hand_groups.new.outputs c.args.self.now.fates.items c.group.new.self.fates.items c.hand_groups.new.self.fates.items both.settled both.advances.fates both.here pushed))
