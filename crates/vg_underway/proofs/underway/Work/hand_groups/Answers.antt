use Rattle.std.proofs.Common.{◌≡◌, ◌≢◌, ◌+◌, ◌*◌, ◌^◌, ◌<◌, ◌≤◌, ◌++◌, ℕ, List, [], ◌∷◌, length, map, get_or, set, refl, sym, ap, subst, ◌∙◌, arith, length-append}
use Rattle.std.proofs.lemmas.List.{nil_from_length, length-map}
use Rattle.std.proofs.Math.Seq.{map-set_same}
use Rattle.std.proofs.Math.Nat.{mul-le-mul_right}
use Rattle.vg_model.specs.declared.kinds.Step.{Step}
use Rattle.vg_model.specs.declared.kinds.Step.TheVariants.{Hand}
use Rattle.vg_frame.specs.Placed.{count}
use Rattle.vg_journeys.specs.Accounts.{HandoffFrame, frames_with}
use Rattle.vg_journeys.specs.Turns.{Settled}
use Rattle.vg_underway.specs.Peers.{by_worker, place_among}
use Rattle.vg_underway.specs.Underway.{Setting, stationed}
use Rattle.vg_underway.specs.Works.{IsSteady, TakesAll}
use Rattle.vg_underway.specs.Hands.{handed_to, grouped, HandsOver}
use Rattle.vg_underway.specs.Outlets.{outlet_of, most_in_round, ArePushes, PushesOver}
use Rattle.vg_underway.proofs.PushLemmas.{pushed_more, pushed_none, refused_there}
use Rattle.vg_underway.proofs.PeerLemmas.{place_within, all_map_at, peers_length}
use Rattle.vg_underway.proofs.GroupLemmas.{any_default}
use Rattle.vg_underway.proofs.HandGroupLemmas.{IsHandingAll, handing_none, handing_skip, handing_steady, handing_takes, handing_one, handing_all, can_one, queue_at, queue_set}
use Rattle.vg_underway.proofs.underway.Work.hand_groups.Goals as goal

pub to-init : goal.to-init
to-init g c =
    let s : Setting = stationed g.K.KindSet.meaning c.args.fork.now.graph c.args.fork.now.generation c.args.station in
    record {
      all = handing_none s c.args.node c.args.station.slots g.H.Handoff.LOSSLESS c.args.self.now c.args.cache.now (by_worker c.args.station.worker [] (map g.H.Handoff.accepted c.args.outputs.now)) c.args.groups.now c.requires.steady c.requires.takes c.requires.groups
          (pushed_none c.args.station g.H.Handoff.LOSSLESS g.H.Handoff.accepted (outlet_of g.H.Handoff.end g.H.Handoff.refusals g.H.Handoff.waiting g.H.Handoff.free_room g.H.Handoff.closes (most_in_round c.args.station.workers)) c.args.outputs.now c.args.self.now.fates.items);
      can = c.requires.can;
      rings = refl;
    }

pub to-preserved-then-len-eq0 : goal.to-preserved-then-len-eq0
to-preserved-then-len-eq0 g c =
    let s : Setting = stationed g.K.KindSet.meaning c.args.fork.now.graph c.args.fork.now.generation c.args.station in
    let put : List (List HandoffFrame) = by_worker c.args.station.worker [] (map g.H.Handoff.accepted c.args.outputs.now) in
    let now : List (List HandoffFrame) = by_worker c.args.station.worker [] (map g.H.Handoff.accepted c.to.outputs) in
    let inv = c.to.invariant in
    let size = inv.all.groups_are.size in let within = c.to-test.true in
    let none : get_or c.to.groups c.to.to c.index-groups-to.result ≡ [] = nil_from_length _ (let e = c.len.ensures.count in let z = c.if-len-eq0.true in omega (arith, e, z)) in
    let here : get_or c.to.groups c.to.to [] ≡ [] = any_default c.to.groups c.to.to [] c.index-groups-to.result (omega (arith, size, within)) ∙ none in
    record {
      all = handing_skip s c.args.node c.args.station.slots g.H.Handoff.LOSSLESS c.args.self.now c.args.cache.now put (grouped 0 c.args.groups.now) c.to.to c.to.self c.to.cache now c.to.groups here inv.all;
      can = inv.can;
      rings = inv.rings;
    }

pub bounds-outputs-place_of : goal.bounds-outputs-place_of
bounds-outputs-place_of g c =
    let s : Setting = stationed g.K.KindSet.meaning c.args.fork.now.graph c.args.fork.now.generation c.args.station in
    let inv = c.to.invariant in
    let can = inv.can in
    let each = can.each in let own = can.worker in let within = c.to-test.true in
    let other : c.to.to ≢ c.args.station.worker = c.if-to-station.false in
    let acc = g.H.Handoff.accepted in
    let len = length-map c.to.outputs acc in
    let inside : place_among c.args.station.worker c.to.to < length c.to.outputs = place_within c.args.station.worker c.to.to (length c.to.outputs) other (omega (arith, within, each, len)) (omega (arith, own, each, len)) in
    let is = c.place_of.ensures in
    omega (arith, inside, is)

pub offset_bounds-outputs-place_of : goal.offset_bounds-outputs-place_of
offset_bounds-outputs-place_of g c =
    let s : Setting = stationed g.K.KindSet.meaning c.args.fork.now.graph c.args.fork.now.generation c.args.station in
    let inv = c.to.invariant in
    let can = inv.can in
    let each = can.each in let own = can.worker in let within = c.to-test.true in
    let other : c.to.to ≢ c.args.station.worker = c.if-to-station.false in
    let acc = g.H.Handoff.accepted in
    let len = length-map c.to.outputs acc in
    let inside : place_among c.args.station.worker c.to.to < length c.to.outputs = place_within c.args.station.worker c.to.to (length c.to.outputs) other (omega (arith, within, each, len)) (omega (arith, own, each, len)) in
    let is = c.place_of.ensures in
    let same = c.to.auto.outputs in
    let whole = c.well_formed.1.1.1.1.1.0.1 in
    let n : ℕ = length c.args.outputs.now in
    let size : ℕ = prog.Memory.size (denote.Param.layout g.row.H) in
    let below : c.place_of.result ≤ n = omega (arith, inside, is, same) in
    let part : c.place_of.result * size ≤ n * size = mul-le-mul_right size below in
    let most : n * size < 2 ^ 63 = whole in
    omega (arith, part, most)

pub hand_over-requires-clause-some : goal.hand_over-requires-clause-some
hand_over-requires-clause-some g c =
    let inv = c.to.invariant in
    let size = inv.all.groups_are.size in let within = c.to-test.true in
    let there : c.to.to < length c.to.groups = omega (arith, size, within) in
    let here_is : get_or c.to.groups c.to.to c.index-groups-to.result ≡ c.replace-group.result = any_default c.to.groups c.to.to c.index-groups-to.result c.index-groups-to-in-to.result there ∙ sym c.replace-group.ensures.value in
    let n = c.len.ensures.count in let z = c.if-len-eq0.false in let e = ap length here_is in omega (arith, n, z, e)

pub hand_over-requires-clause-hand : goal.hand_over-requires-clause-hand
hand_over-requires-clause-hand g c =
    let s : Setting = stationed g.K.KindSet.meaning c.args.fork.now.graph c.args.fork.now.generation c.args.station in
    let inv = c.to.invariant in
    let size = inv.all.groups_are.size in let within = c.to-test.true in
    let inside : c.to.to < length c.to.groups = omega (arith, size, within) in
    let at : get_or c.to.groups c.to.to [] ≡ c.replace-group.result =
    any_default c.to.groups c.to.to [] c.index-groups-to-in-to.result inside ∙ sym c.replace-group.ensures.value in (
      grouped 0 (set c.to.groups c.to.to []),
      handing_steady s c.args.node c.args.station.slots g.H.Handoff.LOSSLESS c.args.self.now c.args.cache.now (by_worker c.args.station.worker [] (map g.H.Handoff.accepted c.args.outputs.now)) (grouped 0 c.args.groups.now) c.to.to c.to.self c.to.cache
          (by_worker c.args.station.worker [] (map g.H.Handoff.accepted c.to.outputs)) c.to.groups c.replace-group.result inside at inv.all,
      handing_takes s c.args.node c.args.station.slots g.H.Handoff.LOSSLESS c.args.self.now c.args.cache.now (by_worker c.args.station.worker [] (map g.H.Handoff.accepted c.args.outputs.now)) (grouped 0 c.args.groups.now) c.to.to c.to.self c.to.cache
          (by_worker c.args.station.worker [] (map g.H.Handoff.accepted c.to.outputs)) c.to.groups c.replace-group.result inside at inv.all,
    )

pub hand_over-requires-clause-room : goal.hand_over-requires-clause-room
hand_over-requires-clause-room g c =
    let s : Setting = stationed g.K.KindSet.meaning c.args.fork.now.graph c.args.fork.now.generation c.args.station in
    let inv = c.to.invariant in
    let can = inv.can in
    let each = can.each in let own = can.worker in let within = c.to-test.true in
    let other : c.to.to ≢ c.args.station.worker = c.if-to-station.false in
    let acc = g.H.Handoff.accepted in
    let len = length-map c.to.outputs acc in
    let inside : place_among c.args.station.worker c.to.to < length c.to.outputs = place_within c.args.station.worker c.to.to (length c.to.outputs) other (omega (arith, within, each, len)) (omega (arith, own, each, len)) in
    let place = c.place_of.result in
    let here : place < length c.to.outputs = (let is = c.place_of.ensures in omega (arith, inside, is)) in
    let at = c.index-outputs-place_of.is in
    let size = inv.all.groups_are.size in
    let there : c.to.to < length c.to.groups = omega (arith, size, within) in
    let group_is : get_or c.to.groups c.to.to [] ≡ c.replace-group.result = any_default c.to.groups c.to.to [] c.index-groups-to-in-to.result there ∙ sym c.replace-group.ensures.value in
    let rest : List (ℕ × Step) = grouped 0 (set c.to.groups c.to.to []) in
    let steady : IsSteady s c.args.node c.to.self (handed_to c.to.to c.replace-group.result ++ rest) =
    handing_steady s c.args.node c.args.station.slots g.H.Handoff.LOSSLESS c.args.self.now c.args.cache.now (by_worker c.args.station.worker [] (map acc c.args.outputs.now)) (grouped 0 c.args.groups.now) c.to.to c.to.self c.to.cache
    (by_worker c.args.station.worker [] (map acc c.to.outputs)) c.to.groups c.replace-group.result there group_is inv.all in
    let many = steady.held.count_is in
    let split = length-append (handed_to c.to.to c.replace-group.result) rest in
    let pair : ℕ → ℕ × Step = λ index. (index, Hand c.to.to) in
    let group_len : length (map pair c.replace-group.result) ≡ length c.replace-group.result = length-map c.replace-group.result pair in
    let room = all_map_at (λ room. count c.to.self.memory ≤ room) g.H.Handoff.free_room c.to.outputs place c.index-outputs-place_of.result here at can.room in
    let one : length c.replace-group.result ≤ g.H.Handoff.free_room c.index-outputs-place_of.result = omega (arith, room, many, split, group_len) in
    subst (λ y. length c.replace-group.result ≤ g.H.Handoff.free_room y) at one

pub hand_over-requires-clause-count : goal.hand_over-requires-clause-count
hand_over-requires-clause-count g c =
    let s : Setting = stationed g.K.KindSet.meaning c.args.fork.now.graph c.args.fork.now.generation c.args.station in
    let inv = c.to.invariant in
    let can = inv.can in
    let each = can.each in let own = can.worker in let within = c.to-test.true in
    let other : c.to.to ≢ c.args.station.worker = c.if-to-station.false in
    let acc = g.H.Handoff.accepted in
    let len = length-map c.to.outputs acc in
    let inside : place_among c.args.station.worker c.to.to < length c.to.outputs = place_within c.args.station.worker c.to.to (length c.to.outputs) other (omega (arith, within, each, len)) (omega (arith, own, each, len)) in
    let place = c.place_of.result in
    let here : place < length c.to.outputs = (let is = c.place_of.ensures in omega (arith, inside, is)) in
    let at = c.index-outputs-place_of.is in
    let size = inv.all.groups_are.size in
    let there : c.to.to < length c.to.groups = omega (arith, size, within) in
    let group_is : get_or c.to.groups c.to.to [] ≡ c.replace-group.result = any_default c.to.groups c.to.to [] c.index-groups-to-in-to.result there ∙ sym c.replace-group.ensures.value in
    let rest : List (ℕ × Step) = grouped 0 (set c.to.groups c.to.to []) in
    let steady : IsSteady s c.args.node c.to.self (handed_to c.to.to c.replace-group.result ++ rest) =
    handing_steady s c.args.node c.args.station.slots g.H.Handoff.LOSSLESS c.args.self.now c.args.cache.now (by_worker c.args.station.worker [] (map acc c.args.outputs.now)) (grouped 0 c.args.groups.now) c.to.to c.to.self c.to.cache
    (by_worker c.args.station.worker [] (map acc c.to.outputs)) c.to.groups c.replace-group.result there group_is inv.all in
    let many = steady.held.count_is in
    let split = length-append (handed_to c.to.to c.replace-group.result) rest in
    let pair : ℕ → ℕ × Step = λ index. (index, Hand c.to.to) in
    let group_len : length (map pair c.replace-group.result) ≡ length c.replace-group.result = length-map c.replace-group.result pair in
    let room = all_map_at (λ (frames : List HandoffFrame). length frames + count c.to.self.memory < 2 ^ 62) acc c.to.outputs place c.index-outputs-place_of.result here at can.count in
    let one : length (acc c.index-outputs-place_of.result) < 2 ^ 62 = omega (arith, room) in
    subst (λ y. length (acc y) < 2 ^ 62) at one

pub to-preserved : goal.to-preserved
to-preserved g c =
    let s : Setting = stationed g.K.KindSet.meaning c.args.fork.now.graph c.args.fork.now.generation c.args.station in
    let inv = c.to.invariant in
    let can = inv.can in
    let each = can.each in let own = can.worker in let within = c.to-test.true in
    let other : c.to.to ≢ c.args.station.worker = c.if-to-station.false in
    let acc = g.H.Handoff.accepted in
    let len = length-map c.to.outputs acc in
    let inside : place_among c.args.station.worker c.to.to < length c.to.outputs = place_within c.args.station.worker c.to.to (length c.to.outputs) other (omega (arith, within, each, len)) (omega (arith, own, each, len)) in
    let place = c.place_of.result in
    let here : place < length c.to.outputs = (let is = c.place_of.ensures in omega (arith, inside, is)) in
    let at = c.index-outputs-place_of.is in
    let size = inv.all.groups_are.size in
    let there : c.to.to < length c.to.groups = omega (arith, size, within) in
    let group_is : get_or c.to.groups c.to.to [] ≡ c.replace-group.result = any_default c.to.groups c.to.to [] c.index-groups-to-in-to.result there ∙ sym c.replace-group.ensures.value in
    let rest : List (ℕ × Step) = grouped 0 (set c.to.groups c.to.to []) in
    let steady : IsSteady s c.args.node c.to.self (handed_to c.to.to c.replace-group.result ++ rest) =
    handing_steady s c.args.node c.args.station.slots g.H.Handoff.LOSSLESS c.args.self.now c.args.cache.now (by_worker c.args.station.worker [] (map acc c.args.outputs.now)) (grouped 0 c.args.groups.now) c.to.to c.to.self c.to.cache
    (by_worker c.args.station.worker [] (map acc c.to.outputs)) c.to.groups c.replace-group.result there group_is inv.all in
    let many = steady.held.count_is in
    let split = length-append (handed_to c.to.to c.replace-group.result) rest in
    let pair : ℕ → ℕ × Step = λ index. (index, Hand c.to.to) in
    let group_len : length (map pair c.replace-group.result) ≡ length c.replace-group.result = length-map c.replace-group.result pair in
    let old = get_or c.to.outputs place c.index-outputs-place_of.result in
    let next = c.hand_over.new.output in
    let outlet = outlet_of g.H.Handoff.end g.H.Handoff.refusals g.H.Handoff.waiting g.H.Handoff.free_room g.H.Handoff.closes (most_in_round c.args.station.workers) in
    let at_old : old ≡ get_or c.to.outputs place old = ap (get_or c.to.outputs place) at in
    let put : List (List HandoffFrame) = by_worker c.args.station.worker [] (map acc c.to.outputs) in
    let slots_is : g.H.Handoff.slots old ≡ c.args.station.slots = all_map_at (λ n. n ≡ c.args.station.slots) g.H.Handoff.slots c.to.outputs place old here at_old can.slots_are in
    let found = queue_at acc c.args.station c.to.to c.to.outputs old other within own each (at_old ∙ ap (λ k. get_or c.to.outputs k old) c.place_of.ensures) in
    let takes : TakesAll s c.args.node c.to.self (handed_to c.to.to c.replace-group.result ++ rest) c.to.cache =
    handing_takes s c.args.node c.args.station.slots g.H.Handoff.LOSSLESS c.args.self.now c.args.cache.now (by_worker c.args.station.worker [] (map acc c.args.outputs.now)) (grouped 0 c.args.groups.now) c.to.to c.to.self c.to.cache
    (by_worker c.args.station.worker [] (map acc c.to.outputs)) c.to.groups c.replace-group.result there group_is inv.all in
    let handed = c.hand_over.ensures.handed rest steady takes in
    let named : HandsOver s c.args.node c.to.to c.args.station.slots g.H.Handoff.LOSSLESS c.to.self c.to.cache (frames_with c.to.to put) (handed_to c.to.to c.replace-group.result ++ rest) c.hand_over.new.self c.hand_over.new.cache (acc next) rest =
    subst (λ fs. HandsOver s c.args.node c.to.to c.args.station.slots g.H.Handoff.LOSSLESS c.to.self c.to.cache fs (handed_to c.to.to c.replace-group.result ++ rest) c.hand_over.new.self c.hand_over.new.cache (acc next) rest) (sym found.1)
    (subst (λ n. HandsOver s c.args.node c.to.to n g.H.Handoff.LOSSLESS c.to.self c.to.cache (acc old) (handed_to c.to.to c.replace-group.result ++ rest) c.hand_over.new.self c.hand_over.new.cache (acc next) rest) slots_is handed) in
    let puts = peers_length c.args.station.worker [] (map acc c.to.outputs) (omega (arith, own, each)) in
    let start : List (List HandoffFrame) = by_worker c.args.station.worker [] (map acc c.args.outputs.now) in
    let told : List Settled → Type 0 = PushesOver c.args.station g.H.Handoff.LOSSLESS acc outlet c.args.outputs.now c.args.self.now.fates.items (set c.to.outputs place next) c.hand_over.new.self.fates.items in
    let pushed = c.hand_over.ensures.pushed in
    let refused = refused_there c.args.node c.to.to named.settled pushed.0 c.to.self.fates.items c.hand_over.new.self.fates.items named.to_it named.advances.fates pushed.2 in
    let one = handing_one {told = told} s c.args.node c.args.station.slots g.H.Handoff.LOSSLESS c.args.self.now c.args.cache.now start (grouped 0 c.args.groups.now) c.to.to c.to.self c.hand_over.new.self c.to.cache c.hand_over.new.cache put (acc next) c.to.groups
    c.replace-group.result within (omega (arith, puts, each, within)) other group_is inv.all named
    (λ earlier before. subst (λ k. PushesOver c.args.station g.H.Handoff.LOSSLESS acc outlet c.args.outputs.now c.args.self.now.fates.items (set c.to.outputs k next) c.hand_over.new.self.fates.items (earlier ++ named.settled)) (sym c.place_of.ensures)
    (pushed_more c.args.station g.H.Handoff.LOSSLESS acc outlet c.args.outputs.now c.to.outputs c.args.self.now.fates.items c.to.self.fates.items c.hand_over.new.self.fates.items c.to.to old next pushed.0 named.settled other within own
    (omega (arith, each, len)) (at_old ∙ ap (λ k. get_or c.to.outputs k old) c.place_of.ensures)
    (subst (λ n. ArePushes n g.H.Handoff.LOSSLESS (acc old) (outlet old) (pushed.0 ∷ []) (acc next) (outlet next)) slots_is pushed.1) pushed.2 refused before)) in
    let put_next : by_worker c.args.station.worker [] (map acc (set c.to.outputs place next)) ≡ set put c.to.to (acc next) =
    ap (λ k. by_worker c.args.station.worker [] (map acc (set c.to.outputs k next))) c.place_of.ensures ∙ queue_set acc c.args.station c.to.to c.to.outputs next other own each in
    let live = handed.advances.live in let fewer = handed.fewer in
    let longer = ap length handed.put_is in let more = length-append (acc old) handed.pushed in let few = handed.one in
    let here_is : get_or c.to.groups c.to.to c.index-groups-to.result ≡ c.replace-group.result = any_default c.to.groups c.to.to c.index-groups-to.result c.index-groups-to-in-to.result there ∙ sym c.replace-group.ensures.value in
    let some : 1 ≤ length c.replace-group.result = (let n = c.len.ensures.count in let z = c.if-len-eq0.false in let e = ap length here_is in omega (arith, n, z, e)) in
    record {
      all = subst (λ group. IsHandingAll s c.args.node c.args.station.slots g.H.Handoff.LOSSLESS told c.args.self.now c.args.cache.now start (grouped 0 c.args.groups.now) (c.to.to + 1) c.hand_over.new.self c.hand_over.new.cache
          (by_worker c.args.station.worker [] (map acc (set c.to.outputs place next))) (set c.to.groups c.to.to group)) (sym (c.replace-group.ensures.after ∙ c.new.ensures))
          (subst (λ fs. IsHandingAll s c.args.node c.args.station.slots g.H.Handoff.LOSSLESS told c.args.self.now c.args.cache.now start (grouped 0 c.args.groups.now) (c.to.to + 1) c.hand_over.new.self c.hand_over.new.cache fs (set c.to.groups c.to.to [])) (sym put_next) one);
      can = can_one acc g.H.Handoff.slots g.H.Handoff.free_room c.args.station (count c.to.self.memory) (count c.hand_over.new.self.memory) (length c.replace-group.result) c.to.outputs place old next here at_old
          (omega (arith, live, fewer, split, group_len)) some (omega (arith, longer, more, few)) c.hand_over.ensures.slots c.hand_over.ensures.room can;
      rings = map-set_same g.H.Handoff.ring c.to.outputs place next c.index-outputs-place_of.result c.hand_over.ensures.ring ∙ inv.rings;
    }

pub returns-clause-away : goal.returns-clause-away
returns-clause-away g c =
    let s : Setting = stationed g.K.KindSet.meaning c.args.fork.now.graph c.args.fork.now.generation c.args.station in
    (handing_all s c.args.node c.args.station.slots g.H.Handoff.LOSSLESS c.args.self.now c.args.cache.now (by_worker c.args.station.worker [] (map g.H.Handoff.accepted c.args.outputs.now)) (grouped 0 c.args.groups.now) c.to.to c.to.self c.to.cache
    (by_worker c.args.station.worker [] (map g.H.Handoff.accepted c.to.outputs)) c.to.groups c.to-test.false c.to.invariant.all).0

pub returns-clause-empty : goal.returns-clause-empty
returns-clause-empty g c =
    let s : Setting = stationed g.K.KindSet.meaning c.args.fork.now.graph c.args.fork.now.generation c.args.station in
    (handing_all s c.args.node c.args.station.slots g.H.Handoff.LOSSLESS c.args.self.now c.args.cache.now (by_worker c.args.station.worker [] (map g.H.Handoff.accepted c.args.outputs.now)) (grouped 0 c.args.groups.now) c.to.to c.to.self c.to.cache
    (by_worker c.args.station.worker [] (map g.H.Handoff.accepted c.to.outputs)) c.to.groups c.to-test.false c.to.invariant.all).1
