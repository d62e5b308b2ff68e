use Rattle.std.proofs.Common.{◌≡◌, ◌*◌, ◌%◌, ◌<◌, ◌≤◌, ◌^◌, ℕ, List, [], ◌++◌, length, map, take, drop, refl, sym, ap, subst, ◌∙◌, arith}
use Rattle.std.specs.Prelude.{false, ◌⊎◌, is_some, min, vec_len}
use Rattle.std.specs.Bool.{MatchBool}
use Rattle.std.specs.List.{AllByRecursion}
use Rattle.std.proofs.lemmas.List.{length-map}
use Rattle.vg_underway.specs.declared.stations.Station.{Station}
use Rattle.vg_underway.specs.Queues.{Queue}
use Rattle.vg_underway.proofs.HandGroupLemmas.{all_mono}
use Rattle.vg_underway.proofs.TakingLemmas.{taken_length, taken_rings}
use Rattle.vg_dispatch.proofs.RoundLemmas.{setting_of, drawn_most}
use Rattle.vg_dispatch.proofs.RoundSteps.{same_limit, refills, room_for, set_up, can_draw_here, entered_here, count_here, can_hand_here, steady_here, takes_here, round_here, keeping_here, all_mapped, made_here, mended, same_length, keeping_at, account_at, work_here, same_here}
use Rattle.vg_model.specs.PoolBook.{CacheBook}
use Rattle.vg_frame.specs.Placed.{count}
use Rattle.vg_underway.specs.Peers.{by_worker}
use Rattle.vg_underway.specs.OwnPackets.{own_from, frames_of}
use Rattle.vg_underway.specs.Draws.{LacksBuffers}
use Rattle.vg_underway.specs.Underway.{stationed}
use Rattle.vg_underway.specs.Hands.{IsDispatched}
use Rattle.vg_underway.specs.Outlets.{Outlet, outlet_of, no_outlet, most_in_round, AreTicked, PushesFrames, PushesOver}
use Rattle.vg_underway.specs.Taking.{MayComeNext, AreTried}
use Rattle.vg_dispatch.specs.Workers.{WorkerBook}
use Rattle.vg_dispatch.specs.declared.options.Options.{Options}
use Rattle.vg_underway.proofs.PeerLemmas.{all_map}
use Rattle.vg_underway.proofs.PushLemmas.{pushed_behind}
use Rattle.vg_dispatch.proofs.OutletLemmas.{ticked_by}
use Rattle.vg_dispatch.proofs.DidLemmas.{did_here}
use Rattle.vg_journeys.specs.Accounts.{HandoffFrame}
use Rattle.vg_journeys.specs.Turns.{Settled}
use Rattle.vg_dispatch.proofs.workers.Worker.round.Goals as goal

pub take_frames-came-requires-clause-setting : goal.take_frames-came-requires-clause-setting
take_frames-came-requires-clause-setting g c =
    let station : Station = record { workers = c.self.inside.options.workers; worker = c.self.inside.number; slots = c.self.inside.options.queue } in
    setting_of g.K.KindSet.meaning c.args.input.now.plan.now c.args.fork.now.graph c.args.fork.now.generation station g.met.K.KindSet.lawful c.requires.work.planned c.requires.graph

pub take_frames-came-requires-clause-frames : goal.take_frames-came-requires-clause-frames
take_frames-came-requires-clause-frames g c =
    let k = c.self.invariant.0 in
    let most = k.taken_most in let few = k.rest.few in
    subst (AllByRecursion (λ (q : Queue). length q.taken < 2 ^ 62)) (sym c.as_mut_slice-2.ensures.value)
    (all_mono (λ (q : Queue). length q.taken ≤ c.self.inside.taken) (λ (q : Queue). length q.taken < 2 ^ 62) (λ q h. omega (arith, h, most, few)) c.self.inside.inputs.items k.frames_few)

pub draw_own-drew-requires-clause-setting : goal.draw_own-drew-requires-clause-setting
draw_own-drew-requires-clause-setting g c =
    let station : Station = record { workers = c.self.inside.options.workers; worker = c.self.inside.number; slots = c.self.inside.options.queue } in
    setting_of g.K.KindSet.meaning c.args.input.now.plan.now c.args.fork.now.graph c.args.fork.now.generation station g.met.K.KindSet.lawful c.requires.work.planned c.requires.graph

pub draw_own-drew-requires-clause-can : goal.draw_own-drew-requires-clause-can
draw_own-drew-requires-clause-can g c =
    let k = c.self.invariant.0 in
    let len_is = c.len-2.ensures in
    let inputs_is : c.len-2.result ≡ length c.self.inside.inputs.items = len_is ∙ sym c.as_mut_slice-2.ensures.len ∙ ap length c.as_mut_slice-2.ensures.value in
    let u = set_up c.args.input.now.capture.now c.args.input.now.options.now c.self.view_is c.requires.work.made c.may_go-goes.result c.may_draw-draws.result c.unwrap_or.result c.where_goes-tried.result c.len-2.result c.len.result c.refill_for.result
    c.where_goes-most.result c.self.inside.inputs.items c.self.inside.cache c.refill_for.new.cache c.args.input.now.capture.now.packets k.range k.inputs_each refl
    (same_limit c.unwrap_or.result _ _ _ c.unwrap_or.ensures c.requires.limit).1 c.where_goes-tried.ensures (λ h. (c.may_go-goes.ensures.0 h).0) inputs_is
    c.len.ensures.len (refills c.self.inside.cache c.refill_for.result c.refill_for.ensures.few).0 (refills c.self.inside.cache c.refill_for.result c.refill_for.ensures.few).1 c.refill_for.ensures.cache c.len.ensures.room c.where_goes-most.ensures in
    let accepted : List (List HandoffFrame) = map (λ o. g.H.Handoff.accepted o.handoff) c.self.inside.outputs.items in
    let slots : List ℕ = map (λ o. g.H.Handoff.slots o.handoff) c.self.inside.outputs.items in
    can_draw_here g.K.KindSet.meaning c.args.fork.now.graph c.args.fork.now.generation c.self.inside.number c.self.inside.packets c.self.inside.bytes c.self.inside.mark c.self.inside.own c.self.inside.left c.self.inside.taken c.unwrap_or.result c.where_goes-most.result
    c.where_goes-tried.result c.self.inside.options c.self.inside.work c.take_frames-came.new.self c.self.inside.sorted c.self.inside.groups.items c.self.inside.inputs.items c.as_mut_slice-2.result.now c.take_frames-came.new.inputs accepted slots
    c.self.inside.cache c.refill_for.new.cache c.args.input.now.capture.now.packets c.take_frames-came.result k c.take_frames-came.ensures u

pub overflow_sub-self : goal.overflow_sub-self
overflow_sub-self g c =
    let k = c.self.invariant.0 in
    let len_is = c.len-2.ensures in
    let inputs_is : c.len-2.result ≡ length c.self.inside.inputs.items = len_is ∙ sym c.as_mut_slice-2.ensures.len ∙ ap length c.as_mut_slice-2.ensures.value in
    let u = set_up c.args.input.now.capture.now c.args.input.now.options.now c.self.view_is c.requires.work.made c.may_go-goes.result c.may_draw-draws.result c.unwrap_or.result c.where_goes-tried.result c.len-2.result c.len.result c.refill_for.result
    c.where_goes-most.result c.self.inside.inputs.items c.self.inside.cache c.refill_for.new.cache c.args.input.now.capture.now.packets k.range k.inputs_each refl
    (same_limit c.unwrap_or.result _ _ _ c.unwrap_or.ensures c.requires.limit).1 c.where_goes-tried.ensures (λ h. (c.may_go-goes.ensures.0 h).0) inputs_is
    c.len.ensures.len (refills c.self.inside.cache c.refill_for.result c.refill_for.ensures.few).0 (refills c.self.inside.cache c.refill_for.result c.refill_for.ensures.few).1 c.refill_for.ensures.cache c.len.ensures.room c.where_goes-most.ensures in
    let some : 0 < c.self.inside.options.workers = (let h = k.number_within in omega (arith, h)) in
    let most = drawn_most c.self.inside.options.workers c.self.inside.mark c.unwrap_or.result c.draw_own-drew.result.count c.args.input.now.capture.now.packets some u.within c.draw_own-drew.ensures.below in
    let own_is = u.own_is in
    omega (arith, most, own_is)

pub dispatch_all-requires-clause-setting : goal.dispatch_all-requires-clause-setting
dispatch_all-requires-clause-setting g c =
    let station : Station = record { workers = c.self.inside.options.workers; worker = c.self.inside.number; slots = c.self.inside.options.queue } in
    setting_of g.K.KindSet.meaning c.args.input.now.plan.now c.args.fork.now.graph c.args.fork.now.generation station g.met.K.KindSet.lawful c.requires.work.planned c.requires.graph

pub dispatch_all-requires-clause-can : goal.dispatch_all-requires-clause-can
dispatch_all-requires-clause-can g c =
    let k = c.self.invariant.0 in
    let len_is = c.len-2.ensures in
    let inputs_is : c.len-2.result ≡ length c.self.inside.inputs.items = len_is ∙ sym c.as_mut_slice-2.ensures.len ∙ ap length c.as_mut_slice-2.ensures.value in
    let u = set_up c.args.input.now.capture.now c.args.input.now.options.now c.self.view_is c.requires.work.made c.may_go-goes.result c.may_draw-draws.result c.unwrap_or.result c.where_goes-tried.result c.len-2.result c.len.result c.refill_for.result
    c.where_goes-most.result c.self.inside.inputs.items c.self.inside.cache c.refill_for.new.cache c.args.input.now.capture.now.packets k.range k.inputs_each refl
    (same_limit c.unwrap_or.result _ _ _ c.unwrap_or.ensures c.requires.limit).1 c.where_goes-tried.ensures (λ h. (c.may_go-goes.ensures.0 h).0) inputs_is
    c.len.ensures.len (refills c.self.inside.cache c.refill_for.result c.refill_for.ensures.few).0 (refills c.self.inside.cache c.refill_for.result c.refill_for.ensures.few).1 c.refill_for.ensures.cache c.len.ensures.room c.where_goes-most.ensures in
    let accepted : List (List HandoffFrame) = map (λ o. g.H.Handoff.accepted o.handoff) c.self.inside.outputs.items in
    let slots : List ℕ = map (λ o. g.H.Handoff.slots o.handoff) c.self.inside.outputs.items in
    let entered = entered_here g.K.KindSet.meaning c.args.fork.now.graph c.args.fork.now.generation c.self.inside.number c.self.inside.packets c.self.inside.bytes c.self.inside.mark c.self.inside.own c.self.inside.left c.self.inside.taken c.unwrap_or.result c.where_goes-most.result
    c.where_goes-tried.result c.self.inside.options c.self.inside.work c.take_frames-came.new.self c.self.inside.sorted c.self.inside.groups.items c.self.inside.inputs.items c.as_mut_slice-2.result.now c.take_frames-came.new.inputs accepted slots
    c.self.inside.cache c.refill_for.new.cache c.args.input.now.capture.now.packets c.take_frames-came.result k c.take_frames-came.ensures u c.draw_own-drew.result.count c.draw_own-drew.new.self c.draw_own-drew.new.cache c.draw_own-drew.ensures.drawn in
    let outs : c.as_mut_slice-4.result.now ≡ c.tick_all.new.outputs = c.as_mut_slice-4.ensures.value ∙ mended (λ o. g.H.Handoff.accepted o.handoff) c.self.inside.outputs.len c.as_mut_slice.result.now
    c.self.inside.outputs.items c.tick_all.new.outputs c.as_mut_slice.ensures.value c.as_mut_slice.ensures.len c.tick_all.ensures.accepted in
    let accs : map (λ o. g.H.Handoff.accepted o.handoff) c.as_mut_slice-4.result.now ≡ accepted = ap (map (λ o. g.H.Handoff.accepted o.handoff)) outs ∙ c.tick_all.ensures.accepted ∙ ap (map (λ o. g.H.Handoff.accepted o.handoff)) c.as_mut_slice.ensures.value in
    let slo : map (λ o. g.H.Handoff.slots o.handoff) c.as_mut_slice-4.result.now ≡ slots = ap (map (λ o. g.H.Handoff.slots o.handoff)) outs ∙ c.tick_all.ensures.slots ∙ ap (map (λ o. g.H.Handoff.slots o.handoff)) c.as_mut_slice.ensures.value in
    let live = count_here g.K.KindSet.meaning c.args.fork.now.graph c.args.fork.now.generation c.self.inside.number c.self.inside.packets c.self.inside.bytes c.self.inside.mark c.self.inside.own c.self.inside.left c.self.inside.taken c.unwrap_or.result c.where_goes-most.result
    c.where_goes-tried.result c.self.inside.options c.self.inside.work c.take_frames-came.new.self c.self.inside.sorted c.self.inside.groups.items c.self.inside.inputs.items c.as_mut_slice-2.result.now c.take_frames-came.new.inputs accepted slots
    c.self.inside.cache c.refill_for.new.cache c.args.input.now.capture.now.packets c.take_frames-came.result k c.take_frames-came.ensures c.draw_own-drew.result.count c.draw_own-drew.new.self c.draw_own-drew.new.cache c.draw_own-drew.ensures.most entered in
    let rooms : List ℕ = map (λ o. g.H.Handoff.free_room o.handoff) c.as_mut_slice-4.result.now in
    let room = room_for c.may_go-goes.result c.may_draw-draws.result c.where_goes-tried.result c.len-2.result c.where_goes-most.result c.self.inside.options.burst c.self.inside.options.workers (count c.draw_own-drew.new.self.memory) rooms c.where_goes-tried.ensures
    c.where_goes-most.ensures (λ h. (c.may_draw-draws.ensures.0 h).0) (omega (arith, live)) k.range.burst.1 (let h = k.inputs_each in omega (arith, h, inputs_is))
    (λ yes. all_mapped (λ o. g.H.Handoff.free_room o.handoff) (λ room. 256 * c.self.inside.options.workers ≤ room) c.as_mut_slice-4.result.now
    (subst (AllByRecursion (λ o. 256 * c.self.inside.options.workers ≤ g.H.Handoff.free_room o.handoff)) (c.as_slice.ensures.value ∙ sym c.as_mut_slice-4.ensures.value) (c.may_go-goes.ensures.0 yes).1)) in
    can_hand_here g.K.KindSet.meaning c.args.fork.now.graph c.args.fork.now.generation c.self.inside.number c.self.inside.packets c.self.inside.bytes c.self.inside.mark c.self.inside.own c.self.inside.left c.self.inside.taken c.unwrap_or.result c.where_goes-most.result
    c.where_goes-tried.result c.self.inside.options c.self.inside.work c.take_frames-came.new.self c.self.inside.sorted c.self.inside.groups.items c.self.inside.inputs.items c.as_mut_slice-2.result.now c.take_frames-came.new.inputs accepted slots
    c.self.inside.cache c.refill_for.new.cache c.args.input.now.capture.now.packets c.take_frames-came.result k u c.draw_own-drew.new.self (map (λ o. g.H.Handoff.accepted o.handoff) c.as_mut_slice-4.result.now)
    (map (λ o. g.H.Handoff.slots o.handoff) c.as_mut_slice-4.result.now) rooms live room accs slo

pub dispatch_all-requires-clause-steady : goal.dispatch_all-requires-clause-steady
dispatch_all-requires-clause-steady g c =
    let k = c.self.invariant.0 in
    let len_is = c.len-2.ensures in
    let inputs_is : c.len-2.result ≡ length c.self.inside.inputs.items = len_is ∙ sym c.as_mut_slice-2.ensures.len ∙ ap length c.as_mut_slice-2.ensures.value in
    let u = set_up c.args.input.now.capture.now c.args.input.now.options.now c.self.view_is c.requires.work.made c.may_go-goes.result c.may_draw-draws.result c.unwrap_or.result c.where_goes-tried.result c.len-2.result c.len.result c.refill_for.result
    c.where_goes-most.result c.self.inside.inputs.items c.self.inside.cache c.refill_for.new.cache c.args.input.now.capture.now.packets k.range k.inputs_each refl
    (same_limit c.unwrap_or.result _ _ _ c.unwrap_or.ensures c.requires.limit).1 c.where_goes-tried.ensures (λ h. (c.may_go-goes.ensures.0 h).0) inputs_is
    c.len.ensures.len (refills c.self.inside.cache c.refill_for.result c.refill_for.ensures.few).0 (refills c.self.inside.cache c.refill_for.result c.refill_for.ensures.few).1 c.refill_for.ensures.cache c.len.ensures.room c.where_goes-most.ensures in
    let accepted : List (List HandoffFrame) = map (λ o. g.H.Handoff.accepted o.handoff) c.self.inside.outputs.items in
    let slots : List ℕ = map (λ o. g.H.Handoff.slots o.handoff) c.self.inside.outputs.items in
    let station : Station = record { workers = c.self.inside.options.workers; worker = c.self.inside.number; slots = c.self.inside.options.queue } in
    let ok = setting_of g.K.KindSet.meaning c.args.input.now.plan.now c.args.fork.now.graph c.args.fork.now.generation station g.met.K.KindSet.lawful c.requires.work.planned c.requires.graph in
    let entered = entered_here g.K.KindSet.meaning c.args.fork.now.graph c.args.fork.now.generation c.self.inside.number c.self.inside.packets c.self.inside.bytes c.self.inside.mark c.self.inside.own c.self.inside.left c.self.inside.taken c.unwrap_or.result c.where_goes-most.result
    c.where_goes-tried.result c.self.inside.options c.self.inside.work c.take_frames-came.new.self c.self.inside.sorted c.self.inside.groups.items c.self.inside.inputs.items c.as_mut_slice-2.result.now c.take_frames-came.new.inputs accepted slots
    c.self.inside.cache c.refill_for.new.cache c.args.input.now.capture.now.packets c.take_frames-came.result k c.take_frames-came.ensures u c.draw_own-drew.result.count c.draw_own-drew.new.self c.draw_own-drew.new.cache c.draw_own-drew.ensures.drawn in
    steady_here g.K.KindSet.meaning c.args.fork.now.graph c.args.fork.now.generation c.self.inside.number c.self.inside.packets c.self.inside.bytes c.self.inside.mark c.self.inside.own c.self.inside.left c.self.inside.taken c.unwrap_or.result c.where_goes-most.result
    c.where_goes-tried.result c.self.inside.options c.self.inside.work c.take_frames-came.new.self c.self.inside.sorted c.self.inside.groups.items c.self.inside.inputs.items c.as_mut_slice-2.result.now c.take_frames-came.new.inputs accepted slots
    c.self.inside.cache c.refill_for.new.cache c.args.input.now.capture.now.packets c.take_frames-came.result k c.take_frames-came.ensures u ok c.draw_own-drew.result.count c.draw_own-drew.new.self c.draw_own-drew.new.cache c.draw_own-drew.ensures.most c.draw_own-drew.ensures.below entered

pub dispatch_all-requires-clause-takes : goal.dispatch_all-requires-clause-takes
dispatch_all-requires-clause-takes g c =
    let k = c.self.invariant.0 in
    let len_is = c.len-2.ensures in
    let inputs_is : c.len-2.result ≡ length c.self.inside.inputs.items = len_is ∙ sym c.as_mut_slice-2.ensures.len ∙ ap length c.as_mut_slice-2.ensures.value in
    let u = set_up c.args.input.now.capture.now c.args.input.now.options.now c.self.view_is c.requires.work.made c.may_go-goes.result c.may_draw-draws.result c.unwrap_or.result c.where_goes-tried.result c.len-2.result c.len.result c.refill_for.result
    c.where_goes-most.result c.self.inside.inputs.items c.self.inside.cache c.refill_for.new.cache c.args.input.now.capture.now.packets k.range k.inputs_each refl
    (same_limit c.unwrap_or.result _ _ _ c.unwrap_or.ensures c.requires.limit).1 c.where_goes-tried.ensures (λ h. (c.may_go-goes.ensures.0 h).0) inputs_is
    c.len.ensures.len (refills c.self.inside.cache c.refill_for.result c.refill_for.ensures.few).0 (refills c.self.inside.cache c.refill_for.result c.refill_for.ensures.few).1 c.refill_for.ensures.cache c.len.ensures.room c.where_goes-most.ensures in
    let accepted : List (List HandoffFrame) = map (λ o. g.H.Handoff.accepted o.handoff) c.self.inside.outputs.items in
    let slots : List ℕ = map (λ o. g.H.Handoff.slots o.handoff) c.self.inside.outputs.items in
    let entered = entered_here g.K.KindSet.meaning c.args.fork.now.graph c.args.fork.now.generation c.self.inside.number c.self.inside.packets c.self.inside.bytes c.self.inside.mark c.self.inside.own c.self.inside.left c.self.inside.taken c.unwrap_or.result c.where_goes-most.result
    c.where_goes-tried.result c.self.inside.options c.self.inside.work c.take_frames-came.new.self c.self.inside.sorted c.self.inside.groups.items c.self.inside.inputs.items c.as_mut_slice-2.result.now c.take_frames-came.new.inputs accepted slots
    c.self.inside.cache c.refill_for.new.cache c.args.input.now.capture.now.packets c.take_frames-came.result k c.take_frames-came.ensures u c.draw_own-drew.result.count c.draw_own-drew.new.self c.draw_own-drew.new.cache c.draw_own-drew.ensures.drawn in
    takes_here g.K.KindSet.meaning c.args.fork.now.graph c.args.fork.now.generation c.self.inside.number c.self.inside.packets c.self.inside.bytes c.self.inside.mark c.self.inside.own c.self.inside.left c.self.inside.taken c.unwrap_or.result c.where_goes-most.result
    c.where_goes-tried.result c.self.inside.options c.self.inside.work c.take_frames-came.new.self c.self.inside.sorted c.self.inside.groups.items c.self.inside.inputs.items c.as_mut_slice-2.result.now c.take_frames-came.new.inputs accepted slots
    c.self.inside.cache c.refill_for.new.cache c.args.input.now.capture.now.packets c.take_frames-came.result k c.take_frames-came.ensures u c.draw_own-drew.result.count c.draw_own-drew.new.self c.draw_own-drew.new.cache c.draw_own-drew.ensures.most c.draw_own-drew.ensures.below entered

pub invariant_of-self : goal.invariant_of-self
invariant_of-self g c =
    let k = c.self.invariant.0 in
    let len_is = c.len-2.ensures in
    let inputs_is : c.len-2.result ≡ length c.self.inside.inputs.items = len_is ∙ sym c.as_mut_slice-2.ensures.len ∙ ap length c.as_mut_slice-2.ensures.value in
    let u = set_up c.args.input.now.capture.now c.args.input.now.options.now c.self.view_is c.requires.work.made c.may_go-goes.result c.may_draw-draws.result c.unwrap_or.result c.where_goes-tried.result c.len-2.result c.len.result c.refill_for.result
    c.where_goes-most.result c.self.inside.inputs.items c.self.inside.cache c.refill_for.new.cache c.args.input.now.capture.now.packets k.range k.inputs_each refl
    (same_limit c.unwrap_or.result _ _ _ c.unwrap_or.ensures c.requires.limit).1 c.where_goes-tried.ensures (λ h. (c.may_go-goes.ensures.0 h).0) inputs_is
    c.len.ensures.len (refills c.self.inside.cache c.refill_for.result c.refill_for.ensures.few).0 (refills c.self.inside.cache c.refill_for.result c.refill_for.ensures.few).1 c.refill_for.ensures.cache c.len.ensures.room c.where_goes-most.ensures in
    let accepted : List (List HandoffFrame) = map (λ o. g.H.Handoff.accepted o.handoff) c.self.inside.outputs.items in
    let slots : List ℕ = map (λ o. g.H.Handoff.slots o.handoff) c.self.inside.outputs.items in
    let station : Station = record { workers = c.self.inside.options.workers; worker = c.self.inside.number; slots = c.self.inside.options.queue } in
    let ok = setting_of g.K.KindSet.meaning c.args.input.now.plan.now c.args.fork.now.graph c.args.fork.now.generation station g.met.K.KindSet.lawful c.requires.work.planned c.requires.graph in
    let entered = entered_here g.K.KindSet.meaning c.args.fork.now.graph c.args.fork.now.generation c.self.inside.number c.self.inside.packets c.self.inside.bytes c.self.inside.mark c.self.inside.own c.self.inside.left c.self.inside.taken c.unwrap_or.result c.where_goes-most.result
    c.where_goes-tried.result c.self.inside.options c.self.inside.work c.take_frames-came.new.self c.self.inside.sorted c.self.inside.groups.items c.self.inside.inputs.items c.as_mut_slice-2.result.now c.take_frames-came.new.inputs accepted slots
    c.self.inside.cache c.refill_for.new.cache c.args.input.now.capture.now.packets c.take_frames-came.result k c.take_frames-came.ensures u c.draw_own-drew.result.count c.draw_own-drew.new.self c.draw_own-drew.new.cache c.draw_own-drew.ensures.drawn in
    let outs : c.as_mut_slice-4.result.now ≡ c.tick_all.new.outputs = c.as_mut_slice-4.ensures.value ∙ mended (λ o. g.H.Handoff.accepted o.handoff) c.self.inside.outputs.len c.as_mut_slice.result.now
    c.self.inside.outputs.items c.tick_all.new.outputs c.as_mut_slice.ensures.value c.as_mut_slice.ensures.len c.tick_all.ensures.accepted in
    let accs : map (λ o. g.H.Handoff.accepted o.handoff) c.as_mut_slice-4.result.now ≡ accepted = ap (map (λ o. g.H.Handoff.accepted o.handoff)) outs ∙ c.tick_all.ensures.accepted ∙ ap (map (λ o. g.H.Handoff.accepted o.handoff)) c.as_mut_slice.ensures.value in
    let slo : map (λ o. g.H.Handoff.slots o.handoff) c.as_mut_slice-4.result.now ≡ slots = ap (map (λ o. g.H.Handoff.slots o.handoff)) outs ∙ c.tick_all.ensures.slots ∙ ap (map (λ o. g.H.Handoff.slots o.handoff)) c.as_mut_slice.ensures.value in
    let made = made_here c.args.input.now.capture.now c.args.input.now.options.now c.self.view_is c.requires.work.made in
    let can = c.dispatch_all.ensures.can in
    let mark_is = ap (λ w. w.mark) c.self.view_is in
    let told : List Settled → Type 0 = PushesOver station g.H.Handoff.LOSSLESS (λ o. g.H.Handoff.accepted o.handoff)
    (λ o. outlet_of g.H.Handoff.end g.H.Handoff.refusals g.H.Handoff.waiting g.H.Handoff.free_room g.H.Handoff.closes (most_in_round c.self.inside.options.workers) o.handoff) c.as_mut_slice-4.result.now
    c.draw_own-drew.new.self.fates.items c.dispatch_all.new.outputs c.dispatch_all.new.self.fates.items in
    let done = subst (λ xs. IsDispatched (stationed g.K.KindSet.meaning c.args.fork.now.graph c.args.fork.now.generation station) c.self.inside.options.queue g.H.Handoff.LOSSLESS told c.draw_own-drew.new.self c.draw_own-drew.new.cache
    (by_worker c.self.inside.number [] xs) c.dispatch_all.new.self c.dispatch_all.new.cache (by_worker c.self.inside.number [] (map (λ o. g.H.Handoff.accepted o.handoff) c.dispatch_all.new.outputs))) accs c.dispatch_all.ensures.dispatched in
    let r = round_here g.K.KindSet.meaning c.args.fork.now.graph c.args.fork.now.generation c.self.inside.number c.self.inside.packets c.self.inside.bytes c.self.inside.mark c.self.inside.own c.self.inside.left c.self.inside.taken c.unwrap_or.result c.where_goes-most.result
    c.where_goes-tried.result c.self.inside.options c.self.inside.work c.take_frames-came.new.self c.self.inside.sorted c.self.inside.groups.items c.self.inside.inputs.items c.as_mut_slice-2.result.now c.take_frames-came.new.inputs accepted slots
    c.self.inside.cache c.refill_for.new.cache c.args.input.now.capture.now.packets c.take_frames-came.result (λ (settled : List Settled). Unit {0}) g.H.Handoff.LOSSLESS c.args.input.now.plan.now
    c.args.input.now.capture.now g.met.K.KindSet.lawful c.requires.graph (same_limit c.unwrap_or.result _ _ _ c.unwrap_or.ensures c.requires.limit)
    (λ earlier e. let h = c.requires.now earlier e in omega (arith, h, mark_is)) made.packets made.bytes refl c.as_mut_slice-2.ensures.value k c.take_frames-came.ensures u c.draw_own-drew.result.count c.draw_own-drew.result.bytes
    c.draw_own-drew.new.self c.dispatch_all.new.self c.draw_own-drew.new.cache c.dispatch_all.new.cache (map (λ o. g.H.Handoff.accepted o.handoff) c.dispatch_all.new.outputs) (map (λ o. g.H.Handoff.slots o.handoff) c.dispatch_all.new.outputs)
    c.draw_own-drew.ensures.most c.draw_own-drew.ensures.below c.draw_own-drew.ensures.bytes (ap (λ m. own_from c.self.inside.options.workers m c.args.input.now.capture.now.packets) (sym c.draw_own-drew.ensures.mark) ∙ c.draw_own-drew.ensures.own) entered done c.dispatch_all.ensures.none
    (λ settled told. tt) can.each can.slots_are in
    let between = take c.self.inside.outputs.len (c.tick_all.new.outputs ++ drop (length c.tick_all.new.outputs) c.self.inside.outputs.items) in
    let outs_new = mended (λ o. g.H.Handoff.ring o.handoff) c.self.inside.outputs.len c.as_mut_slice-4.result.now between c.dispatch_all.new.outputs c.as_mut_slice-4.ensures.value c.as_mut_slice-4.ensures.len c.dispatch_all.ensures.rings in
    let ins_new = mended (λ q. q.ring) c.self.inside.inputs.len c.as_mut_slice-2.result.now c.self.inside.inputs.items c.take_frames-came.new.inputs c.as_mut_slice-2.ensures.value c.as_mut_slice-2.ensures.len
    (taken_rings c.as_mut_slice-2.result.now c.take_frames-came.new.inputs c.take_frames-came.ensures.took c.take_frames-came.ensures.taken) in
    let rings_out = ap (map (λ o. g.H.Handoff.ring o.handoff)) outs_new ∙ c.dispatch_all.ensures.rings ∙ ap (map (λ o. g.H.Handoff.ring o.handoff)) outs ∙ c.tick_all.ensures.rings ∙ ap (map (λ o. g.H.Handoff.ring o.handoff)) c.as_mut_slice.ensures.value in
    let rings_in = ap (map (λ q. q.ring)) ins_new ∙ taken_rings c.as_mut_slice-2.result.now c.take_frames-came.new.inputs c.take_frames-came.ensures.took c.take_frames-came.ensures.taken ∙ ap (map (λ q. q.ring)) c.as_mut_slice-2.ensures.value in
    let groups_new = mended (λ x. x) c.self.inside.groups.len c.as_mut_slice-3.result.now c.self.inside.groups.items c.dispatch_all.new.groups c.as_mut_slice-3.ensures.value c.as_mut_slice-3.ensures.len
    (ap (map (λ x. x)) (c.dispatch_all.ensures.empty.1 ∙ sym (c.as_mut_slice-3.ensures.value ∙ k.groups_none))) in
    let allocated : c.relieve.new.cache.allocated ≡ c.dispatch_all.new.cache.allocated = ap (λ (b : CacheBook). b.allocated) c.relieve.ensures.cache in
    let freed : c.relieve.new.cache.freed ≡ c.dispatch_all.new.cache.freed = ap (λ (b : CacheBook). b.freed) c.relieve.ensures.cache in
    let keeps = keeping_here g.K.KindSet.meaning c.args.fork.now.graph c.args.fork.now.generation c.self.inside.number c.self.inside.packets c.self.inside.bytes c.self.inside.mark c.self.inside.own c.self.inside.left c.self.inside.taken c.unwrap_or.result c.where_goes-most.result
    c.where_goes-tried.result c.self.inside.options c.self.inside.work c.take_frames-came.new.self c.self.inside.sorted c.self.inside.groups.items c.self.inside.inputs.items c.as_mut_slice-2.result.now c.take_frames-came.new.inputs accepted slots
    c.self.inside.cache c.refill_for.new.cache c.args.input.now.capture.now.packets c.take_frames-came.result g.H.Handoff.LOSSLESS c.args.input.now.plan.now c.args.input.now.capture.now c.requires.work.planned made.packets made.bytes refl k u c.take_frames-came.ensures.took
    c.draw_own-drew.result.count c.draw_own-drew.result.bytes c.dispatch_all.new.self c.dispatch_all.new.cache c.relieve.new.cache (map (λ o. g.H.Handoff.accepted o.handoff) c.dispatch_all.new.outputs) (map (λ o. g.H.Handoff.slots o.handoff) c.dispatch_all.new.outputs) c.dispatch_all.new.sorted
    c.dispatch_all.new.groups r allocated freed c.dispatch_all.ensures.empty.0 c.dispatch_all.ensures.empty.1 in (
      keeping_at c.draw_own-drew.ensures.mark groups_new ins_new (ap (map (λ o. g.H.Handoff.accepted o.handoff)) outs_new) (ap (map (λ o. g.H.Handoff.slots o.handoff)) outs_new) keeps,
      c.self.invariant.1,
      (let e = ap length ins_new in let t = taken_length c.as_mut_slice-2.result.now c.take_frames-came.new.inputs c.take_frames-came.ensures.took c.take_frames-came.ensures.taken in let v = ap length c.as_mut_slice-2.ensures.value in let h = c.self.invariant.2 in
          omega (arith, e, t, v, h)),
      c.self.invariant.3,
      (let e = same_length (λ o. g.H.Handoff.ring o.handoff) (take c.self.inside.outputs.len (c.dispatch_all.new.outputs ++ drop (length c.dispatch_all.new.outputs) between)) c.self.inside.outputs.items rings_out in let h = c.self.invariant.4 in omega (arith, e, h)),
    )

pub returns-clause-work : goal.returns-clause-work
returns-clause-work g c =
    let k = c.self.invariant.0 in
    let len_is = c.len-2.ensures in
    let inputs_is : c.len-2.result ≡ length c.self.inside.inputs.items = len_is ∙ sym c.as_mut_slice-2.ensures.len ∙ ap length c.as_mut_slice-2.ensures.value in
    let u = set_up c.args.input.now.capture.now c.args.input.now.options.now c.self.view_is c.requires.work.made c.may_go-goes.result c.may_draw-draws.result c.unwrap_or.result c.where_goes-tried.result c.len-2.result c.len.result c.refill_for.result
    c.where_goes-most.result c.self.inside.inputs.items c.self.inside.cache c.refill_for.new.cache c.args.input.now.capture.now.packets k.range k.inputs_each refl
    (same_limit c.unwrap_or.result _ _ _ c.unwrap_or.ensures c.requires.limit).1 c.where_goes-tried.ensures (λ h. (c.may_go-goes.ensures.0 h).0) inputs_is
    c.len.ensures.len (refills c.self.inside.cache c.refill_for.result c.refill_for.ensures.few).0 (refills c.self.inside.cache c.refill_for.result c.refill_for.ensures.few).1 c.refill_for.ensures.cache c.len.ensures.room c.where_goes-most.ensures in
    let accepted : List (List HandoffFrame) = map (λ o. g.H.Handoff.accepted o.handoff) c.self.inside.outputs.items in
    let slots : List ℕ = map (λ o. g.H.Handoff.slots o.handoff) c.self.inside.outputs.items in
    let station : Station = record { workers = c.self.inside.options.workers; worker = c.self.inside.number; slots = c.self.inside.options.queue } in
    let ok = setting_of g.K.KindSet.meaning c.args.input.now.plan.now c.args.fork.now.graph c.args.fork.now.generation station g.met.K.KindSet.lawful c.requires.work.planned c.requires.graph in
    let entered = entered_here g.K.KindSet.meaning c.args.fork.now.graph c.args.fork.now.generation c.self.inside.number c.self.inside.packets c.self.inside.bytes c.self.inside.mark c.self.inside.own c.self.inside.left c.self.inside.taken c.unwrap_or.result c.where_goes-most.result
    c.where_goes-tried.result c.self.inside.options c.self.inside.work c.take_frames-came.new.self c.self.inside.sorted c.self.inside.groups.items c.self.inside.inputs.items c.as_mut_slice-2.result.now c.take_frames-came.new.inputs accepted slots
    c.self.inside.cache c.refill_for.new.cache c.args.input.now.capture.now.packets c.take_frames-came.result k c.take_frames-came.ensures u c.draw_own-drew.result.count c.draw_own-drew.new.self c.draw_own-drew.new.cache c.draw_own-drew.ensures.drawn in
    let outs : c.as_mut_slice-4.result.now ≡ c.tick_all.new.outputs = c.as_mut_slice-4.ensures.value ∙ mended (λ o. g.H.Handoff.accepted o.handoff) c.self.inside.outputs.len c.as_mut_slice.result.now
    c.self.inside.outputs.items c.tick_all.new.outputs c.as_mut_slice.ensures.value c.as_mut_slice.ensures.len c.tick_all.ensures.accepted in
    let accs : map (λ o. g.H.Handoff.accepted o.handoff) c.as_mut_slice-4.result.now ≡ accepted = ap (map (λ o. g.H.Handoff.accepted o.handoff)) outs ∙ c.tick_all.ensures.accepted ∙ ap (map (λ o. g.H.Handoff.accepted o.handoff)) c.as_mut_slice.ensures.value in
    let slo : map (λ o. g.H.Handoff.slots o.handoff) c.as_mut_slice-4.result.now ≡ slots = ap (map (λ o. g.H.Handoff.slots o.handoff)) outs ∙ c.tick_all.ensures.slots ∙ ap (map (λ o. g.H.Handoff.slots o.handoff)) c.as_mut_slice.ensures.value in
    let made = made_here c.args.input.now.capture.now c.args.input.now.options.now c.self.view_is c.requires.work.made in
    let can = c.dispatch_all.ensures.can in
    let mark_is = ap (λ w. w.mark) c.self.view_is in
    let told : List Settled → Type 0 = PushesOver station g.H.Handoff.LOSSLESS (λ o. g.H.Handoff.accepted o.handoff)
    (λ o. outlet_of g.H.Handoff.end g.H.Handoff.refusals g.H.Handoff.waiting g.H.Handoff.free_room g.H.Handoff.closes (most_in_round c.self.inside.options.workers) o.handoff) c.as_mut_slice-4.result.now
    c.draw_own-drew.new.self.fates.items c.dispatch_all.new.outputs c.dispatch_all.new.self.fates.items in
    let done = subst (λ xs. IsDispatched (stationed g.K.KindSet.meaning c.args.fork.now.graph c.args.fork.now.generation station) c.self.inside.options.queue g.H.Handoff.LOSSLESS told c.draw_own-drew.new.self c.draw_own-drew.new.cache
    (by_worker c.self.inside.number [] xs) c.dispatch_all.new.self c.dispatch_all.new.cache (by_worker c.self.inside.number [] (map (λ o. g.H.Handoff.accepted o.handoff) c.dispatch_all.new.outputs))) accs c.dispatch_all.ensures.dispatched in
    let r = round_here g.K.KindSet.meaning c.args.fork.now.graph c.args.fork.now.generation c.self.inside.number c.self.inside.packets c.self.inside.bytes c.self.inside.mark c.self.inside.own c.self.inside.left c.self.inside.taken c.unwrap_or.result c.where_goes-most.result
    c.where_goes-tried.result c.self.inside.options c.self.inside.work c.take_frames-came.new.self c.self.inside.sorted c.self.inside.groups.items c.self.inside.inputs.items c.as_mut_slice-2.result.now c.take_frames-came.new.inputs accepted slots
    c.self.inside.cache c.refill_for.new.cache c.args.input.now.capture.now.packets c.take_frames-came.result (λ (settled : List Settled). Unit {0}) g.H.Handoff.LOSSLESS c.args.input.now.plan.now
    c.args.input.now.capture.now g.met.K.KindSet.lawful c.requires.graph (same_limit c.unwrap_or.result _ _ _ c.unwrap_or.ensures c.requires.limit)
    (λ earlier e. let h = c.requires.now earlier e in omega (arith, h, mark_is)) made.packets made.bytes refl c.as_mut_slice-2.ensures.value k c.take_frames-came.ensures u c.draw_own-drew.result.count c.draw_own-drew.result.bytes
    c.draw_own-drew.new.self c.dispatch_all.new.self c.draw_own-drew.new.cache c.dispatch_all.new.cache (map (λ o. g.H.Handoff.accepted o.handoff) c.dispatch_all.new.outputs) (map (λ o. g.H.Handoff.slots o.handoff) c.dispatch_all.new.outputs)
    c.draw_own-drew.ensures.most c.draw_own-drew.ensures.below c.draw_own-drew.ensures.bytes (ap (λ m. own_from c.self.inside.options.workers m c.args.input.now.capture.now.packets) (sym c.draw_own-drew.ensures.mark) ∙ c.draw_own-drew.ensures.own) entered done c.dispatch_all.ensures.none
    (λ settled told. tt) can.each can.slots_are in
    let between = take c.self.inside.outputs.len (c.tick_all.new.outputs ++ drop (length c.tick_all.new.outputs) c.self.inside.outputs.items) in
    let outs_new = mended (λ o. g.H.Handoff.ring o.handoff) c.self.inside.outputs.len c.as_mut_slice-4.result.now between c.dispatch_all.new.outputs c.as_mut_slice-4.ensures.value c.as_mut_slice-4.ensures.len c.dispatch_all.ensures.rings in
    let ins_new = mended (λ q. q.ring) c.self.inside.inputs.len c.as_mut_slice-2.result.now c.self.inside.inputs.items c.take_frames-came.new.inputs c.as_mut_slice-2.ensures.value c.as_mut_slice-2.ensures.len
    (taken_rings c.as_mut_slice-2.result.now c.take_frames-came.new.inputs c.take_frames-came.ensures.took c.take_frames-came.ensures.taken) in
    let rings_out = ap (map (λ o. g.H.Handoff.ring o.handoff)) outs_new ∙ c.dispatch_all.ensures.rings ∙ ap (map (λ o. g.H.Handoff.ring o.handoff)) outs ∙ c.tick_all.ensures.rings ∙ ap (map (λ o. g.H.Handoff.ring o.handoff)) c.as_mut_slice.ensures.value in
    let rings_in = ap (map (λ q. q.ring)) ins_new ∙ taken_rings c.as_mut_slice-2.result.now c.take_frames-came.new.inputs c.take_frames-came.ensures.took c.take_frames-came.ensures.taken ∙ ap (map (λ q. q.ring)) c.as_mut_slice-2.ensures.value in
    let groups_new = mended (λ x. x) c.self.inside.groups.len c.as_mut_slice-3.result.now c.self.inside.groups.items c.dispatch_all.new.groups c.as_mut_slice-3.ensures.value c.as_mut_slice-3.ensures.len
    (ap (map (λ x. x)) (c.dispatch_all.ensures.empty.1 ∙ sym (c.as_mut_slice-3.ensures.value ∙ k.groups_none))) in
    let allocated : c.relieve.new.cache.allocated ≡ c.dispatch_all.new.cache.allocated = ap (λ (b : CacheBook). b.allocated) c.relieve.ensures.cache in
    let freed : c.relieve.new.cache.freed ≡ c.dispatch_all.new.cache.freed = ap (λ (b : CacheBook). b.freed) c.relieve.ensures.cache in
    work_here g.K.KindSet.meaning g.H.Handoff.LOSSLESS c.args.input.now.plan.now c.args.input.now.capture.now c.args.input.now.options.now c.self.view_is c.requires.work c.args.fork.now.graph c.args.fork.now.generation
    c.unwrap_or.result c.self.inside.taken c.draw_own-drew.result.count c.where_goes-most.result c.take_frames-came.result.count c.take_frames-came.result.bytes c.draw_own-drew.result.bytes c.take_frames-came.ensures.took c.self.inside.inputs.items
    c.take_frames-came.new.inputs accepted (map (λ o. g.H.Handoff.accepted o.handoff) c.dispatch_all.new.outputs) (map (λ o. g.H.Handoff.slots o.handoff) c.dispatch_all.new.outputs) c.self.inside.work c.dispatch_all.new.self c.refill_for.new.cache c.dispatch_all.new.cache r refl refl
    (account_at c.self.inside.number c.self.inside.work c.refill_for.new.cache c.self.inside.cache refl refl refl (sym u.allocated) (sym u.freed))
    (account_at c.self.inside.number c.dispatch_all.new.self c.dispatch_all.new.cache c.relieve.new.cache c.draw_own-drew.ensures.mark
    (ap (λ qs. by_worker c.self.inside.number [] (map (λ (q : Queue). q.taken) qs)) ins_new) (ap (λ os. by_worker c.self.inside.number [] (map (λ o. g.H.Handoff.accepted o.handoff) os)) outs_new) allocated freed)
    refl refl refl refl refl (ap length rings_in) (ap length rings_out)

pub returns-clause-same : goal.returns-clause-same
returns-clause-same g c =
    let k = c.self.invariant.0 in
    let len_is = c.len-2.ensures in
    let inputs_is : c.len-2.result ≡ length c.self.inside.inputs.items = len_is ∙ sym c.as_mut_slice-2.ensures.len ∙ ap length c.as_mut_slice-2.ensures.value in
    let u = set_up c.args.input.now.capture.now c.args.input.now.options.now c.self.view_is c.requires.work.made c.may_go-goes.result c.may_draw-draws.result c.unwrap_or.result c.where_goes-tried.result c.len-2.result c.len.result c.refill_for.result
    c.where_goes-most.result c.self.inside.inputs.items c.self.inside.cache c.refill_for.new.cache c.args.input.now.capture.now.packets k.range k.inputs_each refl
    (same_limit c.unwrap_or.result _ _ _ c.unwrap_or.ensures c.requires.limit).1 c.where_goes-tried.ensures (λ h. (c.may_go-goes.ensures.0 h).0) inputs_is
    c.len.ensures.len (refills c.self.inside.cache c.refill_for.result c.refill_for.ensures.few).0 (refills c.self.inside.cache c.refill_for.result c.refill_for.ensures.few).1 c.refill_for.ensures.cache c.len.ensures.room c.where_goes-most.ensures in
    let accepted : List (List HandoffFrame) = map (λ o. g.H.Handoff.accepted o.handoff) c.self.inside.outputs.items in
    let slots : List ℕ = map (λ o. g.H.Handoff.slots o.handoff) c.self.inside.outputs.items in
    let station : Station = record { workers = c.self.inside.options.workers; worker = c.self.inside.number; slots = c.self.inside.options.queue } in
    let ok = setting_of g.K.KindSet.meaning c.args.input.now.plan.now c.args.fork.now.graph c.args.fork.now.generation station g.met.K.KindSet.lawful c.requires.work.planned c.requires.graph in
    let entered = entered_here g.K.KindSet.meaning c.args.fork.now.graph c.args.fork.now.generation c.self.inside.number c.self.inside.packets c.self.inside.bytes c.self.inside.mark c.self.inside.own c.self.inside.left c.self.inside.taken c.unwrap_or.result c.where_goes-most.result
    c.where_goes-tried.result c.self.inside.options c.self.inside.work c.take_frames-came.new.self c.self.inside.sorted c.self.inside.groups.items c.self.inside.inputs.items c.as_mut_slice-2.result.now c.take_frames-came.new.inputs accepted slots
    c.self.inside.cache c.refill_for.new.cache c.args.input.now.capture.now.packets c.take_frames-came.result k c.take_frames-came.ensures u c.draw_own-drew.result.count c.draw_own-drew.new.self c.draw_own-drew.new.cache c.draw_own-drew.ensures.drawn in
    let outs : c.as_mut_slice-4.result.now ≡ c.tick_all.new.outputs = c.as_mut_slice-4.ensures.value ∙ mended (λ o. g.H.Handoff.accepted o.handoff) c.self.inside.outputs.len c.as_mut_slice.result.now
    c.self.inside.outputs.items c.tick_all.new.outputs c.as_mut_slice.ensures.value c.as_mut_slice.ensures.len c.tick_all.ensures.accepted in
    let accs : map (λ o. g.H.Handoff.accepted o.handoff) c.as_mut_slice-4.result.now ≡ accepted = ap (map (λ o. g.H.Handoff.accepted o.handoff)) outs ∙ c.tick_all.ensures.accepted ∙ ap (map (λ o. g.H.Handoff.accepted o.handoff)) c.as_mut_slice.ensures.value in
    let slo : map (λ o. g.H.Handoff.slots o.handoff) c.as_mut_slice-4.result.now ≡ slots = ap (map (λ o. g.H.Handoff.slots o.handoff)) outs ∙ c.tick_all.ensures.slots ∙ ap (map (λ o. g.H.Handoff.slots o.handoff)) c.as_mut_slice.ensures.value in
    let made = made_here c.args.input.now.capture.now c.args.input.now.options.now c.self.view_is c.requires.work.made in
    let can = c.dispatch_all.ensures.can in
    let mark_is = ap (λ w. w.mark) c.self.view_is in
    let told : List Settled → Type 0 = PushesOver station g.H.Handoff.LOSSLESS (λ o. g.H.Handoff.accepted o.handoff)
    (λ o. outlet_of g.H.Handoff.end g.H.Handoff.refusals g.H.Handoff.waiting g.H.Handoff.free_room g.H.Handoff.closes (most_in_round c.self.inside.options.workers) o.handoff) c.as_mut_slice-4.result.now
    c.draw_own-drew.new.self.fates.items c.dispatch_all.new.outputs c.dispatch_all.new.self.fates.items in
    let done = subst (λ xs. IsDispatched (stationed g.K.KindSet.meaning c.args.fork.now.graph c.args.fork.now.generation station) c.self.inside.options.queue g.H.Handoff.LOSSLESS told c.draw_own-drew.new.self c.draw_own-drew.new.cache
    (by_worker c.self.inside.number [] xs) c.dispatch_all.new.self c.dispatch_all.new.cache (by_worker c.self.inside.number [] (map (λ o. g.H.Handoff.accepted o.handoff) c.dispatch_all.new.outputs))) accs c.dispatch_all.ensures.dispatched in
    let r = round_here g.K.KindSet.meaning c.args.fork.now.graph c.args.fork.now.generation c.self.inside.number c.self.inside.packets c.self.inside.bytes c.self.inside.mark c.self.inside.own c.self.inside.left c.self.inside.taken c.unwrap_or.result c.where_goes-most.result
    c.where_goes-tried.result c.self.inside.options c.self.inside.work c.take_frames-came.new.self c.self.inside.sorted c.self.inside.groups.items c.self.inside.inputs.items c.as_mut_slice-2.result.now c.take_frames-came.new.inputs accepted slots
    c.self.inside.cache c.refill_for.new.cache c.args.input.now.capture.now.packets c.take_frames-came.result (λ (settled : List Settled). Unit {0}) g.H.Handoff.LOSSLESS c.args.input.now.plan.now
    c.args.input.now.capture.now g.met.K.KindSet.lawful c.requires.graph (same_limit c.unwrap_or.result _ _ _ c.unwrap_or.ensures c.requires.limit)
    (λ earlier e. let h = c.requires.now earlier e in omega (arith, h, mark_is)) made.packets made.bytes refl c.as_mut_slice-2.ensures.value k c.take_frames-came.ensures u c.draw_own-drew.result.count c.draw_own-drew.result.bytes
    c.draw_own-drew.new.self c.dispatch_all.new.self c.draw_own-drew.new.cache c.dispatch_all.new.cache (map (λ o. g.H.Handoff.accepted o.handoff) c.dispatch_all.new.outputs) (map (λ o. g.H.Handoff.slots o.handoff) c.dispatch_all.new.outputs)
    c.draw_own-drew.ensures.most c.draw_own-drew.ensures.below c.draw_own-drew.ensures.bytes (ap (λ m. own_from c.self.inside.options.workers m c.args.input.now.capture.now.packets) (sym c.draw_own-drew.ensures.mark) ∙ c.draw_own-drew.ensures.own) entered done c.dispatch_all.ensures.none
    (λ settled told. tt) can.each can.slots_are in
    let between = take c.self.inside.outputs.len (c.tick_all.new.outputs ++ drop (length c.tick_all.new.outputs) c.self.inside.outputs.items) in
    let outs_new = mended (λ o. g.H.Handoff.ring o.handoff) c.self.inside.outputs.len c.as_mut_slice-4.result.now between c.dispatch_all.new.outputs c.as_mut_slice-4.ensures.value c.as_mut_slice-4.ensures.len c.dispatch_all.ensures.rings in
    let ins_new = mended (λ q. q.ring) c.self.inside.inputs.len c.as_mut_slice-2.result.now c.self.inside.inputs.items c.take_frames-came.new.inputs c.as_mut_slice-2.ensures.value c.as_mut_slice-2.ensures.len
    (taken_rings c.as_mut_slice-2.result.now c.take_frames-came.new.inputs c.take_frames-came.ensures.took c.take_frames-came.ensures.taken) in
    let rings_out = ap (map (λ o. g.H.Handoff.ring o.handoff)) outs_new ∙ c.dispatch_all.ensures.rings ∙ ap (map (λ o. g.H.Handoff.ring o.handoff)) outs ∙ c.tick_all.ensures.rings ∙ ap (map (λ o. g.H.Handoff.ring o.handoff)) c.as_mut_slice.ensures.value in
    let rings_in = ap (map (λ q. q.ring)) ins_new ∙ taken_rings c.as_mut_slice-2.result.now c.take_frames-came.new.inputs c.take_frames-came.ensures.took c.take_frames-came.ensures.taken ∙ ap (map (λ q. q.ring)) c.as_mut_slice-2.ensures.value in
    let groups_new = mended (λ x. x) c.self.inside.groups.len c.as_mut_slice-3.result.now c.self.inside.groups.items c.dispatch_all.new.groups c.as_mut_slice-3.ensures.value c.as_mut_slice-3.ensures.len
    (ap (map (λ x. x)) (c.dispatch_all.ensures.empty.1 ∙ sym (c.as_mut_slice-3.ensures.value ∙ k.groups_none))) in
    let allocated : c.relieve.new.cache.allocated ≡ c.dispatch_all.new.cache.allocated = ap (λ (b : CacheBook). b.allocated) c.relieve.ensures.cache in
    let freed : c.relieve.new.cache.freed ≡ c.dispatch_all.new.cache.freed = ap (λ (b : CacheBook). b.freed) c.relieve.ensures.cache in
    same_here c.self.view_is (record { number = refl; options = refl; inputs = rings_in; outputs = rings_out })

pub returns-clause-round : goal.returns-clause-round
returns-clause-round g c =
    let k = c.self.invariant.0 in
    let len_is = c.len-2.ensures in
    let inputs_is : c.len-2.result ≡ length c.self.inside.inputs.items = len_is ∙ sym c.as_mut_slice-2.ensures.len ∙ ap length c.as_mut_slice-2.ensures.value in
    let u = set_up c.args.input.now.capture.now c.args.input.now.options.now c.self.view_is c.requires.work.made c.may_go-goes.result c.may_draw-draws.result c.unwrap_or.result c.where_goes-tried.result c.len-2.result c.len.result c.refill_for.result
    c.where_goes-most.result c.self.inside.inputs.items c.self.inside.cache c.refill_for.new.cache c.args.input.now.capture.now.packets k.range k.inputs_each refl
    (same_limit c.unwrap_or.result _ _ _ c.unwrap_or.ensures c.requires.limit).1 c.where_goes-tried.ensures (λ h. (c.may_go-goes.ensures.0 h).0) inputs_is
    c.len.ensures.len (refills c.self.inside.cache c.refill_for.result c.refill_for.ensures.few).0 (refills c.self.inside.cache c.refill_for.result c.refill_for.ensures.few).1 c.refill_for.ensures.cache c.len.ensures.room c.where_goes-most.ensures in
    let accepted : List (List HandoffFrame) = map (λ o. g.H.Handoff.accepted o.handoff) c.self.inside.outputs.items in
    let slots : List ℕ = map (λ o. g.H.Handoff.slots o.handoff) c.self.inside.outputs.items in
    let station : Station = record { workers = c.self.inside.options.workers; worker = c.self.inside.number; slots = c.self.inside.options.queue } in
    let ok = setting_of g.K.KindSet.meaning c.args.input.now.plan.now c.args.fork.now.graph c.args.fork.now.generation station g.met.K.KindSet.lawful c.requires.work.planned c.requires.graph in
    let entered = entered_here g.K.KindSet.meaning c.args.fork.now.graph c.args.fork.now.generation c.self.inside.number c.self.inside.packets c.self.inside.bytes c.self.inside.mark c.self.inside.own c.self.inside.left c.self.inside.taken c.unwrap_or.result c.where_goes-most.result
    c.where_goes-tried.result c.self.inside.options c.self.inside.work c.take_frames-came.new.self c.self.inside.sorted c.self.inside.groups.items c.self.inside.inputs.items c.as_mut_slice-2.result.now c.take_frames-came.new.inputs accepted slots
    c.self.inside.cache c.refill_for.new.cache c.args.input.now.capture.now.packets c.take_frames-came.result k c.take_frames-came.ensures u c.draw_own-drew.result.count c.draw_own-drew.new.self c.draw_own-drew.new.cache c.draw_own-drew.ensures.drawn in
    let outs : c.as_mut_slice-4.result.now ≡ c.tick_all.new.outputs = c.as_mut_slice-4.ensures.value ∙ mended (λ o. g.H.Handoff.accepted o.handoff) c.self.inside.outputs.len c.as_mut_slice.result.now
    c.self.inside.outputs.items c.tick_all.new.outputs c.as_mut_slice.ensures.value c.as_mut_slice.ensures.len c.tick_all.ensures.accepted in
    let accs : map (λ o. g.H.Handoff.accepted o.handoff) c.as_mut_slice-4.result.now ≡ accepted = ap (map (λ o. g.H.Handoff.accepted o.handoff)) outs ∙ c.tick_all.ensures.accepted ∙ ap (map (λ o. g.H.Handoff.accepted o.handoff)) c.as_mut_slice.ensures.value in
    let slo : map (λ o. g.H.Handoff.slots o.handoff) c.as_mut_slice-4.result.now ≡ slots = ap (map (λ o. g.H.Handoff.slots o.handoff)) outs ∙ c.tick_all.ensures.slots ∙ ap (map (λ o. g.H.Handoff.slots o.handoff)) c.as_mut_slice.ensures.value in
    let made = made_here c.args.input.now.capture.now c.args.input.now.options.now c.self.view_is c.requires.work.made in
    let can = c.dispatch_all.ensures.can in
    let mark_is = ap (λ w. w.mark) c.self.view_is in
    let told : List Settled → Type 0 = PushesOver station g.H.Handoff.LOSSLESS (λ o. g.H.Handoff.accepted o.handoff)
    (λ o. outlet_of g.H.Handoff.end g.H.Handoff.refusals g.H.Handoff.waiting g.H.Handoff.free_room g.H.Handoff.closes (most_in_round c.self.inside.options.workers) o.handoff) c.as_mut_slice-4.result.now
    c.draw_own-drew.new.self.fates.items c.dispatch_all.new.outputs c.dispatch_all.new.self.fates.items in
    let done = subst (λ xs. IsDispatched (stationed g.K.KindSet.meaning c.args.fork.now.graph c.args.fork.now.generation station) c.self.inside.options.queue g.H.Handoff.LOSSLESS told c.draw_own-drew.new.self c.draw_own-drew.new.cache
    (by_worker c.self.inside.number [] xs) c.dispatch_all.new.self c.dispatch_all.new.cache (by_worker c.self.inside.number [] (map (λ o. g.H.Handoff.accepted o.handoff) c.dispatch_all.new.outputs))) accs c.dispatch_all.ensures.dispatched in
    let before : List Outlet = map (λ o. outlet_of g.H.Handoff.end g.H.Handoff.refusals g.H.Handoff.waiting g.H.Handoff.free_room g.H.Handoff.closes (most_in_round c.self.inside.options.workers) o.handoff) c.self.inside.outputs.items in
    let ticked : List Outlet = map (λ o. outlet_of g.H.Handoff.end g.H.Handoff.refusals g.H.Handoff.waiting g.H.Handoff.free_room g.H.Handoff.closes (most_in_round c.self.inside.options.workers) o.handoff) c.tick_all.new.outputs in
    let after : List Outlet = map (λ o. outlet_of g.H.Handoff.end g.H.Handoff.refusals g.H.Handoff.waiting g.H.Handoff.free_room g.H.Handoff.closes (most_in_round c.self.inside.options.workers) o.handoff) c.dispatch_all.new.outputs in
    let w : ℕ = c.self.inside.options.workers in
    let n : ℕ = c.self.inside.number in
    let all : List Settled → Type 0 = PushesFrames w c.self.inside.options.queue g.H.Handoff.LOSSLESS (by_worker n [] accepted) (by_worker n no_outlet ticked) c.self.inside.work.fates.items
    (by_worker n [] (map (λ o. g.H.Handoff.accepted o.handoff) c.dispatch_all.new.outputs)) (by_worker n no_outlet after) c.dispatch_all.new.self.fates.items in
    let r = round_here g.K.KindSet.meaning c.args.fork.now.graph c.args.fork.now.generation c.self.inside.number c.self.inside.packets c.self.inside.bytes c.self.inside.mark c.self.inside.own c.self.inside.left c.self.inside.taken c.unwrap_or.result c.where_goes-most.result
    c.where_goes-tried.result c.self.inside.options c.self.inside.work c.take_frames-came.new.self c.self.inside.sorted c.self.inside.groups.items c.self.inside.inputs.items c.as_mut_slice-2.result.now c.take_frames-came.new.inputs accepted slots
    c.self.inside.cache c.refill_for.new.cache c.args.input.now.capture.now.packets c.take_frames-came.result all g.H.Handoff.LOSSLESS c.args.input.now.plan.now c.args.input.now.capture.now g.met.K.KindSet.lawful
    c.requires.graph (same_limit c.unwrap_or.result _ _ _ c.unwrap_or.ensures c.requires.limit)
    (λ earlier e. let h = c.requires.now earlier e in omega (arith, h, mark_is)) made.packets made.bytes refl c.as_mut_slice-2.ensures.value k c.take_frames-came.ensures u c.draw_own-drew.result.count c.draw_own-drew.result.bytes
    c.draw_own-drew.new.self c.dispatch_all.new.self c.draw_own-drew.new.cache c.dispatch_all.new.cache (map (λ o. g.H.Handoff.accepted o.handoff) c.dispatch_all.new.outputs) (map (λ o. g.H.Handoff.slots o.handoff) c.dispatch_all.new.outputs)
    c.draw_own-drew.ensures.most c.draw_own-drew.ensures.below c.draw_own-drew.ensures.bytes (ap (λ m. own_from c.self.inside.options.workers m c.args.input.now.capture.now.packets) (sym c.draw_own-drew.ensures.mark) ∙ c.draw_own-drew.ensures.own) entered done c.dispatch_all.ensures.none
    (λ settled pushed. subst (λ ps. PushesFrames w c.self.inside.options.queue g.H.Handoff.LOSSLESS (by_worker n [] ps) (by_worker n no_outlet ticked) c.self.inside.work.fates.items
    (by_worker n [] (map (λ o. g.H.Handoff.accepted o.handoff) c.dispatch_all.new.outputs)) (by_worker n no_outlet after) c.dispatch_all.new.self.fates.items (entered.settled ++ settled)) accs
    (subst (λ xs. PushesFrames w c.self.inside.options.queue g.H.Handoff.LOSSLESS (by_worker n [] (map (λ o. g.H.Handoff.accepted o.handoff) c.as_mut_slice-4.result.now))
    (by_worker n no_outlet (map (λ o. outlet_of g.H.Handoff.end g.H.Handoff.refusals g.H.Handoff.waiting g.H.Handoff.free_room g.H.Handoff.closes (most_in_round c.self.inside.options.workers) o.handoff) xs)) c.self.inside.work.fates.items
    (by_worker n [] (map (λ o. g.H.Handoff.accepted o.handoff) c.dispatch_all.new.outputs)) (by_worker n no_outlet after) c.dispatch_all.new.self.fates.items (entered.settled ++ settled)) outs
    (pushed_behind station g.H.Handoff.LOSSLESS (λ o. g.H.Handoff.accepted o.handoff)
    (λ o. outlet_of g.H.Handoff.end g.H.Handoff.refusals g.H.Handoff.waiting g.H.Handoff.free_room g.H.Handoff.closes (most_in_round c.self.inside.options.workers) o.handoff) c.as_mut_slice-4.result.now
    c.dispatch_all.new.outputs c.self.inside.work.fates.items c.draw_own-drew.new.self.fates.items c.dispatch_all.new.self.fates.items
    entered.settled entered.advances.fates entered.here pushed))) can.each can.slots_are in
    let between = take c.self.inside.outputs.len (c.tick_all.new.outputs ++ drop (length c.tick_all.new.outputs) c.self.inside.outputs.items) in
    let outs_new = mended (λ o. g.H.Handoff.ring o.handoff) c.self.inside.outputs.len c.as_mut_slice-4.result.now between c.dispatch_all.new.outputs c.as_mut_slice-4.ensures.value c.as_mut_slice-4.ensures.len c.dispatch_all.ensures.rings in
    let ins_new = mended (λ q. q.ring) c.self.inside.inputs.len c.as_mut_slice-2.result.now c.self.inside.inputs.items c.take_frames-came.new.inputs c.as_mut_slice-2.ensures.value c.as_mut_slice-2.ensures.len
    (taken_rings c.as_mut_slice-2.result.now c.take_frames-came.new.inputs c.take_frames-came.ensures.took c.take_frames-came.ensures.taken) in
    let rings_out = ap (map (λ o. g.H.Handoff.ring o.handoff)) outs_new ∙ c.dispatch_all.ensures.rings ∙ ap (map (λ o. g.H.Handoff.ring o.handoff)) outs ∙ c.tick_all.ensures.rings ∙ ap (map (λ o. g.H.Handoff.ring o.handoff)) c.as_mut_slice.ensures.value in
    let rings_in = ap (map (λ q. q.ring)) ins_new ∙ taken_rings c.as_mut_slice-2.result.now c.take_frames-came.new.inputs c.take_frames-came.ensures.took c.take_frames-came.ensures.taken ∙ ap (map (λ q. q.ring)) c.as_mut_slice-2.ensures.value in
    let groups_new = mended (λ x. x) c.self.inside.groups.len c.as_mut_slice-3.result.now c.self.inside.groups.items c.dispatch_all.new.groups c.as_mut_slice-3.ensures.value c.as_mut_slice-3.ensures.len
    (ap (map (λ x. x)) (c.dispatch_all.ensures.empty.1 ∙ sym (c.as_mut_slice-3.ensures.value ∙ k.groups_none))) in
    let allocated : c.relieve.new.cache.allocated ≡ c.dispatch_all.new.cache.allocated = ap (λ (b : CacheBook). b.allocated) c.relieve.ensures.cache in
    let freed : c.relieve.new.cache.freed ≡ c.dispatch_all.new.cache.freed = ap (λ (b : CacheBook). b.freed) c.relieve.ensures.cache in
    let slice : c.as_slice.result.now ≡ c.tick_all.new.outputs = c.as_slice.ensures.value ∙ sym c.as_mut_slice-4.ensures.value ∙ outs in
    let slice2 : c.as_slice-2.result.now ≡ c.tick_all.new.outputs = c.as_slice-2.ensures.value ∙ sym c.as_mut_slice-4.ensures.value ∙ outs in
    did_here g.K.KindSet.meaning g.H.Handoff.LOSSLESS c.args.input.now.plan.now c.args.input.now.capture.now c.args.input.now.options.now c.self.view_is c.requires.work c.args.fork.now.graph c.args.fork.now.generation c.unwrap_or.result _ c.unwrap_or.ensures
    c.self.inside.taken c.draw_own-drew.result.count c.where_goes-most.result c.take_frames-came.result.count c.take_frames-came.result.bytes c.draw_own-drew.result.bytes c.take_frames-came.ensures.took c.self.inside.inputs.items c.take_frames-came.new.inputs accepted
    (map (λ o. g.H.Handoff.accepted o.handoff) c.dispatch_all.new.outputs) (map (λ o. g.H.Handoff.slots o.handoff) c.dispatch_all.new.outputs) c.self.inside.work c.dispatch_all.new.self c.refill_for.new.cache c.dispatch_all.new.cache r
    c.where_goes-tried.result c.refill_for.result c.may_go-goes.result c.may_draw-draws.result before ticked after c.self.inside.cache c.relieve.new.cache
    (record {
      own_mark = ap (λ (b : WorkerBook). b.mark % b.options.workers) c.self.view_is ∙ ap (λ (o : Options). c.args.self.now.mark % o.workers) c.requires.work.made.options_are ∙ c.requires.work.own_mark ∙ sym (ap (λ (b : WorkerBook). b.number) c.self.view_is);
      number_within = k.number_within;
      each = (let e = k.outputs_each in let l1 = length-map c.tick_all.new.outputs
          (λ o. outlet_of g.H.Handoff.end g.H.Handoff.refusals g.H.Handoff.waiting g.H.Handoff.free_room g.H.Handoff.closes (most_in_round c.self.inside.options.workers) o.handoff) in
          let l2 = ap length c.tick_all.ensures.accepted in let l3 = length-map c.tick_all.new.outputs (λ o. g.H.Handoff.accepted o.handoff) in
          let l4 = length-map c.as_mut_slice.result.now (λ o. g.H.Handoff.accepted o.handoff) in let l5 = ap length c.as_mut_slice.ensures.value in let l6 = length-map c.self.inside.outputs.items (λ o. g.H.Handoff.accepted o.handoff) in omega (arith, e, l1, l2, l3, l4, l5, l6));
      inputs_each = k.inputs_each;
      ticks = ticked_by (λ o. g.H.Handoff.slots o.handoff) g.H.Handoff.LOSSLESS (λ o. g.H.Handoff.accepted o.handoff)
          (λ o. outlet_of g.H.Handoff.end g.H.Handoff.refusals g.H.Handoff.waiting g.H.Handoff.free_room g.H.Handoff.closes (most_in_round c.self.inside.options.workers) o.handoff) c.self.inside.options.queue n c.self.inside.outputs.items c.tick_all.new.outputs k.slots_are
          (subst (λ xs. AreTicked (λ o. g.H.Handoff.slots o.handoff) g.H.Handoff.LOSSLESS (λ o. g.H.Handoff.accepted o.handoff)
          (λ o. outlet_of g.H.Handoff.end g.H.Handoff.refusals g.H.Handoff.waiting g.H.Handoff.free_room g.H.Handoff.closes (most_in_round c.self.inside.options.workers) o.handoff) xs c.tick_all.new.outputs) c.as_mut_slice.ensures.value (c.tick_all.ensures.ticked (most_in_round w)));
      goes_is = (
        λ on.
            let h = c.may_go-goes.ensures.0 on in let few : c.len.result ≤ 256 = h.0 in let len = c.len.ensures.len in (
              (let f : c.self.inside.cache.len ≤ 256 = omega (arith, few, len) in f),
              all_mapped (λ o. outlet_of g.H.Handoff.end g.H.Handoff.refusals g.H.Handoff.waiting g.H.Handoff.free_room g.H.Handoff.closes (most_in_round c.self.inside.options.workers) o.handoff)
                  (λ (o : Outlet). most_in_round w ≤ o.room) c.tick_all.new.outputs (subst (AllByRecursion (λ o. 256 * w ≤ g.H.Handoff.free_room o.handoff)) slice h.1),
            ),
        λ h. c.may_go-goes.ensures.1 (
          (let few : c.self.inside.cache.len ≤ 256 = h.0 in let len = c.len.ensures.len in let f : c.len.result ≤ 256 = omega (arith, few, len) in f),
          subst (AllByRecursion (λ o. 256 * w ≤ g.H.Handoff.free_room o.handoff)) (sym slice)
              (all_map (λ (o : Outlet). most_in_round w ≤ o.room) (λ o. outlet_of g.H.Handoff.end g.H.Handoff.refusals g.H.Handoff.waiting g.H.Handoff.free_room g.H.Handoff.closes (most_in_round c.self.inside.options.workers) o.handoff) c.tick_all.new.outputs h.1),
        ),
      );
      draws_is = (
        λ on.
            let h = c.may_draw-draws.ensures.0 on in (
              h.0,
              all_mapped (λ o. outlet_of g.H.Handoff.end g.H.Handoff.refusals g.H.Handoff.waiting g.H.Handoff.free_room g.H.Handoff.closes (most_in_round c.self.inside.options.workers) o.handoff)
                  (λ (o : Outlet). o.closed ≡ false) c.tick_all.new.outputs (subst (AllByRecursion (λ o. g.H.Handoff.closes o.handoff (256 * w) ≡ false)) slice2 h.1),
            ),
        λ h. c.may_draw-draws.ensures.1 (
          h.0,
          subst (AllByRecursion (λ o. g.H.Handoff.closes o.handoff (256 * w) ≡ false)) (sym slice2)
              (all_map (λ (o : Outlet). o.closed ≡ false) (λ o. outlet_of g.H.Handoff.end g.H.Handoff.refusals g.H.Handoff.waiting g.H.Handoff.free_room g.H.Handoff.closes (most_in_round c.self.inside.options.workers) o.handoff) c.tick_all.new.outputs h.1),
        ),
      );
      tried_is = subst (λ i. MatchBool c.may_go-goes.result (c.where_goes-tried.result ≡ i) (c.where_goes-tried.result ≡ 0)) inputs_is c.where_goes-tried.ensures;
      took_size = c.take_frames-came.ensures.size;
      tries = subst (λ qs. AreTried (MayComeNext (stationed g.K.KindSet.meaning c.args.fork.now.graph c.args.fork.now.generation station)
          (record { packets = c.self.inside.packets; bytes = c.self.inside.bytes; own = c.self.inside.own; left = c.self.inside.left; taken = c.self.inside.taken }) (length c.self.inside.work.fates.items) (vec_len c.self.inside.work.bytes))
          0 0 qs c.take_frames-came.new.inputs c.take_frames-came.ensures.took) c.as_mut_slice-2.ensures.value c.take_frames-came.ensures.tries;
      taken_is = k.taken_is;
      sent_is = k.rest.sent_is;
      refill = c.refill_for.ensures.few;
      filled_is = c.refill_for.ensures.cache;
      last_taken = ap (λ (b : CacheBook). b.taken) c.relieve.ensures.cache;
      last_allocated = allocated;
      last_freed = freed;
      drawn_is = c.where_goes-most.ensures;
      cached = c.draw_own-drew.new.cache.len;
      chained = c.draw_own-drew.ensures.chained;
      all = λ few. subst (λ m. (c.unwrap_or.result ≤ m) ⊎ LacksBuffers (frames_of c.args.input.now.capture.now.packets) m c.draw_own-drew.new.cache.len) c.draw_own-drew.ensures.mark (c.draw_own-drew.ensures.all few);
      pushed = λ settled told. told;
    }) _ _ (record {
      number_is = refl;
      options_are = refl;
      packets_are = refl;
      bytes_are = refl;
      mark_is = refl;
      own_is = refl;
      left_is = refl;
      taken_is = refl;
      put_is = refl;
      waits_are = refl;
      looks_are = refl;
      outlets_are = refl;
      log_is = refl;
      sent_is = refl;
      counts_are = refl;
      trace_is = refl;
      cache_is = refl;
    }) (record {
      number_is = refl;
      options_are = refl;
      packets_are = refl;
      bytes_are = refl;
      mark_is = c.draw_own-drew.ensures.mark;
      own_is = refl;
      left_is = refl;
      taken_is = ap (λ qs. by_worker c.self.inside.number [] (map (λ (q : Queue). q.taken) qs)) ins_new;
      put_is = ap (λ os. by_worker c.self.inside.number [] (map (λ o. g.H.Handoff.accepted o.handoff) os)) outs_new;
      waits_are = ap (map (λ (q : Queue). q.waits)) ins_new;
      looks_are = ap (λ qs. by_worker c.self.inside.number [] (map (λ (q : Queue). q.trail) qs)) ins_new;
      outlets_are = ap (λ os. by_worker n no_outlet (map (λ o. outlet_of g.H.Handoff.end g.H.Handoff.refusals g.H.Handoff.waiting g.H.Handoff.free_room g.H.Handoff.closes (most_in_round c.self.inside.options.workers) o.handoff) os)) outs_new;
      log_is = refl;
      sent_is = refl;
      counts_are = refl;
      trace_is = refl;
      cache_is = refl;
    })

pub returns-clause-buffers : goal.returns-clause-buffers
returns-clause-buffers g c = λ none.
    let k = c.self.invariant.0 in
    let len_is = c.len-2.ensures in
    let inputs_is : c.len-2.result ≡ length c.self.inside.inputs.items = len_is ∙ sym c.as_mut_slice-2.ensures.len ∙ ap length c.as_mut_slice-2.ensures.value in
    let u = set_up c.args.input.now.capture.now c.args.input.now.options.now c.self.view_is c.requires.work.made c.may_go-goes.result c.may_draw-draws.result c.unwrap_or.result c.where_goes-tried.result c.len-2.result c.len.result c.refill_for.result
    c.where_goes-most.result c.self.inside.inputs.items c.self.inside.cache c.refill_for.new.cache c.args.input.now.capture.now.packets k.range k.inputs_each refl
    (same_limit c.unwrap_or.result _ _ _ c.unwrap_or.ensures c.requires.limit).1 c.where_goes-tried.ensures (λ h. (c.may_go-goes.ensures.0 h).0) inputs_is
    c.len.ensures.len (refills c.self.inside.cache c.refill_for.result c.refill_for.ensures.few).0 (refills c.self.inside.cache c.refill_for.result c.refill_for.ensures.few).1 c.refill_for.ensures.cache c.len.ensures.room c.where_goes-most.ensures in
    let accepted : List (List HandoffFrame) = map (λ o. g.H.Handoff.accepted o.handoff) c.self.inside.outputs.items in
    let slots : List ℕ = map (λ o. g.H.Handoff.slots o.handoff) c.self.inside.outputs.items in
    let entered = entered_here g.K.KindSet.meaning c.args.fork.now.graph c.args.fork.now.generation c.self.inside.number c.self.inside.packets c.self.inside.bytes c.self.inside.mark c.self.inside.own c.self.inside.left c.self.inside.taken c.unwrap_or.result c.where_goes-most.result
    c.where_goes-tried.result c.self.inside.options c.self.inside.work c.take_frames-came.new.self c.self.inside.sorted c.self.inside.groups.items c.self.inside.inputs.items c.as_mut_slice-2.result.now c.take_frames-came.new.inputs accepted slots
    c.self.inside.cache c.refill_for.new.cache c.args.input.now.capture.now.packets c.take_frames-came.result k c.take_frames-came.ensures u c.draw_own-drew.result.count c.draw_own-drew.new.self c.draw_own-drew.new.cache c.draw_own-drew.ensures.drawn in
    let e1 = ap (λ (b : CacheBook). b.taken) c.relieve.ensures.cache in let e2 = c.dispatch_all.ensures.dispatched.exchanges.taken in let e3 = entered.exchanges.taken in
    let e4 = ap (λ (b : CacheBook). b.taken) c.refill_for.ensures.cache in let e5 = c.refill_for.ensures.none (c.is_some.ensures ∙ ap is_some none) in
    let e6 = ap (λ (b : WorkerBook). b.cache.taken) c.self.view_is in
    omega (arith, e1, e2, e3, e4, e5, e6)
