use Rattle.std.proofs.Common.{◌≡◌, List, [], length, map, refl, sym, ap, subst, ◌∙◌, arith}
use Rattle.std.specs.Prelude.{Option, None, min}
use Rattle.std.specs.List.{AllByRecursion}
use Rattle.std.proofs.lemmas.List.{length-map}
use Rattle.vg_ring.specs.Ends.{put, rx_ring, rx_trail}
use Rattle.vg_journeys.specs.Accounts.{HandoffFrame}
use Rattle.vg_dispatch.specs.declared.parcels.Stop.TheVariants as stops
use Rattle.vg_dispatch.specs.Parcels.{Fits}
use Rattle.vg_underway.specs.OwnPackets.{own_from, captured_extent}
use Rattle.vg_underway.specs.Rest.{IsNew}
use Rattle.vg_underway.specs.Queues.{Queue, queue_of}
use Rattle.vg_dispatch.proofs.NewLemmas.{nothing_held, new_keeping, new_work, map_map, own_among, all_given, all_of_each, new_account, none_by_worker}
use Rattle.vg_dispatch.proofs.workers.Worker.new.Goals as goal

pub invariant_of-result : goal.invariant_of-result
invariant_of-result g c =
    let new = c.in-Ok.ensures in
    let queues : c.queues_of.result.items ≡ map (λ rx. queue_of (rx_ring rx) (rx_trail rx)) c.args.links.inputs.items = c.queues_of.ensures in
    let acc : map (λ o. g.H.Handoff.accepted o.handoff) c.counting_of.result.items ≡ map g.H.Handoff.accepted c.args.links.outputs.items = map_map (λ o. o.handoff) g.H.Handoff.accepted c.counting_of.result.items ∙ ap (map g.H.Handoff.accepted) c.counting_of.ensures in
    let slots : map (λ o. g.H.Handoff.slots o.handoff) c.counting_of.result.items ≡ map g.H.Handoff.slots c.args.links.outputs.items = map_map (λ o. o.handoff) g.H.Handoff.slots c.counting_of.result.items ∙ ap (map g.H.Handoff.slots) c.counting_of.ensures in
    let among = own_among c.args.input.now.options.now.workers c.args.number c.args.input.now.capture.now.packets in
    let count = c.len-count.ensures.count in let few = c.len-count.ensures.few in
    let own = c.own_of-own.ensures.count in let left = c.own_of-own.ensures.bytes in let bytes = c.in-Some.ensures in let a0 = among.0 in let a1 = among.1 in
    let in_len = ap length queues in let in_each = c.requires.inputs.0 in
    let out_len = ap length acc in let out_each = c.requires.outputs.0 in
    let o1 = length-map c.counting_of.result.items (λ o. g.H.Handoff.accepted o.handoff) in let o2 = length-map c.args.links.outputs.items g.H.Handoff.accepted in
    let i1 = length-map c.args.links.inputs.items (λ rx. queue_of (rx_ring rx) (rx_trail rx)) in (
      new_keeping c.args.number c.args.input.now.options.now c.len-count.result c.in-Some.bytes c.from.result c.own_of-own.result.count c.own_of-own.result.bytes c.min-traced.result c.in-Ok.rooms.work c.in-Ok.rooms.sorted c.in-Ok.rooms.groups.items
          c.queues_of.result.items (map (λ o. g.H.Handoff.accepted o.handoff) c.counting_of.result.items) (map (λ o. g.H.Handoff.slots o.handoff) c.counting_of.result.items) c.args.cache c.requires.options
          c.requires.number c.from.ensures new.work (omega (arith, count, few)) (omega (arith, own, a0, count)) (omega (arith, left, bytes, a1)) new.sorted new.groups
          (omega (arith, in_len, in_each, i1)) (subst (AllByRecursion (λ (q : Queue). q.taken ≡ [])) (sym queues) (all_given (λ rx. queue_of (rx_ring rx) (rx_trail rx)) (λ (q : Queue). q.taken ≡ []) c.args.links.inputs.items (λ rx. refl)))
          (omega (arith, out_len, out_each, o2)) (subst (AllByRecursion (λ (x : List HandoffFrame). x ≡ [])) (sym acc) (all_of_each g.H.Handoff.accepted (λ (x : List HandoffFrame). x ≡ []) _ c.args.links.outputs.items (λ o h. h.0) c.requires.outputs.1))
          (subst (AllByRecursion (λ n. n ≡ c.args.input.now.options.now.queue)) (sym slots) (all_of_each g.H.Handoff.slots (λ n. n ≡ c.args.input.now.options.now.queue) _ c.args.links.outputs.items (λ o h. h.1) c.requires.outputs.1)) c.requires.cache.1 c.requires.cache.2,
      new.ends.0,
      (let cap = new.ends.1 in omega (arith, in_len, in_each, i1, cap)),
      new.ends.2,
      (let cap = new.ends.3 in omega (arith, out_len, o1, o2, out_each, cap)),
    )

pub returns-clause-worker : goal.returns-clause-worker
returns-clause-worker g c =
    let new = c.in-Ok.ensures in
    let queues : c.queues_of.result.items ≡ map (λ rx. queue_of (rx_ring rx) (rx_trail rx)) c.args.links.inputs.items = c.queues_of.ensures in
    let acc : map (λ o. g.H.Handoff.accepted o.handoff) c.counting_of.result.items ≡ map g.H.Handoff.accepted c.args.links.outputs.items = map_map (λ o. o.handoff) g.H.Handoff.accepted c.counting_of.result.items ∙ ap (map g.H.Handoff.accepted) c.counting_of.ensures in
    let packets = c.len-count.ensures.count in
    let in_len = ap length queues in let in_each = c.requires.inputs.0 in
    let out_len = ap length acc in let out_each = c.requires.outputs.0 in
    let o1 = length-map c.counting_of.result.items (λ o. g.H.Handoff.accepted o.handoff) in let o2 = length-map c.args.links.outputs.items g.H.Handoff.accepted in
    let i1 = length-map c.args.links.inputs.items (λ rx. queue_of (rx_ring rx) (rx_trail rx)) in
    record {
      work = new_work g.K.KindSet.meaning g.H.Handoff.LOSSLESS c.args.input.now.plan.now c.args.input.now.capture.now c.args.input.now.options.now _ c.generations-plan.ensures.plan c.requires.options c.requires.number c.from.ensures
          (record {
            options_are = refl;
            packets = packets;
            bytes = c.in-Some.ensures;
            own = c.own_of-own.ensures.count
                ∙ ap (λ m. length (own_from c.args.input.now.options.now.workers m c.args.input.now.capture.now.packets)) (sym c.from.ensures);
            left = c.own_of-own.ensures.bytes
                ∙ ap (λ m. captured_extent (own_from c.args.input.now.options.now.workers m c.args.input.now.capture.now.packets)) (sym c.from.ensures);
          })
          (new_account c.args.number c.len-count.result c.in-Some.bytes (min c.args.input.now.options.now.trace (length c.args.input.now.capture.now.packets)) c.from.result _ _ c.in-Ok.rooms.work c.args.cache
          (subst (λ t. IsNew c.len-count.result c.in-Some.bytes t c.in-Ok.rooms.work) (c.min-traced.ensures ∙ ap (min c.args.input.now.options.now.trace) packets) new.work) c.from.ensures c.requires.cache.1 c.requires.cache.2)
          (λ k. none_by_worker c.args.number k (map (λ (q : Queue). q.taken) c.queues_of.result.items)
          (subst (λ qs. AllByRecursion (λ (x : List HandoffFrame). x ≡ []) (map (λ (q : Queue). q.taken) qs)) (sym queues)
          (subst (AllByRecursion (λ (x : List HandoffFrame). x ≡ [])) (map_map (λ rx. queue_of (rx_ring rx) (rx_trail rx)) (λ (q : Queue). q.taken) c.args.links.inputs.items)
          (all_given (λ rx. (queue_of (rx_ring rx) (rx_trail rx)).taken) (λ (x : List HandoffFrame). x ≡ []) c.args.links.inputs.items (λ rx. refl)))))
          (λ k. none_by_worker c.args.number k (map (λ o. g.H.Handoff.accepted o.handoff) c.counting_of.result.items)
          (subst (AllByRecursion (λ (x : List HandoffFrame). x ≡ [])) (sym acc) (all_of_each g.H.Handoff.accepted (λ (x : List HandoffFrame). x ≡ []) _ c.args.links.outputs.items (λ o h. h.0) c.requires.outputs.1)))
          (let n = length-map c.queues_of.result.items (λ (q : Queue). q.ring) in omega (arith, n, in_len, in_each, i1)) (let n = length-map c.counting_of.result.items (λ o. g.H.Handoff.ring o.handoff) in omega (arith, n, out_len, out_each, o1, o2));
      seated = record { number_is = c.requires.seat.1; book_is = c.requires.seat.3; parcel = record { fits = subst (Fits c.args.seat.parcel) c.requires.seat.3 c.requires.seat.0.fits; generation = c.requires.seat.0.generation; next = c.requires.seat.2 ∙ sym c.from.ensures } };
      stopped = tt;
      drawn = λ e. absurd (let k : stops.No ≡ stops.End = e in cc);
    }

pub returns-clause-idle : goal.returns-clause-idle
returns-clause-idle g c =
    let new = c.in-Ok.ensures in
    let queues : c.queues_of.result.items ≡ map (λ rx. queue_of (rx_ring rx) (rx_trail rx)) c.args.links.inputs.items = c.queues_of.ensures in
    let acc : map (λ o. g.H.Handoff.accepted o.handoff) c.counting_of.result.items ≡ map g.H.Handoff.accepted c.args.links.outputs.items = map_map (λ o. o.handoff) g.H.Handoff.accepted c.counting_of.result.items ∙ ap (map g.H.Handoff.accepted) c.counting_of.ensures in
    record {
      waits = subst (λ qs. AllByRecursion (λ (frame : Option HandoffFrame). frame ≡ None) (map (λ (q : Queue). q.waits) qs)) (sym queues)
          (subst (AllByRecursion (λ (frame : Option HandoffFrame). frame ≡ None)) (map_map (λ rx. queue_of (rx_ring rx) (rx_trail rx)) (λ (q : Queue). q.waits) c.args.links.inputs.items)
          (all_given (λ rx. (queue_of (rx_ring rx) (rx_trail rx)).waits) (λ (frame : Option HandoffFrame). frame ≡ None) c.args.links.inputs.items (λ rx. refl)));
      held = subst (AllByRecursion (λ n. n ≡ 0)) (sym (map_map (λ o. o.handoff) g.H.Handoff.waiting c.counting_of.result.items ∙ ap (map g.H.Handoff.waiting) c.counting_of.ensures))
          (all_of_each g.H.Handoff.waiting (λ n. n ≡ 0) _ c.args.links.outputs.items (λ o h. (g.met.H.Handoff.fills o).count ∙ nothing_held (g.H.Handoff.accepted o) (put (g.H.Handoff.end o)) (g.met.H.Handoff.fills o).held (g.met.H.Handoff.fills o).in_order h.0) c.requires.outputs.1);
    }

pub returns-clause-rings : goal.returns-clause-rings
returns-clause-rings g c =
    let new = c.in-Ok.ensures in
    let queues : c.queues_of.result.items ≡ map (λ rx. queue_of (rx_ring rx) (rx_trail rx)) c.args.links.inputs.items = c.queues_of.ensures in
    let acc : map (λ o. g.H.Handoff.accepted o.handoff) c.counting_of.result.items ≡ map g.H.Handoff.accepted c.args.links.outputs.items = map_map (λ o. o.handoff) g.H.Handoff.accepted c.counting_of.result.items ∙ ap (map g.H.Handoff.accepted) c.counting_of.ensures in
    (ap (map (λ (q : Queue). q.ring)) queues ∙ sym (map_map (λ rx. queue_of (rx_ring rx) (rx_trail rx)) (λ (q : Queue). q.ring) c.args.links.inputs.items), map_map (λ o. o.handoff) g.H.Handoff.ring c.counting_of.result.items ∙ ap (map g.H.Handoff.ring) c.counting_of.ensures)
