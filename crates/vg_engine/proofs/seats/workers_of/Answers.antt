use Rattle.std.proofs.Common.{◌≡◌, ◌+◌, ◌<◌, ◌++◌, ℕ, suc, List, [], ◌∷◌, length, map, append-nil, length-append, rules, arith, ap, sym, subst, ◌∙◌}
use Rattle.std.specs.Prelude.{Some}
use Rattle.std.specs.List.{AllByRecursion}
use Rattle.std.specs.Vec.Iter.{into_iter_items}
use Rattle.std.proofs.lemmas.List.{nil_from_length}
use Rattle.vg_workers.specs.Places.{AllAt}
use Rattle.vg_plan.specs.Plan.{windows}
use Rattle.vg_model.specs.PoolBook.{CacheBook, empty_cache}
use Rattle.vg_dispatch.specs.Workers.{WorkerBook}
use Rattle.vg_dispatch.specs.Standing.{barrier_id, barrier_of}
use Rattle.vg_workers.specs.Linked.{IsLinked}
use Rattle.vg_workers.specs.Crews.{IsMember}
use Rattle.vg_engine.specs.Seats.{IsFirstSeat}
use Rattle.vg_workers.proofs.PlaceLemmas.{all_more}
use Rattle.vg_engine.proofs.SeatLemmas.{inputs_count, outputs_count}
use Rattle.vg_engine.proofs.RingLemmas.{next_rings}
use Rattle.vg_engine.proofs.seats.workers_of.Goals as goal

pub loop-link-init : goal.loop-link-init
loop-link-init g c =
    let none = c.new-workers.ensures.items in
    let links_are : into_iter_items c.into_iter-link-iterator.result ≡ c.args.links.workers.items = search rules in
    let seats_are : into_iter_items c.into_iter-seats.result ≡ c.args.seats.items = search rules in
    let at : length c.new-workers.result.items ≡ 0 = ap length none in
    let ring = c.requires.links.ring in
    let input = c.args.input.now in
    record {
      count = search rules;
      rings = ap (λ (ws : List WorkerBook). map (λ (w : WorkerBook). w.outputs) ws ++ map (λ k. map g.H.Handoff.ring k.outputs.items) (into_iter_items c.into_iter-link-iterator.result)) none ∙ ap (map (λ k. map g.H.Handoff.ring k.outputs.items)) links_are;
      caches_left = search rules;
      seats_left = search rules;
      caches_are = search rules;
      seats_are =
          subst (λ (n : ℕ). AllAt (IsFirstSeat (windows input.plan.now input.capture.now) (barrier_id c.args.barrier.now)) n (into_iter_items c.into_iter-seats.result)) (sym at)
          (subst (AllAt (IsFirstSeat (windows input.plan.now input.capture.now) (barrier_id c.args.barrier.now)) 0) (sym seats_are) c.requires.seats);
      linked = (
        ring,
        subst (λ (n : ℕ). AllAt (λ own k. IsLinked g.H.Handoff.accepted g.H.Handoff.ring g.H.Handoff.slots input.options.now.queue ring own
            input.options.now.workers input.options.now.workers k) n (into_iter_items c.into_iter-link-iterator.result)) (sym at)
            (subst (AllAt (λ own k. IsLinked g.H.Handoff.accepted g.H.Handoff.ring g.H.Handoff.slots input.options.now.queue ring own
            input.options.now.workers input.options.now.workers k) 0) (sym links_are) c.requires.links.each),
        subst (AllAt (IsMember g.K.KindSet.meaning g.H.Handoff.LOSSLESS input.plan.now input.capture.now input.options.now (barrier_id c.args.barrier.now) ring) 0) (sym none) tt,
      );
    }

pub new-requires-clause-inputs : goal.new-requires-clause-inputs
new-requires-clause-inputs g c =
    let inv = c.loop-link.invariant in
    let count = inv.count in
    let low : length c.loop-link.workers.items < c.args.input.now.options.now.workers = search rules in
    let ring = inv.linked.0 in
    let here = (subst (AllAt (λ own k. IsLinked g.H.Handoff.accepted g.H.Handoff.ring g.H.Handoff.slots c.args.input.now.options.now.queue ring own
    c.args.input.now.options.now.workers c.args.input.now.options.now.workers k) (length c.loop-link.workers.items)) c.in-Some.ensures.steps.0 inv.linked.1).0 in
    (inputs_count g.H.Handoff.accepted g.H.Handoff.ring g.H.Handoff.slots _ ring _ _ c.in-Some.link low here, here.untaken)

pub new-requires-clause-outputs : goal.new-requires-clause-outputs
new-requires-clause-outputs g c =
    let inv = c.loop-link.invariant in
    let count = inv.count in
    let low : length c.loop-link.workers.items < c.args.input.now.options.now.workers = search rules in
    let ring = inv.linked.0 in
    let here = (subst (AllAt (λ own k. IsLinked g.H.Handoff.accepted g.H.Handoff.ring g.H.Handoff.slots c.args.input.now.options.now.queue ring own
    c.args.input.now.options.now.workers c.args.input.now.options.now.workers k) (length c.loop-link.workers.items)) c.in-Some.ensures.steps.0 inv.linked.1).0 in
    (outputs_count g.H.Handoff.accepted g.H.Handoff.ring g.H.Handoff.slots _ ring _ _ c.in-Some.link low here, here.fresh)

pub loop-link-preserved : goal.loop-link-preserved
loop-link-preserved g c =
    let inv = c.loop-link.invariant in
    let input = c.args.input.now in
    let options = input.options.now in
    let made = c.in-Ok.ensures in
    let steps = c.in-Some.ensures.steps in
    let cache_steps = c.in-Some-next.ensures in
    let seat_steps = c.in-Some-next-2.ensures in
    let workers = c.loop-link.workers.items in
    let n = length workers in
    let len = c.len-number.ensures in
    let size : n ≡ c.loop-link.workers.len = sym c.loop-link.workers.ok.0 in
    let more : length c.push.new.list.items ≡ suc n = (let pushed = ap (λ (ws : List WorkerBook). length ws) c.in_ok-push.ensures in let both = length-append workers (c.in-Ok.worker ∷ []) in omega (arith, pushed, both)) in
    let count = inv.count in
    let caches_left = inv.caches_left in
    let seats_left = inv.seats_left in
    let link_len = steps.1 in
    let cache_len = cache_steps.len in
    let seat_len = seat_steps.len in
    let IsSeat : ℕ → _ → Type 0 = IsFirstSeat (windows input.plan.now input.capture.now) (barrier_id c.args.barrier.now) in
    let seats = subst (AllAt IsSeat n) seat_steps.items inv.seats_are in
    let ring = inv.linked.0 in
    let IsLink : ℕ → _ → Type 0 = λ own k. IsLinked g.H.Handoff.accepted g.H.Handoff.ring g.H.Handoff.slots options.queue ring own options.workers options.workers k in
    let links = subst (AllAt IsLink n) steps.0 inv.linked.1 in
    let IsOne : ℕ → WorkerBook → Type 0 = IsMember g.K.KindSet.meaning g.H.Handoff.LOSSLESS input.plan.now input.capture.now options (barrier_id c.args.barrier.now) ring in
    let one : IsOne n c.in-Ok.worker = record {
      stands = made.worker;
      number_is = made.number ∙ len ∙ sym size;
      seat = ap (λ s. barrier_of s) made.seat ∙ ap Some seats.0.at;
      inputs = made.rings.0 ∙ links.0.inputs_are;
      outputs = made.rings.1 ∙ links.0.outputs_are;
    } in
    record {
      count = omega (arith, count, more, link_len);
      rings = ap (λ (ws : List WorkerBook). map (λ (w : WorkerBook). w.outputs) ws ++ map (λ k. map g.H.Handoff.ring k.outputs.items) (into_iter_items c.next.new.self)) c.in_ok-push.ensures
          ∙ next_rings workers c.in-Ok.worker _ _ made.rings.1
          ∙ ap (λ ks. map (λ (w : WorkerBook). w.outputs) workers ++ map (λ k. map g.H.Handoff.ring k.outputs.items) ks) (sym steps.0) ∙ inv.rings;
      caches_left = omega (arith, caches_left, cache_len, link_len);
      seats_left = omega (arith, seats_left, seat_len, link_len);
      caches_are = (subst (AllByRecursion (λ (cache : CacheBook). cache ≡ empty_cache)) cache_steps.items inv.caches_are).1;
      seats_are = subst (λ (k : ℕ). AllAt IsSeat k (into_iter_items c.next-in-loop-link-2.new.self)) (sym more) seats.1;
      linked = (
        ring,
        subst (λ (k : ℕ). AllAt IsLink k (into_iter_items c.next.new.self)) (sym more) links.1,
        subst (AllAt IsOne 0) (sym c.in_ok-push.ensures) (all_more IsOne 0 workers c.in-Ok.worker inv.linked.2 (subst (λ (k : ℕ). IsOne k c.in-Ok.worker) (let z : n ≡ 0 + n = omega arith in z) one)),
      );
    }

pub returns-clause-rings : goal.returns-clause-rings
returns-clause-rings g c =
    let empty = c.in-None.ensures.steps.0 in
    let none : into_iter_items c.loop-link.link-iterator ≡ [] = nil_from_length _ (search rules) in
    sym (append-nil _) ∙ ap (λ ks. map (λ (w : WorkerBook). w.outputs) c.loop-link.workers.items ++ map (λ k. map g.H.Handoff.ring k.outputs.items) ks) (sym none) ∙ c.loop-link.invariant.rings
