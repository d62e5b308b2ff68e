use Rattle.std.proofs.Common.{◌≡◌, ◌<◌, ℕ, List, Vec, Global, length, map, rules, arith, ap, sym, subst, ◌∙◌}
use Rattle.std.specs.Prelude.{flat_map}
use Rattle.std.specs.List.{AllByRecursion}
use Rattle.std.specs.List.Sorted.{IsPermutation}
use Rattle.std.proofs.lemmas.List.{length-map}
use Rattle.std.proofs.lemmas.Option.{same_Some}
use Rattle.vg_model.specs.Graph.{Graph, with_routes}
use Rattle.vg_model.specs.declared.fates.Fate.{Fate}
use Rattle.vg_ring.specs.declared.ends.RingTx.{RingTx}
use Rattle.vg_counters.specs.Tally.{Tally, IsWhole, AreOneSize, HasRoom, IsTotal}
use Rattle.vg_counters.specs.Notes.{Notes, AreOneLength, IsMerged}
use Rattle.vg_pool.specs.Settlement.{Settlement, settlement_of}
use Rattle.vg_barrier.specs.Seats.{main_view}
use Rattle.vg_journeys.specs.Accounts.{HandoffFrame}
use Rattle.vg_dispatch.specs.declared.parcels.Stop.TheVariants as stops
use Rattle.vg_workers.specs.Places.{AllWith, pairs}
use Rattle.vg_workers.specs.Crews.{HaveEnded}
use Rattle.vg_workers.specs.Closing.{IsClosed}
use Rattle.vg_workers.specs.Ended.{HasOutputs}
use Rattle.vg_workers.proofs.PlaceLemmas.{with_length}
use Rattle.vg_threads.proofs.TurnLemmas.{last_graph_is}
use Rattle.vg_threads.proofs.DecisionLemmas.{stands_at_end}
use Rattle.vg_engine.proofs.EndLemmas.{queues_of, ends_are, rests_empty}
use Rattle.vg_engine.proofs.OutcomeLemmas.{kept_is, one_size_is, one_length_is, room_is, buffers_are, settled_is, is_outcome}
use Rattle.vg_engine.proofs.RingLemmas.{ends_rings}
use Rattle.vg_ring.specs.Rests.{rest_ring}
use Rattle.vg_engine.proofs.runs.conclude.Goals as goal

pub close_all-requires-clause-ends : goal.close_all-requires-clause-ends
close_all-requires-clause-ends g c =
    let kept = c.in_ok-logs.ensures in
    let ws = c.args.workers.items in
    (queues_of c.requires.crew.ring ws, ends_are _ _ _ _ _ _ ws c.requires.crew _ _ kept.outputs_are kept.inputs_are)

-- the closed queues are empty, and the workers have kept what the journeys say
pub gather-requires-clause-size : goal.gather-requires-clause-size
gather-requires-clause-size g c =
    let kept = c.in_ok-logs.ensures in
    let ws = c.args.workers.items in
    let crew = c.requires.crew in
    let outs : Vec (RingTx HandoffFrame) Global → List (RingTx HandoffFrame) = λ v. v.items in
    let count = with_length HasOutputs ws _ kept.outputs_are in
    let size : length c.in_ok-logs.field-0.outputs.items ≡ c.args.input.now.options.now.workers = sym (length-map c.in_ok-logs.field-0.outputs.items outs) ∙ sym count ∙ crew.count in
    let closed = c.in_ok-rests.ensures.closed (queues_of crew.ring ws) (ends_are _ _ _ _ _ _ ws crew _ _ kept.outputs_are kept.inputs_are) in
    let emptied = rests_empty _ _ _ _ _ _ ws crew c.in_ok-rests.rests.items c.requires.done (subst (λ (n : ℕ). AllWith (IsClosed (queues_of crew.ring ws)) (pairs n) c.in_ok-rests.rests.items) size closed) in
    let ended : HaveEnded ws = c.have_ended-ended.ensures (search rules) in
    let some = c.requires.options.workers.0 in
    let some_workers : 0 < c.args.input.now.options.now.workers = omega (arith, some) in
    let all = kept_is _ _ _ _ _ _ ws crew _ _ c.in_ok-rests.rests.items kept.outputs_are kept.inputs_are emptied ended some_workers in (
      subst AreOneSize (sym kept.counters_are) (one_size_is _ _ _ _ _ _ ws crew c.know_few.ensures some_workers all),
      subst AreOneLength (sym kept.traces_are) (one_length_is _ _ _ _ _ _ ws crew c.know_few.ensures some_workers all),
    )

pub gather-requires-clause-room : goal.gather-requires-clause-room
gather-requires-clause-room g c =
    let kept = c.in_ok-logs.ensures in
    let ws = c.args.workers.items in
    let crew = c.requires.crew in
    let outs : Vec (RingTx HandoffFrame) Global → List (RingTx HandoffFrame) = λ v. v.items in
    let count = with_length HasOutputs ws _ kept.outputs_are in
    let size : length c.in_ok-logs.field-0.outputs.items ≡ c.args.input.now.options.now.workers = sym (length-map c.in_ok-logs.field-0.outputs.items outs) ∙ sym count ∙ crew.count in
    let closed = c.in_ok-rests.ensures.closed (queues_of crew.ring ws) (ends_are _ _ _ _ _ _ ws crew _ _ kept.outputs_are kept.inputs_are) in
    let emptied = rests_empty _ _ _ _ _ _ ws crew c.in_ok-rests.rests.items c.requires.done (subst (λ (n : ℕ). AllWith (IsClosed (queues_of crew.ring ws)) (pairs n) c.in_ok-rests.rests.items) size closed) in
    let ended : HaveEnded ws = c.have_ended-ended.ensures (search rules) in
    let some = c.requires.options.workers.0 in
    let some_workers : 0 < c.args.input.now.options.now.workers = omega (arith, some) in
    let all = kept_is _ _ _ _ _ _ ws crew _ _ c.in_ok-rests.rests.items kept.outputs_are kept.inputs_are emptied ended some_workers in
    subst HasRoom (sym kept.counters_are) (room_is _ _ _ _ _ _ ws crew c.know_few.ensures some_workers all (subst (AllByRecursion IsWhole) kept.counters_are kept.counters_whole))

pub close-pool-requires-clause-freed : goal.close-pool-requires-clause-freed
close-pool-requires-clause-freed g c =
    let kept = c.in_ok-logs.ensures in
    let ws = c.args.workers.items in
    let crew = c.requires.crew in
    let outs : Vec (RingTx HandoffFrame) Global → List (RingTx HandoffFrame) = λ v. v.items in
    let count = with_length HasOutputs ws _ kept.outputs_are in
    let size : length c.in_ok-logs.field-0.outputs.items ≡ c.args.input.now.options.now.workers = sym (length-map c.in_ok-logs.field-0.outputs.items outs) ∙ sym count ∙ crew.count in
    let closed = c.in_ok-rests.ensures.closed (queues_of crew.ring ws) (ends_are _ _ _ _ _ _ ws crew _ _ kept.outputs_are kept.inputs_are) in
    let emptied = rests_empty _ _ _ _ _ _ ws crew c.in_ok-rests.rests.items c.requires.done (subst (λ (n : ℕ). AllWith (IsClosed (queues_of crew.ring ws)) (pairs n) c.in_ok-rests.rests.items) size closed) in
    let ended : HaveEnded ws = c.have_ended-ended.ensures (search rules) in
    let some = c.requires.options.workers.0 in
    let some_workers : 0 < c.args.input.now.options.now.workers = omega (arith, some) in
    let all = kept_is _ _ _ _ _ _ ws crew _ _ c.in_ok-rests.rests.items kept.outputs_are kept.inputs_are emptied ended some_workers in
    let back = buffers_are _ _ _ _ _ _ ws crew c.know_few.ensures some_workers all c.in_ok-logs.field-0.caches.items kept.caches_are in
    let same = back.freed in
    omega (arith, same)

pub returns-clause-outcome : goal.returns-clause-outcome
returns-clause-outcome g c =
    let kept = c.in_ok-logs.ensures in
    let ws = c.args.workers.items in
    let crew = c.requires.crew in
    let outs : Vec (RingTx HandoffFrame) Global → List (RingTx HandoffFrame) = λ v. v.items in
    let count = with_length HasOutputs ws _ kept.outputs_are in
    let size : length c.in_ok-logs.field-0.outputs.items ≡ c.args.input.now.options.now.workers = sym (length-map c.in_ok-logs.field-0.outputs.items outs) ∙ sym count ∙ crew.count in
    let closed = c.in_ok-rests.ensures.closed (queues_of crew.ring ws) (ends_are _ _ _ _ _ _ ws crew _ _ kept.outputs_are kept.inputs_are) in
    let emptied = rests_empty _ _ _ _ _ _ ws crew c.in_ok-rests.rests.items c.requires.done (subst (λ (n : ℕ). AllWith (IsClosed (queues_of crew.ring ws)) (pairs n) c.in_ok-rests.rests.items) size closed) in
    let ended : HaveEnded ws = c.have_ended-ended.ensures (search rules) in
    let some = c.requires.options.workers.0 in
    let some_workers : 0 < c.args.input.now.options.now.workers = omega (arith, some) in
    let all = kept_is _ _ _ _ _ _ ws crew _ _ c.in_ok-rests.rests.items kept.outputs_are kept.inputs_are emptied ended some_workers in
    let back = buffers_are _ _ _ _ _ _ ws crew c.know_few.ensures some_workers all c.in_ok-logs.field-0.caches.items kept.caches_are in
    let same = back.freed in
    let plan = c.args.input.now.plan.now in
    let lead = c.requires.lead in
    let m = main_view c.args.seat.seat in
    let told : c.args.lead.now.told ≡ stops.End = c.is_ended.ensures (search rules) in
    let end = stands_at_end plan m.released m.stamp c.args.lead.now.told c.args.lead.now.processes c.args.lead.now.master told lead.stands in
    let gathered = c.in_ok-fates.ensures in
    let pool = c.close-pool.ensures in
    let len = pool.len in
    let total = c.requires.total in
    let buffers = c.args.input.now.options.now.buffers in
    let all_len : c.close-pool.result.len ≡ buffers = omega (arith, same, len, total) in
    let told_is : c.in-Some.settled ≡ settlement_of g.T.PoolLedger.total c.close-pool.result.len c.in_ok-logs.field-0.caches.items = same_Some _ _ (c.in-Some.ensures ∙ pool.settled) in
    let settled =
    told_is ∙ ap (λ (n : ℕ). settlement_of n c.close-pool.result.len c.in_ok-logs.field-0.caches.items) total
    ∙ settled_is _ _ _ _ _ _ ws crew c.know_few.ensures some_workers all c.in_ok-logs.field-0.caches.items c.close-pool.result.len back all_len in
    let master = c.args.lead.now.master in
    let last : with_routes c.in_ok-last.last master.routes master.routes6 ≡ master =
    ap (λ (g : Graph). with_routes g master.routes master.routes6) c.in_ok-last.ensures ∙ c.graph.ensures.graph in
    is_outcome _ _ _ _ _ _ ws crew c.know_few.ensures some_workers all _ c.in_ok-rests.rests.items lead.is_plan
    (subst (λ (logs : List (List Fate)). IsPermutation (flat_map (λ (log : List Fate). log) logs) c.in_ok-fates.field-0.fates) kept.logs_are gathered.fates) gathered.fates_rise
    (subst (λ (lists : List (List (ℕ × List ℕ))). IsPermutation (flat_map (λ (list : List (ℕ × List ℕ)). list) lists) c.in_ok-fates.field-0.sent) kept.sent_are gathered.sent) gathered.sent_rise
    (subst (λ (parts : List Tally). IsTotal parts c.in_ok-fates.field-0.counts) kept.counters_are gathered.counts)
    (subst (λ (parts : List Notes). IsMerged parts c.in_ok-fates.field-0.trace) kept.traces_are gathered.trace)
    (c.len.ensures ∙ ap (λ (s : Settlement). s.len) settled) settled
    (last_graph_is plan m.released c.args.lead.now.processes master c.in_ok-last.last end.0 end.1 last) c.from_vec.ensures emptied end.2

pub returns-clause-rings : goal.returns-clause-rings
returns-clause-rings g c = ap (map rest_ring) c.from_vec.ensures ∙ c.in_ok-rests.ensures.rings ∙ ends_rings c.args.workers.items c.in_ok-logs.field-0.outputs.items c.in_ok-logs.ensures.outputs_are
