-- For end_all: one worker more has ended.
use Rattle.std.proofs.Common.{◌≡◌, List, Vec, Global, [], ◌∷◌, ◌++◌, map, sym, ap, subst, ◌∙◌}
use Rattle.std.specs.List.{AllByRecursion}
use Rattle.std.proofs.lemmas.List.{map_push}
use Rattle.vg_ring.specs.declared.ends.RingTx.{RingTx}
use Rattle.vg_ring.specs.declared.ends.RingRx.{RingRx}
use Rattle.vg_counters.specs.Tally.{IsWhole}
use Rattle.vg_journeys.specs.Accounts.{HandoffFrame}
use Rattle.vg_dispatch.specs.Workers.{WorkerBook}
use Rattle.vg_workers.specs.declared.ends.Ends.{Ends}
use Rattle.vg_workers.specs.Places.{AllWith}
use Rattle.vg_workers.specs.Ended.{HasInputs, HasOutputs, HaveKept}
use Rattle.vg_workers.proofs.PlaceLemmas.{all_push, with_more}

module _ {T L : Type 0} where
  pub ended_more : (ws : List WorkerBook) (w : WorkerBook) (old new : Ends T L) (inputs : Vec (RingRx HandoffFrame) Global) (outputs : Vec (RingTx HandoffFrame) Global) → HaveKept ws old
      → new.logs.items ≡ old.logs.items ++ w.log ∷ [] → new.sent.items ≡ old.sent.items ++ w.sent ∷ [] → new.counters.items ≡ old.counters.items ++ w.counts ∷ [] → IsWhole w.counts
      → new.traces.items ≡ old.traces.items ++ w.trace ∷ [] → new.caches.items ≡ old.caches.items ++ w.cache ∷ []
      → new.inputs.items ≡ old.inputs.items ++ inputs ∷ [] → HasInputs w inputs.items → new.outputs.items ≡ old.outputs.items ++ outputs ∷ [] → HasOutputs w outputs.items
      → HaveKept (ws ++ w ∷ []) new
  ended_more ws w old new inputs outputs kept logs sent counters whole traces caches ins has_ins outs has_outs =
      let input_items : Vec (RingRx HandoffFrame) Global → List (RingRx HandoffFrame) = λ v. v.items in
      let output_items : Vec (RingTx HandoffFrame) Global → List (RingTx HandoffFrame) = λ v. v.items in
      record {
        logs_are = more (λ (v : WorkerBook). v.log) old.logs.items new.logs.items kept.logs_are logs;
        sent_are = more (λ (v : WorkerBook). v.sent) old.sent.items new.sent.items kept.sent_are sent;
        counters_are = more (λ (v : WorkerBook). v.counts) old.counters.items new.counters.items kept.counters_are counters;
        counters_whole = subst (AllByRecursion IsWhole) (sym counters) (all_push IsWhole old.counters.items w.counts kept.counters_whole whole);
        traces_are = more (λ (v : WorkerBook). v.trace) old.traces.items new.traces.items kept.traces_are traces;
        caches_are = more (λ (v : WorkerBook). v.cache) old.caches.items new.caches.items kept.caches_are caches;
        inputs_are = subst (AllWith HasInputs (ws ++ w ∷ [])) (sym (ap (map input_items) ins ∙ map_push input_items old.inputs.items inputs)) (with_more HasInputs ws (map input_items old.inputs.items) w inputs.items kept.inputs_are has_ins);
        outputs_are = subst (AllWith HasOutputs (ws ++ w ∷ [])) (sym (ap (map output_items) outs ∙ map_push output_items old.outputs.items outputs)) (with_more HasOutputs ws (map output_items old.outputs.items) w outputs.items kept.outputs_are has_outs);
      }
    where
      more : {X : Type 0} (f : WorkerBook → X) (olds news : List X) → olds ≡ map f ws → news ≡ olds ++ f w ∷ [] → news ≡ map f (ws ++ w ∷ [])
      more f olds news is push = push ∙ ap (λ xs. xs ++ f w ∷ []) is ∙ sym (map_push f ws w)
