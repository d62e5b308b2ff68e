use Rattle.std.proofs.Common.{◌≡◌, ℕ, List, rules, [], ◌∷◌, ◌++◌, append-nil, append_assoc, arith, ap, sym, subst, ◌∙◌}
use Rattle.std.specs.Prelude.{All}
use Rattle.std.specs.Vec.Iter.{into_iter_items}
use Rattle.std.proofs.lemmas.List.{nil_from_length}
use Rattle.std.proofs.lemmas.List.Elements.{All-tail}
use Rattle.vg_model.specs.PoolBook.{CacheBook}
use Rattle.vg_model.specs.declared.fates.Fate.{Fate}
use Rattle.vg_counters.specs.Tally.{Tally, IsWhole}
use Rattle.vg_counters.specs.Notes.{Notes}
use Rattle.vg_dispatch.specs.Workers.{WorkerBook, IsIdle}
use Rattle.vg_workers.specs.Ended.{HaveKept}
use Rattle.vg_workers.proofs.EndedLemmas.{ended_more}
use Rattle.vg_workers.proofs.ends.end_all.Goals as goal

first_of : (w : WorkerBook) (ws : List WorkerBook) → All IsIdle (w ∷ ws) → IsIdle w
first_of w ws all = all 0 w (omega arith)

pub loop-worker-init : goal.loop-worker-init
loop-worker-init g c =
    let items : into_iter_items c.into_iter-worker-iterator.result ≡ c.args.workers.items = search rules in
    record { ended = ([], items, c.requires.room); idle = subst (All IsIdle) (sym items) c.requires.idle }

pub end-requires : goal.end-requires
end-requires g c =
    let left = subst (All IsIdle) c.in-Some.ensures.steps.0 c.loop-worker.invariant.idle in
    first_of c.in-Some.worker (into_iter_items c.next.new.self) left

pub loop-worker-preserved : goal.loop-worker-preserved
loop-worker-preserved g c =
    let inv = c.loop-worker.invariant in
    let w = c.in-Some.worker in
    let left = into_iter_items c.next.new.self in
    let steps = c.in-Some.ensures.steps.0 in
    let end = c.end.ensures in
    let more = c.in_ok-add.ensures in
    let ws = inv.ended.0 in
    let old = c.loop-worker.ends in
    record {
      ended = (
        ws ++ w ∷ [],
        append_assoc ws (w ∷ []) left ∙ ap (λ (l : List WorkerBook). ws ++ l) (sym steps) ∙ inv.ended.1,
        ended_more ws w old c.add.new.self c.end.result.inputs c.end.result.outputs inv.ended.2
            (more.logs ∙ ap (λ (x : List Fate). old.logs.items ++ x ∷ []) end.log)
            (more.sent ∙ ap (λ (x : List (ℕ × List ℕ)). old.sent.items ++ x ∷ []) end.sent)
            (more.counters ∙ ap (λ (x : Tally). old.counters.items ++ x ∷ []) end.counts)
            (subst IsWhole end.counts more.whole)
            (more.traces ∙ ap (λ (x : Notes). old.traces.items ++ x ∷ []) end.trace)
            (more.caches ∙ ap (λ (x : CacheBook). old.caches.items ++ x ∷ []) end.cache)
            more.inputs (record { rings = end.inputs; takens = end.taken }) more.outputs (record { rings = end.outputs; puts = end.put }),
      );
      idle = All-tail IsIdle w left (subst (All IsIdle) steps inv.idle);
    }

pub returns : goal.returns
returns g c =
    let inv = c.loop-worker.invariant.ended in
    let left = c.loop-worker.worker-iterator in
    let over : into_iter_items left ≡ [] = nil_from_length (into_iter_items left) (sym left.rest.ok.0 ∙ c.in-None.ensures.steps.0) in
    let all : inv.0 ≡ c.args.workers.items = sym (append-nil inv.0) ∙ ap (λ (ws : List WorkerBook). inv.0 ++ ws) (sym over) ∙ inv.1 in
    subst (λ (ws : List WorkerBook). HaveKept ws c.loop-worker.ends) all inv.2
