use Rattle.std.proofs.Common.{◌≡◌, ◌++◌, ◌∷◌, [], List, rules, sym, ap, subst, ◌∙◌, append-nil, append_assoc}
use Rattle.std.specs.Vec.Iter.{into_iter_items}
use Rattle.std.proofs.lemmas.List.{nil_from_length}
use Rattle.vg_dispatch.specs.Workers.{WorkerBook}
use Rattle.vg_threads.specs.Ties.{Tie, AreTied}
use Rattle.vg_threads.proofs.ThreadLemmas.{counts_on, is_room, tied_more}
use Rattle.vg_threads.proofs.teams.untie_all.Goals as goal

pub loop-worker-init : goal.loop-worker-init
loop-worker-init g c =
    let none : c.args.room.items ≡ [] = search rules in
    (([], search rules, subst (λ (ws : List WorkerBook). AreTied g.K.KindSet.meaning g.H.Handoff.LOSSLESS [] ws) (sym none) tt), search rules, search rules)

pub loop-worker-preserved : goal.loop-worker-preserved
loop-worker-preserved g c =
    let inv = c.loop-worker.invariant in
    let so_far = inv.0 in
    let steps = c.in-Some.ensures.steps in
    let next = c.in-Some.worker in
    let items = c.push_reserved.ensures.items in
    let Here : List Tie → List WorkerBook → Type 0 = AreTied g.K.KindSet.meaning g.H.Handoff.LOSSLESS in (
      (
        so_far.0 ++ next ∷ [],
        append_assoc so_far.0 (next ∷ []) _ ∙ (ap (λ (r : List Tie). so_far.0 ++ r) (sym steps.0) ∙ so_far.1),
        subst (λ (ws : List WorkerBook). Here (so_far.0 ++ next ∷ []) ws) (sym items) (tied_more _ _ _ _ so_far.2 c.untied.ensures),
      ),
      counts_on _ _ _ _ _ c.push_reserved.ensures.len steps.1 inv.1,
      is_room _ _ _ c.push_reserved.ensures.capacity inv.2,
    )

pub returns : goal.returns
returns g c =
    let done = c.loop-worker.invariant.0 in
    let empty = c.in-None.ensures.steps.0 in
    let none : into_iter_items c.loop-worker.worker-iterator ≡ [] = nil_from_length _ (search rules) in
    let all = sym (append-nil done.0) ∙ (ap (λ (r : List Tie). done.0 ++ r) (sym none) ∙ done.1) in
    subst (λ (ts : List Tie). AreTied g.K.KindSet.meaning g.H.Handoff.LOSSLESS ts c.loop-worker.workers.items) all done.2
