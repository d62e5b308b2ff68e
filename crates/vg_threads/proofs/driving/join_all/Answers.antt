use Rattle.std.proofs.Common.{◌≡◌, ◌++◌, [], List, map, rules, sym, ap, ◌∙◌, append-nil}
use Rattle.std.specs.Vec.Iter.{into_iter_items}
use Rattle.std.proofs.lemmas.List.{nil_from_length}
use Rattle.vg_threads.specs.Starts.{started_tie}
use Rattle.vg_threads.specs.Ties.{Tie}
use Rattle.vg_threads.proofs.ThreadLemmas.{went_over, counts_on, is_room}
use Rattle.vg_threads.proofs.driving.join_all.Goals as goal

pub loop-worker-preserved : goal.loop-worker-preserved
loop-worker-preserved g c =
    let inv = c.loop-worker.invariant in
    let steps = c.in-Some.ensures.steps in
    let pushed = c.push_reserved.ensures in (
      ap (λ (ws : List Tie). ws ++ map started_tie (into_iter_items c.next.new.self)) pushed.items ∙ went_over started_tie _ _ _ _ _ _ steps.0 c.joined.ensures inv.0,
      counts_on _ _ _ _ _ pushed.len steps.1 inv.1,
      is_room _ _ _ pushed.capacity inv.2,
    )

pub returns : goal.returns
returns g c =
    let empty = c.in-None.ensures.steps.0 in
    let none : into_iter_items c.loop-worker.worker-iterator ≡ [] = nil_from_length _ (search rules) in
    let nothing = ap (map started_tie) none in
    sym (append-nil _) ∙ (ap (λ (r : List Tie). c.loop-worker.workers.items ++ r) (sym nothing) ∙ c.loop-worker.invariant.0)
