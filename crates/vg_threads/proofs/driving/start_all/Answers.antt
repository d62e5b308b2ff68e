use Rattle.std.proofs.Common.{◌≡◌, ◌++◌, [], List, map, rules, sym, ap, ◌∙◌, append-nil}
use Rattle.std.specs.Vec.Iter.{into_iter_items}
use Rattle.std.proofs.lemmas.List.{nil_from_length}
use Rattle.vg_threads.specs.Starts.{started_tie}
use Rattle.vg_threads.specs.Ties.{Tie}
use Rattle.vg_threads.proofs.driving.start_all.Goals as goal

pub returns : goal.returns
returns g c =
    let empty = c.in-None.ensures.steps.0 in
    let none : into_iter_items c.loop-worker.worker-iterator ≡ [] = nil_from_length _ (search rules) in
    sym (append-nil _) ∙ ap (λ (r : List Tie). map started_tie c.loop-worker.started.items ++ r) (sym none) ∙ c.loop-worker.invariant.0
