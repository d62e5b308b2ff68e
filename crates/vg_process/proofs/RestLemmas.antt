-- For the clauses of `State::{time, next_time, next, advance}`: what one block still has to do.
use Rattle.std.proofs.Common.{◌≡◌, ◌+◌, ◌<◌, ◌≤◌, [], ◌∷◌, length, drop, sym, ap, ◌∙◌, arith}
use Rattle.std.proofs.lemmas.List.{drop-drop, drop_all}
use Rattle.vg_script.specs.Events.{runs}
use Rattle.vg_process.specs.declared.states.State.TheInside.{Inside}
use Rattle.vg_process.specs.Rest.{rest}
use Rattle.vg_process.proofs.RunLemmas.{run_at, drop-runs, length-rest, length-runs}

-- where a run is not over, fewer are over than there are
pub is_within : (s : Inside) → 0 < length (rest s) → s.done < s.count
is_within s some = omega (arith, length-rest s.line s.every s.groups.items s.count s.done)

-- where fewer are over than there are, a run is not over
pub is_some : (s : Inside) → s.done < s.count → 0 < length (rest s)
is_some s within = omega (arith, length-rest s.line s.every s.groups.items s.count s.done)

-- where all are over, none is left
pub rest-over : (s : Inside) → s.count ≤ s.done → rest s ≡ []
rest-over s over = drop_all s.done (runs s.line s.every s.count s.groups.items) (omega (arith, length-runs s.line s.every s.groups.items s.count))

-- the next run comes first
pub rest-next : (s : Inside) → s.done < s.count → rest s ≡ run_at s.line s.every s.groups.items (s.done + 1) ∷ drop 1 (rest s)
rest-next s within =
    drop-runs s.line s.every s.groups.items s.count s.done within
    ∙ ap (λ es. run_at s.line s.every s.groups.items (s.done + 1) ∷ es) (sym (drop-drop 1 s.done (runs s.line s.every s.count s.groups.items)))
