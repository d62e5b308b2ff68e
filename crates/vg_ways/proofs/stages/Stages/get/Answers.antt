-- For `Stages::get`: its clauses `kept` and `stage`.
use Rattle.std.proofs.Common.{◌≡◌, ◌<◌, ◌≤◌, length, refl, sym, ap, subst, ◌∙◌, arith}
use Rattle.std.specs.Prelude.{None, Some, IfSome, is_some, slice_index_or}
use Rattle.std.proofs.lemmas.List.{get_or_past}
use Rattle.std.proofs.lemmas.Option.{slice_get_read}
use Rattle.vg_ways.specs.Stages.{Shown, kept_at, IsKeptOf, IsStageOf}
use Rattle.vg_ways.proofs.StageLemmas.{kept_of, kept_read, kept_behind}
use Rattle.vg_ways.proofs.stages.Stages.get.Goals as goal

pub returns-then-place-len-clause-kept : goal.returns-then-place-len-clause-kept
returns-then-place-len-clause-kept c =
    let made = c.self.inside.made.items in
    let g = c.args.generation in
    let within : g < length made = omega arith in
    let at : slice_index_or made g None ≡ c.index.result.now = kept_read made g (Some c.index.result.now) (slice_get_read made (length made) g c.index.result.now refl within c.index.ensures) in
    c.as_ref.ensures.variant ∙ ap is_some (sym at) ∙ ap (λ (s : Shown). is_some (kept_at s g)) c.self.view_is

pub returns-then-place-len-clause-stage : goal.returns-then-place-len-clause-stage
returns-then-place-len-clause-stage c =
    let made = c.self.inside.made.items in
    let plan = c.self.inside.plan.now in
    let g = c.args.generation in
    let within : g < length made = omega arith in
    let at : slice_index_or made g None ≡ c.index.result.now = kept_read made g (Some c.index.result.now) (slice_get_read made (length made) g c.index.result.now refl within c.index.ensures) in
    let kept : IsKeptOf plan g c.index.result.now = subst (IsKeptOf plan g) at (kept_of plan made g c.self.invariant.kept) in
    subst (λ (s : Shown). IfSome c.as_ref.result (λ stage. IsStageOf s.plan g stage.now)) c.self.view_is (kept_behind plan g c.as_ref.result c.index.result.now c.as_ref.ensures.value kept)

pub returns-else-place-len-clause-kept : goal.returns-else-place-len-clause-kept
returns-else-place-len-clause-kept c =
    let made = c.self.inside.made.items in
    let g = c.args.generation in
    let past : length made ≤ g = omega arith in
    sym (ap is_some (get_or_past made g None past)) ∙ ap (λ (s : Shown). is_some (kept_at s g)) c.self.view_is
