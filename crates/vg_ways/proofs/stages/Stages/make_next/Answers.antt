-- For `Stages::make_next`: the invariant of what it makes, a cast.
use Rattle.std.proofs.Common.{◌≡◌, ℕ, ◌+◌, ◌-◌, ◌<◌, ◌∷◌, [], List, length, drop, get_or, sym, ap, subst, ◌∙◌, arith, length-append}
use Rattle.std.specs.Prelude.{Option, Some, None, IfSome, slice_index_or}
use Rattle.vg_story.specs.declared.stages.Stage.{Stage}
use Rattle.vg_model.specs.Graph.{Graph}
use Rattle.vg_ways.specs.Stages.{Shown}
use Rattle.vg_ways.specs.LinesView.{AreLinesOf}
use Rattle.vg_plan.specs.Run.{seen}
use Rattle.vg_ways.proofs.LineLemmas.{next_lines}
use Rattle.vg_ways.proofs.StageLemmas.{AreKept, kept_push, forgotten_push, next_left, next_stage, event_read}
use Rattle.std.proofs.lemmas.List.{length-map}
use Rattle.std.proofs.lemmas.Result.{IfOk-from_err}
use Rattle.vg_ways.proofs.stages.Stages.make_next.Goals as goal

pub overflow_cast-place : goal.overflow_cast-place
overflow_cast-place c =
    let n = length c.self.inside.made.items in
    let plan = c.self.inside.plan.now in
    let room : n < length plan.graphs = subst (λ (s : Shown). length s.kept < length s.plan.graphs) (sym c.self.view_is) c.requires in
    omega (arith, room, c.generations-generations.ensures.graphs, c.generations-generations.type_inv)

pub invariant_of-self-2 : goal.invariant_of-self-2
invariant_of-self-2 c =
    let kept = c.self.invariant in
    let made = c.self.inside.made.items in
    let plan = c.self.inside.plan.now in
    let n = length made in
    let stage = c.in_ok-stage.stage in
    let room : n < length plan.graphs = subst (λ (s : Shown). length s.kept < length s.plan.graphs) (sym c.self.view_is) c.requires in
    let old : c.in-Some.later ≡ drop (n - 1) plan.graphs =
    subst (λ (o : Option (List Graph)). IfSome o (λ later. later ≡ drop (n - 1) plan.graphs)) (sym c.take.ensures.value ∙ c.in-Some.is) kept.later in
    let more : length c.push.new.self.items ≡ n + 1 = ap length c.in_ok-push.ensures.items ∙ length-append made (Some stage ∷ []) in
    let run = c.index.result.now in
    let script = plan.script in
    let within : n - 1 < length c.self.inside.events.items = (let many = kept.graphs in let one = kept.some in omega (arith, many, one, room)) in
    let before : AreLinesOf script (n - 1) c.self.inside.lines =
    subst (λ (o : Option (List Graph)). IfSome o (λ later. AreLinesOf script (n - 1) c.self.inside.lines)) (sym c.take.ensures.value ∙ c.in-Some.is) kept.lines in
    let place : c.len-place.result ≡ n = omega arith in
    let read : run ≡ get_or c.self.inside.events.items (n - 1) run = subst (λ k. run ≡ get_or c.self.inside.events.items (k - 1) run) place c.index.ensures in
    let same : n - 1 + 1 ≡ n = (let one = kept.some in omega (arith, one)) in
    let lines : AreLinesOf script n c.put_all.new.self =
    subst (λ k. AreLinesOf script k c.put_all.new.self) same
    (next_lines (seen run)
    (let long = ap length kept.events in let many = length-map c.self.inside.events.items seen in omega (arith, within, long, many))
    (event_read script kept.events (record { within = within; read = read })) before c.in_ok-put_all.ensures) in
    let left = next_left plan.graphs n kept.some old c.in_ok-later.ensures in
    record {
      events = kept.events;
      graphs = kept.graphs;
      some = omega (arith, more);
      few = omega (arith, more, room);
      later = left ∙ ap (λ k. drop k plan.graphs) (let last : n ≡ length c.push.new.self.items - 1 = omega (arith, more) in last);
      lines = subst (λ k. AreLinesOf script k c.put_all.new.self) (let last : n ≡ length c.push.new.self.items - 1 = omega (arith, more) in last) lines;
      kept = subst (AreKept plan) (sym c.in_ok-push.ensures.items)
          (kept_push plan made stage kept.kept (next_stage plan left c.master.ensures lines c.in_ok-stage.ensures));
      kept_from = (let from = kept.kept_from in omega (arith, from, more));
      forgotten = subst (λ (ms : List (Option Stage)). (g : ℕ) → g < c.self.inside.kept_from → slice_index_or ms g None ≡ None) (sym c.in_ok-push.ensures.items)
          (forgotten_push made (Some stage) c.self.inside.kept_from kept.kept_from kept.forgotten);
    }

pub returns-in_err-push-clause-more : goal.returns-in_err-push-clause-more
returns-in_err-push-clause-more c = IfOk-from_err c.from_residual-in_err-push.result _ c.from_residual-in_err-push.ensures.0

pub returns-in_err-push-clause-last : goal.returns-in_err-push-clause-last
returns-in_err-push-clause-last c = IfOk-from_err c.from_residual-in_err-push.result _ c.from_residual-in_err-push.ensures.0
