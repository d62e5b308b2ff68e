-- For `Stages::forget`: the invariant of what it makes, its clauses `none` and `others`.
use Rattle.std.proofs.Common.{◌≡◌, ◌∙◌, ◌-◌, length, max, min, drop, sym, ap, subst, arith}
use Rattle.std.specs.Prelude.{IfSome}
use Rattle.vg_ways.specs.LinesView.{AreLinesOf}
use Rattle.vg_ways.specs.Stages.{Shown, kept_at}
use Rattle.vg_ways.proofs.StageLemmas.{kept_forgotten, place_few, none_below, none_before, others_stay}
use Rattle.vg_ways.proofs.stages.Stages.forget.Goals as goal

-- the place up to which they are forgotten
place_is : (c : goal.After-self-1) → c.max-before.result ≡ max (min (length c.self.inside.made.items) c.args.before) c.self.inside.kept_from
place_is c =
    let all : c.len.result ≡ length c.self.inside.made.items = omega arith in
    c.max-before.ensures ∙ ap (λ m. max m c.self.inside.kept_from) (c.min.ensures ∙ ap (λ n. min n c.args.before) all)

pub invariant_of-self : goal.invariant_of-self
invariant_of-self c =
    let plan = c.self.inside.plan.now in
    let kept = c.self.invariant in
    let are = c.forget_between.ensures in
    let long = are.len in
    record {
      events = kept.events;
      graphs = kept.graphs;
      some = (let some = kept.some in omega (arith, long, some));
      few = (let few = kept.few in omega (arith, long, few));
      later = subst (λ n. IfSome c.self.inside.later (λ later. later ≡ drop (n - 1) plan.graphs)) (sym long) kept.later;
      lines = subst (λ n. IfSome c.self.inside.later (λ later. AreLinesOf plan.script (n - 1) c.self.inside.lines)) (sym long) kept.lines;
      kept = kept_forgotten plan are kept.kept;
      kept_from = (let few = place_few c.args.before (place_is c) kept.kept_from in omega (arith, long, few));
      forgotten = none_below are kept.forgotten;
    }

pub returns-clause-none : goal.returns-clause-none
returns-clause-none c = none_before c.args.before c.forget_between.ensures c.self.invariant.forgotten (place_is c)

pub returns-clause-others : goal.returns-clause-others
returns-clause-others c g h = others_stay c.args.before c.forget_between.ensures (place_is c) g h ∙ ap (λ (s : Shown). kept_at s g) c.self.view_is
