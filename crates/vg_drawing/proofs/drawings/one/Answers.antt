-- For the clause of `one`: the generation is reached, and drawn.
use Rattle.std.proofs.Common.{◌≡◌, ◌-◌, ◌++◌, drop, ap, ◌∙◌, arith}
use Rattle.vg_drawing.specs.Drawn.{first_tables, first_drawing}
use Rattle.vg_drawing.proofs.GenerationLemmas.{IsReached, drawn_at}
use Rattle.vg_drawing.proofs.drawings.one.Goals as goal

pub returns : goal.returns
returns c =
    let same : c.saturating_sub.result ≡ c.args.number - 1 = omega (arith, c.saturating_sub.ensures) in
    let reached : IsReached c.args.plan.now c.args.number c.begin_of-from.result c.in_ok-earlier.earlier c.in_ok-generations.generations = record {
      begin = cc (c.begin_of-from.ensures, c.as_slice.ensures.value, c.in_ok-runs.ensures, c.script.ensures.script);
      before = c.in_ok-earlier.ensures ∙ ap (λ n. drop n c.args.plan.now.graphs) same;
      here = c.in_ok-generations.ensures;
    } in
    c.in_ok-put_first.ensures
    ∙ ap (λ xs. xs ++ first_drawing c.args.report.now c.args.number c.begin_of-from.result (first_tables c.in_ok-earlier.earlier) c.in_ok-generations.generations) c.new-out.ensures.items
    ∙ drawn_at c.args.report.now c.args.plan.now c.args.number c.begin_of-from.result c.in_ok-earlier.earlier c.in_ok-generations.generations reached
