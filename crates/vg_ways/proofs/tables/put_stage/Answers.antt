-- For `put_stage`: its clause.
use Rattle.std.proofs.Common.{◌++◌, ◌∙◌, ap, ap₂}
use Rattle.std.proofs.lemmas.Result.{on_ok_weaker}
use Rattle.vg_ways.specs.Counts.{head_text, routes_text, routes6_text, ends_text, size_of}
use Rattle.vg_ways.specs.Lines.{lined, route_line, route6_line}
use Rattle.vg_ways.specs.Tallies.{tally_in}
use Rattle.vg_ways.proofs.TableLemmas.{four}
use Rattle.vg_ways.proofs.tables.put_stage.Goals as goal

pub returns : goal.returns
returns c =
    let script = c.args.stages.now.plan.script in
    let names = c.args.names.now in
    let t = tally_in c.args.tally.now in
    let g = c.args.stage.now.fork.graph in
    let before = c.args.out.now.items in
    on_ok_weaker c.put_ends.result
    (λ ends.
    ends
    ∙ ap₂ (λ xs size. xs ++ ends_text names size t)
    (c.in_ok-put_routes6.ensures
    ∙ ap₂ (λ xs routes. xs ++ routes6_text names t.matched6 routes)
    (c.in_ok-put_routes.ensures
    ∙ ap₂ (λ xs routes. xs ++ routes_text names t.matched routes)
    (c.in_ok-put_head.ensures ∙ ap (λ n. before ++ head_text script c.args.generation n) c.began.ensures)
    (c.as_slice.ensures ∙ c.requires.routes))
    (c.as_slice-2.ensures ∙ c.requires.routes6))
    c.size_of.ensures
    ∙ four before (head_text script c.args.generation t.began) (routes_text names t.matched (lined (route_line script c.args.generation) g.routes))
    (routes6_text names t.matched6 (lined (route6_line script c.args.generation) g.routes6)) (ends_text names (size_of g) t))
    c.put_ends.ensures
