-- For `put_all`: its clause.
use Rattle.std.proofs.Common.{[], ◌++◌, ◌∙◌, ap, ap₂}
use Rattle.std.specs.Prelude.{codes}
use Rattle.std.proofs.lemmas.Result.{on_ok_weaker}
use Rattle.vg_ways.specs.Counts.{last_count, routes_text, routes6_text, ends_text, size_of, with_sets, with_sets6, all_edits}
use Rattle.vg_ways.specs.Tallies.{tally_in}
use Rattle.vg_ways.proofs.TableLemmas.{four}
use Rattle.vg_ways.proofs.tables.put_all.Goals as goal

pub returns : goal.returns
returns c =
    let names = c.args.names.now in
    let t = tally_in c.args.tally.now in
    let edits = all_edits c.args.stages.now.plan.script in
    let before = c.args.out.now.items in
    on_ok_weaker c.put_ends.result
    (λ ends.
    ends
    ∙ ap₂ (λ xs size. xs ++ ends_text names size t)
    (c.in_ok-put_routes6.ensures
    ∙ ap₂ (λ xs routes. xs ++ routes6_text names t.matched6 routes)
    (c.in_ok-put_routes.ensures
    ∙ ap₂ (λ xs routes. xs ++ routes_text names t.matched routes)
    (c.in_ok-put_last.ensures ∙ ap (λ n. before ++ last_count (codes "all packets ") n) c.began.ensures)
    (c.as_slice.ensures.value ∙ c.in_ok-known.ensures.are))
    (c.as_slice-2.ensures.value ∙ c.in_ok-known.ensures.are6))
    c.last_size.ensures
    ∙ four before (last_count (codes "all packets ") t.began) (routes_text names t.matched (with_sets [] edits)) (routes6_text names t.matched6 (with_sets6 [] edits))
    (ends_text names (size_of names) t))
    c.put_ends.ensures
