-- For `put_kept`: its clause.
use Rattle.std.proofs.Common.{◌++◌, sym, ap, ◌∙◌}
use Rattle.std.proofs.lemmas.Result.{on_ok_weaker}
use Rattle.vg_ways.specs.Counts.{table_at}
use Rattle.vg_ways.specs.Tallies.{tally_in}
use Rattle.vg_ways.proofs.tables.put_kept.Goals as goal

pub returns : goal.returns
returns c =
    let plan = c.args.stages.now.plan in
    on_ok_weaker c.put_stage.result (λ e.
    e ∙ ap (λ g. c.args.out.now.items ++ table_at plan c.args.names.now c.args.generation (tally_in c.args.tally.now) g) (sym c.in-Some.ensures.stage.graph)) c.put_stage.ensures
