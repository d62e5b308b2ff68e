use Rattle.std.proofs.Common.{subst, ◌∙◌}
use Rattle.vg_files.specs.Plan.{MakesPlan}
use Rattle.vg_files.proofs.ScriptLemmas.{graphs_by_script, graphs_made}
use Rattle.vg_files.proofs.reading.read_files.Goals as goal

pub returns-in-Err-read_turns-clause-stop : goal.returns-in-Err-read_turns-clause-stop
returns-in-Err-read_turns-clause-stop c =
    let plan = c.in-Ok-read_script.plan in
    let makes : MakesPlan c.args.files.script plan = subst (λ text. MakesPlan text plan) c.as_slice.ensures c.in-Ok-read_script.ensures.plan in (
      (c.in-Ok.capture, c.in-Ok.ensures),
      (plan.graphs, graphs_by_script c.args.files.script plan.script makes.is_script ∙ graphs_made plan.script plan.graphs makes.are_graphs),
      c.in-Err-read_turns.ensures.fault,
    )
