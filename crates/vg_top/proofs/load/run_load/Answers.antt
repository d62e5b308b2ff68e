-- For the clauses of `run_load`: each packet ended, and the counts are those of the run.
use Rattle.std.proofs.Common.{◌∙◌, subst}
use Rattle.vg_files.specs.Plan.{MakesPlan}
use Rattle.vg_top.proofs.CountedLoadLemmas.{all_ended, load_range}
use Rattle.vg_top.proofs.load.run_load.Goals as goal

pub run_workers-requires-clause-options : goal.run_workers-requires-clause-options
run_workers-requires-clause-options g c κs within = load_range c.args.workers c.requires.workers

pub returns-clause-ended : goal.returns-clause-ended
returns-clause-ended g c =
    c.len.ensures.count
    ∙ all_ended c.in-Ok.plan _ c.args.capture.now c.in_ok-outcome.outcome c.in_ok-outcome.ensures (load_range c.args.workers c.requires.workers) c.generations-generations.ensures.plan

pub returns-clause-run : goal.returns-clause-run
returns-clause-run g c = record {
  plan = c.in-Ok.plan;
  is_plan = subst (λ text. MakesPlan text c.in-Ok.plan) c.as_bytes.ensures.value c.in-Ok.ensures.plan;
  outcome = c.in_ok-outcome.outcome;
  is_outcome = c.in_ok-outcome.ensures;
  ended = c.len.ensures.count;
  sent = c.len-2.ensures;
  buffers = c.len-3.ensures;
}
