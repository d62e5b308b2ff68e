use Rattle.std.proofs.Common.{length, ap, ◌∙◌, arith}
use Rattle.std.specs.Prelude.{zip}
use Rattle.vg_plan.proofs.BookLemmas.{windows_are, length-limits_of}
use Rattle.vg_plan.proofs.plans.Plan.book.Goals as goal

pub of-requires-clause-each : goal.of-requires-clause-each
of-requires-clause-each c = omega (arith, ap length c.in_ok-limits.ensures.limits, length-limits_of c.args.self.now c.args.capture.now, c.in_ok-limits.limits.ok)

pub returns : goal.returns
returns c = c.of.ensures ∙ (ap (zip c.args.self.now.graphs) c.in_ok-limits.ensures.limits ∙ windows_are c.args.self.now c.args.capture.now)
