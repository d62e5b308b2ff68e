use Rattle.vg_plan.proofs.EditLemmas.{unrouted_generation}
use Rattle.vg_plan.proofs.masters.Master.remove_route.Goals as goal

pub invariant_of-self : goal.invariant_of-self
invariant_of-self c = unrouted_generation c.self.inside.graph c.self.inside.fib _ c.self.inside.fib6 c.args.prefix c.remove.result c.self.invariant c.remove.ensures
