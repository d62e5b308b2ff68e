use Rattle.vg_plan.proofs.EditLemmas.{unrouted6_generation}
use Rattle.vg_plan.proofs.masters.Master.remove_route6.Goals as goal

pub invariant_of-self : goal.invariant_of-self
invariant_of-self c = unrouted6_generation c.self.inside.graph c.self.inside.fib c.self.inside.fib6 _ c.args.prefix c.remove.result c.self.invariant c.remove.ensures
