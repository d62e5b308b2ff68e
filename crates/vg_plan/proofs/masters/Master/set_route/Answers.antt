use Rattle.std.proofs.Common.{length, sym, subst}
use Rattle.vg_model.specs.Graph.{Graph}
use Rattle.vg_model.specs.Valid.{IsRouteWithin}
use Rattle.vg_plan.proofs.EditLemmas.{set_generation}
use Rattle.vg_plan.proofs.masters.Master.set_route.Goals as goal

pub invariant_of-self : goal.invariant_of-self
invariant_of-self c =
    let within : IsRouteWithin (length c.self.inside.graph.adjacencies) c.in_ok-target.target =
    subst (λ (g : Graph). IsRouteWithin (length g.adjacencies) c.in_ok-target.target) (sym c.self.view_is) c.in_ok-target.ensures.within in
    set_generation c.self.inside.graph c.self.inside.fib _ c.self.inside.fib6 c.args.prefix c.in_ok-target.target c.set.result c.self.invariant within c.set.ensures.set c.set.ensures.refused
