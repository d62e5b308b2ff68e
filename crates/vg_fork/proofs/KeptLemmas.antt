-- For the clauses `kept` of `Fork::{nodes, interfaces, adjacencies, kind, interface, adjacency}`: what holds of every fork.
use Rattle.std.proofs.Common.{◌≡◌, ◌∙◌, [], ap, subst}
use Rattle.vg_model.specs.Graph.{with_routes}
use Rattle.vg_graph.specs.View.{IsKept}
use Rattle.vg_fork.specs.Forked.{Forked, without_routes, IsForked}
use Rattle.vg_fork.specs.View.{view_of, IsFork}
use Rattle.vg_fork.specs.declared.forks.Fork.TheInside.{Inside}

-- but for its routes a fork's graph is kept
pub forked_of : (f : Inside) (seen : Forked) → view_of f ≡ seen → IsFork f → IsForked seen
forked_of f seen e is =
    let none : f.graph ≡ without_routes f.graph =
    ap (λ routes. with_routes f.graph routes f.graph.routes6) is.no_routes ∙ ap (with_routes f.graph []) is.no_routes6 in
    subst IsForked e (subst IsKept none is)
