-- A master: a graph and its tables of routes, seen as one whole graph.
use Rattle.vg_model.specs.Graph as model
use Rattle.vg_plan.specs.declared.masters.Master.TheInside.{Inside}
use Rattle.vg_model.specs.Graph.{with_routes}

-- the whole graph of these parts
abbrev pub whole : Inside → model.Graph
whole master = with_routes master.graph master.fib master.fib6
