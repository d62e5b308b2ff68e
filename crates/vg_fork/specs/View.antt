-- How a fork keeps its graph and its routes.
use Rattle.std.specs.Arc.{arc_value}
use Rattle.vg_graph.specs.View.{IsKept}
use Rattle.vg_fork.specs.Forked.{Forked, forked}
use Rattle.vg_fork.specs.declared.forks.Fork.TheInside.{Inside}

-- the graph with the routes of the trie and of the spans, under the generation
abbrev pub view_of : Inside → Forked
view_of f = forked f.graph (arc_value f.trie) (arc_value f.spans) f.generation

-- the graph is valid without routes
abbrev pub IsFork : Inside → Type 0
IsFork f = IsKept f.graph
