-- Graphs that have all that others have.
use Rattle.std.specs.Prelude.{◌≤◌, length}
use Rattle.vg_model.specs.Graph.{Graph}

-- the other graph has all the nodes and interfaces of the one
pub record Grows (one other : Graph) : Type 0 where
  pub nodes : length one.nodes ≤ length other.nodes
  pub interfaces : length one.interfaces ≤ length other.interfaces
