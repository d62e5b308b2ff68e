-- Scripts that make generations.
use Rattle.std.specs.Prelude.{◌≡◌, ℕ, List, length, Ok}
use Rattle.vg_model.specs.Graph.{Graph}
use Rattle.vg_script.specs.declared.scripts.Script.{Script}
use Rattle.vg_script.specs.Generations.{generations_of}
use Rattle.vg_script.specs.Reading.{script_of}

-- the text is read as a script, all of its edits can be made, and they make so many generations
pub record MakesGenerations (text : List ℕ) (count : ℕ) : Type 0 where
  pub script : Script
  pub is_script : script_of text ≡ Ok script
  pub graphs : List Graph
  pub are_graphs : generations_of script ≡ Ok graphs
  pub are_so_many : length graphs ≡ count
