-- What a script makes: its generations, or its refusal.
use Rattle.std.specs.Prelude.{◌≡◌, ◌⊎◌, ℕ, List, Result, Ok, Err}
use Rattle.vg_model.specs.Graph.{Graph}
use Rattle.vg_script.specs.declared.errors.ScriptError.{ScriptError}
use Rattle.vg_script.specs.declared.scripts.Script.{Script}
use Rattle.vg_script.specs.Generations.{generations_of}
use Rattle.vg_script.specs.Reading.{script_of}
use Rattle.vg_plan.specs.Plan.{Planned}
use Rattle.vg_plan.specs.Refusals.{error_of, out_of_memory}

-- the graphs of a script's generations, or the line and the cause of the first of its edits that is refused
abbrev pub graphs_by : Script → Result (List Graph) ScriptError
graphs_by script = elim (generations_of script) [ Ok graphs ↦ Ok graphs | Err refusal ↦ Err (error_of refusal) ]

-- the same of a text, which is refused for its first faulty line before any edit is
abbrev pub graphs_of : List ℕ → Result (List Graph) ScriptError
graphs_of text = elim (script_of text) [ Ok script ↦ graphs_by script | Err error ↦ Err error ]

-- the text is read, and this is the plan of its script
pub record MakesPlan (text : List ℕ) (plan : Planned) : Type 0 where
  pub is_script : script_of text ≡ Ok plan.script
  pub are_graphs : generations_of plan.script ≡ Ok plan.graphs

-- this is the refusal, but for want of memory
abbrev pub IsRefusalFor : List ℕ → ScriptError → Type 0
IsRefusalFor text error = (error ≡ out_of_memory) ⊎ (graphs_of text ≡ Err error)
