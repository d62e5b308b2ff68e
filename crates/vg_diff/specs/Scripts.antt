-- What a script makes, or why it is refused.
use Rattle.std.specs.Prelude.{◌≡◌, ◌≢◌, ◌⊎◌, ℕ, ◌+◌, List, Option, Ok, Err}
use Rattle.vg_model.specs.Edit.{Cause}
use Rattle.vg_outside.specs.Files.{Files, FirstBytes}
use Rattle.vg_plan.specs.Plan.{Planned}
use Rattle.vg_plan.specs.Refusals.{error_of}
use Rattle.vg_script.specs.declared.errors.ScriptCause.TheVariants as script_causes
use Rattle.vg_script.specs.declared.errors.ScriptError.{ScriptError}
use Rattle.vg_script.specs.declared.scripts.Script.{Script}
use Rattle.vg_script.specs.Generations.{generations_of}
use Rattle.vg_script.specs.Reading.{script_of, largest_script}

-- the text of a script is read, and this is its plan
pub record MakesPlan (text : List ℕ) (plan : Planned) : Type 0 where
  pub is_script : script_of text ≡ Ok plan.script
  pub are_graphs : generations_of plan.script ≡ Ok plan.graphs

-- the script of this name makes this plan
pub record MakesPlanAt (files : Option Files) (name : List ℕ) (plan : Planned) : Type 0 where
  pub bytes : List ℕ
  pub loaded : FirstBytes files name (largest_script + 1) bytes
  pub makes : MakesPlan bytes plan

-- the text of a script is refused, or it is read and this is the first of its edits that is refused
abbrev pub IsScriptRefusal : List ℕ → ScriptError → Type 0
IsScriptRefusal text error =
    (script_of text ≡ Err error)
    ⊎ ((script : Script) × (script_of text ≡ Ok script) × ((refusal : ℕ × Cause) × (generations_of script ≡ Err refusal) × (error ≡ error_of refusal)))

-- the script of this name is refused
pub record IsScriptFault (files : Option Files) (name : List ℕ) (error : ScriptError) : Type 0 where
  pub bytes : List ℕ
  pub loaded : FirstBytes files name (largest_script + 1) bytes
  pub refused : IsScriptRefusal bytes error
  pub no_memory : error.cause ≢ script_causes.Memory
