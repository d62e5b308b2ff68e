-- For `read_script` and `read_files`: what a text's script makes.
use Rattle.std.proofs.Common.{◌≡◌, ◌⊎◌, ℕ, List, sym, ap, subst, ◌∙◌, inl, inr}
use Rattle.std.specs.Prelude.{Result, Ok, Err, IfOk, IfErr}
use Rattle.vg_model.specs.Graph.{Graph}
use Rattle.vg_model.specs.Edit.{Cause}
use Rattle.vg_model.specs.Generations.{Graphs}
use Rattle.vg_script.specs.declared.errors.ScriptCause.{ScriptCause}
use Rattle.vg_script.specs.declared.errors.ScriptCause.TheVariants as causes
use Rattle.vg_script.specs.declared.errors.ScriptError.{ScriptError}
use Rattle.vg_script.specs.declared.scripts.Script.{Script}
use Rattle.vg_script.specs.Generations.{generations_of}
use Rattle.vg_script.specs.Reading.{script_of, refused, IsRefusal}
use Rattle.vg_plan.specs.Plan.{Planned}
use Rattle.vg_plan.specs.Refusals.{IsRefusalOf, error_of, out_of_memory}
use Rattle.vg_files.specs.Plan.{graphs_by, graphs_of, MakesPlan, IsRefusalFor}

-- a text that is read makes the graphs of its script
pub graphs_by_script : (text : List ℕ) (script : Script) → script_of text ≡ Ok script → graphs_of text ≡ graphs_by script
graphs_by_script text script e = ap (λ (r : Result Script ScriptError). elim r as (λ _. Result (List Graph) ScriptError) [ Ok script ↦ graphs_by script | Err error ↦ Err error ]) e

-- the graphs of a script's generations
pub graphs_made : (script : Script) (graphs : List Graph) → generations_of script ≡ Ok graphs → graphs_by script ≡ Ok graphs
graphs_made script graphs e = ap (λ (r : Graphs). elim r as (λ _. Result (List Graph) ScriptError) [ Ok graphs ↦ Ok graphs | Err refusal ↦ Err (error_of refusal) ]) e

-- a script's first refused edit
graphs_refused : (script : Script) (refusal : ℕ × Cause) → generations_of script ≡ Err refusal → graphs_by script ≡ Err (error_of refusal)
graphs_refused script refusal e = ap (λ (r : Graphs). elim r as (λ _. Result (List Graph) ScriptError) [ Ok graphs ↦ Ok graphs | Err refusal ↦ Err (error_of refusal) ]) e

-- a text that is refused makes no graph
pub text_refused : (text : List ℕ) (error : ScriptError) → IsRefusal (script_of text) error.line error.cause → IsRefusalFor text error
text_refused text error h = elim (by_cause (script_of text) error.line error.cause h) [
  | inl e ↦ inl e
  | inr e ↦ inr (ap (λ (r : Result Script ScriptError). elim r as (λ _. Result (List Graph) ScriptError) [ Ok script ↦ graphs_by script | Err error ↦ Err error ]) e)
]
  where
    by_cause : (this : Result Script ScriptError) (line : ℕ) (cause : ScriptCause) → IsRefusal this line cause
        → (◌≡◌ {A = ScriptError} (record { line = line; cause = cause }) out_of_memory) ⊎ (this ≡ refused line cause)
    by_cause this line causes.Memory h = inl (ap (λ n. record { line = n; cause = causes.Memory }) h)
    by_cause this line cause h = inr h

-- the plan of a script that was read is that of the text, and so is its refusal
pub made_plan : (text : List ℕ) (script : Script) (r : Result Planned ScriptError) → script_of text ≡ Ok script
    → IfOk r (λ plan. plan.script ≡ script) → IfOk r (λ plan. generations_of script ≡ Ok plan.graphs) → IfOk r (MakesPlan text)
made_plan text script (Ok plan) is same made = record {
  is_script = is ∙ ap Ok (sym same);
  are_graphs = subst (λ s. generations_of s ≡ Ok plan.graphs) (sym same) made;
}
made_plan text script (Err error) is same made = tt

pub refused_plan : (text : List ℕ) (script : Script) (r : Result Planned ScriptError) → script_of text ≡ Ok script
    → IfErr r (IsRefusalOf (generations_of script)) → IfErr r (IsRefusalFor text)
refused_plan text script (Ok plan) is h = tt
refused_plan text script (Err error) is (inl memory) = inl memory
refused_plan text script (Err error) is (inr (refusal, made, e)) = inr (graphs_by_script text script is ∙ (graphs_refused script refusal made ∙ ap Err (sym e)))
